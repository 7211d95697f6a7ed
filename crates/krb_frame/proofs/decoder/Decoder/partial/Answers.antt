use Rattle.std.specs.Prelude.{vec_capacity}
use Rattle.std.proofs.Common.{ℕ, ◌≡◌, ◌<◌, ◌∙◌, length, sym, arith}
use Rattle.std.proofs.lemmas.Bool.{eqb-true, eqb-false}
use Rattle.std.proofs.lemmas.List.{nil_from_length}
use Rattle.krb_msg.specs.Grammar.{messages}
use Rattle.krb_scan.specs.Machine.{ledger_of, profile_of}
use Rattle.krb_frame.proofs.DecoderFrames.{contents-at, from_be_bytes-number}
use Rattle.krb_frame.proofs.Partials.{is-partial}
use Rattle.krb_frame.proofs.decoder.Decoder.partial.Goals as goal

pub returns-then-is_empty : goal.returns-then-is_empty
returns-then-is_empty c =
    let d = c.self.inside in
    let none : length d.contents.items ≡ 0 = omega (arith, eqb-true _ _ (sym c.is_empty.ensures ∙ c.if-is_empty.true)) in
    rw (← c.self.view_is) (contents-at (messages (profile_of d.machine)) (profile_of d.machine) d.limit d.length d.contents.items d.phase c.self.invariant.0 ∙ nil_from_length d.contents.items none)

pub returns : goal.returns
returns c =
    let d = c.self.inside in
    let q = profile_of d.machine in
    let capacity : ℕ = vec_capacity d.contents in
    let some : 0 < length d.contents.items = omega (arith, eqb-false _ _ (sym c.is_empty.ensures ∙ c.if-is_empty.false)) in
    rw (← c.self.view_is, c.as_slice.ensures.value) (is-partial (messages q) q d.limit (ledger_of d.machine) capacity d.length d.contents.items some d.phase c.self.invariant.0 c.from_be_bytes.result (λ four. c.from_be_bytes.ensures ∙ from_be_bytes-number d.length four))
