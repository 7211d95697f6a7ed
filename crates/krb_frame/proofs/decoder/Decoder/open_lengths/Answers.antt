use Rattle.krb_msg.specs.Grammar.{messages}
use Rattle.std.specs.Prelude.{vec_capacity}
use Rattle.std.proofs.Common.{◌≡◌, ◌<◌, length, sym, ◌∙◌, ap, arith}
use Rattle.std.proofs.lemmas.Bool.{eqb-true, eqb-false}
use Rattle.krb_scan.specs.Machine.{ledger_of, profile_of}
use Rattle.krb_frame.specs.Decoding.{open_lengths_of}
use Rattle.krb_frame.proofs.DecoderFrames.{open-none, open-some}
use Rattle.krb_frame.proofs.decoder.Decoder.open_lengths.Goals as goal

pub returns-then-is_empty-clause-count : goal.returns-then-is_empty-clause-count
returns-then-is_empty-clause-count c =
    let d = c.self.inside in
    let none : length d.contents.items ≡ 0 = omega (arith, eqb-true _ _ (sym c.is_empty.ensures ∙ c.if-is_empty.true)) in
    sym (open-none (messages (profile_of d.machine)) (profile_of d.machine) d.limit (ledger_of d.machine) (vec_capacity d.contents) d.length d.contents.items d.phase c.self.invariant.0 none) ∙ ap open_lengths_of c.self.view_is

pub returns-else-is_empty-clause-count : goal.returns-else-is_empty-clause-count
returns-else-is_empty-clause-count c =
    let d = c.self.inside in
    let some : 0 < length d.contents.items = omega (arith, eqb-false _ _ (sym c.is_empty.ensures ∙ c.if-is_empty.false)) in
    open-some (messages (profile_of d.machine)) (profile_of d.machine) d.limit (ledger_of d.machine) c.open_lengths.result (vec_capacity d.contents) d.length d.contents.items d.phase d.machine c.self.invariant.0 c.self.invariant.1 some (c.open_lengths.ensures.count (profile_of d.machine)) ∙ ap open_lengths_of c.self.view_is
