use Rattle.krb_msg.specs.Grammar.{messages}
use Rattle.krb_scan.specs.Machine.{ledger_of, profile_of}
use Rattle.std.specs.Prelude.{vec_capacity, Some}
use Rattle.std.proofs.Common.{ℕ, ◌≡◌, ◌-◌, length, sym, ◌∙◌, ap, subst, arith}
use Rattle.krb_der.specs.Octets.{number}
use Rattle.krb_frame.specs.Decoding.{decoding_of}
use Rattle.krb_frame.specs.GoingOn.{rest_to_come}
use Rattle.krb_frame.specs.declared.decoder.Phase.TheVariants as phase
use Rattle.krb_frame.specs.inner.Phases.{IsPhaseOf, HasRefused}
use Rattle.krb_frame.proofs.DecoderFrames.{from_be_bytes-number}
use Rattle.krb_frame.proofs.GoingOn.{rest-none, rest-refused, rest-known}
use Rattle.krb_frame.proofs.decoder.Decoder.rest_to_come.Goals as goal

pub returns-in_default : goal.returns-in_default
returns-in_default c =
    let d = c.self.inside in
    let q = profile_of d.machine in
    rw (← c.self.view_is) (sym (rest-none (messages q) q d.limit (ledger_of d.machine) (vec_capacity d.contents) d.length d.contents.items d.phase c.self.invariant.0 c.in_default.not-Refused))

pub returns : goal.returns
returns c =
    let d = c.self.inside in
    let q = profile_of d.machine in
    let capacity : ℕ = vec_capacity d.contents in
    let h : HasRefused (messages q) d.limit d.length d.contents.items c.in-Refused.field-0 = subst (IsPhaseOf (messages q) d.limit d.length d.contents.items) c.in-Refused.is c.self.invariant.0 in
    let n : c.from_be_bytes-size.result ≡ number d.length = c.from_be_bytes-size.ensures ∙ from_be_bytes-number d.length h.four in
    let m : c.len-used.result ≡ length d.contents.items = omega arith in
    let old : decoding_of q d.limit (ledger_of d.machine) capacity d.length d.contents.items (phase.Refused c.in-Refused.field-0) ≡ c.args.self.now = ap (λ p. decoding_of q d.limit (ledger_of d.machine) capacity d.length d.contents.items p) (sym c.in-Refused.is) ∙ c.self.view_is in
    rw (n, m) (subst (λ o. Some (number d.length - length d.contents.items) ≡ rest_to_come (messages o.profile) o) old
    (sym (rest-refused (messages q) q d.limit (ledger_of d.machine) capacity d.length d.contents.items c.in-Refused.field-0 h
    ∙ rest-known (number d.length) (length d.contents.items) (omega (arith, n)))))
