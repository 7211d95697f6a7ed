use Rattle.krb_msg.specs.Grammar.{messages}
use Rattle.krb_scan.specs.Machine.{ledger_of, profile_of}
use Rattle.std.proofs.Common.{◌≡◌, sym, subst, length, ◌∙◌, ap, arith}
use Rattle.std.specs.Prelude.{Some, vec_capacity}
use Rattle.krb_der.specs.declared.profile.Profile.TheVariants.{Lenient}
use Rattle.krb_der.specs.declared.verdict.Verdict.TheVariants.{Whole}
use Rattle.krb_msg.specs.Judgement.{judgement}
use Rattle.krb_msg.proofs.Judged.{lenient_whole}
use Rattle.krb_scan.specs.Machine.{HasScanned}
use Rattle.krb_frame.specs.inner.Phases.{IsPhaseOf, IsScanned, HasFrame}
use Rattle.krb_frame.proofs.DecoderFrames.{borrowed-none, borrowed-ready}
use Rattle.krb_frame.proofs.decoder.Decoder.ready.Goals as goal

pub returns-in-Ready-clause-frame : goal.returns-in-Ready-clause-frame
returns-in-Ready-clause-frame c =
    let d = c.self.inside in
    rw (← c.self.view_is) (ap Some (c.new.ensures ∙ c.as_slice.ensures.value) ∙ sym (borrowed-ready (messages (profile_of d.machine)) (profile_of d.machine) d.limit (ledger_of d.machine) (vec_capacity d.contents) d.length d.contents.items d.phase c.self.invariant.0 c.in-Ready.is))

pub returns-in-Ready-clause-whole : goal.returns-in-Ready-clause-whole
returns-in-Ready-clause-whole c =
    let d = c.self.inside in
    let frame : HasFrame (messages (profile_of d.machine)) d.limit d.length d.contents.items = subst (IsPhaseOf (messages (profile_of d.machine)) d.limit d.length d.contents.items) c.in-Ready.is c.self.invariant.0 in
    rw (← c.self.view_is) (subst (λ octets. judgement (profile_of d.machine) (length octets) octets ≡ Whole) (sym (c.new.ensures ∙ c.as_slice.ensures.value)) frame.whole)

pub returns-in_default-clause-frame : goal.returns-in_default-clause-frame
returns-in_default-clause-frame c =
    let d = c.self.inside in
    rw (← c.self.view_is) (sym (borrowed-none (messages (profile_of d.machine)) (profile_of d.machine) d.limit (ledger_of d.machine) (vec_capacity d.contents) d.length d.contents.items d.phase c.self.invariant.0 c.in_default.not-Ready))

pub new-requires-clause-whole : goal.new-requires-clause-whole
new-requires-clause-whole c =
    let d = c.self.inside in
    let at : HasScanned (profile_of d.machine) d.machine (length d.contents.items) d.contents.items = subst (IsScanned (profile_of d.machine) d.machine d.length d.contents.items) c.in-Ready.is c.self.invariant.1 in
    let frame : HasFrame (messages (profile_of d.machine)) d.limit d.length d.contents.items = subst (IsPhaseOf (messages (profile_of d.machine)) d.limit d.length d.contents.items) c.in-Ready.is c.self.invariant.0 in
    subst (λ octets. judgement Lenient (length octets) octets ≡ Whole) (sym c.as_slice.ensures.value)
    (lenient_whole (profile_of d.machine) _ d.contents.items frame.accepted.short at.are_octets (omega arith) frame.whole)
