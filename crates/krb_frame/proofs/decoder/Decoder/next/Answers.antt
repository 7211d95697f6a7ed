use Rattle.krb_msg.specs.Grammar.{messages}
use Rattle.krb_scan.specs.Machine.{ledger_of, profile_of}
use Rattle.std.specs.Prelude.{vec_capacity}
use Rattle.std.proofs.Common.{◌≡◌, [], true, sym, ◌∙◌, ap, subst}
use Rattle.krb_frame.specs.Decoding.{IsAmple, decoding_of}
use Rattle.krb_frame.specs.Feeds.{Clears}
use Rattle.krb_frame.specs.inner.Phases.{IsPhaseOf}
use Rattle.krb_frame.specs.declared.decoder.Phase.TheVariants as phase
use Rattle.krb_frame.proofs.DecoderFrames.{borrowed-none}
use Rattle.krb_frame.proofs.Feeding.{Clears-none, Clears-frame}
use Rattle.krb_frame.proofs.decoder.Decoder.next.Goals as goal

pub returns-in_default : goal.returns-in_default
returns-in_default c =
    let d = c.self.inside in
    rw (← c.self.view_is) (Clears-none (messages (profile_of d.machine)) (profile_of d.machine) (decoding_of (profile_of d.machine) d.limit (ledger_of d.machine) (vec_capacity d.contents) d.length d.contents.items d.phase) (borrowed-none (messages (profile_of d.machine)) (profile_of d.machine) d.limit (ledger_of d.machine) (vec_capacity d.contents) d.length d.contents.items d.phase c.self.invariant.0 c.in_default.not-Ready))

pub returns : goal.returns
returns c =
    let d = c.self.inside in
    let capacity = vec_capacity d.contents in
    let h = subst (IsPhaseOf (messages (profile_of d.machine)) d.limit d.length d.contents.items) c.in-Ready.is c.self.invariant.0 in
    let old : decoding_of (profile_of d.machine) d.limit (ledger_of d.machine) capacity d.length d.contents.items phase.Ready ≡ c.args.self.now = ap (λ p. decoding_of (profile_of d.machine) d.limit (ledger_of d.machine) capacity d.length d.contents.items p) (sym c.in-Ready.is) ∙ c.self.view_is in
    subst (λ o. Clears (messages o.profile) o c.forget.new.self true) old
    (Clears-frame (messages (profile_of d.machine)) (profile_of d.machine) d.limit (ledger_of d.machine) capacity d.length d.contents.items c.forget.new.self h
    (subst (λ o. c.forget.new.self ≡ record { profile = o.profile; limit = o.limit; octets = []; looks = o.looks; capacity = c.forget.new.self.capacity }) (sym old) c.forget.ensures.left)
    (subst (λ o. IsAmple o → IsAmple c.forget.new.self) (sym old) c.forget.ensures.ample))
