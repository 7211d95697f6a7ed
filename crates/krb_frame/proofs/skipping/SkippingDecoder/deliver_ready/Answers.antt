use Rattle.std.proofs.Common.{ℕ, ◌≡◌, List, [], ◌∷◌, None, length, sym, ◌∙◌, ap, subst}
use Rattle.krb_der.specs.declared.profile.Profile.{Profile}
use Rattle.krb_der.specs.declared.verdict.Verdict.TheVariants.{Whole}
use Rattle.krb_msg.specs.Judgement.{judgement}
use Rattle.krb_msg.specs.Stream.{End, Boundary, Within, Refused}
use Rattle.krb_frame.specs.Decoding.{Decoding, first_of, status_at}
use Rattle.krb_frame.specs.Deliveries.{IsReceived}
use Rattle.krb_frame.specs.GoingOn.{Contents}
use Rattle.krb_frame.specs.declared.decoder.Status.TheVariants as status
use Rattle.krb_frame.proofs.Deliveries.{delivers-ready, frame-here}
use Rattle.krb_frame.proofs.skipping.SkippingDecoder.deliver_ready.Goals as goal

-- a frame that is ready is there
ready-there : (contents : List (List ℕ)) (end : End) → status_at contents end ≡ status.Ready → first_of contents ≡ None → ⊥
ready-there [] Boundary ready none = cc
ready-there [] (Within present) ready none = cc
ready-there [] (Refused place reason) ready none = cc
ready-there (first ∷ others) end ready none = cc

pub unreachable-requires : goal.unreachable-requires
unreachable-requires g c = ready-there _ _ c.requires (sym c.ready.ensures.frame ∙ c.in_default.is)

pub unreachable-requires-then-not-branch : goal.unreachable-requires-then-not-branch
unreachable-requires-then-not-branch g c =
    let refused = subst (IsReceived g.R.Receiver.Receives c.profile-profile.result c.octets.result.now c.args.receiver.now c.receive_contents.new.self) c.if-not-branch.true c.in_ok-receive_contents.ensures in
    refused.0 (subst (λ (contents : List ℕ). judgement c.profile-profile.result (length contents) contents ≡ Whole) (sym c.octets.ensures)
    (subst (λ (profile : Profile). judgement profile (length c.in-Some.framed) c.in-Some.framed ≡ Whole) (sym (c.profile-profile.ensures ∙ ap (λ (d : Decoding). d.profile) c.decoder.ensures)) c.in-Some.ensures.whole))

pub returns : goal.returns
returns g c = λ keeps_going.
    let r = g.R.Receiver.Receives in
    let received = subst (IsReceived r c.profile-profile.result c.octets.result.now c.args.receiver.now c.receive_contents.new.self) c.if-not-branch.false c.in_ok-receive_contents.ensures in
    frame-here r keeps_going c.args.self.now c.next.new.self c.args.rest.now c.args.receiver.now c.receive_contents.new.self
    (delivers-ready r keeps_going c.args.self.now c.next.new.self c.next.result c.in-Some.framed c.args.receiver.now c.receive_contents.new.self c.requires (sym c.ready.ensures.frame ∙ c.in-Some.is) c.next.ensures
    (subst (λ l. r c.args.receiver.now (Contents l) c.receive_contents.new.self) c.octets.ensures received.1))
