use Rattle.std.proofs.Common.{true, ◌∙◌, ap, subst}
use Rattle.krb_frame.specs.Decoding.{Decoding}
use Rattle.krb_frame.specs.Deliveries.{IsReceived}
use Rattle.krb_frame.proofs.Deliveries.{delivers-whole}
use Rattle.krb_frame.proofs.skipping.SkippingDecoder.deliver_next.Goals as goal

pub returns : goal.returns
returns g c =
    let r = g.R.Receiver.Receives in
    let contents = c.in-Some.frame.contents.now in
    delivers-whole r c.args.keeps_going c.args.self.now c.args.piece.now contents c.in-Some.frame.rest.now c.args.receiver.now c.receive_contents.new.self c.in-Some.ensures.0 c.in-Some.ensures.1
    (subst (λ p. IsReceived r p contents c.args.receiver.now c.receive_contents.new.self true) (c.profile-profile.ensures ∙ ap (λ (d : Decoding). d.profile) c.decoder.ensures)
    (subst (IsReceived r c.profile-profile.result contents c.args.receiver.now c.receive_contents.new.self) c.if-not-branch.false c.in_ok-receive_contents.ensures))
