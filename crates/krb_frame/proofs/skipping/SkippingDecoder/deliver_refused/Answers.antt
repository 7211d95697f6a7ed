use Rattle.std.proofs.Common.{◌≡◌, ◌+◌, true, sym, ◌∙◌, ap, subst}
use Rattle.std.specs.Prelude.{is_some}
use Rattle.std.specs.Option.{unwrap_or}
use Rattle.krb_msg.specs.Grammar.{messages}
use Rattle.krb_frame.specs.Decoding.{Decoding, status_of}
use Rattle.krb_frame.specs.GoingOn.{Fault, Skips, rest_to_come}
use Rattle.krb_frame.specs.declared.decoder.Status.TheVariants as status
use Rattle.krb_frame.proofs.Announced.{announced-size, refused-four}
use Rattle.krb_frame.proofs.Deliveries.{delivers-refused, frame-here, stopped-here}
use Rattle.krb_frame.proofs.skipping.SkippingDecoder.deliver_refused.Goals as goal

pub returns-in-None : goal.returns-in-None
returns-in-None g c =
    stopped-here g.R.Receiver.Receives c.args.self.now c.args.rest.now c.args.refusal c.args.receiver.now c.requires
    (ap (λ (d : Decoding). rest_to_come (messages d.profile) d) (sym c.decoder-decoder.ensures) ∙ sym c.rest_to_come.ensures ∙ c.in-None.is)

pub receive_refusal-requires-clause-size : goal.receive_refusal-requires-clause-size
receive_refusal-requires-clause-size g c =
    let d : Decoding = c.decoder-decoder.result.now in
    let st = subst (λ (d : Decoding). status_of (messages d.profile) d ≡ status.Refused c.args.refusal) (sym c.decoder-decoder.ensures) c.requires in
    ap (λ n. 4 + n) (c.from.ensures ∙ c.unwrap_or.ensures ∙ ap (λ o. unwrap_or o 0) c.announced.ensures ∙ announced-size d.octets (refused-four (messages d.profile) d c.args.refusal st))

pub returns-in_ok-receive_refusal-in-Some : goal.returns-in_ok-receive_refusal-in-Some
returns-in_ok-receive_refusal-in-Some g c =
    let rest = ap (λ (d : Decoding). rest_to_come (messages d.profile) d) (sym c.decoder-decoder.ensures) ∙ sym c.rest_to_come.ensures ∙ c.in-Some.is in
    let skipped : c.skip.result ≡ true = c.skip.ensures.is_known ∙ ap is_some rest in
    frame-here g.R.Receiver.Receives true c.args.self.now c.skip.new.self c.args.rest.now c.args.receiver.now c.receive_refusal.new.self
    (delivers-refused g.R.Receiver.Receives c.args.self.now c.skip.new.self c.args.refusal c.args.receiver.now c.receive_refusal.new.self c.requires
    (subst (Skips (messages c.args.self.now.current.profile) c.args.self.now c.skip.new.self) skipped c.skip.ensures)
    (subst (λ (d : Decoding). g.R.Receiver.Receives c.args.receiver.now (Fault c.args.refusal.place c.args.refusal.why d.octets) c.receive_refusal.new.self) c.decoder-decoder.ensures c.in_ok-receive_refusal-in-Some.ensures))
