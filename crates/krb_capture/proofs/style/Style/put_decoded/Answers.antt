use Rattle.std.proofs.Common.{◌++◌, ◌∙◌, ap, sym, append-nil}
use Rattle.krb_msg.specs.Views.{message_of_der}
use Rattle.krb_capture.specs.Decoded.{decoded_message}
use Rattle.krb_capture.specs.Found.{Whole}
use Rattle.krb_capture.specs.Labels.{label_in}
use Rattle.krb_capture.proofs.Styles.{message_viewed, unwritten, written_whole}
use Rattle.krb_capture.proofs.style.Style.put_decoded.Goals as goal

pub put_message-requires-clause-message : goal.put_message-requires-clause-message
put_message-requires-clause-message c = message_viewed c.args.octets.now _ c.in-Some.ensures.0

pub returns-in_ok-put_message : goal.returns-in_ok-put_message
returns-in_ok-put_message c =
    let self = c.args.self in let octets = c.args.octets.now in let origin = c.args.origin.now in
    let line = written_whole self.decoding (label_in self) origin octets c.requires.decodes (sym c.writes.ensures ∙ c.if-writes.true) in (
      c.in-Some.ensures.1,
      c.in_ok-put_message.ensures ∙ ap (λ l. c.args.text.now ++ l) (ap (λ f. decoded_message f origin (message_of_der octets)) c.form.ensures ∙ sym line),
    )

pub returns-else-writes : goal.returns-else-writes
returns-else-writes c =
    let self = c.args.self in let text = c.args.text.now in
    let none = unwritten self.decoding (label_in self) c.args.origin.now (Whole c.args.octets.now) (sym c.writes.ensures ∙ c.if-writes.false) in (
      c.in-Some.ensures.1,
      sym (append-nil text) ∙ ap (λ l. text ++ l) (sym none),
    )
