use Rattle.std.proofs.Common.{◌+◌, refl, sym, ◌∙◌, ap, arith, append-nil, ◌++◌}
use Rattle.std.specs.Prelude.{◌==◌, ◌&&◌}
use Rattle.krb_der.specs.inner.Numbers.{AreOctets-slice}
use Rattle.krb_msg.specs.Views.{message_of_der}
use Rattle.krb_msg.proofs.MessageViews.{whole_form}
use Rattle.krb_frame.specs.GoingOn.{Contents}
use Rattle.krb_tool.specs.GoingOn.{Whole}
use Rattle.krb_tool.proofs.Listings.{at_once-none}
use Rattle.krb_convert.proofs.DecodedFrames.{message_viewed}
use Rattle.krb_decode.specs.Streams.{part_of}
use Rattle.krb_decode.proofs.stream.StreamPartsReceiver.receive_contents.Goals as goal

pub put_message-requires-clause-message : goal.put_message-requires-clause-message
put_message-requires-clause-message c = message_viewed c.args.contents.now _ c.in-Some.ensures.0

pub returns : goal.returns
returns c =
    let old = c.args.self.now in
    let contents = c.args.contents.now in (
      c.in-Some.ensures.1,
      record {
        listed = Whole (message_of_der contents);
        is_entry = ap Contents (whole_form c.args.profile contents (AreOctets-slice contents c.type_inv.contents) c.requires.short c.in-Some.ensures.1);
        decoded = tt;
        line = λ few. ap (λ p. p.text) c.in_ok-put_message.ensures ∙ ap (λ n. old.text ++ part_of n (message_of_der contents)) (omega (arith, few, c.saturating_add-self.ensures)) ∙ ap (λ t. old.text ++ t) (sym (append-nil (part_of (old.messages + 1) (message_of_der contents))));
        messages = λ few. omega (arith, few, c.saturating_add-self.ensures, ap (λ p. p.messages) c.in_ok-put_message.ensures);
        refused = λ few. omega (arith, ap (λ p. p.refused) c.in_ok-put_message.ensures);
        at_once = ap (λ p. p.is_refused_at_once) c.in_ok-put_message.ensures ∙ at_once-none old.is_refused_at_once (old.messages == 0 && old.refused == 0);
        offset = λ few. omega (arith, few, c.saturating_add-self-2.ensures, ap (λ p. p.offset) c.in_ok-put_message.ensures);
        same = ap (λ p. p.profile) c.in_ok-put_message.ensures;
      },
    )
