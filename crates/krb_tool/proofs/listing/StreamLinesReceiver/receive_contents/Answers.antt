use Rattle.std.proofs.Common.{refl, sym, ◌∙◌, ap, arith, append-nil, ◌++◌, subst}
use Rattle.std.specs.Prelude.{◌==◌, ◌&&◌}
use Rattle.krb_der.specs.inner.Numbers.{AreOctets-slice}
use Rattle.krb_msg.specs.Views.{message_of_der}
use Rattle.krb_msg.proofs.MessageViews.{whole_form}
use Rattle.krb_frame.specs.GoingOn.{Contents}
use Rattle.krb_text.specs.Messages.{PutsMessage}
use Rattle.krb_tool.specs.GoingOn.{Whole}
use Rattle.krb_tool.specs.Listing.{message_line}
use Rattle.krb_tool.proofs.Listings.{at_once-none}
use Rattle.krb_tool.proofs.listing.StreamLinesReceiver.receive_contents.Goals as goal

pub returns : goal.returns
returns c =
    let old = c.args.self.now in
    let label = old.request.label.now in
    let contents = c.args.contents.now in
    let put = subst (PutsMessage c.args.profile contents (message_line label) old.text c.put_message.new.text) c.if-not-branch.false c.in_ok-put_message.ensures in (
      put.0,
      record {
        listed = Whole (message_of_der contents);
        is_entry = ap Contents (whole_form c.args.profile contents (AreOctets-slice contents c.type_inv.contents) c.requires.short put.0);
        decoded = tt;
        line = put.1 ∙ ap (λ t. old.text ++ t) (sym (append-nil (message_line label (message_of_der contents))));
        messages = λ few. omega (arith, few, c.saturating_add-self.ensures);
        refused = λ few. omega arith;
        at_once = at_once-none old.is_refused_at_once (old.messages == 0 && old.refused == 0);
        offset = λ few. omega (arith, few, c.saturating_add-self-2.ensures);
        same = refl;
      },
    )
