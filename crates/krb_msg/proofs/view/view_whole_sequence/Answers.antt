use Rattle.krb_der.specs.inner.Numbers.{AreOctets-slice}
use Rattle.krb_msg.proofs.FieldViews.{else_both}
use Rattle.krb_msg.proofs.WholeViews.{no_item_whole, no_contents_whole, is_view_of}
use Rattle.krb_msg.proofs.view.view_whole_sequence.Goals as goal

pub returns-in-None : goal.returns-in-None
returns-in-None g c = no_item_whole g.T.ViewSequence.term c.tag.result c.args.octets.now (AreOctets-slice c.args.octets.now c.type_inv.octets) c.tag.ensures c.in-None.ensures

pub returns-in-Some : goal.returns-in-Some
returns-in-Some g c =
    else_both _ _ _ _ _ _ _ (no_contents_whole g.T.ViewSequence.term c.tag.result c.args.octets.now c.in-Some.contents.now (AreOctets-slice c.args.octets.now c.type_inv.octets) c.tag.ensures c.in-Some.ensures)
    (λ a. is_view_of g.T.ViewSequence.term c.tag.result c.args.octets.now c.in-Some.contents.now (g.T.ViewSequence.value c.view_into.new.seen) c.requires.unambiguous c.requires.short c.tag.ensures c.in-Some.ensures a) (λ known. known) c.view_into.ensures
