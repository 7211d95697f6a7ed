use Rattle.krb_der.specs.inner.Numbers.{AreOctets-slice}
use Rattle.krb_msg.proofs.FieldViews.{match_both, match_none}
use Rattle.krb_msg.proofs.WholeViews.{no_item_whole, no_contents_whole, is_view_of}
use Rattle.krb_msg.proofs.view.view_whole.Goals as goal

pub returns-in_err-contents : goal.returns-in_err-contents
returns-in_err-contents g c =
    match_none _ _ _ c.from_residual.ensures (no_item_whole g.T.View.term c.tag.result c.args.octets.now (AreOctets-slice c.args.octets.now c.type_inv.octets) c.tag.ensures c.in_err-contents.ensures)

pub returns : goal.returns
returns g c =
    match_both _ _ _ _ _ _ (no_contents_whole g.T.View.term c.tag.result c.args.octets.now c.in_ok-contents.contents.now (AreOctets-slice c.args.octets.now c.type_inv.octets) c.tag.ensures c.in_ok-contents.ensures)
    (λ seen a. is_view_of g.T.View.term c.tag.result c.args.octets.now c.in_ok-contents.contents.now (g.T.View.value seen) c.requires.unambiguous c.requires.short c.tag.ensures c.in_ok-contents.ensures a.0) (λ seen a. a.1) c.view_item.ensures
