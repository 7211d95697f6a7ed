use Rattle.std.proofs.Common.{◌<◌, length, rules}
use Rattle.krb_msg.proofs.ItemViews.{no_items, no_first, are_items, is_first}
use Rattle.krb_msg.proofs.view.items.next_item.Goals as goal

pub unreachable-requires : goal.unreachable-requires
unreachable-requires g c =
    let some : 0 < length c.args.items.octets.now = search rules in
    no_items g.T.View.term c.tag.result c.args.items.octets.now c.tag.ensures some c.in_default.ensures (are_items g.T.View.term c.args.items.octets.now c.requires.viewed)

pub unreachable-requires-in_default-view_item : goal.unreachable-requires-in_default-view_item
unreachable-requires-in_default-view_item g c =
    no_first g.T.View.term c.tag.result c.args.items.octets.now c.in-Some.inner.now c.in-Some.rest.now c.tag.ensures c.in-Some.ensures c.in_default-view_item.ensures (are_items g.T.View.term c.args.items.octets.now c.requires.viewed)

pub returns : goal.returns
returns g c =
    (is_first g.T.View.term c.tag.result c.args.items.octets.now c.in-Some.inner.now c.in-Some.rest.now (g.T.View.value c.in-Some-view_item.seen) c.requires.unambiguous c.tag.ensures c.requires.viewed c.in-Some.ensures c.in-Some-view_item.ensures.0, c.in-Some-view_item.ensures.1)
