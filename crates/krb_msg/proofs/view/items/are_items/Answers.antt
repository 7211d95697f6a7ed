use Rattle.std.proofs.Common.{◌≡◌, ◌<◌, length, arith, rules, refl}
use Rattle.std.proofs.lemmas.List.{nil_from_length}
use Rattle.krb_msg.proofs.Lengths.{item_small}
use Rattle.krb_msg.proofs.ItemViews.{none_passed, passed_smaller, passed_more, all_passed, no_items, no_first, many_none, many_some}
use Rattle.krb_msg.proofs.view.items.are_items.Goals as goal

pub items-init : goal.items-init
items-init g c = none_passed g.T.View.term c.args.octets.now

pub first_item-requires : goal.first_item-requires
first_item-requires g c = omega (arith, c.items.invariant.within, c.requires.short)

pub returns-in_default : goal.returns-in_default
returns-in_default g c =
    let some : 0 < length c.items.rest.now = search rules in
    (many_none g.T.View.term c.args.octets.now (λ a. no_items g.T.View.term c.tag.result c.items.rest.now c.tag.ensures some c.in_default.ensures (c.items.invariant.from a)))

pub view_item-requires : goal.view_item-requires
view_item-requires g c κs = ((refl, tt), (item_small c.tag.result c.items.rest.now c.in-Some.inner.now c.in-Some.left.now (omega (arith, c.items.invariant.within, c.requires.short)) c.in-Some.ensures, (c.requires.tags, c.requires.unambiguous)))

pub returns-in_default-view_item : goal.returns-in_default-view_item
returns-in_default-view_item g c =
    (many_none g.T.View.term c.args.octets.now (λ a. no_first g.T.View.term c.tag.result c.items.rest.now c.in-Some.inner.now c.in-Some.left.now c.tag.ensures c.in-Some.ensures c.in_default-view_item.ensures (c.items.invariant.from a)))

pub items-smaller : goal.items-smaller
items-smaller g c = passed_smaller c.tag.result c.items.rest.now c.in-Some.inner.now c.in-Some.left.now c.in-Some.ensures

pub items-preserved : goal.items-preserved
items-preserved g c =
    passed_more g.T.View.term c.tag.result c.args.octets.now c.items.rest.now c.in-Some.inner.now c.in-Some.left.now (g.T.View.value c.in-Some-view_item._seen) c.tag.ensures c.items.invariant c.in-Some.ensures c.in-Some-view_item.ensures.0

pub returns : goal.returns
returns g c =
    let none : length c.items.rest.now ≡ 0 = search rules in
    many_some g.T.View.term c.args.octets.now c.requires.unambiguous c.requires.short (all_passed g.T.View.term c.args.octets.now c.items.rest.now c.items.invariant (nil_from_length c.items.rest.now none))
