-- A header and values are put.
use Rattle.std.proofs.Common.{◌∙◌, ap, map}
use Rattle.std.specs.List.{flat_map}
use Rattle.krb_msg.specs.Term.{der}
use Rattle.krb_codec.specs.inner.PrefixFree.{flat_map-values}
use Rattle.krb_codec.proofs.Puts.{HasSteps, item_steps}
use Rattle.krb_codec.proofs.many.ManyItem.put.Given.{Over}
use Rattle.krb_codec.proofs.many.ManyItem.put.Goals.{After-size_of_items}
use Rattle.krb_codec.proofs.many.ManyItem.put.Goals as goal

in_item : (g : Over) (c : After-size_of_items g) → HasSteps 0x30 c.size_of_items.result (flat_map (λ value. der g.T.Item.term (g.T.Item.value value)) c.as_slice-values.result.now) (flat_map (der g.T.Item.term) (map g.T.Item.value c.args.self.now)) c.args.out.now
in_item g c =
    item_steps _ _ _ _ _
    (ap (flat_map (λ value. der g.T.Item.term (g.T.Item.value value))) c.as_slice-values.ensures ∙ flat_map-values g.T.Item.term g.T.Item.value c.args.self.now)
    c.size_of_items.ensures.octets
    (c.requires.short, c.requires.capacity)

pub put_header-requires : goal.put_header-requires
put_header-requires g c = (in_item g (goal.at.put_header-requires g c).After-size_of_items).header

pub put_items-requires-clause-short : goal.put_items-requires-clause-short
put_items-requires-clause-short g c = ((in_item g (goal.at.put_items-requires-clause-short g c).After-size_of_items).contents _ c.put_header.ensures).0

pub put_items-requires-clause-capacity : goal.put_items-requires-clause-capacity
put_items-requires-clause-capacity g c = ((in_item g (goal.at.put_items-requires-clause-capacity g c).After-size_of_items).contents _ c.put_header.ensures).1

pub returns : goal.returns
returns g c = (in_item g (goal.at.returns g c).After-size_of_items).item_put _ _ c.put_header.ensures c.put_items.ensures
