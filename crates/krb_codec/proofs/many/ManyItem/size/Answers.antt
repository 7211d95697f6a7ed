use Rattle.std.proofs.Common.{◌∙◌, length, ap, subst}
use Rattle.std.specs.List.{flat_map, AllByRecursion}
use Rattle.krb_der.specs.Sizes.{saturated}
use Rattle.krb_der.proofs.Sizes.{saturated-item}
use Rattle.krb_msg.specs.Term.{der, Fits}
use Rattle.krb_codec.specs.inner.PrefixFree.{many_form}
use Rattle.krb_codec.proofs.Fitting.{many_fit}
use Rattle.krb_codec.proofs.many.ManyItem.size.Goals as goal

pub returns : goal.returns
returns g c = record {
  octets =
      saturated-item 0x30 c.size_of_items.result c.item_size.result (flat_map (λ value. der g.T.Item.term (g.T.Item.value value)) c.args.self.now)
      (c.size_of_items.ensures.octets ∙ ap (λ values. saturated (length (flat_map (λ value. der g.T.Item.term (g.T.Item.value value)) values))) c.as_slice.ensures)
      c.item_size.ensures
      ∙ ap (λ octets. saturated (length octets)) (many_form g.T.Item.term g.T.Item.value c.args.self.now);
  fits =
      many_fit g.T.Item.term g.T.Item.value c.args.self.now
      (subst (AllByRecursion (λ value. Fits g.T.Item.term (g.T.Item.value value))) c.as_slice.ensures c.size_of_items.ensures.fits);
}
