use Rattle.std.proofs.Common.{◌≡◌, length, take}
use Rattle.std.specs.List.{flat_map, AllByRecursion}
use Rattle.krb_der.specs.Sizes.{saturated}
use Rattle.krb_msg.specs.Term.{der, Fits}
use Rattle.krb_codec.proofs.many.size_of_items.Given as goal

abbrev pub invariant-loop-value : goal.invariant-loop-value
invariant-loop-value g l = record {
  octets : l.size ≡ saturated (length (flat_map (λ value. der g.T.Item.term (g.T.Item.value value)) (take l.value-index l.values)));
  fits : AllByRecursion (λ value. Fits g.T.Item.term (g.T.Item.value value)) (take l.value-index l.values);
}
