use Rattle.std.proofs.Common.{◌≡◌, length, take}
use Rattle.std.specs.List.{flat_map, AllByRecursion}
use Rattle.krb_der.specs.Sizes.{saturated}
use Rattle.krb_der.proofs.many.size_of_values.Given as goal

abbrev pub invariant-loop-value : goal.invariant-loop-value
invariant-loop-value g l = record {
  octets : l.size ≡ saturated (length (flat_map g.T.Der.der (take l.value-index l.values)));
  fits : AllByRecursion g.T.Der.Fits (take l.value-index l.values);
}
