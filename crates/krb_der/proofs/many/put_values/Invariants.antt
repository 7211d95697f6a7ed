use Rattle.std.proofs.Common.{◌≡◌, ◌+◌, ◌++◌, length, take}
use Rattle.std.specs.List.{flat_map}
use Rattle.std.specs.Vec.{vec_len, vec_capacity}
use Rattle.krb_der.proofs.many.put_values.Given as goal

abbrev pub invariant-loop-value : goal.invariant-loop-value
invariant-loop-value g l = record {
  items : l.out.items ≡ l.initial.out.items ++ flat_map g.T.Der.der (take l.value-index l.values);
  len : vec_len l.out ≡ vec_len l.initial.out + length (flat_map g.T.Der.der (take l.value-index l.values));
  capacity : vec_capacity l.out ≡ vec_capacity l.initial.out;
}
