use Rattle.std.proofs.Common.{◌≡◌, ◌+◌, ◌++◌, length, take}
use Rattle.std.specs.List.{flat_map}
use Rattle.std.specs.Vec.{vec_len, vec_capacity}
use Rattle.krb_files.proofs.part.put_each.Given as goal

abbrev pub invariant-loop-item : goal.invariant-loop-item
invariant-loop-item g l = record {
  items : l.out.items ≡ l.initial.out.items ++ flat_map g.K.Spelled.octets (take l.item-index l.items);
  len : vec_len l.out ≡ vec_len l.initial.out + length (flat_map g.K.Spelled.octets (take l.item-index l.items));
  capacity : vec_capacity l.out ≡ vec_capacity l.initial.out;
}
