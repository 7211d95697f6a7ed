use Rattle.std.proofs.Common.{◌≡◌, ◌+◌, ◌++◌, take}
use Rattle.std.specs.Vec.{vec_len, vec_capacity}
use Rattle.krb_der.proofs.item.put_octets.Given as goal

abbrev pub invariant-loop-octet : goal.invariant-loop-octet
invariant-loop-octet l = record {
  items : l.out.items ≡ l.initial.out.items ++ take l.octet-index l.octets;
  len : vec_len l.out ≡ vec_len l.initial.out + l.octet-index;
  capacity : vec_capacity l.out ≡ vec_capacity l.initial.out;
}
