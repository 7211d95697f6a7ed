use Rattle.std.proofs.Common.{◌≡◌, ◌+◌, ◌++◌, length, take}
use Rattle.std.specs.List.{flat_map}
use Rattle.std.specs.Vec.{vec_len, vec_capacity}
use Rattle.krb_msg.specs.Term.{der}
use Rattle.krb_codec.proofs.many.put_items.Given as goal

abbrev pub invariant-loop-value : goal.invariant-loop-value
invariant-loop-value g l =
    let octets = flat_map (λ value. der g.T.Item.term (g.T.Item.value value)) (take l.value-index l.values) in
    record {
      items : l.out.items ≡ l.initial.out.items ++ octets;
      len : vec_len l.out ≡ vec_len l.initial.out + length octets;
      capacity : vec_capacity l.out ≡ vec_capacity l.initial.out;
    }
