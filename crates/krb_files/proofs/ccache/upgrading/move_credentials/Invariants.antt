use Rattle.std.proofs.Common.{◌≡◌, ◌++◌, length, map}
use Rattle.std.specs.Vec.{vec_len, vec_capacity}
use Rattle.std.specs.Vec.Iter.{into_iter_items, into_iter_len}
use Rattle.krb_files.proofs.ccache.upgrading.move_credentials.Given as goal

-- the credentials so far
abbrev pub invariant-loop-item : goal.invariant-loop-item
invariant-loop-item l = record {
  order : l.yielded ++ into_iter_items l.item-iterator ≡ into_iter_items l.initial.item-iterator;
  left : into_iter_len l.item-iterator ≡ length (into_iter_items l.item-iterator);
  moved : l.to.items ≡ map (λ c. c.credential) l.yielded;
  count : vec_len l.to ≡ length l.yielded;
  capacity : vec_capacity l.to ≡ vec_capacity l.initial.to;
}
