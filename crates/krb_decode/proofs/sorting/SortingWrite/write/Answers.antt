use Rattle.std.proofs.Common.{ℕ, List, sym, subst}
use Rattle.krb_decode.specs.inner.Sorter.{Sorts}
use Rattle.krb_decode.proofs.sorting.SortingWrite.write.Goals as goal

pub invariant_of-self-2 : goal.invariant_of-self-2
invariant_of-self-2 g c =
    let self = c.args.self.now in let new = c.take.new.self in
    record {
      sorts = subst (λ (given : List ℕ). Sorts (g.T.Tell.IsTold self.teller.now) (g.W.Write.contents self.before.value) (g.W.Write.contents c.take.new.writer) given new.is_within new.begun.items new.has_told)
          (sym c.and-self.ensures) (c.in_ok-count.ensures.sorts (g.W.Write.contents self.before.value) self.given.octets self.sorts);
    }
