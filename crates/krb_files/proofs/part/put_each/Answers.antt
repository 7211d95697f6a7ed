use Rattle.std.proofs.Common.{length, ap, arith}
use Rattle.std.proofs.lemmas.List.Folds.{length-flat_map-take, list_any_at}
use Rattle.krb_files.proofs.part.put_each.Goals as goal

pub put-requires-clause-short : goal.put-requires-clause-short
put-requires-clause-short g c = grind (arith, list_any_at g.K.Spelled.is_long c.args.items.now c.loop-item.item-index c.item-item.result)

pub put-requires-clause-spare_capacity : goal.put-requires-clause-spare_capacity
put-requires-clause-spare_capacity g c =
    omega (
      arith,
      length-flat_map-take g.K.Spelled.octets c.args.items.now c.loop-item.item-index c.item-item.result (omega arith),
      ap (λ item. length (g.K.Spelled.octets item)) c.item-item.is,
    )
