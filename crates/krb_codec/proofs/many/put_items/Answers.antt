use Rattle.std.proofs.Common.{length, ap, arith}
use Rattle.std.proofs.lemmas.List.Folds.{length-flat_map-take}
use Rattle.krb_msg.specs.Term.{der}
use Rattle.krb_codec.proofs.many.put_items.Goals as goal

pub put-requires-clause-short : goal.put-requires-clause-short
put-requires-clause-short g c =
    omega (
      arith,
      length-flat_map-take (λ value. der g.T.Item.term (g.T.Item.value value)) c.args.values.now c.loop-value.value-index c.value-item.result (omega arith),
      ap (λ value. length (der g.T.Item.term (g.T.Item.value value))) c.value-item.is,
    )

pub put-requires-clause-capacity : goal.put-requires-clause-capacity
put-requires-clause-capacity g c =
    omega (
      arith,
      length-flat_map-take (λ value. der g.T.Item.term (g.T.Item.value value)) c.args.values.now c.loop-value.value-index c.value-item.result (omega arith),
      ap (λ value. length (der g.T.Item.term (g.T.Item.value value))) c.value-item.is,
    )
