use Rattle.std.proofs.Common.{◌∙◌, ap, sym}
use Rattle.std.specs.List.{list_any}
use Rattle.krb_fields.specs.Fields.{shape_of}
use Rattle.krb_fields.specs.Names.{has_inside}
use Rattle.krb_fields.proofs.Anys.{any_map, seen}
use Rattle.krb_fields.proofs.having.shows_inside.Goals as goal

pub returns : goal.returns
returns c =
    seen (λ s. has_inside (shape_of s)) c.records-shape-items.result.now c.loop-shape.shape-index c.loop-shape.found c.loop-shape-test.false c.loop-shape.invariant
    ∙ sym (any_map has_inside shape_of c.records-shape-items.result.now)
    ∙ ap (list_any has_inside) c.records-shape-items.ensures
