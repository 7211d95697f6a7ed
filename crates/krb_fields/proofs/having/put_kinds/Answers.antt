use Rattle.std.proofs.Common.{◌∙◌, ◌∷◌, [], ap, map}
use Rattle.std.specs.List.{filter, flat_map, list_all}
use Rattle.krb_fields.specs.Fields.{shape_of}
use Rattle.krb_fields.specs.Names.{has, kind_text, with_all}
use Rattle.krb_fields.proofs.Once.{all_seen, kinds_passing, step_of}
use Rattle.krb_fields.proofs.having.put_kinds.Goals as goal

pub loop-shape-preserved : goal.loop-shape-preserved
loop-shape-preserved c =
    step_of (map (λ kind. kind.now) c.put_kind.new.kinds.items) (map (λ kind. kind.now) c.loop-shape.kinds.items) (map (λ kind. kind.now) c.args.kinds.now.items)
    (λ s. map kind_text (filter (λ s. list_all (has s) c.args.names.now) (shape_of s ∷ []))) c.args.shapes.now c.loop-shape.shape-index _ c.loop-shape-test.true c.loop-shape.invariant c.in_ok-put_kind.ensures

pub returns : goal.returns
returns c =
    all_seen (map (λ kind. kind.now) c.loop-shape.kinds.items) (map (λ kind. kind.now) c.args.kinds.now.items)
    (flat_map (λ s. map kind_text (filter (λ s. list_all (has s) c.args.names.now) (shape_of s ∷ [])))) c.args.shapes.now c.loop-shape.shape-index c.loop-shape-test.false c.loop-shape.invariant
    ∙ ap (with_all (map (λ kind. kind.now) c.args.kinds.now.items)) (kinds_passing (λ s. list_all (has s) c.args.names.now) c.args.shapes.now)
