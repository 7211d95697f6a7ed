use Rattle.std.proofs.Common.{◌∙◌, ◌++◌, ap, codes, map, string_bytes, sym}
use Rattle.std.proofs.lemmas.List.Folds.{flat_map-map}
use Rattle.std.proofs.lemmas.List.{append_assoc}
use Rattle.std.specs.List.{flat_map}
use Rattle.krb_fields.specs.Fields.{shape_of}
use Rattle.krb_fields.specs.Names.{inside_names, shape_names, with_all}
use Rattle.krb_fields.proofs.Once.{all_seen, flat_map_same, map_same, step_of}
use Rattle.krb_fields.proofs.all.put_inside.Goals as goal

pub loop-shape-preserved : goal.loop-shape-preserved
loop-shape-preserved c =
    step_of (map string_bytes c.put_shape.new.names.items) (map string_bytes c.loop-shape.names.items) (map string_bytes c.args.names.now.items) (λ s. map (λ name. (s.kind.now ++ codes ".") ++ name) (shape_names (shape_of s))) c.inside-shape-items.result.now c.loop-shape.shape-index _ c.loop-shape-test.true c.loop-shape.invariant c.in_ok-put_shape.ensures

pub returns : goal.returns
returns c =
    all_seen (map string_bytes c.loop-shape.names.items) (map string_bytes c.args.names.now.items) (flat_map (λ s. map (λ name. (s.kind.now ++ codes ".") ++ name) (shape_names (shape_of s)))) c.inside-shape-items.result.now c.loop-shape.shape-index c.loop-shape-test.false c.loop-shape.invariant
    ∙ ap (with_all (map string_bytes c.args.names.now.items)) (
    flat_map_same (λ s. map (λ name. (s.kind.now ++ codes ".") ++ name) (shape_names (shape_of s))) (λ s. inside_names (shape_of s))
    (λ s. map_same (λ name. (s.kind.now ++ codes ".") ++ name) (λ name. s.kind.now ++ (codes "." ++ name)) (λ name. append_assoc s.kind.now (codes ".") name) (shape_names (shape_of s)))
    c.inside-shape-items.result.now
    ∙ sym (flat_map-map inside_names shape_of c.inside-shape-items.result.now)
    ∙ ap (flat_map inside_names) c.inside-shape-items.ensures)
