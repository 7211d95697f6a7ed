use Rattle.std.proofs.Common.{◌∙◌, ◌++◌, [], ap, map, string_bytes, sym}
use Rattle.std.proofs.lemmas.List.Folds.{flat_map-map}
use Rattle.std.proofs.lemmas.List.{map-id}
use Rattle.std.specs.List.{flat_map}
use Rattle.krb_fields.specs.Fields.{shape_of}
use Rattle.krb_fields.specs.Names.{shape_names, with_all}
use Rattle.krb_fields.proofs.Once.{all_seen, flat_map_same, step_of}
use Rattle.krb_fields.proofs.all.put_records.Goals as goal

pub loop-shape-preserved : goal.loop-shape-preserved
loop-shape-preserved c =
    step_of (map string_bytes c.put_shape.new.names.items) (map string_bytes c.loop-shape.names.items) (map string_bytes c.args.names.now.items) (λ s. map (λ name. [] ++ name) (shape_names (shape_of s))) c.records-shape-items.result.now c.loop-shape.shape-index _ c.loop-shape-test.true c.loop-shape.invariant c.in_ok-put_shape.ensures

pub returns : goal.returns
returns c =
    all_seen (map string_bytes c.loop-shape.names.items) (map string_bytes c.args.names.now.items) (flat_map (λ s. map (λ name. [] ++ name) (shape_names (shape_of s)))) c.records-shape-items.result.now c.loop-shape.shape-index c.loop-shape-test.false c.loop-shape.invariant
    ∙ ap (with_all (map string_bytes c.args.names.now.items)) (
    flat_map_same (λ s. map (λ name. [] ++ name) (shape_names (shape_of s))) (λ s. shape_names (shape_of s)) (λ s. map-id (shape_names (shape_of s))) c.records-shape-items.result.now
    ∙ sym (flat_map-map shape_names shape_of c.records-shape-items.result.now)
    ∙ ap (flat_map shape_names) c.records-shape-items.ensures)
