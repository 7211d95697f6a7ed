use Rattle.std.proofs.Common.{◌∙◌, ap, sym, map}
use Rattle.std.specs.List.{flat_map}
use Rattle.std.specs.Str.{bytes_eq}
use Rattle.krb_fields.specs.Fields.{shape_of}
use Rattle.krb_fields.specs.Names.{is_among, inside_names}
use Rattle.krb_fields.proofs.Anys.{any_flat_map, any_map, known_at, known_none}
use Rattle.krb_fields.proofs.found.name_inside.Goals as goal

pub returns-in-Some-clause-known : goal.returns-in-Some-clause-known
returns-in-Some-clause-known c =
    known_at (λ s. is_among c.args.word.now (inside_names (shape_of s))) c.inside-shape-items.result.now c.loop-shape.shape-index _ c.loop-shape-test.true (sym c.in-Some.ensures.known)
    ∙ sym (any_flat_map (bytes_eq c.args.word.now) inside_names (map shape_of c.inside-shape-items.result.now) ∙ any_map (λ s. is_among c.args.word.now (inside_names s)) shape_of c.inside-shape-items.result.now)
    ∙ ap (λ shapes. is_among c.args.word.now (flat_map inside_names shapes)) c.inside-shape-items.ensures

pub returns-clause-known : goal.returns-clause-known
returns-clause-known c =
    known_none (λ s. is_among c.args.word.now (inside_names (shape_of s))) c.inside-shape-items.result.now c.loop-shape.shape-index c.loop-shape-test.false c.loop-shape.invariant
    ∙ sym (any_flat_map (bytes_eq c.args.word.now) inside_names (map shape_of c.inside-shape-items.result.now) ∙ any_map (λ s. is_among c.args.word.now (inside_names s)) shape_of c.inside-shape-items.result.now)
    ∙ ap (λ shapes. is_among c.args.word.now (flat_map inside_names shapes)) c.inside-shape-items.ensures
