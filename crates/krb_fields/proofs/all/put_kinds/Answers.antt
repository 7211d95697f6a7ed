use Rattle.std.proofs.Common.{◌∙◌, ap, ap₂, map, string_bytes, sym}
use Rattle.krb_fields.specs.Fields.{shape_of}
use Rattle.krb_fields.specs.Names.{kind_text, with_all, with_new}
use Rattle.krb_fields.proofs.Once.{all_seen, map_map, one_more}
use Rattle.krb_fields.proofs.all.put_kinds.Goals as goal

pub loop-shape-preserved : goal.loop-shape-preserved
loop-shape-preserved c =
    c.in_ok-put_new.ensures
    ∙ ap₂ with_new c.loop-shape.invariant c.in_ok-from_str.ensures.ok
    ∙ sym (one_more (map string_bytes c.args.kinds.now.items) (λ s. s.kind.now) c.args.shapes.now c.loop-shape.shape-index _ c.loop-shape-test.true)

pub returns : goal.returns
returns c =
    all_seen (map string_bytes c.loop-shape.kinds.items) (map string_bytes c.args.kinds.now.items) (map (λ s. s.kind.now)) c.args.shapes.now c.loop-shape.shape-index c.loop-shape-test.false c.loop-shape.invariant
    ∙ ap (with_all (map string_bytes c.args.kinds.now.items)) (sym (map_map kind_text shape_of c.args.shapes.now))
