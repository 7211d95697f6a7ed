use Rattle.std.proofs.Common.{◌∙◌, ◌++◌, ap, map, string_bytes, sym}
use Rattle.std.proofs.lemmas.List.{append_assoc}
use Rattle.krb_fields.specs.Names.{with_all, within_text}
use Rattle.krb_fields.specs.Table.{endings}
use Rattle.krb_fields.proofs.Once.{all_seen, map_map, map_same, step_one}
use Rattle.krb_fields.proofs.all.put_member.Goals as goal

pub loop-ending-preserved : goal.loop-ending-preserved
loop-ending-preserved c =
    step_one (map string_bytes c.put_name.new.names.items) (map string_bytes c.loop-ending.names.items) (map string_bytes c.args.names.now.items) (λ ending. within_text c.args.within ++ c.args.field.now.name.now ++ ending.now) c.endings-ending-items.result.now c.loop-ending.ending-index _ c.loop-ending-test.true c.loop-ending.invariant c.in_ok-put_name.ensures

pub returns : goal.returns
returns c =
    all_seen (map string_bytes c.loop-ending.names.items) (map string_bytes c.args.names.now.items) (map (λ ending. within_text c.args.within ++ c.args.field.now.name.now ++ ending.now)) c.endings-ending-items.result.now c.loop-ending.ending-index c.loop-ending-test.false c.loop-ending.invariant
    ∙ ap (with_all (map string_bytes c.args.names.now.items)) (
    sym (map_map (λ ending. within_text c.args.within ++ c.args.field.now.name.now ++ ending) (λ ending. ending.now) c.endings-ending-items.result.now)
    ∙ ap (map (λ ending. within_text c.args.within ++ c.args.field.now.name.now ++ ending)) c.endings-ending-items.ensures
    ∙ map_same (λ ending. within_text c.args.within ++ c.args.field.now.name.now ++ ending) (λ ending. within_text c.args.within ++ (c.args.field.now.name.now ++ ending)) (append_assoc (within_text c.args.within) c.args.field.now.name.now) (endings c.args.field.now.value)
    ∙ sym (map_map (λ name. within_text c.args.within ++ name) (λ ending. c.args.field.now.name.now ++ ending) (endings c.args.field.now.value)))
