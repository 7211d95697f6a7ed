use Rattle.std.proofs.Common.{◌-◌, sym, ◌∙◌, ap, arith}
use Rattle.krb_items.specs.Fronts.{fields_front, sequence_front, shape_front}
use Rattle.krb_items.specs.Seen.{front_of, token_by}
use Rattle.krb_items.proofs.Judging.{sequence-goes}
use Rattle.krb_items.proofs.fronts.Judge.+judged.Goals as goal

pub sequence-returns : goal.sequence-returns
sequence-returns t c =
    c.fields-2.ensures ∙ ap (λ fields. fields_front (shape_front (sequence_front (c.args.levels - 1) (token_by c.args.self)) (token_by c.args.self)) fields (front_of c.args.front)) c.fields.ensures.fields
    ∙ sym (sequence-goes c.args.levels (c.args.levels - 1) (token_by c.args.self) c.args.sequence (front_of c.args.front) (omega arith))
