use Rattle.std.proofs.Common.{codes, nat_lt}
use Rattle.std.proofs.lemmas.Result.{on_ok_weaker}
use Rattle.krb_record.specs.Forms.{closing, opening, part_text}
use Rattle.krb_text.specs.inner.Parts.{separator}
use Rattle.krb_record.proofs.Appended.{part_of_one}
use Rattle.krb_text.proofs.clear.PaPacOptionsClear.put_part.Goals as goal

pub returns : goal.returns
unfolding part_text
returns c =
    on_ok_weaker
    c.put_closing.result
    (part_of_one c.args.text.now (separator c.args.at.form (nat_lt 0 c.args.at.told)) (opening c.args.at.form (codes "PA-PAC-OPTIONS")) _ (closing c.args.at.form) c.in_ok-put_part_opening.ensures (rw c.bits_of.ensures at c.in_ok-put_field.ensures))
    c.put_closing.ensures
