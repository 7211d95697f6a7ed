use Rattle.std.proofs.lemmas.Result.{on_ok_weaker}
use Rattle.krb_record.proofs.Appended.{two_fields}
use Rattle.krb_record.proofs.refusal.put_at_and_length.Goals as goal

pub returns : goal.returns
returns c = on_ok_weaker c.put_field-2.result (two_fields _ _ _ c.in_ok-put_field.ensures) c.put_field-2.ensures
