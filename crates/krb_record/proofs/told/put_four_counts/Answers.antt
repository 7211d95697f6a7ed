use Rattle.std.proofs.lemmas.Result.{on_ok_weaker}
use Rattle.krb_record.proofs.Appended.{four_fields}
use Rattle.krb_record.proofs.told.put_four_counts.Goals as goal

pub returns : goal.returns
returns c = on_ok_weaker c.put_field-4.result (four_fields _ _ _ _ _ c.in_ok-put_field.ensures c.in_ok-put_field-2.ensures c.in_ok-put_field-3.ensures) c.put_field-4.ensures
