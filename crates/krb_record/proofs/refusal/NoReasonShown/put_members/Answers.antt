use Rattle.std.proofs.lemmas.Result.{on_ok_weaker}
use Rattle.krb_record.specs.Forms.{json_value, members, names_member}
use Rattle.krb_record.proofs.Appended.{null_with_name}
use Rattle.krb_record.proofs.refusal.NoReasonShown.put_members.Goals as goal

pub returns : goal.returns
unfolding json_value members names_member
returns c = on_ok_weaker c.push_str-3.result (null_with_name _ _ c.in_ok-put_begin.ensures c.in_ok-push_str.ensures c.in_ok-push_str-2.ensures) c.push_str-3.ensures
