use Rattle.std.proofs.lemmas.Result.{on_ok_weaker}
use Rattle.krb_record.specs.Forms.{json_value, members, names_member}
use Rattle.krb_record.proofs.Appended.{member_alone}
use Rattle.krb_record.proofs.flow.FlowShown.put_members.Goals as goal

pub returns : goal.returns
unfolding json_value members names_member
returns c = on_ok_weaker c.put_flow_object.result (member_alone _ _ _ c.in_ok-put_begin.ensures) c.put_flow_object.ensures
