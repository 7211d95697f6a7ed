use Rattle.std.proofs.Common.{take, drop}
use Rattle.json.specs.Value.{members_view}
use Rattle.krb_json.specs.inner.Reading.{is_allowed}
use Rattle.krb_json.proofs.ReadLists.{AreCheckedTo, has_name}
use Rattle.krb_json.proofs.members.check_names.Given as goal

abbrev pub invariant-loop-index : goal.invariant-loop-index
invariant-loop-index l = AreCheckedTo (is_allowed l.allowed) (members_view l.members) (members_view (drop l.index l.members)) (has_name (take l.index l.members))
