use Rattle.std.proofs.Common.{Some, ap, sym, ◌∙◌}
use Rattle.json.specs.Find.{as_object}
use Rattle.json.specs.Value.{members_view, value_view}
use Rattle.json.proofs.Trees.{view-Object}
use Rattle.krb_json.specs.inner.Reading.{is_allowed}
use Rattle.krb_json.proofs.ReadLists.{members-read}
use Rattle.krb_json.proofs.members.check_members.Goals as goal

pub returns-in-Object : goal.returns-in-Object
returns-in-Object c =
    members-read (is_allowed c.args.allowed) (value_view c.args.value.now) (members_view c.as_slice.result.now) c.check_names.result
    (ap (λ v. as_object (value_view v)) c.in-Object.is ∙ ap as_object (view-Object c.in-Object.members) ∙ ap (λ l. Some (members_view l)) (sym c.as_slice.ensures.value)) c.check_names.ensures
