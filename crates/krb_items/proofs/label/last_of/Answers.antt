use Rattle.std.proofs.Common.{sym, ◌∙◌}
use Rattle.krb_items.specs.Reached.{last_members}
use Rattle.krb_items.proofs.Labels.{empty-kept-object, empty-object}
use Rattle.krb_items.proofs.label.last_of.Goals as goal

pub returns-in-Json : goal.returns-in-Json
returns-in-Json c = c.last_after.ensures (last_members c.args.label.now) (empty-object c.args.label.now (sym c.form.ensures ∙ c.in-Json.is))

pub returns-in-KeptJson : goal.returns-in-KeptJson
returns-in-KeptJson c = c.last_after-in-KeptJson.ensures (last_members c.args.label.now) (empty-kept-object c.args.label.now (sym c.form.ensures ∙ c.in-KeptJson.is))
