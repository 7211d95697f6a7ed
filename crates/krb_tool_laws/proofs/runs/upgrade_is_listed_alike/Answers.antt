use Rattle.krb_tool_laws.proofs.Upgrades.{listed-alike}
use Rattle.krb_tool_laws.proofs.runs.upgrade_is_listed_alike.Goals as goal

pub returns : goal.returns
returns c = listed-alike c.upgrade_holds_the_same.ensures
