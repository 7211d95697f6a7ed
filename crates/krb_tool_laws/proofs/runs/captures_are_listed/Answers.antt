use Rattle.krb_tool_laws.proofs.CaptureListings.{captures_are_listed}
use Rattle.krb_tool_laws.proofs.runs.captures_are_listed.Goals as goal

pub returns : goal.returns
returns c = captures_are_listed
