use Rattle.krb_tool_laws.proofs.CaptureListings.{plain_captures_are_untold}
use Rattle.krb_tool_laws.proofs.runs.plain_captures_are_untold.Goals as goal

pub returns : goal.returns
returns c = plain_captures_are_untold
