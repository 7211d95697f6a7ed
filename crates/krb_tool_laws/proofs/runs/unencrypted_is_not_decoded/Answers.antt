use Rattle.krb_tool_laws.proofs.AlikeStreams.{unencrypted_is_not_decoded}
use Rattle.krb_tool_laws.proofs.runs.unencrypted_is_not_decoded.Goals as goal

pub returns : goal.returns
returns c = unencrypted_is_not_decoded c.unencrypted_changes_nothing.ensures
