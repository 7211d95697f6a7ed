use Rattle.krb_capture_laws.proofs.WholeCaptures.{captures_list_streams}
use Rattle.krb_capture_laws.proofs.capture.captures_list_streams.Goals as goal

pub returns : goal.returns
returns c = captures_list_streams
