use Rattle.krb_capture_laws.proofs.Directed.{records_are_of_the_stream}
use Rattle.krb_capture_laws.proofs.capture.records_are_of_the_stream.Goals as goal

pub returns : goal.returns
returns c = records_are_of_the_stream
