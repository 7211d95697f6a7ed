use Rattle.krb_capture_laws.proofs.Pieces.{delivers_the_stream}
use Rattle.krb_capture_laws.proofs.flow.delivers_the_stream.Goals as goal

pub returns : goal.returns
returns c = delivers_the_stream
