use Rattle.krb_capture_laws.proofs.WholeCaptures.{directions_are_apart}
use Rattle.krb_capture_laws.proofs.capture.directions_are_apart.Goals as goal

pub returns : goal.returns
returns c = directions_are_apart
