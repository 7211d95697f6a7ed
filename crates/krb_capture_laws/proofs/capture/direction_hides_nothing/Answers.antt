use Rattle.krb_capture_laws.proofs.Clear.{direction_hides_nothing}
use Rattle.krb_capture_laws.proofs.capture.direction_hides_nothing.Goals as goal

pub returns : goal.returns
returns c = direction_hides_nothing
