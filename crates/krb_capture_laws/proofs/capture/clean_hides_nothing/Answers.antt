use Rattle.krb_capture_laws.proofs.Clean.{clean_hides_nothing}
use Rattle.krb_capture_laws.proofs.capture.clean_hides_nothing.Goals as goal

pub returns : goal.returns
returns c = clean_hides_nothing
