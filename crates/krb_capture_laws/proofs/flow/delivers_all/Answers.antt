use Rattle.krb_capture_laws.proofs.Captured.{delivers_all}
use Rattle.krb_capture_laws.proofs.flow.delivers_all.Goals as goal

pub returns : goal.returns
returns c = delivers_all
