use Rattle.krb_capture_laws.proofs.Datagrams.{datagrams_are_apart}
use Rattle.krb_capture_laws.proofs.capture.datagrams_are_apart.Goals as goal

pub returns : goal.returns
returns c = datagrams_are_apart
