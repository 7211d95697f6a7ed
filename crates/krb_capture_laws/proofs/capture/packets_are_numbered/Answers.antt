use Rattle.krb_capture_laws.proofs.Numbered.{packets_are_numbered}
use Rattle.krb_capture_laws.proofs.capture.packets_are_numbered.Goals as goal

pub returns : goal.returns
returns c = packets_are_numbered
