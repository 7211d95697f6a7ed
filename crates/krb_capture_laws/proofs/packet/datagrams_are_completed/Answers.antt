use Rattle.krb_capture_laws.proofs.Completing.{datagrams_are_completed}
use Rattle.krb_capture_laws.proofs.packet.datagrams_are_completed.Goals as goal

pub returns : goal.returns
returns c = datagrams_are_completed
