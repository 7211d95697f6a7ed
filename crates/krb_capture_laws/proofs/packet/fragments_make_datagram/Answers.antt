use Rattle.krb_capture_laws.proofs.Gathering.{makes_datagram}
use Rattle.krb_capture_laws.proofs.packet.fragments_make_datagram.Goals as goal

pub returns : goal.returns
returns c = makes_datagram
