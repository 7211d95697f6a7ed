use Rattle.krb_capture_laws.proofs.Apart.{fragments_are_apart}
use Rattle.krb_capture_laws.proofs.packet.fragments_are_apart.Goals as goal

pub returns : goal.returns
returns c = fragments_are_apart
