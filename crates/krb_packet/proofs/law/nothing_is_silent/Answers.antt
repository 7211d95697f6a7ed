use Rattle.krb_packet.proofs.Silent.{nothing_is_silent}
use Rattle.krb_packet.proofs.law.nothing_is_silent.Goals as goal

pub returns : goal.returns
returns c = nothing_is_silent
