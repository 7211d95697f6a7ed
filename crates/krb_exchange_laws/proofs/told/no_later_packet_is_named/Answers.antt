use Rattle.krb_exchange_laws.proofs.Packets.{no_later_packet_is_named}
use Rattle.krb_exchange_laws.proofs.told.no_later_packet_is_named.Goals as goal

pub returns : goal.returns
returns c = no_later_packet_is_named
