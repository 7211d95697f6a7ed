use Rattle.krb_decode_laws.proofs.CacheTickets.{tickets_alone_are_decoded}
use Rattle.krb_decode_laws.proofs.caches.tickets_alone_are_decoded.Goals as goal

pub returns : goal.returns
returns c = tickets_alone_are_decoded
