use Rattle.krb_decode_laws.proofs.CacheTickets.{caches_are_decoded}
use Rattle.krb_decode_laws.proofs.caches.caches_are_decoded.Goals as goal

pub returns : goal.returns
returns c = caches_are_decoded
