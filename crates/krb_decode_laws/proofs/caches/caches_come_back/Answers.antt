use Rattle.krb_decode_laws.proofs.CacheLines.{caches_come_back}
use Rattle.krb_decode_laws.proofs.caches.caches_come_back.Goals as goal

pub returns : goal.returns
returns c = caches_come_back c.credentials_are_spelled.ensures c.value_of_der_is_value.ensures
