use Rattle.std.proofs.Common.{refl}
use Rattle.krb_decode_laws.proofs.unencrypted.keytabs_are_not_read.Goals as goal

pub returns : goal.returns
returns c octets = refl
