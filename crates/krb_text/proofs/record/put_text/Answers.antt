use Rattle.std.proofs.Common.{refl}
use Rattle.krb_der.specs.inner.Numbers.{AreOctets-slice}
use Rattle.krb_text.proofs.Recorded.{no_message}
use Rattle.krb_text.proofs.record.put_text.Goals as goal

pub returns-in_default : goal.returns-in_default
returns-in_default c = (no_message c.args.profile c.args.octets.now (AreOctets-slice c.args.octets.now c.type_inv.octets) c.in_default.ensures, refl)
