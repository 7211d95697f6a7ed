use Rattle.std.proofs.Common.{refl}
use Rattle.krb_msg.proofs.HighOctets.{next_octet, no_octet_left}
use Rattle.krb_msg.proofs.notes.scalars.is_any_high.Goals as goal

pub octets-init : goal.octets-init
octets-init c = refl

pub octets-preserved : goal.octets-preserved
octets-preserved c = next_octet c.args.octets.now c.octets.octet-index c.octets.bits c.octets-test.true c.octets.invariant

pub returns : goal.returns
returns c = no_octet_left c.args.octets.now c.octets.octet-index c.octets.bits c.octets-test.false c.octets.invariant
