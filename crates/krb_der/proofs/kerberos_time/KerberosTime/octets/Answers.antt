use Rattle.krb_der.proofs.Shapes.{ascii-from_time}
use Rattle.krb_der.proofs.kerberos_time.KerberosTime.octets.Goals as goal

pub returns-clause-ascii : goal.returns-clause-ascii
returns-clause-ascii c = ascii-from_time 14 c.self.inside.octets c.self.invariant
