use Rattle.std.proofs.Common.{length, ap, ◌∙◌}
use Rattle.krb_der.proofs.Shapes.{length-time}
use Rattle.krb_der.proofs.Sizes.{exact-item}
use Rattle.krb_der.proofs.kerberos_time.KerberosTimeDer.size.Goals as goal

pub returns-clause-octets : goal.returns-clause-octets
returns-clause-octets c = exact-item 0x18 _ c.item_size.result c.args.self.now (length-time 14 c.octets.result.now c.octets.ensures.shape ∙ ap length c.octets.ensures.value) c.item_size.ensures
