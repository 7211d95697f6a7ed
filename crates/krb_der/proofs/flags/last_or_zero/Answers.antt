use Rattle.std.proofs.Common.{arith}
use Rattle.krb_der.proofs.Shapes.{last_octet}
use Rattle.krb_der.proofs.flags.last_or_zero.Goals as goal

pub returns-in-len1-up : goal.returns-in-len1-up
returns-in-len1-up c = last_octet c.args.octets.now (omega arith)
