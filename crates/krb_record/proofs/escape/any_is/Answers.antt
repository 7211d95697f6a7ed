use Rattle.std.proofs.Common.{nat_eq}
use Rattle.krb_der.proofs.Lanes.{any_lane}
use Rattle.krb_record.proofs.escape.any_is.Goals as goal

pub returns : goal.returns
returns g c = any_lane nat_eq g.row.N c.args.octets c.args.octet c.requires.count c.requires.few
