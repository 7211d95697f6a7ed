use Rattle.std.proofs.Common.{nat_lt}
use Rattle.krb_der.proofs.Lanes.{any_lane}
use Rattle.krb_record.proofs.escape.any_is_less.Goals as goal

pub returns : goal.returns
returns g c = any_lane nat_lt g.row.N c.args.octets c.args.octet c.requires.count c.requires.few
