use Rattle.std.proofs.Common.{nat_lt}
use Rattle.krb_der.proofs.Lanes.{any_lane_right}
use Rattle.krb_msg.proofs.notes.scalars.is_one_high.Goals as goal

pub returns : goal.returns
returns g c = any_lane_right nat_lt g.row.N c.args.octets 0x7F c.requires.count c.requires.few
