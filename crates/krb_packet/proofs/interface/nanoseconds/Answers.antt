use Rattle.std.proofs.Common.{arith}
use Rattle.krb_packet.proofs.Clocks.{second_positive}
use Rattle.krb_packet.proofs.interface.nanoseconds.Goals as goal

pub nonzero_div-result : goal.nonzero_div-result
nonzero_div-result c = omega (arith, second_positive c.args.resolution, c.in-Some.ensures.1)
