use Rattle.std.proofs.Common.{length, take, arith, length-take}
use Rattle.krb_flow.proofs.Runs.{free_fewer}
use Rattle.krb_flow.proofs.waiting.keep_first.Goals as goal

pub put-requires-clause-free : goal.put-requires-clause-free
put-requires-clause-free c = free_fewer c.args.place c.in-Free.count (length (take c.min-seen.result c.args.octets.now)) c.args.runs.now.entries (omega (arith, length-take c.min-seen.result c.args.octets.now)) c.in-Free.ensures.1
