use Rattle.std.proofs.Common.{arith}
use Rattle.std.proofs.lemmas.List.{take_at}
use Rattle.krb_frame.proofs.contents.deliver_contents.Goals as goal

pub returns-clause-same : goal.returns-clause-same
returns-clause-same g c = rw (c.truncate.ensures.items, c.in_ok-extend_from_slice.ensures.items) (take_at c.args.contents.now.items c.args.octets.now c.len-before.result (omega arith))

pub returns-clause-delivered : goal.returns-clause-delivered
returns-clause-delivered g c = rw (c.as_slice.ensures.value, c.in_ok-extend_from_slice.ensures.items) at c.receive_contents-received.ensures
