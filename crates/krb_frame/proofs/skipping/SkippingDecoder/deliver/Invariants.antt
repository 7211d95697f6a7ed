use Rattle.std.proofs.Common.{◌+◌, length}
use Rattle.krb_frame.specs.Deliveries.{DeliversPrefix, due, status_in}
use Rattle.krb_frame.proofs.skipping.SkippingDecoder.deliver.Given as goal

abbrev pub invariant-frames : goal.invariant-frames
invariant-frames g l = DeliversPrefix g.R.Receiver.Receives l.keeps_going l.initial.self l.piece l.rest l.self l.initial.receiver l.receiver

abbrev pub decreases-frames : goal.decreases-frames
decreases-frames g l = length l.rest + due (status_in l.self)
