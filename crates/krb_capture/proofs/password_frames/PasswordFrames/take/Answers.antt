use Rattle.std.proofs.Common.{arith, length-drop}
use Rattle.krb_capture.proofs.Octets.{takes-next, takes-nothing}
use Rattle.krb_capture.proofs.password_frames.PasswordFrames.take.Goals as goal

pub loop-count-init : goal.loop-count-init
loop-count-init c = (omega arith, takes-nothing c.args.self.now c.args.origin.now c.args.listing.now)

pub loop-count-preserved : goal.loop-count-preserved
loop-count-preserved c = (
  omega (arith, c.in_ok-count.ensures.some, length-drop c.loop-count.count c.args.octets.now),
  takes-next c.args.self.now c.loop-count.self c.take_some.new.self c.args.octets.now c.loop-count.count c.in_ok-count.field-0 c.args.origin.now c.args.listing.now c.loop-count.listing c.take_some.new.listing c.loop-count.invariant.1 c.in_ok-count.ensures.took,
)
