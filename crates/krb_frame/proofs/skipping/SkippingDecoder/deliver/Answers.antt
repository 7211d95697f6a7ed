use Rattle.std.proofs.Common.{subst}
use Rattle.krb_frame.specs.inner.Deliveries.{DeliversNext}
use Rattle.krb_frame.proofs.Deliveries.{prefix-frame, prefix-start, smaller, stopped, up-to, up-to_part}
use Rattle.krb_frame.proofs.skipping.SkippingDecoder.deliver.Goals as goal

pub frames-init : goal.frames-init
frames-init g c = prefix-start g.R.Receiver.Receives c.args.keeps_going c.args.self.now c.args.piece.now c.args.receiver.now

pub frames-preserved : goal.frames-preserved
frames-preserved g c =
    let r = g.R.Receiver.Receives in
    let k = c.args.keeps_going in
    prefix-frame r k c.args.self.now c.frames.self c.deliver_next.new.self c.args.piece.now c.frames.rest.now c.in-Frame.after.now c.args.receiver.now c.frames.receiver c.deliver_next.new.receiver c.frames.invariant
    (subst (DeliversNext r k c.frames.self c.frames.rest.now c.deliver_next.new.self c.frames.receiver c.deliver_next.new.receiver) c.in-Frame.is c.in_ok-next.ensures)

pub frames-smaller : goal.frames-smaller
frames-smaller g c =
    let r = g.R.Receiver.Receives in
    let k = c.args.keeps_going in
    smaller r k c.frames.self c.deliver_next.new.self c.frames.rest.now c.in-Frame.after.now c.frames.receiver c.deliver_next.new.receiver
    (subst (DeliversNext r k c.frames.self c.frames.rest.now c.deliver_next.new.self c.frames.receiver c.deliver_next.new.receiver) c.in-Frame.is c.in_ok-next.ensures)

pub returns-then-is_full : goal.returns-then-is_full
returns-then-is_full g c =
    let r = g.R.Receiver.Receives in
    let k = c.args.keeps_going in
    up-to r g.R.Receiver.IsFull k c.args.self.now c.frames.self c.deliver_next.new.self c.args.piece.now c.frames.rest.now c.in-Frame.after.now c.args.receiver.now c.frames.receiver c.deliver_next.new.receiver c.frames.invariant
    (subst (DeliversNext r k c.frames.self c.frames.rest.now c.deliver_next.new.self c.frames.receiver c.deliver_next.new.receiver) c.in-Frame.is c.in_ok-next.ensures)
    (c.is_full.ensures.0 c.if-is_full.true)

pub returns-in-Part : goal.returns-in-Part
returns-in-Part g c =
    let r = g.R.Receiver.Receives in
    let k = c.args.keeps_going in
    up-to_part r g.R.Receiver.IsFull k c.args.self.now c.frames.self c.deliver_next.new.self c.args.piece.now c.frames.rest.now c.args.receiver.now c.frames.receiver c.deliver_next.new.receiver c.frames.invariant
    (subst (DeliversNext r k c.frames.self c.frames.rest.now c.deliver_next.new.self c.frames.receiver c.deliver_next.new.receiver) c.in-Part.is c.in_ok-next.ensures)

pub returns-in-Stopped : goal.returns-in-Stopped
returns-in-Stopped g c =
    let r = g.R.Receiver.Receives in
    let k = c.args.keeps_going in
    stopped r k c.args.self.now c.frames.self c.deliver_next.new.self c.args.piece.now c.frames.rest.now c.in-Stopped.refusal c.args.receiver.now c.frames.receiver c.deliver_next.new.receiver c.frames.invariant
    (subst (DeliversNext r k c.frames.self c.frames.rest.now c.deliver_next.new.self c.frames.receiver c.deliver_next.new.receiver) c.in-Stopped.is c.in_ok-next.ensures)
