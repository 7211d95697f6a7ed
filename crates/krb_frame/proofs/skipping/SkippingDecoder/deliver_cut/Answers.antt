use Rattle.std.proofs.Common.{subst}
use Rattle.std.proofs.lemmas.List.{take_rest}
use Rattle.std.proofs.lemmas.Result.{IfOk-weaker}
use Rattle.krb_frame.specs.inner.Deliveries.{CompletesEntry}
use Rattle.krb_frame.proofs.Deliveries.{frame-first, next-after}
use Rattle.krb_frame.proofs.skipping.SkippingDecoder.deliver_cut.Goals as goal

pub returns-in-Some : goal.returns-in-Some
returns-in-Some g c =
    let e = subst (CompletesEntry g.R.Receiver.Receives c.args.self.now c.args.piece.now c.complete.new.self c.args.receiver.now c.complete.new.receiver) c.in-Some.is c.in_ok-completed.ensures in
    rw (take_rest c.args.piece.now c.in-Some.used)
    (frame-first g.R.Receiver.Receives c.args.keeps_going c.args.self.now c.complete.new.self c.args.piece.now c.in-Some.used c.args.receiver.now c.complete.new.receiver (e.1 c.args.keeps_going))

pub returns-in-None : goal.returns-in-None
returns-in-None g c =
    let e = subst (CompletesEntry g.R.Receiver.Receives c.args.self.now c.args.piece.now c.complete.new.self c.args.receiver.now c.complete.new.receiver) c.in-None.is c.in_ok-completed.ensures in
    IfOk-weaker c.deliver_fed.result _ _
    (λ n m. next-after g.R.Receiver.Receives c.args.keeps_going c.args.self.now c.complete.new.self c.deliver_fed.new.self c.args.piece.now c.args.piece.now c.args.receiver.now c.complete.new.receiver c.deliver_fed.new.receiver n (e c.args.keeps_going) m)
    c.deliver_fed.ensures
