use Rattle.std.proofs.Common.{true, drop, sym, subst}
use Rattle.std.proofs.lemmas.List.{take_rest}
use Rattle.std.proofs.lemmas.Result.{IfOk-weaker}
use Rattle.krb_frame.specs.Deliveries.{DeliversBefore}
use Rattle.krb_frame.specs.inner.Deliveries.{DeliversNext}
use Rattle.krb_frame.proofs.Deliveries.{next-after, next-part, next-refused, prefix-fed}
use Rattle.krb_frame.proofs.skipping.SkippingDecoder.deliver_fed.Goals as goal

pub returns-in-More : goal.returns-in-More
returns-in-More g c = next-part g.R.Receiver.Receives c.args.keeps_going c.args.self.now c.feed-fed.new.self c.args.piece.now c.feed-fed.result c.args.receiver.now c.feed-fed.ensures c.in-More.is

pub returns-in-Ready : goal.returns-in-Ready
returns-in-Ready g c =
    IfOk-weaker c.deliver_ready.result _ _
    (λ n m. next-after g.R.Receiver.Receives c.args.keeps_going c.args.self.now c.feed-fed.new.self c.deliver_ready.new.self c.args.piece.now (drop c.feed-fed.result.used c.args.piece.now) c.args.receiver.now c.args.receiver.now c.deliver_ready.new.receiver n
    (prefix-fed g.R.Receiver.Receives c.args.keeps_going c.args.self.now c.feed-fed.new.self c.args.piece.now c.feed-fed.result c.args.receiver.now c.feed-fed.ensures)
    (subst (λ l. DeliversNext g.R.Receiver.Receives c.args.keeps_going c.feed-fed.new.self l c.deliver_ready.new.self c.args.receiver.now c.deliver_ready.new.receiver n) (take_rest c.args.piece.now c.feed-fed.result.used) (m c.args.keeps_going)))
    c.deliver_ready.ensures

pub returns-in-Refused : goal.returns-in-Refused
returns-in-Refused g c =
    IfOk-weaker c.deliver_refused.result _ _
    (λ n m. subst (λ k. DeliversNext g.R.Receiver.Receives k c.args.self.now c.args.piece.now c.deliver_refused.new.self c.args.receiver.now c.deliver_refused.new.receiver n) (sym c.if-keeps_going.true)
    (next-after g.R.Receiver.Receives true c.args.self.now c.feed-fed.new.self c.deliver_refused.new.self c.args.piece.now (drop c.feed-fed.result.used c.args.piece.now) c.args.receiver.now c.args.receiver.now c.deliver_refused.new.receiver n
    (prefix-fed g.R.Receiver.Receives true c.args.self.now c.feed-fed.new.self c.args.piece.now c.feed-fed.result c.args.receiver.now c.feed-fed.ensures)
    (subst (λ l. DeliversNext g.R.Receiver.Receives true c.feed-fed.new.self l c.deliver_refused.new.self c.args.receiver.now c.deliver_refused.new.receiver n) (take_rest c.args.piece.now c.feed-fed.result.used) m)))
    c.deliver_refused.ensures

pub returns-in-Refused-2 : goal.returns-in-Refused-2
returns-in-Refused-2 g c =
    subst (λ k. DeliversBefore g.R.Receiver.Receives k c.args.self.now c.args.piece.now c.in-Refused-2.refusal c.feed-fed.new.self c.args.receiver.now c.args.receiver.now) (sym c.if-keeps_going.false)
    (next-refused g.R.Receiver.Receives c.args.self.now c.feed-fed.new.self c.args.piece.now c.feed-fed.result c.in-Refused-2.refusal c.args.receiver.now c.feed-fed.ensures c.in-Refused-2.is)
