use Rattle.std.proofs.Common.{◌≡◌, refl, arith}
use Rattle.std.proofs.lemmas.Result.{IfOk-weaker}
use Rattle.krb_frame.proofs.Deliveries.{completes-entry, prefix-start}
use Rattle.krb_frame.proofs.skipping.SkippingDecoder.complete.Goals as goal

pub returns-then-self-ne0 : goal.returns-then-self-ne0
returns-then-self-ne0 g c = λ keeps_going. prefix-start g.R.Receiver.Receives keeps_going c.args.self.now c.args.piece.now c.args.receiver.now

pub returns : goal.returns
returns g c =
    let d = c.self.inside in
    let none : d.skipped ≡ 0 = omega arith in
    rw (← c.self.view_is)
    (IfOk-weaker c.complete.result _ _ (λ used e. completes-entry g.R.Receiver.Receives (record { current = d.decoder; skipped = d.skipped }) (record { current = c.complete.new.self; skipped = d.skipped }) c.args.piece.now c.args.receiver.now c.complete.new.receiver used none refl e) c.complete.ensures)
