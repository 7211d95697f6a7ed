use Rattle.std.proofs.Common.{rules, refl}
use Rattle.std.proofs.lemmas.Result.{IfOk-weaker}
use Rattle.krb_capture.proofs.Following.{lists-rest, same-text}
use Rattle.krb_capture.proofs.capture.Capture.go_on.Goals as goal

pub returns-clause-listed : goal.returns-clause-listed
returns-clause-listed c = IfOk-weaker c.go_on_with-gone.result _ _
    (λ next k settings progress left h.
    let f = rw c.take-happened.ensures.value at (k settings.limit progress.table left h.table) in
    let same = same-text f.listed _ _ f.written in
    lists-rest c.args.self.now _ settings progress c.args.rest next left c.args.text.now _ _ c.go_on_with-gone.new.listing h f (record { label = refl; counts = c.into_parts-happened.ensures.counts; happened = c.into_parts-happened.ensures.happened; is = search rules }) refl refl refl refl)
    c.go_on_with-gone.ensures
