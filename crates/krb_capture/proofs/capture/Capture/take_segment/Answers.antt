use Rattle.std.proofs.Common.{rules, refl, sym, ◌∙◌}
use Rattle.std.proofs.lemmas.Result.{IfOk-weaker}
use Rattle.krb_capture.proofs.Following.{same-text, segment-lists}
use Rattle.krb_capture.proofs.capture.Capture.take_segment.Goals as goal

pub returns : goal.returns
returns c = IfOk-weaker c.take_listed-left.result _ _
    (λ rest k settings progress h.
    let f = rw c.take-happened.ensures.value at (k settings.limit progress.table h.table) in
    let same = same-text f.listed _ _ f.written in
    segment-lists c.args.self.now _ settings progress c.in-Some.service c.args.segment.now rest c.args.text.now _ _ c.take_listed-left.new.listing h (sym c.between.ensures ∙ c.in-Some.is) f (record { label = refl; counts = c.into_parts-happened.ensures.counts; happened = c.into_parts-happened.ensures.happened; is = search rules }) refl refl refl refl)
    c.take_listed-left.ensures
