use Rattle.std.proofs.Common.{rules, refl, ◌∙◌, ap}
use Rattle.krb_capture.specs.Captures.{over_tcp}
use Rattle.krb_capture.specs.Directions.{last_of}
use Rattle.krb_capture.proofs.Following.{directions-ended}
use Rattle.krb_capture.proofs.Written.{name-each, on_ok-map}
use Rattle.krb_capture.proofs.capture.Capture.end_directions.Goals as goal

pub returns : goal.returns
returns c = on_ok-map c.finish-ended.result
    (λ k settings progress h.
    let e = rw c.take-happened.ensures.value at (k settings.limit progress.table h.table) in
    let same = ap (λ w. w.text_name) e.same ∙ name-each (over_tcp c.args.self.now.last (last_of settings.limit progress.table.active)) _ in
    directions-ended c.args.self.now _ settings progress c.args.text.now _ _ c.finish-ended.new.listing h e (record { label = refl; counts = c.into_parts-happened.ensures.counts; happened = c.into_parts-happened.ensures.happened; is = search rules }) refl)
    c.finish-ended.ensures
