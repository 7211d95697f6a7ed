use Rattle.std.proofs.Common.{rules, not, refl, sym, ◌∙◌, ap}
use Rattle.std.specs.Prelude.{is_some}
use Rattle.krb_capture.specs.Flows.{origin_of}
use Rattle.krb_capture.proofs.Following.{error-lists, error-passed}
use Rattle.krb_capture.proofs.Written.{on_ok-map}
use Rattle.krb_capture.proofs.capture.Capture.take_error.Goals as goal

pub returns-then-is_none : goal.returns-then-is_none
returns-then-is_none c = λ settings progress h.
    error-passed c.args.self.now settings progress c.args.error.now c.args.text.now h (sym (ap is_some c.between.ensures) ∙ c.is_none.ensures ∙ ap not c.if-is_none.true)

pub returns : goal.returns
returns c = on_ok-map c.put_error-listed.result
    (λ k settings progress h.
    let ends = c.args.error.now.ends in
    let listed = rw c.take-happened.ensures.value at k in
    let same = ap (λ w. w.text_name) listed in
    error-lists c.args.self.now _ settings progress c.args.error.now c.failure_of.result c.over-origin.result c.args.text.now _ _ c.put_error-listed.new.self h (sym (ap is_some c.between.ensures) ∙ c.is_none.ensures ∙ ap not c.if-is_none.false) (c.over-origin.ensures ∙ ap (λ x. origin_of c.args.self.now.last x ends.source ends.target) c.quoted_transport-transport.ensures) c.failure_of.ensures listed (record { label = refl; counts = c.into_parts-happened.ensures.counts; happened = c.into_parts-happened.ensures.happened; is = search rules }) refl refl refl refl refl)
    c.put_error-listed.ensures
