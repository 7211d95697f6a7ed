use Rattle.std.proofs.Common.{refl, sym, ◌∙◌, ap}
use Rattle.krb_record.proofs.Labels.{ends-after}
use Rattle.krb_tool.specs.MessageLines.{next_line, with_record}
use Rattle.krb_tool.specs.Messages.{input_listing}
use Rattle.krb_tool.proofs.MessageLines.{PutsLine-made, PutsLine-passed}
use Rattle.krb_tool.proofs.lines_run.LineLister.put_line.Goals as goal

pub returns-then-is_passed-clause-put : goal.returns-then-is_passed-clause-put
returns-then-is_passed-clause-put c = PutsLine-passed c.args.self.now (sym c.is_passed.ensures ∙ c.if-is_passed.true)

pub returns-in-Clean-clause-put : goal.returns-in-Clean-clause-put
returns-in-Clean-clause-put c =
    let old = c.args.self.now in
    let shown = (input_listing (next_line old.request.label.now old.request.profile old.seen) c.as_slice.result.now).shown in
    let put = rw c.form.ensures at c.in_ok-ended.ensures.put in
    PutsLine-made old _ c.as_slice.result.now c.in_ok-ended.ended (sym c.is_passed.ensures ∙ c.if-is_passed.false) c.as_slice.ensures.value
    (ends-after old.request.label.now old.text c.begin.new.text c.put.new.text c.end.new.text shown c.in_ok-end.ensures c.in_ok-begin.ensures put.0) put.1
    (ap (λ end. with_record end old.seen) (sym c.in-Clean.is)) refl refl refl

pub returns-in-Refused-clause-put : goal.returns-in-Refused-clause-put
returns-in-Refused-clause-put c =
    let old = c.args.self.now in
    let shown = (input_listing (next_line old.request.label.now old.request.profile old.seen) c.as_slice.result.now).shown in
    let put = rw c.form.ensures at c.in_ok-ended.ensures.put in
    PutsLine-made old _ c.as_slice.result.now c.in_ok-ended.ended (sym c.is_passed.ensures ∙ c.if-is_passed.false) c.as_slice.ensures.value
    (ends-after old.request.label.now old.text c.begin.new.text c.put.new.text c.end.new.text shown c.in_ok-end.ensures c.in_ok-begin.ensures put.0) put.1
    (c.count_refused.ensures ∙ ap (λ end. with_record end old.seen) (sym c.in-Refused.is)) refl refl refl

pub returns-in-RefusedAtOnce-clause-put : goal.returns-in-RefusedAtOnce-clause-put
returns-in-RefusedAtOnce-clause-put c =
    let old = c.args.self.now in
    let shown = (input_listing (next_line old.request.label.now old.request.profile old.seen) c.as_slice.result.now).shown in
    let put = rw c.form.ensures at c.in_ok-ended.ensures.put in
    PutsLine-made old _ c.as_slice.result.now c.in_ok-ended.ended (sym c.is_passed.ensures ∙ c.if-is_passed.false) c.as_slice.ensures.value
    (ends-after old.request.label.now old.text c.begin.new.text c.put.new.text c.end.new.text shown c.in_ok-end.ensures c.in_ok-begin.ensures put.0) put.1
    (c.count_refused-in-RefusedAtOnce.ensures ∙ ap (λ end. with_record end old.seen) (sym c.in-RefusedAtOnce.is)) refl refl refl
