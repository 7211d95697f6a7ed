use Rattle.std.proofs.Common.{refl, ◌∙◌, ap}
use Rattle.std.specs.Prelude.{◌||◌, nat_lt}
use Rattle.krb_capture_run.proofs.DecodedLines.{end_decoded, line_decoded}
use Rattle.krb_capture_run.proofs.decode_run.DecodedLinesRecordLines.put_next.Goals as goal

pub returns-in-None-clause-line : goal.returns-in-None-clause-line
returns-in-None-clause-line g c = λ source left d.
    let was = c.args.self.now in
    let now = c.put_found.new.self in
    line_decoded was.packets now.packets was.capture now.capture was.rest now.rest was.label.now now.label.now was.wanted now.wanted was.has_line c.has_more-self.result source left c.args.text.now c.put_found.new.text c.size-size.result c.size.result c.size-size.ensures.many c.size.ensures.many (c.has_more-self.ensures ∙ ap (λ h. h || nat_lt c.size-size.result c.size.result) c.put_found.ensures.same) d
    (λ base l. rw c.in-None.is at (c.in_ok-ended.ensures.line source base l))

pub returns-in_ok-put_said-in-Some-clause-line : goal.returns-in_ok-put_said-in-Some-clause-line
returns-in_ok-put_said-in-Some-clause-line g c = λ source left d.
    let was = c.args.self.now in
    let now = c.put_found.new.self in
    end_decoded was.packets now.packets was.capture now.capture was.rest now.rest was.label.now now.label.now was.wanted now.wanted was.has_line c.has_more-self.result source left c.args.text.now c.put_found.new.text c.size-size.result c.size.result c.size-size.ensures.many c.size.ensures.many (c.has_more-self.ensures ∙ ap (λ h. h || nat_lt c.size-size.result c.size.result) c.put_found.ensures.same) d
    c.in-Some.end c.in_ok-put_said-in-Some.field-0 c.put_said.new.text
    (λ base l. rw c.in-Some.is at (c.in_ok-ended.ensures.line source base l))
    (λ base l. (rw c.in-Some.is at c.in_ok-ended.ensures.came) refl source base l)
    c.in_ok-put_said-in-Some.ensures.said
