use Rattle.std.proofs.Common.{sym, ◌∙◌, subst}
use Rattle.krb_capture_run.specs.inner.CaptureRuns.{IsCaptureLeft}
use Rattle.krb_capture_run.proofs.CaptureLines.{end_added, packet_added, refusal_added, rest_added}
use Rattle.krb_capture_run.proofs.capture_run.CaptureLinesRecordLines.put_next.Goals as goal

pub returns-in-Some-clause-line : goal.returns-in-Some-clause-line
returns-in-Some-clause-line g c = λ source left is_left.
    let lines = c.args.self.now in
    rest_added lines.label.now lines.packets lines.capture c.go_on.new.self c.in-Some.rest c.in_ok-self.field-0 source left c.args.text.now c.go_on.new.text
    (subst (λ rest. IsCaptureLeft lines.packets lines.capture rest lines.label.now source left) (sym c.take.ensures.value ∙ c.in-Some.is) is_left)
    c.in_ok-self.ensures.listed

pub returns-in_ok-self-in-Ok-Some-clause-line : goal.returns-in_ok-self-in-Ok-Some-clause-line
returns-in_ok-self-in-Ok-Some-clause-line g c = λ source left is_left.
    let lines = c.args.self.now in
    rw c.give_back.ensures (packet_added lines.label.now lines.packets c.next_packet.new.self lines.capture c.take-in-Ok-Some.new.self lines.rest (sym c.take.ensures.value ∙ c.in_default.is) source left c.args.text.now c.take-in-Ok-Some.new.text is_left c.in-Ok-Some.packet c.in_ok-self-in-Ok-Some.field-0
    (rw c.in-Ok-Some.field-0-is at c.in-Ok-Some.ensures.next) (rw c.in-Ok-Some.field-0-is at c.in_ok-self-in-Ok-Some.ensures.listed))

pub returns-in-Ok-None-clause-line : goal.returns-in-Ok-None-clause-line
returns-in-Ok-None-clause-line g c = λ source left is_left.
    let lines = c.args.self.now in
    end_added lines.label.now lines.packets c.next_packet.new.self lines.capture c.put_end.new.capture lines.rest (sym c.take.ensures.value ∙ c.in_default.is) source left c.args.text.now c.put_end.new.text is_left
    (λ left'. IsCaptureLeft c.next_packet.new.self c.put_end.new.capture c.take.new.self lines.label.now source left') c.put_end.result
    (rw c.in-Ok-None.field-0-is at c.in-Ok-None.ensures.next) c.put_end.ensures.put

pub returns-in-Err-clause-line : goal.returns-in-Err-clause-line
returns-in-Err-clause-line g c = λ source left is_left.
    let lines = c.args.self.now in
    refusal_added lines.label.now lines.packets c.next_packet.new.self lines.capture lines.capture lines.rest (sym c.take.ensures.value ∙ c.in_default.is) source left c.args.text.now c.put_fault.new.text is_left
    (λ left'. IsCaptureLeft c.next_packet.new.self c.put_fault.new.capture c.take.new.self lines.label.now source left') c.in-Err.fault c.put_fault.result c.in-Err.ensures.next c.put_fault.ensures.put
