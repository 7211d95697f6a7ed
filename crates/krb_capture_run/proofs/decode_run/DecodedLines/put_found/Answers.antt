use Rattle.std.proofs.Common.{sym, ◌∙◌, subst}
use Rattle.std.proofs.lemmas.Result.{IfOk-weaker}
use Rattle.krb_capture_run.specs.inner.DecodedRuns.{IsFoundLeft}
use Rattle.krb_capture_run.proofs.DecodedLines.{end_came, end_found, next_came, next_found, packet_found, refusal_found, refused_came, rest_found}
use Rattle.krb_capture_run.proofs.decode_run.DecodedLines.put_found.Goals as goal

pub returns-in-Some-clause-line : goal.returns-in-Some-clause-line
returns-in-Some-clause-line g c = λ source left l.
    let lines = c.args.self.now in
    let wanted = c.args.self.now.wanted in
    rest_found lines.label.now source lines.packets lines.capture c.go_on.new.self c.in-Some.rest c.in_ok-self.field-0 wanted left c.args.text.now c.go_on.new.text
    (subst (λ rest. IsFoundLeft lines.packets lines.capture rest lines.label.now wanted source left) (sym c.take.ensures.value ∙ c.in-Some.is) l)
    c.in_ok-self.ensures.listed

pub returns-then-has_come-clause-line : goal.returns-then-has_come-clause-line
returns-then-has_come-clause-line g c = λ source left l.
    let lines = c.args.self.now in
    next_found lines.label.now source lines.packets c.next_packet.new.self lines.capture lines.capture lines.rest (sym c.take.ensures.value ∙ c.in_default.is) c.args.self.now.wanted left c.args.text.now c.args.text.now l c.in-Ok-Some.packet (λ _. Unit {0}) (sym c.has_come.ensures ∙ c.if-has_come.true)
    (rw c.in-Ok-Some.field-0-is at c.in-Ok-Some.ensures.next)

pub returns-then-has_come-clause-came : goal.returns-then-has_come-clause-came
returns-then-has_come-clause-came g c = λ some source left l.
    let lines = c.args.self.now in
    next_came lines.label.now source lines.packets c.next_packet.new.self lines.capture lines.capture lines.rest (sym c.take.ensures.value ∙ c.in_default.is) c.args.self.now.wanted left c.args.text.now c.args.text.now l c.in-Ok-Some.packet (sym c.has_come.ensures ∙ c.if-has_come.true)
    (rw c.in-Ok-Some.field-0-is at c.in-Ok-Some.ensures.next)

pub returns-in_ok-self-in-Ok-Some-clause-line : goal.returns-in_ok-self-in-Ok-Some-clause-line
returns-in_ok-self-in-Ok-Some-clause-line g c = λ source left l.
    let lines = c.args.self.now in
    rw c.after_packet-self.ensures
    rw c.give_back.ensures
    (packet_found lines.label.now source lines.packets c.next_packet.new.self lines.capture c.take-in-Ok-Some.new.self lines.rest (sym c.take.ensures.value ∙ c.in_default.is) c.args.self.now.wanted left c.args.text.now c.take-in-Ok-Some.new.text l c.in-Ok-Some.packet c.in_ok-self-in-Ok-Some.field-0 (sym c.has_come.ensures ∙ c.if-has_come.false)
    (rw c.in-Ok-Some.field-0-is at c.in-Ok-Some.ensures.next) (rw c.in-Ok-Some.field-0-is at c.in_ok-self-in-Ok-Some.ensures.listed))

pub returns-in-Ok-None-clause-line : goal.returns-in-Ok-None-clause-line
returns-in-Ok-None-clause-line g c = λ source left l.
    let lines = c.args.self.now in
    end_found lines.label.now source lines.packets c.next_packet.new.self lines.capture c.put_end.new.capture lines.rest (sym c.take.ensures.value ∙ c.in_default.is) c.args.self.now.wanted left c.args.text.now c.put_end.new.text l
    (λ left'. IsFoundLeft c.next_packet.new.self c.put_end.new.capture c.take.new.self lines.label.now c.args.self.now.wanted source left') c.put_end.result
    (rw c.in-Ok-None.field-0-is at c.in-Ok-None.ensures.next) c.put_end.ensures.put

pub returns-in-Ok-None-clause-came : goal.returns-in-Ok-None-clause-came
returns-in-Ok-None-clause-came g c = IfOk-weaker c.put_end.result _ _
    (λ ended adds some source left l.
    let lines = c.args.self.now in
    end_came lines.label.now source lines.packets c.next_packet.new.self lines.capture c.put_end.new.capture lines.rest (sym c.take.ensures.value ∙ c.in_default.is) c.args.self.now.wanted left c.args.text.now c.put_end.new.text l (rw c.in-Ok-None.field-0-is at c.in-Ok-None.ensures.next))
    c.put_end.ensures.put

pub returns-in-Err-clause-line : goal.returns-in-Err-clause-line
returns-in-Err-clause-line g c = λ source left l.
    let lines = c.args.self.now in
    refusal_found lines.label.now source lines.packets c.next_packet.new.self lines.capture lines.capture lines.rest (sym c.take.ensures.value ∙ c.in_default.is) c.args.self.now.wanted left c.args.text.now c.put_fault.new.text l
    (λ left'. IsFoundLeft c.next_packet.new.self c.put_fault.new.capture c.take.new.self lines.label.now c.args.self.now.wanted source left') c.in-Err.fault c.put_fault.result c.in-Err.ensures.next c.put_fault.ensures.put

pub returns-in-Err-clause-came : goal.returns-in-Err-clause-came
returns-in-Err-clause-came g c = IfOk-weaker c.put_fault.result _ _
    (λ ended adds some source left l.
    let lines = c.args.self.now in
    refused_came lines.label.now source lines.packets c.next_packet.new.self lines.capture lines.capture lines.rest (sym c.take.ensures.value ∙ c.in_default.is) c.args.self.now.wanted left c.args.text.now c.put_fault.new.text l c.in-Err.fault ended c.in-Err.ensures.next adds)
    c.put_fault.ensures.put
