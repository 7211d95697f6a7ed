use Rattle.std.proofs.Common.{◌+◌, ◌++◌, length, refl, sym, ◌∙◌, ap, arith}
use Rattle.krb_json.specs.Reading.{line_fault_of}
use Rattle.krb_convert.specs.Encoding.{line_spelled, written_as}
use Rattle.krb_convert.proofs.EncodedLines.{faulty, fault-step, message-step, read-step, takes-fault, takes-message}
use Rattle.krb_convert.proofs.json_reader.JsonReader.add_message.Goals as goal

pub put_message-requires : goal.put_message-requires
put_message-requires c = omega (arith, c.in-Ok.ensures.short, ap length c.as_slice-in-Ok.ensures.value)

pub returns-in_ok-put_message-in-Ok-clause-taken : goal.returns-in_ok-put_message-in-Ok-clause-taken
returns-in_ok-put_message-in-Ok-clause-taken c =
    let old = c.args.self.now in
    let request = old.request in
    let number = old.lines + 1 in
    takes-message old _ (written_as request.is_framed c.in-Ok.octets.items) c.requires.open refl
    (c.in_ok-put_message-in-Ok.ensures ∙ ap (λ o. old.text.items ++ written_as request.is_framed o) c.as_slice-in-Ok.ensures.value)
    refl refl
    (λ more.
    read-step request number old.came old.line.items more c.requires.short c.requires.some c.requires.next
    ∙ message-step request.is_framed number (line_spelled request.is_framed request.profile request.limit old.line.items) c.in-Ok.octets.items _
    (ap (line_spelled request.is_framed request.profile request.limit) (sym c.as_slice.ensures.value) ∙ c.in-Ok.ensures.octets))

pub returns-in_ok-fault-in-Err-clause-taken : goal.returns-in_ok-fault-in-Err-clause-taken
returns-in_ok-fault-in-Err-clause-taken c =
    let old = c.args.self.now in
    let request = old.request in
    let number = old.lines + 1 in
    let found = c.in_ok-fault-in-Err.ensures.found in
    let fault = rw c.as_slice.ensures.value at c.in-Err.ensures.fault in
    takes-fault old _ _ refl (λ x. x) refl refl refl
    (λ more.
    read-step request number old.came old.line.items more c.requires.short c.requires.some c.requires.next
    ∙ fault-step request.is_framed number (line_spelled request.is_framed request.profile request.limit old.line.items) (line_fault_of c.in-Err.fault) _ found.some fault
    ∙ ap (λ f. faulty number (line_fault_of f)) (sym found.same))
