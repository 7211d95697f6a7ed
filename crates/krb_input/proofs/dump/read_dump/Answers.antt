use Rattle.std.proofs.Common.{◌≡◌, Ok, false, length, ap, sym, ◌∙◌, subst}
use Rattle.krb_input.specs.Dumps.{dump, dump_from, line, lines}
use Rattle.krb_input.specs.Readings.{prepend}
use Rattle.krb_input.specs.inner.Results.{AppendsLine, IsFault, lines_after, lines_of}
use Rattle.krb_input.proofs.DumpLines.{dump_octets, dump_fault_of}
use Rattle.krb_input.proofs.dump.read_dump.Goals as goal

pub returns-in-Err-clause-fault : goal.returns-in-Err-clause-fault
returns-in-Err-clause-fault c =
    let here : dump c.args.text.now ≡ prepend c.loop-rest.octets.items (dump_from (length c.loop-rest.octets.items) (lines c.in-Some.text.now)) = c.loop-rest.invariant ∙ ap (λ r. prepend c.loop-rest.octets.items (dump_from (length c.loop-rest.octets.items) (lines_of r))) c.in-Some.is in
    subst (λ r. IsFault r c.before-in-Err.result) (sym (here ∙ ap (λ ls. prepend c.loop-rest.octets.items (dump_from (length c.loop-rest.octets.items) ls)) c.split_line.ensures.lines))
    (dump_fault_of c.loop-rest.octets.items c.split_line.result.0.now c.split_line.result.1.now (lines_after c.split_line.result.1.now) c.in-Err.fault c.before-in-Err.result c.in-Err.ensures c.before-in-Err.ensures)

pub loop-rest-preserved : goal.loop-rest-preserved
loop-rest-preserved c =
    let here : dump c.args.text.now ≡ prepend c.loop-rest.octets.items (dump_from (length c.loop-rest.octets.items) (lines c.in-Some.text.now)) = c.loop-rest.invariant ∙ ap (λ r. prepend c.loop-rest.octets.items (dump_from (length c.loop-rest.octets.items) (lines_of r))) c.in-Some.is in
    let appended : AppendsLine (line (length c.loop-rest.octets.items) c.split_line.result.0.now) c.loop-rest.octets.items c.append_line.new.octets.items (Ok false) =
    subst (λ last. AppendsLine (line (length c.loop-rest.octets.items) c.split_line.result.0.now) c.loop-rest.octets.items c.append_line.new.octets.items (Ok last)) c.if-is_last.false c.in-Ok.ensures in
    here
    ∙ ap (λ ls. prepend c.loop-rest.octets.items (dump_from (length c.loop-rest.octets.items) ls)) c.split_line.ensures.lines
    ∙ dump_octets c.loop-rest.octets.items c.append_line.new.octets.items c.split_line.result.0.now c.split_line.result.1.now (lines_after c.split_line.result.1.now) appended
    ∙ ap (λ ls. prepend c.append_line.new.octets.items (dump_from (length c.append_line.new.octets.items) ls)) (sym c.after_line-rest.ensures.lines)
