use Rattle.std.proofs.Common.{◌++◌, [], ◌∷◌, sym, subst}
use Rattle.krb_scan.specs.Scanned.{Marks}
use Rattle.krb_scan.specs.State.{AreMarks}
use Rattle.krb_scan.proofs.MarkSteps.{kept_marks, event_marks, length_more, on_err}
use Rattle.krb_scan.proofs.scanner.mark.Goals as goal

pub returns-in-Refused-clause-ok : goal.returns-in-Refused-clause-ok
returns-in-Refused-clause-ok c = λ profile n octets at.
    subst (AreMarks c.args.marks.now.items) (sym (kept_marks c.args.machine.now n octets c.args.octet c.peek.result _ at.scanned c.requires (c.peek.ensures profile n octets at.scanned) c.in-Refused.is)) at.marks

pub returns-clause-ok : goal.returns-clause-ok
returns-clause-ok c = λ profile n octets at.
    c.change.ensures.ok (Marks profile n octets) (Marks profile n (octets ++ c.args.octet ∷ [])) at.marks
    (event_marks c.args.machine.now c.event.result n octets c.args.octet c.peek.result at.scanned c.requires (c.peek.ensures profile n octets at.scanned) c.in_default.not-Refused (c.event.ensures profile n octets at.scanned))

pub returns-clause-ends : goal.returns-clause-ends
returns-clause-ends c = λ profile n octets at.
    on_err c.change.result (λ is. length_more c.event.result (Marks profile n octets) (Marks profile n (octets ++ c.args.octet ∷ [])) is
    (event_marks c.args.machine.now c.event.result n octets c.args.octet c.peek.result at.scanned c.requires (c.peek.ensures profile n octets at.scanned) c.in_default.not-Refused (c.event.ensures profile n octets at.scanned))) c.change.ensures.err
