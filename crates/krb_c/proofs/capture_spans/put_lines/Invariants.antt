use Rattle.krb_c.specs.inner.Within.{AddsWithin}
use Rattle.krb_c.proofs.capture_spans.put_lines.Given as goal

-- the lines so far
abbrev pub invariant-lines : goal.invariant-lines
invariant-lines l = AddsWithin l.all l.initial.spans l.spans
