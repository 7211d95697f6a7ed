use Rattle.std.proofs.Common.{◌≡◌, length}
use Rattle.krb_input.specs.Escapes.{escapes}
use Rattle.krb_input.specs.Readings.{prepend}
use Rattle.krb_input.specs.Comments.{text_left}
use Rattle.krb_input.proofs.escapes.read_escapes.Given as goal

abbrev pub invariant-loop-first : goal.invariant-loop-first
invariant-loop-first l = escapes (text_left l.fn.text) ≡ prepend l.octets.items (escapes (text_left l.rest))

abbrev pub decreases-loop-first : goal.decreases-loop-first
decreases-loop-first l = length (text_left l.rest)
