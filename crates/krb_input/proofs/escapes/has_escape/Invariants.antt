use Rattle.std.proofs.Common.{◌≡◌, length}
use Rattle.krb_input.specs.Escapes.{has_escape}
use Rattle.krb_input.specs.Comments.{text_left}
use Rattle.krb_input.proofs.escapes.has_escape.Given as goal

abbrev pub invariant-loop-octet : goal.invariant-loop-octet
invariant-loop-octet l = has_escape (text_left l.fn.text) ≡ has_escape (text_left l.rest)

abbrev pub decreases-loop-octet : goal.decreases-loop-octet
decreases-loop-octet l = length (text_left l.rest)
