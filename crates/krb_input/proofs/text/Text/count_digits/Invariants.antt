use Rattle.std.proofs.Common.{◌≡◌, ◌+◌, length}
use Rattle.krb_input.specs.Characters.{count_digits}
use Rattle.krb_input.specs.Comments.{text_left}
use Rattle.krb_input.proofs.text.Text.count_digits.Given as goal

abbrev pub invariant-loop-octet : goal.invariant-loop-octet
invariant-loop-octet l = (count_digits (text_left l.fn.self) ≡ l.count + count_digits (text_left l.rest)) × (length (text_left l.fn.self) ≡ l.count + length (text_left l.rest))

abbrev pub decreases-loop-octet : goal.decreases-loop-octet
decreases-loop-octet l = length (text_left l.rest)
