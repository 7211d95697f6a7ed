use Rattle.std.proofs.Common.{◌≡◌, ◌+◌, length}
use Rattle.krb_input.specs.Characters.{length_before}
use Rattle.krb_input.specs.Comments.{text_left}
use Rattle.krb_input.proofs.text.Text.length_before.Given as goal

abbrev pub invariant-loop-first : goal.invariant-loop-first
invariant-loop-first l = (length_before l.fn.octet (text_left l.fn.self) ≡ l.count + length_before l.fn.octet (text_left l.rest)) × (length (text_left l.fn.self) ≡ l.count + length (text_left l.rest))

abbrev pub decreases-loop-first : goal.decreases-loop-first
decreases-loop-first l = length (text_left l.rest)
