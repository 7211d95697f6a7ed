use Rattle.std.proofs.Common.{◌≡◌, length, true}
use Rattle.krb_input.specs.Tokens.{tokens}
use Rattle.krb_input.specs.Readings.{prepend}
use Rattle.krb_input.specs.Comments.{text_left}
use Rattle.krb_input.proofs.tokens.read_tokens.Given as goal

abbrev pub invariant-loop-first : goal.invariant-loop-first
invariant-loop-first l = tokens true (text_left l.fn.text) ≡ prepend l.octets.items (tokens l.begins (text_left l.rest))

abbrev pub decreases-loop-first : goal.decreases-loop-first
decreases-loop-first l = length (text_left l.rest)
