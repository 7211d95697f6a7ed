use Rattle.std.proofs.Common.{◌≡◌, ◌++◌, length}
use Rattle.krb_words.specs.Names.{named}
use Rattle.krb_words.proofs.names.named.Given as goal

-- the name so far, and what the rest of the text shows
abbrev pub invariant-loop-rest : goal.invariant-loop-rest
invariant-loop-rest l = named l.fn.text ≡ l.name.items ++ named l.rest

abbrev pub decreases-loop-rest : goal.decreases-loop-rest
decreases-loop-rest l = length l.rest
