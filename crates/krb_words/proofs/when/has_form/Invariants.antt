use Rattle.std.proofs.Common.{◌≡◌, length}
use Rattle.krb_words.specs.Times.{has_form}
use Rattle.krb_words.proofs.when.has_form.Given as goal

-- what is left is of the form that is left
abbrev pub invariant-loop-places : goal.invariant-loop-places
invariant-loop-places l = has_form l.fn.form l.fn.text ≡ has_form l.places l.octets

abbrev pub decreases-loop-places : goal.decreases-loop-places
decreases-loop-places l = length l.places
