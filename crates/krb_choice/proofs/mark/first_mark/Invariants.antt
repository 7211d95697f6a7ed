use Rattle.std.proofs.Common.{◌≡◌, ◌+◌, ◌-◌, ◌≤◌, length, drop}
use Rattle.krb_choice.specs.Marked.{unmarked}
use Rattle.krb_choice.proofs.mark.first_mark.Given as goal

abbrev pub invariant-pieces : goal.invariant-pieces
invariant-pieces l = record { within : l.at ≤ length l.text; same : length (unmarked l.text) ≡ l.at + length (unmarked (drop l.at l.text)) }

abbrev pub decreases-pieces : goal.decreases-pieces
decreases-pieces l = length l.text - l.at

abbrev pub invariant-octets : goal.invariant-octets
invariant-octets l = record { within : l.at ≤ length l.text; same : length (unmarked l.text) ≡ l.at + length (unmarked (drop l.at l.text)) }

abbrev pub decreases-octets : goal.decreases-octets
decreases-octets l = length l.text - l.at
