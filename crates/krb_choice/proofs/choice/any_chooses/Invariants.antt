use Rattle.std.proofs.Common.{◌≡◌, take}
use Rattle.std.specs.List.{list_any}
use Rattle.krb_choice.specs.Choices.{chooses}
use Rattle.krb_choice.proofs.choice.any_chooses.Given as goal

-- one of the columns so far
abbrev pub invariant-loop-column : goal.invariant-loop-column
invariant-loop-column l = l.chooses ≡ list_any chooses (take l.column-index l.columns)
