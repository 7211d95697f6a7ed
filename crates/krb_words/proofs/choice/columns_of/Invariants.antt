use Rattle.std.proofs.Common.{◌≡◌, ◌++◌, map, take}
use Rattle.krb_words.specs.Chosen.{column_of, file_column}
use Rattle.krb_words.proofs.choice.columns_of.Given as goal

-- those of the names so far
abbrev pub invariant-loop-name : goal.invariant-loop-name
invariant-loop-name l = l.columns.items ≡ file_column l.fn.naming ++ map column_of (take l.name-index l.names)
