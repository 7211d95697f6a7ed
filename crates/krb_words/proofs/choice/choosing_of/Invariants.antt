use Rattle.std.proofs.Common.{◌≡◌, take}
use Rattle.std.specs.List.{filter}
use Rattle.krb_fields.specs.Names.{chooses}
use Rattle.krb_words.proofs.choice.choosing_of.Given as goal

-- those of the names so far
abbrev pub invariant-loop-name : goal.invariant-loop-name
invariant-loop-name l = l.choosing.items ≡ filter (chooses l.listings) (take l.name-index l.names)
