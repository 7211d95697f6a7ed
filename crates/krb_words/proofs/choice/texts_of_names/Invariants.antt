use Rattle.std.proofs.Common.{◌≡◌, map, string_bytes, take}
use Rattle.krb_fields.specs.Names.{name_text}
use Rattle.krb_words.proofs.choice.texts_of_names.Given as goal

-- those of the names so far
abbrev pub invariant-loop-name : goal.invariant-loop-name
invariant-loop-name l = map string_bytes l.texts.items ≡ map name_text (take l.name-index l.names)
