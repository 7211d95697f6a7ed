use Rattle.std.proofs.Common.{◌≡◌, ◌++◌, take}
use Rattle.std.specs.List.{flat_map}
use Rattle.krb_record.specs.Forms.{json_character}
use Rattle.krb_record.proofs.json.put_each_character.Given as goal

-- the characters so far
abbrev pub invariant-loop-character : goal.invariant-loop-character
invariant-loop-character l = l.object ≡ l.initial.object ++ flat_map json_character (take l.character-index l.text)
