use Rattle.std.proofs.Common.{◌≡◌, ◌++◌, map, string_bytes, take}
use Rattle.krb_record.specs.FileNames.{name_text}
use Rattle.krb_words.proofs.names.put_shown.Given as goal

-- the texts of the words so far are there
abbrev pub invariant-loop-word : goal.invariant-loop-word
invariant-loop-word l = map string_bytes l.texts.items ≡ map string_bytes l.initial.texts.items ++ map (λ word. name_text word.items) (take l.word-index l.words)
