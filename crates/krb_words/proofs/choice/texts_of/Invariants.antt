use Rattle.std.proofs.Common.{◌≡◌, map, string_bytes, take}
use Rattle.krb_words.proofs.choice.texts_of.Given as goal

-- those of the strings so far
abbrev pub invariant-loop-string : goal.invariant-loop-string
invariant-loop-string l = map (λ text. text.now) l.texts.items ≡ map string_bytes (take l.string-index l.strings)
