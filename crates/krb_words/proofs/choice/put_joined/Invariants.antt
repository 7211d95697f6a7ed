use Rattle.std.proofs.Common.{◌≡◌, ◌++◌, [], drop, map, string_bytes}
use denote.Shadow.{shadow}
use denote.Text.{Utf8}
use Rattle.krb_record.specs.Text.{joined}
use Rattle.krb_words.proofs.Joined.{rest_text}
use Rattle.krb_words.proofs.choice.put_joined.Given as goal

-- the text with what follows is the text with all
abbrev pub invariant-loop-word : goal.invariant-loop-word
invariant-loop-word l =
    (string_bytes l.text ++ rest_text l.separator l.before (map (λ word. word.now) (drop l.word-index l.words))
    ≡ string_bytes l.initial.text ++ joined [] l.separator (λ word. word) (map (λ word. word.now) l.words))
    × shadow (Utf8 l.before)
