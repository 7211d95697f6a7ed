use Rattle.std.proofs.Common.{◌≡◌, ◌++◌, map, take}
use Rattle.krb_words.specs.Sources.{place_of, word_place}
use Rattle.krb_words.proofs.sources.put_words.Given as goal

-- the sources of the words so far are there
abbrev pub invariant-loop-word : goal.invariant-loop-word
invariant-loop-word l = map place_of l.sources.items ≡ map place_of l.initial.sources.items ++ map (λ word. word_place l.command word.now) (take l.word-index l.words)
