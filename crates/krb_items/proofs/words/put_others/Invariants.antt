use Rattle.std.proofs.Common.{◌≡◌, ◌++◌, codes, take}
use Rattle.std.specs.List.{flat_map}
use Rattle.krb_items.proofs.words.put_others.Given as goal

-- the commas and words so far
abbrev pub invariant-loop-word : goal.invariant-loop-word
invariant-loop-word g l = l.out ≡ l.initial.out ++ flat_map (λ word. codes "," ++ g.W.Word.text word) (take l.word-index l.words)
