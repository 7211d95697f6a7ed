use Rattle.std.proofs.Common.{◌≡◌, drop, map, take}
use Rattle.krb_fields.specs.Names.{all_kinds}
use Rattle.krb_words.specs.Chosen.{first_unknown}
use Rattle.krb_words.proofs.choice.kinds_of.Given as goal

-- those of the words so far, of which none is unknown
abbrev pub invariant-loop-word : goal.invariant-loop-word
invariant-loop-word l =
    (map (λ kind. kind.now) l.kinds.items ≡ map (λ word. word.now) (take l.word-index l.word-items))
    × (first_unknown (all_kinds l.listings) (map (λ word. word.now) (drop l.word-index l.word-items)) ≡ first_unknown (all_kinds l.listings) (map (λ word. word.now) l.word-items))
