use Rattle.std.proofs.Common.{◌≡◌, ◌++◌, map, take}
use Rattle.krb_words.specs.Chosen.{file_name}
use Rattle.krb_words.proofs.choice.cells_of.Given as goal

-- those of the words so far
abbrev pub invariant-loop-word : goal.invariant-loop-word
invariant-loop-word l = map (λ cell. cell.now) l.cells.items ≡ file_name l.fn.naming ++ map (λ word. word.now) (take l.word-index l.words)
