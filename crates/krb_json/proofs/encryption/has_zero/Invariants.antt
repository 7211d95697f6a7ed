use Rattle.std.proofs.Common.{◌≡◌, ◌+◌, ◌<◌, ◌++◌, ◌∷◌, true, ℕ, List, length}
use Rattle.krb_json.proofs.encryption.has_zero.Given as goal

abbrev pub invariant-loop-index : goal.invariant-loop-index
invariant-loop-index l = (before after : List ℕ) → l.octets ≡ before ++ 2 ∷ 1 ∷ 0 ∷ after → length before + 2 < l.index → l.has ≡ true
