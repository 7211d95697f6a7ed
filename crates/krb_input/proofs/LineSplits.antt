-- The first line of a text, and the others.
use Rattle.std.proofs.Common.{ℕ, suc, ◌==◌, ◌≡◌, Bool, true, false, List, [], ◌∷◌, take, drop, refl, ap}
use Rattle.krb_der.specs.Octets.{when}
use Rattle.krb_input.specs.Characters.{length_before}
use Rattle.krb_input.specs.Dumps.{lines, with_first}
use Rattle.krb_input.specs.inner.Results.{lines_after}

split_at : (octet n : ℕ) (text : List ℕ) (ends : Bool) → lines text ≡ (take n text, drop n text) ∷ lines_after (drop n text) →
    when ends (λ _. ([], octet ∷ text) ∷ lines text) (λ _. with_first octet (lines text))
    ≡ (take (when ends (λ _. 0) (λ _. suc n)) (octet ∷ text), drop (when ends (λ _. 0) (λ _. suc n)) (octet ∷ text))
    ∷ lines_after (drop (when ends (λ _. 0) (λ _. suc n)) (octet ∷ text))
split_at octet n text true others = refl
split_at octet n text false others = ap (with_first octet) others

pub lines_split : (text : List ℕ) → lines text ≡ (take (length_before 0x0A text) text, drop (length_before 0x0A text) text) ∷ lines_after (drop (length_before 0x0A text) text)
lines_split [] = refl
lines_split (octet ∷ text) = split_at octet (length_before 0x0A text) text (octet == 0x0A) (lines_split text)
