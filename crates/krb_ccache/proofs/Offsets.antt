-- The offset in the fields of a header.
use Rattle.std.proofs.Common.{◌≡◌, ℕ, zero, suc, ◌+◌, ◌*◌, ◌<◌, List, [], ◌∷◌, length, get_or, take, drop, Some, refl, sym, ◌∙◌, ap, arith}
use Rattle.std.specs.Int.{w32, cast_signed, from_be_bytes}
use Rattle.krb_ccache.specs.declared.value.HeaderField.{HeaderField}
use Rattle.krb_ccache.specs.Spelling.{offset_of}

pub number-prefix : (v : List ℕ) → from_be_bytes w32 (take 4 v) ≡ get_or v 0 0 * 16777216 + get_or v 1 0 * 65536 + get_or v 2 0 * 256 + get_or v 3 0
number-prefix [] = refl
number-prefix (a ∷ []) = refl
number-prefix (a ∷ b ∷ []) = refl
number-prefix (a ∷ b ∷ c ∷ []) = refl
number-prefix (a ∷ b ∷ c ∷ d ∷ v) = refl

pub number-suffix : (v : List ℕ) → from_be_bytes w32 (drop 4 v) ≡ get_or v 4 0 * 16777216 + get_or v 5 0 * 65536 + get_or v 6 0 * 256 + get_or v 7 0
number-suffix [] = refl
number-suffix (a ∷ []) = refl
number-suffix (a ∷ b ∷ []) = refl
number-suffix (a ∷ b ∷ c ∷ []) = refl
number-suffix (a ∷ b ∷ c ∷ d ∷ v) = refl

-- the first field with tag 1 and eight octets
pub offset-found : (fields : List HeaderField) (i : ℕ) (f : HeaderField) → i < length fields → f ≡ get_or fields i f → f.tag ≡ 1 → length f.value ≡ 8
    → offset_of (drop i fields) ≡ Some (cast_signed w32 (from_be_bytes w32 (take 4 f.value)), cast_signed w32 (from_be_bytes w32 (drop 4 f.value)))
offset-found [] i f lt is tag len = absurd (omega arith)
offset-found (first ∷ fields) zero f lt is tag len = ap (λ (g : HeaderField). offset_of (g ∷ fields)) (sym is) ∙ rw (tag, len) refl
offset-found (first ∷ fields) (suc i) f lt is tag len = offset-found fields i f (omega arith) is tag len
