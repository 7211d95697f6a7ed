-- Characters of base64, four at a time.
use Rattle.std.proofs.Common.{ℕ, suc, ◌+◌, ◌*◌, ◌/◌, ◌%◌, ◌<◌, ◌≤◌, ◌≡◌, false, List, [], ◌∷◌, ◌++◌, length, take, drop, slice_index, slice_set, Option, Some, None, IfSome, refl, sym, ap, ◌∙◌, arith}
use Rattle.std.proofs.lemmas.Bool.Decides.{nat_tests}
use Rattle.std.proofs.lemmas.List.{append_assoc, drop_more, take_more_set, length-set}
use Rattle.krb_der.specs.Octets.{when}
use Rattle.krb_input.specs.Characters.{is_blank}
use Rattle.krb_input.specs.Readings.{prepend, unless}
use Rattle.krb_input.specs.Base64.{base64, base64_from, character_value, due, kept, made, or_else, padding_fault, then_character}
use Rattle.krb_input.specs.inner.Fours.{octets_of_four, value_or_none}
use Rattle.krb_input.specs.declared.base64.Bits.{Bits}
use Rattle.krb_input.specs.declared.base64.Bits.TheVariants.{Whole, Six, Four, Two}
use Rattle.krb_input.proofs.Prepends.{prepend_none, prepend_twice}

pub is_small : (octet : ℕ) → IfSome (character_value octet) (λ value. value < 64)
is_small octet = grind (arith, nat_tests)

pub four_known : (p q r s : Option ℕ) → value_or_none p + value_or_none q + value_or_none r + value_or_none s < 255 →
    octets_of_four p q r s ≡ Some ((value_or_none p * 4 + value_or_none q / 16) ∷ (value_or_none q % 16 * 16 + value_or_none r / 4) ∷ (value_or_none r % 4 * 64 + value_or_none s) ∷ [])
four_known (Some a) (Some b) (Some c) (Some d) less = refl
four_known None q r s less = absurd (omega arith)
four_known (Some a) None r s less = absurd (omega arith)
four_known (Some a) (Some b) None s less = absurd (omega arith)
four_known (Some a) (Some b) (Some c) None less = absurd (omega arith)

pub four_unknown : (p q r s : Option ℕ) → IfSome p (λ value. value < 64) → IfSome q (λ value. value < 64) → IfSome r (λ value. value < 64) → IfSome s (λ value. value < 64) →
    255 ≤ value_or_none p + value_or_none q + value_or_none r + value_or_none s → octets_of_four p q r s ≡ None
four_unknown (Some a) (Some b) (Some c) (Some d) small_a small_b small_c small_d most = absurd (omega (arith, small_a, small_b, small_c, small_d))
four_unknown None q r s small_a small_b small_c small_d most = refl
four_unknown (Some a) None r s small_a small_b small_c small_d most = refl
four_unknown (Some a) (Some b) None s small_a small_b small_c small_d most = refl
four_unknown (Some a) (Some b) (Some c) None small_a small_b small_c small_d most = refl

-- the octets of an array of three
pub three_of : (p q r s : Option ℕ) (three : List ℕ) → Some three ≡ octets_of_four p q r s → octets_of_four p q r s ≡ Some (slice_index three 0 ∷ slice_index three 1 ∷ slice_index three 2 ∷ [])
three_of (Some a) (Some b) (Some c) (Some d) three is =
    let same : three ≡ (a * 4 + b / 16) ∷ (b % 16 * 16 + c / 4) ∷ (c % 4 * 64 + d) ∷ [] = cc in rw same refl
three_of None q r s three is = absurd (cc)
three_of (Some a) None r s three is = absurd (cc)
three_of (Some a) (Some b) None s three is = absurd (cc)
three_of (Some a) (Some b) (Some c) None three is = absurd (cc)

-- ---- as they are read
character_no_blank : (octet value : ℕ) → character_value octet ≡ Some value → is_blank octet ≡ false
character_no_blank octet value is = grind (arith, nat_tests)

character_read : (bits : Bits) (last octet value : ℕ) (text : List ℕ) → character_value octet ≡ Some value →
    base64_from bits last (octet ∷ text) ≡ prepend (made bits value) (base64_from (kept bits value) (suc (length text)) text)
character_read bits last octet value text is = let other = character_no_blank octet value is in rw (other, is) refl

-- where the last character was does not matter after whole octets
after_whole : (last other : ℕ) (text : List ℕ) → base64_from Whole last text ≡ base64_from Whole other text
after_whole last other [] = refl
after_whole last other (octet ∷ text) =
    ap (λ following. when (is_blank octet) (λ _. following) (λ _.
    then_character (character_value octet) (λ value. prepend (made Whole value) (base64_from (kept Whole value) (suc (length text)) text)) (λ _. unless (or_else (padding_fault (due Whole) (octet ∷ text)) None))))
    (after_whole last other text)

-- four characters
four_of : (p q r s : Option ℕ) (a b c d : ℕ) (octets text : List ℕ) → character_value a ≡ p → character_value b ≡ q → character_value c ≡ r → character_value d ≡ s →
    octets_of_four p q r s ≡ Some octets → base64 (a ∷ b ∷ c ∷ d ∷ text) ≡ prepend octets (base64 text)
four_of (Some p) (Some q) (Some r) (Some s) a b c d octets text is_a is_b is_c is_d four =
    let same : (p * 4 + q / 16) ∷ (q % 16 * 16 + r / 4) ∷ (r % 4 * 64 + s) ∷ [] ≡ octets = cc in
    character_read Whole 0 a p (b ∷ c ∷ d ∷ text) is_a
    ∙ prepend_none (base64_from (Six p) (suc (length (b ∷ c ∷ d ∷ text))) (b ∷ c ∷ d ∷ text))
    ∙ character_read (Six p) (suc (length (b ∷ c ∷ d ∷ text))) b q (c ∷ d ∷ text) is_b
    ∙ ap (prepend ((p * 4 + q / 16) ∷ [])) (
    character_read (Four (q % 16)) (suc (length (c ∷ d ∷ text))) c r (d ∷ text) is_c
    ∙ ap (prepend ((q % 16 * 16 + r / 4) ∷ [])) (
    character_read (Two (r % 4)) (suc (length (d ∷ text))) d s text is_d
    ∙ ap (prepend ((r % 4 * 64 + s) ∷ [])) (after_whole (suc (length text)) 0 text))
    ∙ prepend_twice ((q % 16 * 16 + r / 4) ∷ []) ((r % 4 * 64 + s) ∷ []) (base64 text))
    ∙ prepend_twice ((p * 4 + q / 16) ∷ []) ((q % 16 * 16 + r / 4) ∷ (r % 4 * 64 + s) ∷ []) (base64 text)
    ∙ ap (λ o. prepend o (base64 text)) same
four_of None q r s a b c d octets text is_a is_b is_c is_d four = absurd (cc)
four_of (Some p) None r s a b c d octets text is_a is_b is_c is_d four = absurd (cc)
four_of (Some p) (Some q) None s a b c d octets text is_a is_b is_c is_d four = absurd (cc)
four_of (Some p) (Some q) (Some r) None a b c d octets text is_a is_b is_c is_d four = absurd (cc)

-- ---- as they are written
drop_next : (xs : List ℕ) (i next : ℕ) → i < length xs → next ≡ i + 1 → drop i xs ≡ slice_index xs i ∷ drop next xs
drop_next xs i next less is = drop_more xs i 0 less ∙ ap (λ k. slice_index xs i ∷ drop k xs) (sym is)

four_dropped : (xs : List ℕ) (i : ℕ) → 4 * i + 3 < length xs →
    drop (4 * i) xs ≡ slice_index xs (4 * i) ∷ slice_index xs (4 * i + 1) ∷ slice_index xs (4 * i + 2) ∷ slice_index xs (4 * i + 3) ∷ drop (4 * (i + 1)) xs
four_dropped xs i fits =
    drop_next xs (4 * i) (4 * i + 1) (omega arith) (omega arith)
    ∙ ap (λ others. slice_index xs (4 * i) ∷ others) (
    drop_next xs (4 * i + 1) (4 * i + 2) (omega arith) (omega arith)
    ∙ ap (λ others. slice_index xs (4 * i + 1) ∷ others) (
    drop_next xs (4 * i + 2) (4 * i + 3) (omega arith) (omega arith)
    ∙ ap (λ others. slice_index xs (4 * i + 2) ∷ others) (drop_next xs (4 * i + 3) (4 * (i + 1)) (omega arith) (omega arith))))

take_next : (xs : List ℕ) (i next x : ℕ) → i < length xs → next ≡ i + 1 → take next (slice_set xs i x) ≡ take i xs ++ (x ∷ [])
take_next xs i next x less is = ap (λ k. take k (slice_set xs i x)) is ∙ take_more_set xs i x less

three_written : (xs : List ℕ) (i x y z : ℕ) → 3 * i + 2 < length xs →
    take (3 * (i + 1)) (slice_set (slice_set (slice_set xs (3 * i) x) (3 * i + 1) y) (3 * i + 2) z) ≡ take (3 * i) xs ++ (x ∷ y ∷ z ∷ [])
three_written xs i x y z fits =
    let first : List ℕ = slice_set xs (3 * i) x in
    let second : List ℕ = slice_set first (3 * i + 1) y in
    let size = length-set xs (3 * i) x in
    let same_size = length-set first (3 * i + 1) y in
    take_next second (3 * i + 2) (3 * (i + 1)) z (omega (arith, size, same_size)) (omega arith)
    ∙ ap (λ before. before ++ (z ∷ [])) (
    take_next first (3 * i + 1) (3 * i + 2) y (omega (arith, size)) (omega arith)
    ∙ ap (λ before. before ++ (y ∷ [])) (take_next xs (3 * i) (3 * i + 1) x (omega arith) (omega arith))
    ∙ append_assoc (take (3 * i) xs) (x ∷ []) (y ∷ []))
    ∙ append_assoc (take (3 * i) xs) (x ∷ y ∷ []) (z ∷ [])

pub fours_step : (text octets : List ℕ) (i x y z : ℕ) → 4 * i + 3 < length text → 3 * i + 2 < length octets →
    octets_of_four (character_value (slice_index text (4 * i))) (character_value (slice_index text (4 * i + 1))) (character_value (slice_index text (4 * i + 2))) (character_value (slice_index text (4 * i + 3))) ≡ Some (x ∷ y ∷ z ∷ []) →
    base64 text ≡ prepend (take (3 * i) octets) (base64 (drop (4 * i) text)) →
    base64 text ≡ prepend (take (3 * (i + 1)) (slice_set (slice_set (slice_set octets (3 * i) x) (3 * i + 1) y) (3 * i + 2) z)) (base64 (drop (4 * (i + 1)) text))
fours_step text octets i x y z fits room four before =
    before
    ∙ ap (λ others. prepend (take (3 * i) octets) (base64 others)) (four_dropped text i fits)
    ∙ ap (prepend (take (3 * i) octets)) (four_of (character_value (slice_index text (4 * i))) (character_value (slice_index text (4 * i + 1))) (character_value (slice_index text (4 * i + 2))) (character_value (slice_index text (4 * i + 3)))
    (slice_index text (4 * i)) (slice_index text (4 * i + 1)) (slice_index text (4 * i + 2)) (slice_index text (4 * i + 3)) (x ∷ y ∷ z ∷ []) (drop (4 * (i + 1)) text) refl refl refl refl four)
    ∙ prepend_twice (take (3 * i) octets) (x ∷ y ∷ z ∷ []) (base64 (drop (4 * (i + 1)) text))
    ∙ ap (λ front. prepend front (base64 (drop (4 * (i + 1)) text))) (sym (three_written octets i x y z room))
