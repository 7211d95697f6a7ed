-- A line of a dump is read as the octets that it is written of.
use Rattle.std.proofs.Common.{ℕ, zero, suc, replicate, append-nil, ◌*◌, ◌/◌, ◌%◌, ◌^◌, ◌==◌, ◌≡◌, ◌<◌, ◌≤◌, ◌&&◌, ◌||◌, not, Bool, true, false, List, [], ◌∷◌, ◌++◌, length, take, drop, Some, None, Ok, Err, refl, sym, ap, ◌∙◌, arith}
use Rattle.std.proofs.lemmas.Bool.{and_right, not_from_true}
use Rattle.std.proofs.lemmas.Bool.Decides.{nat_tests}
use Rattle.hex.specs.Hex.{encode_lower, encode_with, lower_digits}
use Rattle.hex.proofs.HexLemmas.{length-encode_with}
use Rattle.krb_der.specs.Octets.{AreOctets, begins_with, when}
use Rattle.krb_input.specs.Characters.{count_digits, is_blank, skip_blanks}
use Rattle.krb_input.specs.Readings.{prepend, then_octet}
use Rattle.krb_input.specs.Dumps.{after_offset_read, begins_wrong, blanks_or_groups, ends_groups, first_group, groups, is_bar, is_group, line, line_of, most_blanks, pairs}
use Rattle.krb_input.proofs.Prepends.{prepend_none, prepend_twice}
use Rattle.krb_laws.specs.Written.{IsBeside, IsGroup, IsLayout, Layout, after_blanks, base_for, begins_column, colon_if, dump_line, grouped, offset_text, rows_of, spaced}
use Rattle.krb_laws.proofs.Hexadecimal.{not_skipped}
use Rattle.krb_laws.proofs.Offsets.{offset_line}
use Rattle.krb_laws.proofs.Pairs.{IsPair, count_encoded, digit_no_bar, digit_no_blank, digit_of, digits_pair}
use Rattle.krb_laws.proofs.Rows.{AreGroups, all_of, all_of_rows, group_some, groups_are}

-- ---- what stands beside octets
beside_counted : (has_colon : Bool) (text : List ℕ) → IsBeside has_colon text → count_digits text ≡ 0
beside_counted has_colon [] is = refl
beside_counted has_colon (octet ∷ []) is = absurd is
beside_counted has_colon (first ∷ second ∷ text) is = ap (λ f. count_digits (f ∷ second ∷ text)) is.0

-- after two blanks
bar_there : (octet : ℕ) → (octet == 0x20 || is_bar octet) ≡ true → is_blank octet ≡ false → is_bar octet ≡ true
bar_there octet is no_blank = grind (arith, nat_tests)

by_column : (octet : ℕ) (text : List ℕ) (blank : Bool) → is_blank octet ≡ blank → begins_column (octet ∷ text) ≡ true → groups false 2 (octet ∷ text) ≡ Ok []
by_column octet text true is begins = rw is refl
by_column octet text false is begins =
    let bar = bar_there octet begins is in
    rw (is, bar) refl

column_read : (text : List ℕ) → begins_column text ≡ true → groups false 2 text ≡ Ok []
column_read [] begins = refl
column_read (octet ∷ text) begins = by_column octet text (is_blank octet) refl begins

two_blanks : (has_colon : Bool) (text : List ℕ) → (has_colon || begins_column text) ≡ true → groups has_colon 0 (0x20 ∷ 0x20 ∷ text) ≡ Ok []
two_blanks true text begins = refl
two_blanks false text begins = column_read text begins

beside_read : (has_colon : Bool) (text : List ℕ) → IsBeside has_colon text → groups has_colon 0 text ≡ Ok []
beside_read has_colon [] is = refl
beside_read has_colon (octet ∷ []) is = absurd is
beside_read has_colon (first ∷ second ∷ text) is =
    ap (λ f. groups has_colon 0 (f ∷ second ∷ text)) is.0 ∙ ap (λ s. groups has_colon 0 (0x20 ∷ s ∷ text)) is.1 ∙ two_blanks has_colon text is.3

-- ---- groups
blanks_counted : (are_two : Bool) (text : List ℕ) → count_digits (after_blanks are_two text) ≡ 0
blanks_counted true text = refl
blanks_counted false text = refl

pub none_counted : (has_colon : Bool) (is_wide : ℕ → Bool) (number : ℕ) (rows : List (List ℕ)) (after : List ℕ) → IsBeside has_colon after → count_digits (spaced is_wide number rows after) ≡ 0
none_counted has_colon is_wide number [] after is = beside_counted has_colon after is
none_counted has_colon is_wide number (octets ∷ others) after is = blanks_counted (is_wide number) (encode_lower octets ++ spaced is_wide (suc number) others after)

-- how many digits a group has
pub group_counted : (octets after : List ℕ) → AreOctets octets → count_digits after ≡ 0 → count_digits (encode_lower octets ++ after) ≡ 2 * length octets
group_counted octets after are none = count_encoded octets after are none ∙ length-encode_with lower_digits octets

group_fits : (has_colon : Bool) (size digits : ℕ) → IsGroup has_colon size → digits ≡ 2 * size → is_group has_colon digits ≡ true
group_fits true size digits is same =
    let some : 0 < size = is.0 in
    let few : size ≤ 16 = is.1 in
    grind (arith, nat_tests)
group_fits false size digits is same = grind (arith, nat_tests)

-- how many blanks there are
abbrev blanks_of : (are_two : Bool) → ℕ
blanks_of true = 2
blanks_of false = 1

blanks_first : (are_words are_two : Bool) (text : List ℕ) → (are_words ≡ true → are_two ≡ false) → groups are_words 0 (after_blanks are_two text) ≡ groups are_words (blanks_of are_two) text
blanks_first true true text narrow = let no : true ≡ false = narrow refl in absurd (cc)
blanks_first true false text narrow = refl
blanks_first false true text narrow = refl
blanks_first false false text narrow = refl

-- the first two digits of a group, and two others
group_begun : (are_words : Bool) (blanks octet high low : ℕ) (text : List ℕ) → IsPair octet high low → is_group are_words (count_digits (high ∷ low ∷ text)) ≡ true → groups are_words blanks (high ∷ low ∷ text) ≡ prepend (octet ∷ []) (groups are_words 0 text)
group_begun are_words blanks octet high low text pair fits =
    let ends = and_right (not (blanks == 0) && not are_words) (is_bar high) (digit_no_bar high pair.high_digit) in
    let wrong = and_right (not (blanks == 0)) (not (is_group are_words (count_digits (high ∷ low ∷ text)))) (not_from_true (is_group are_words (count_digits (high ∷ low ∷ text))) fits) in
    ap (λ b. when b (λ _. when (blanks == most_blanks are_words) (λ _. Ok []) (λ _. groups are_words (suc blanks) (low ∷ text)))
    (λ _. when (ends_groups are_words blanks high) (λ _. Ok []) (λ _.
    when (begins_wrong are_words blanks (count_digits (high ∷ low ∷ text))) (λ _. Err (suc (length (low ∷ text)))) (λ _. pairs are_words high (low ∷ text))))) (digit_no_blank high pair.high_digit)
    ∙ ap (λ b. when b (λ _. Ok []) (λ _. when (begins_wrong are_words blanks (count_digits (high ∷ low ∷ text))) (λ _. Err (suc (length (low ∷ text)))) (λ _. pairs are_words high (low ∷ text)))) ends
    ∙ ap (λ b. when b (λ _. Err (suc (length (low ∷ text)))) (λ _. pairs are_words high (low ∷ text))) wrong
    ∙ ap (λ o. then_octet o (suc (suc (length text))) (groups are_words 0 text)) pair.spells

pair_read : (are_words : Bool) (octet high low : ℕ) (text : List ℕ) → IsPair octet high low → groups are_words 0 (high ∷ low ∷ text) ≡ prepend (octet ∷ []) (groups are_words 0 text)
pair_read are_words octet high low text pair =
    ap (λ b. when b (λ _. when (0 == most_blanks are_words) (λ _. Ok []) (λ _. groups are_words 1 (low ∷ text))) (λ _. pairs are_words high (low ∷ text))) (digit_no_blank high pair.high_digit)
    ∙ ap (λ o. then_octet o (suc (suc (length text))) (groups are_words 0 text)) pair.spells

encoded_read : (are_words : Bool) (octets text : List ℕ) → AreOctets octets → groups are_words 0 (encode_lower octets ++ text) ≡ prepend octets (groups are_words 0 text)
unfolding encode_with
encoded_read are_words [] text are = sym (prepend_none (groups are_words 0 text))
encoded_read are_words (octet ∷ octets) text are =
    pair_read are_words octet (digit_of (octet / 16)) (digit_of (octet % 16)) (encode_lower octets ++ text) (digits_pair octet are.0)
    ∙ ap (prepend (octet ∷ [])) (encoded_read are_words octets text are.1)
    ∙ prepend_twice (octet ∷ []) octets (groups are_words 0 text)

-- a group, and a text that begins with no digit
group_read : (has_colon : Bool) (blanks : ℕ) (octets text : List ℕ) → AreOctets octets → IsGroup has_colon (length octets) → count_digits text ≡ 0 → groups has_colon blanks (encode_lower octets ++ text) ≡ prepend octets (groups has_colon 0 text)
unfolding encode_with
group_read has_colon blanks [] text are is none = let some = group_some has_colon 0 is in absurd (omega arith)
group_read has_colon blanks (octet ∷ octets) text are is none =
    group_begun has_colon blanks octet (digit_of (octet / 16)) (digit_of (octet % 16)) (encode_lower octets ++ text) (digits_pair octet are.0)
    (group_fits has_colon (length (octet ∷ octets)) (count_digits (encode_lower (octet ∷ octets) ++ text)) is (group_counted (octet ∷ octets) text are none))
    ∙ ap (prepend (octet ∷ [])) (encoded_read has_colon octets text are.1)
    ∙ prepend_twice (octet ∷ []) octets (groups has_colon 0 text)

-- what is asked of the blanks before groups
abbrev pub IsNarrow : Bool → (ℕ → Bool) → Type 0
IsNarrow has_colon is_wide = has_colon ≡ true → (number : ℕ) → is_wide number ≡ false

groups_spaced : (has_colon : Bool) (is_wide : ℕ → Bool) (number : ℕ) (rows : List (List ℕ)) (after : List ℕ) → IsNarrow has_colon is_wide → AreGroups has_colon rows → IsBeside has_colon after → groups has_colon 0 (spaced is_wide number rows after) ≡ Ok (all_of rows)
groups_spaced has_colon is_wide number [] after narrow are is = beside_read has_colon after is
groups_spaced has_colon is_wide number (octets ∷ others) after narrow are is =
    blanks_first has_colon (is_wide number) (encode_lower octets ++ spaced is_wide (suc number) others after) (λ colon. narrow colon number)
    ∙ group_read has_colon (blanks_of (is_wide number)) octets (spaced is_wide (suc number) others after) are.0 are.1 (none_counted has_colon is_wide (suc number) others after is)
    ∙ ap (prepend octets) (groups_spaced has_colon is_wide (suc number) others after narrow are.2 is)

-- ---- what comes after an offset
some_counted : (count size : ℕ) → count ≡ 2 * suc size → (count == 0) ≡ false
some_counted count size is = grind (arith, nat_tests)

-- blanks of a gap are skipped
pub gap_skipped : (gap : ℕ) (text : List ℕ) → skip_blanks (replicate gap 0x20 ++ text) ≡ skip_blanks text
gap_skipped zero text = refl
gap_skipped (suc gap) text = gap_skipped gap text

-- groups after a gap, of which the first has an octet
module _ (has_colon : Bool) (gap : ℕ) (is_wide : ℕ → Bool) (octet : ℕ) (octets : List ℕ) (others : List (List ℕ)) (after : List ℕ) where
  abbrev group_text : List ℕ
  group_text = encode_lower (octet ∷ octets) ++ spaced is_wide 1 others after

  at_group : AreOctets (octet ∷ octets) → skip_blanks (replicate gap 0x20 ++ group_text) ≡ group_text
  unfolding encode_with
  at_group are =
      let pair = digits_pair octet are.0 in
      gap_skipped gap group_text
      ∙ not_skipped (digit_of (octet / 16)) (digit_of (octet % 16) ∷ (encode_lower octets ++ spaced is_wide 1 others after)) (digit_no_blank (digit_of (octet / 16)) pair.high_digit)

  first_spaced : IsNarrow has_colon is_wide → AreGroups has_colon ((octet ∷ octets) ∷ others) → IsBeside has_colon after →
      first_group has_colon (grouped (suc gap) is_wide ((octet ∷ octets) ∷ others) after) ≡ Ok (all_of ((octet ∷ octets) ∷ others))
  first_spaced narrow are is =
      let none = none_counted has_colon is_wide 1 others after is in
      ap (λ t. when (true && not (count_digits t == 0)) (λ _. groups has_colon 1 t) (λ _. Err (length t))) (at_group are.0)
      ∙ ap (λ b. when (true && not b) (λ _. groups has_colon 1 group_text) (λ _. Err (length group_text))) (some_counted (count_digits group_text) (length octets) (group_counted (octet ∷ octets) (spaced is_wide 1 others after) are.0 none))
      ∙ group_read has_colon 1 (octet ∷ octets) (spaced is_wide 1 others after) are.0 are.1 none
      ∙ ap (prepend (octet ∷ octets)) (groups_spaced has_colon is_wide 1 others after narrow are.2 is)

tail_read : (has_colon : Bool) (gap : ℕ) (is_wide : ℕ → Bool) (left octet : ℕ) (octets : List ℕ) (others : List (List ℕ)) (after : List ℕ) → IsNarrow has_colon is_wide → AreGroups has_colon ((octet ∷ octets) ∷ others) → IsBeside has_colon after →
    after_offset_read left (colon_if has_colon ++ grouped (suc gap) is_wide ((octet ∷ octets) ∷ others) after) ≡ Ok (Some (all_of ((octet ∷ octets) ∷ others)))
unfolding encode_with
tail_read true gap is_wide left octet octets others after narrow are is = ap line_of (first_spaced true gap is_wide octet octets others after narrow are is)
tail_read false gap is_wide left octet octets others after narrow are is =
    ap (λ t. blanks_or_groups t (grouped (suc gap) is_wide ((octet ∷ octets) ∷ others) after)) (at_group false gap is_wide octet octets others after are.0)
    ∙ ap line_of (first_spaced false gap is_wide octet octets others after narrow are is)

tail_counted : (has_colon : Bool) (gap : ℕ) (is_wide : ℕ → Bool) (rows : List (List ℕ)) (after : List ℕ) → IsBeside has_colon after → count_digits (colon_if has_colon ++ grouped (suc gap) is_wide rows after) ≡ 0
tail_counted true gap is_wide rows after is = refl
tail_counted false gap is_wide [] after is = beside_counted false after is
tail_counted false gap is_wide (octets ∷ others) after is = refl

-- octets in groups
grouped_read : (has_colon : Bool) (gap : ℕ) (is_wide : ℕ → Bool) (group left octet : ℕ) (octets after : List ℕ) → IsNarrow has_colon is_wide → IsGroup has_colon group → AreOctets (octet ∷ octets) → IsBeside has_colon after →
    after_offset_read left (colon_if has_colon ++ grouped (suc gap) is_wide (rows_of (length (octet ∷ octets)) group (octet ∷ octets)) after) ≡ Ok (Some (octet ∷ octets))
grouped_read has_colon gap is_wide zero left octet octets after narrow group are is = let some = group_some has_colon 0 group in absurd (omega arith)
grouped_read has_colon gap is_wide (suc more) left octet octets after narrow group are is =
    tail_read has_colon gap is_wide left octet (take more octets) (rows_of (length octets) (suc more) (drop more octets)) after narrow (groups_are has_colon (length (octet ∷ octets)) (suc more) (octet ∷ octets) group are) is
    ∙ ap (λ all. Ok (Some all)) (all_of_rows (length (octet ∷ octets)) (suc more) (octet ∷ octets) (omega arith) (omega arith))

-- ---- lines
-- whether `:` follows an offset
begins_colon : (has_colon : Bool) (gap : ℕ) (is_wide : ℕ → Bool) (octets : List ℕ) (others : List (List ℕ)) (after : List ℕ) → begins_with 0x3A (colon_if has_colon ++ grouped (suc gap) is_wide (octets ∷ others) after) ≡ has_colon
begins_colon true gap is_wide octets others after = refl
begins_colon false gap is_wide octets others after = refl

line_by : (layout : Layout) (gap group count octet : ℕ) (octets : List ℕ) → IsLayout layout → layout.gap ≡ suc gap → layout.group ≡ suc group → AreOctets (octet ∷ octets) → count < layout.base ^ layout.digits → line count (dump_line layout count (octet ∷ octets)) ≡ Ok (Some (octet ∷ octets))
line_by layout gap group count octet octets is has_gap has_group are small =
    let after : List ℕ = layout.beside (octet ∷ octets) in
    let rows : List (List ℕ) = rows_of (length (octet ∷ octets)) layout.group (octet ∷ octets) in
    let tail : List ℕ = colon_if layout.has_colon ++ grouped (suc gap) layout.is_wide rows after in
    let whole : line count (dump_line layout count (octet ∷ octets)) ≡ line count (offset_text layout count ++ tail) = ap (λ g. line count (offset_text layout count ++ (colon_if layout.has_colon ++ grouped g layout.is_wide rows after))) has_gap in
    let colon : begins_with 0x3A tail ≡ layout.has_colon =
    ap (λ g. begins_with 0x3A (colon_if layout.has_colon ++ grouped (suc gap) layout.is_wide (rows_of (length (octet ∷ octets)) g (octet ∷ octets)) after)) has_group
    ∙ begins_colon layout.has_colon gap layout.is_wide (octet ∷ take group octets) (rows_of (length octets) (suc group) (drop group octets)) after in
    let read = offset_line layout is count tail (tail_counted layout.has_colon gap layout.is_wide rows after (is.beside (octet ∷ octets))) small (is.base ∙ ap (base_for layout.digits layout.has_prefix) (sym colon)) in
    whole ∙ read.1 ∙ grouped_read layout.has_colon gap layout.is_wide layout.group read.0 octet octets after is.narrow is.group are (is.beside (octet ∷ octets))

-- a number that is not 0
pub one_less : (number : ℕ) → 0 < number → (less : ℕ) × (number ≡ suc less)
one_less zero some = absurd (omega arith)
one_less (suc less) some = (less, refl)

pub line_read : (layout : Layout) (count octet : ℕ) (octets : List ℕ) → IsLayout layout → AreOctets (octet ∷ octets) → count < layout.base ^ layout.digits → line count (dump_line layout count (octet ∷ octets)) ≡ Ok (Some (octet ∷ octets))
line_read layout count octet octets is are small =
    let gap = one_less layout.gap is.gap in
    let group = one_less layout.group (group_some layout.has_colon layout.group is.group) in
    line_by layout gap.0 group.0 count octet octets is gap.1 group.1 are small

-- an offset alone
pub end_read : (layout : Layout) (count : ℕ) → IsLayout layout → layout.has_end ≡ true → count < layout.base ^ layout.digits → line count (offset_text layout count) ≡ Ok None
end_read layout count is ends small =
    let read = offset_line layout is count [] refl small (is.last ends) in
    ap (line count) (sym (append-nil (offset_text layout count))) ∙ read.1
