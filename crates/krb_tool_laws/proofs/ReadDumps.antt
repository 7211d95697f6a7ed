-- What is read of a dump is octets, no more than those of its text.
use Rattle.std.proofs.Common.{ℕ, suc, ◌+◌, ◌≤◌, ◌==◌, ◌&&◌, if◌then◌else◌, not, Bool, true, false, List, [], ◌∷◌, length, drop, Option, Some, None, IfSome, Ok, Err, arith, length-drop}
use Rattle.krb_der.specs.Octets.{AreOctets, when}
use Rattle.krb_input.specs.Characters.{begins_blank, count_digits, is_blank, octet_of, skip_blanks}
use Rattle.krb_input.specs.Dumps.{Line, after_offset, after_offset_read, begins_wrong, blanks_alone, blanks_or_groups, dump, dump_from, ends_groups, first_group, groups, is_offset, is_prefixed, line, line_begun, line_of, lines, most_blanks, offset_read, pairs, then_lines, with_first, without_prefix}
use Rattle.krb_input.specs.Readings.{Reading}
use Rattle.krb_tool_laws.proofs.ReadOctets.{IsReading, after_octet, after_octets, either, nothing_read, of_more, two_digits}

-- ---- groups
mutual
  groups_read : (are_words : Bool) (blanks : ℕ) (text : List ℕ) → IsReading (length text) (groups are_words blanks text)
  groups_read are_words blanks [] = nothing_read 0
  groups_read are_words blanks (octet ∷ text) =
      either (length (octet ∷ text)) (is_blank octet) (λ _. when (blanks == most_blanks are_words) (λ _. Ok []) (λ _. groups are_words (suc blanks) text)) _
      (either (length (octet ∷ text)) (blanks == most_blanks are_words) (λ _. Ok []) (λ _. groups are_words (suc blanks) text) (nothing_read (length (octet ∷ text)))
      (of_more _ _ (groups are_words (suc blanks) text) (omega arith) (groups_read are_words (suc blanks) text)))
      (either (length (octet ∷ text)) (ends_groups are_words blanks octet) (λ _. Ok []) _ (nothing_read (length (octet ∷ text)))
      (either (length (octet ∷ text)) (begins_wrong are_words blanks (count_digits (octet ∷ text))) _ (λ _. pairs are_words octet text) tt (pairs_read are_words octet text)))

  pairs_read : (are_words : Bool) (high : ℕ) (text : List ℕ) → IsReading (suc (length text)) (pairs are_words high text)
  pairs_read are_words high [] = tt
  pairs_read are_words high (low ∷ text) = after_octet (octet_of high low) _ (length text) _ (groups are_words 0 text) (omega arith) (two_digits high low) (groups_read are_words 0 text)

pub fewer_skipped : (text : List ℕ) → length (skip_blanks text) ≤ length text
fewer_skipped [] = omega arith
fewer_skipped (octet ∷ text) = by (is_blank octet) (fewer_skipped text)
  where
    by : (blank : Bool) → length (skip_blanks text) ≤ length text → length (when blank (λ _. skip_blanks text) (λ _. octet ∷ text)) ≤ suc (length text)
    by true others = omega (arith, others)
    by false others = omega arith

first_group_read : (are_words : Bool) (text : List ℕ) → IsReading (length text) (first_group are_words text)
first_group_read are_words text =
    either (length text) (begins_blank text && not (count_digits (skip_blanks text) == 0)) (λ _. groups are_words 1 (skip_blanks text)) _
    (of_more _ _ (groups are_words 1 (skip_blanks text)) (fewer_skipped text) (groups_read are_words 1 (skip_blanks text))) tt

-- ---- lines
abbrev IsLineRead : ℕ → Line → Type 0
IsLineRead most (Ok None) = Unit {0}
IsLineRead most (Ok (Some octets)) = AreOctets octets × (length octets ≤ most)
IsLineRead most (Err left) = Unit {0}

line_is : (most : ℕ) (r : Reading) → IsReading most r → IsLineRead most (line_of r)
line_is most (Ok octets) is = is
line_is most (Err left) is = tt

of_more_in_line : (few most : ℕ) (l : Line) → few ≤ most → IsLineRead few l → IsLineRead most l
of_more_in_line few most (Ok None) less is = tt
of_more_in_line few most (Ok (Some octets)) less is = (is.0, omega (arith, less, is.1))
of_more_in_line few most (Err left) less is = tt

either_line : (most : ℕ) (test : Bool) (one other : Unit {0} → Line) → IsLineRead most (one tt) → IsLineRead most (other tt) → IsLineRead most (when test one other)
either_line most true one other a b = a
either_line most false one other a b = b

blanks_or_groups_read : (begun text : List ℕ) → IsLineRead (length text) (blanks_or_groups begun text)
blanks_or_groups_read [] text = tt
blanks_or_groups_read (first ∷ others) text = line_is (length text) (first_group false text) (first_group_read false text)

after_offset_is : (left : ℕ) (text : List ℕ) → IsLineRead (length text) (after_offset_read left text)
after_offset_is left [] = tt
after_offset_is left (first ∷ text) =
    either_line (length (first ∷ text)) (first == 0x3A) (λ _. line_of (first_group true text)) _
    (of_more_in_line _ _ (line_of (first_group true text)) (omega arith) (line_is (length text) (first_group true text) (first_group_read true text)))
    (either_line (length (first ∷ text)) (is_blank first) (λ _. blanks_or_groups (skip_blanks text) (first ∷ text)) _ (blanks_or_groups_read (skip_blanks text) (first ∷ text)) tt)

fewer_without : (text : List ℕ) → length (without_prefix text) ≤ length text
fewer_without text = by (is_prefixed text)
  where
    by : (prefixed : Bool) → length (if prefixed then drop 2 text else text) ≤ length text
    by true = omega (arith, length-drop 2 text)
    by false = omega arith

fewer_after : (count : ℕ) (text : List ℕ) → IfSome (after_offset count text) (λ others. length others ≤ length text)
fewer_after count text = by (is_offset count (is_prefixed text) (count_digits (without_prefix text)) (without_prefix text))
  where
    by : (is : Bool) → IfSome (if is then Some (drop (count_digits (without_prefix text)) (without_prefix text)) else None) (λ others. length others ≤ length text)
    by true = omega (arith, length-drop (count_digits (without_prefix text)) (without_prefix text), fewer_without text)
    by false = tt

offset_is : (left most : ℕ) (text : Option (List ℕ)) → IfSome text (λ others. length others ≤ most) → IsLineRead most (offset_read left text)
offset_is left most None few = tt
offset_is left most (Some text) few = of_more_in_line (length text) most (after_offset_read left text) few (after_offset_is left text)

begun_is : (count : ℕ) (text : List ℕ) → IsLineRead (length text) (line_begun count text)
begun_is count [] = (tt, omega arith)
begun_is count (first ∷ text) = offset_is (length (first ∷ text)) (length (first ∷ text)) (after_offset count (first ∷ text)) (fewer_after count (first ∷ text))

line_read : (count : ℕ) (text : List ℕ) → IsLineRead (length text) (line count text)
line_read count text = of_more_in_line _ _ (line_begun count (skip_blanks text)) (fewer_skipped text) (begun_is count (skip_blanks text))

-- ---- all lines
abbrev sizes : List (List ℕ × List ℕ) → ℕ
sizes [] = 0
sizes (first ∷ others) = length first.0 + sizes others

one_more : (octet : ℕ) (all : List (List ℕ × List ℕ)) → sizes (with_first octet all) ≤ suc (sizes all)
one_more octet [] = omega arith
one_more octet (first ∷ others) = omega arith

all_lines : (text : List ℕ) → sizes (lines text) ≤ length text
all_lines [] = omega arith
all_lines (octet ∷ text) = by (octet == 0x0A) (all_lines text)
  where
    by : (ends : Bool) → sizes (lines text) ≤ length text → sizes (when ends (λ _. ([], octet ∷ text) ∷ lines text) (λ _. with_first octet (lines text))) ≤ suc (length text)
    by true few = omega (arith, few)
    by false few = omega (arith, few, one_more octet (lines text))

blanks_read : (most : ℕ) (text : List ℕ) → IsReading most (blanks_alone text)
blanks_read most [] = nothing_read most
blanks_read most (octet ∷ text) = tt

then_lines_read : (size rest : ℕ) (following : List ℕ) (l : Line) (others : List ℕ → Reading) → IsLineRead size l → ((octets : List ℕ) → IsReading rest (others octets)) → IsReading (size + rest) (then_lines following l others)
then_lines_read size rest following (Err left) others is each = tt
then_lines_read size rest following (Ok None) others is each = blanks_read (size + rest) (skip_blanks following)
then_lines_read size rest following (Ok (Some octets)) others is each = after_octets octets rest (size + rest) (others octets) is.0 (omega (arith, is.1)) (each octets)

lines_read : (count : ℕ) (all : List (List ℕ × List ℕ)) → IsReading (sizes all) (dump_from count all)
lines_read count [] = nothing_read 0
lines_read count (first ∷ others) =
    then_lines_read (length first.0) (sizes others) first.1 (line count first.0) (λ octets. dump_from (count + length octets) others) (line_read count first.0) (λ octets. lines_read (count + length octets) others)

pub dump_read : (text : List ℕ) → IsReading (length text) (dump text)
dump_read text = of_more (sizes (lines text)) (length text) (dump text) (all_lines text) (lines_read 0 (lines text))
