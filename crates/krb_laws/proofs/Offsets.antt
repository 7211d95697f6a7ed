-- Offsets of dumps are read as the numbers of which they are written.
use Rattle.std.proofs.Common.{ℕ, zero, suc, ◌+◌, ◌*◌, ◌/◌, ◌%◌, ◌^◌, ◌==◌, ◌&&◌, ◌≡◌, ◌<◌, ◌≤◌, ◌||◌, ◌⊎◌, inl, inr, not, nat_le, if◌then◌else◌, Bool, true, false, List, [], ◌∷◌, ◌++◌, length, take, drop, Some, None, refl, sym, ◌∙◌, ap, append_assoc, length-append, append-nil, take_at, arith}
use Rattle.std.proofs.Math.Nat.{div-lt_iff_lt-mul, pow-suc, pow-zero}
use Rattle.std.proofs.lemmas.Bool.{and_from, eq-eqb, le-leb}
use Rattle.std.proofs.lemmas.Bool.Decides.{nat_tests}
use Rattle.std.proofs.lemmas.List.{drop_at}
use Rattle.std.proofs.lemmas.List.Elements.{All-append, All-cons, All-head, All-nil, All-tail}
use Rattle.std.specs.Char.{digit_char}
use Rattle.std.specs.List.{AllPass}
use Rattle.std.specs.Option.{is_some, option_and_then}
use Rattle.base64.proofs.Tables.{all_below_at}
use Rattle.base64.specs.Tables.{is_printable}
use Rattle.hex.specs.Hex.{hex_digit_value, is_hex_digit}
use Rattle.krb_der.specs.Octets.{begins_with, when}
use Rattle.krb_input.specs.Characters.{count_digits, is_blank, skip_blanks}
use Rattle.krb_input.specs.Dumps.{after_digits, after_offset_read, begins_after, begins_dump, begins_octets, count_zeros, digit_below, is_number, is_offset, is_offset_long, is_prefixed, line, line_begun, number_from, offset_base, offset_read, without_prefix}
use Rattle.krb_laws.specs.Written.{IsLayout, Layout, base_for, digits_of, offset_text, prefix_if}
use Rattle.krb_laws.proofs.Characters.{some_number}
use Rattle.krb_laws.proofs.Hexadecimal.{no_prefix, not_skipped}
use Rattle.krb_laws.proofs.Pairs.{digit_no_blank, digit_no_x, digit_printable}
use Rattle.krb_laws.proofs.Printed.{AreInLine, IsInLine}

-- how a text that begins with no blank begins
abbrev begins_from : List ℕ → Bool
begins_from text = begins_after (is_prefixed text) (count_zeros (without_prefix text)) (without_prefix text)

-- ---- a digit
abbrev IsEither : ℕ → Type 0
IsEither base = (base ≡ 8) ⊎ (base ≡ 16)

below : (base number : ℕ) → IsEither base → number % base < base
below base number (inl e) = rw e (omega arith)
below base number (inr e) = rw e (omega arith)

few : (base value : ℕ) → IsEither base → value < base → value < 16
few base value (inl e) small = omega (arith, e)
few base value (inr e) small = omega (arith, e)

value_of_digit : (value : ℕ) → value < 16 → hex_digit_value (digit_char value) ≡ Some value
value_of_digit value small = some_number value (hex_digit_value (digit_char value)) (all_below_at (λ v. is_number v (hex_digit_value (digit_char v))) 16 value refl small)

is_digit : (value : ℕ) → value < 16 → is_hex_digit (digit_char value) ≡ true
is_digit value small = ap is_some (value_of_digit value small)

module _ (base : ℕ) (either : IsEither base) where
  -- the last digit of a number
  abbrev last : ℕ → ℕ
  last number = digit_char (number % base)

  its_last : (number : ℕ) → is_hex_digit (last number) ≡ true
  its_last number = is_digit (number % base) (few base (number % base) either (below base number either))

  parts : (digits number : ℕ) (text : List ℕ) → digits_of base (suc digits) number ++ text ≡ digits_of base digits (number / base) ++ (last number ∷ text)
  parts digits number text = append_assoc (digits_of base digits (number / base)) (last number ∷ []) text

  -- ---- how many digits
  pub counted : (digits number : ℕ) (text : List ℕ) → count_digits (digits_of base digits number ++ text) ≡ digits + count_digits text
  counted zero number text = omega arith
  counted (suc digits) number text =
      let one : count_digits (last number ∷ text) ≡ suc (count_digits text) = ap (λ b. when b (λ _. suc (count_digits text)) (λ _. 0)) (its_last number) in
      ap count_digits (parts digits number text) ∙ counted digits (number / base) (last number ∷ text) ∙ omega (arith, one)

  pub as_many : (digits number : ℕ) → length (digits_of base digits number) ≡ digits
  as_many zero number = refl
  as_many (suc digits) number = omega (arith, length-append (digits_of base digits (number / base)) (last number ∷ []), as_many digits (number / base))

  -- ---- which number
  digit_fits : (value : ℕ) → value < base → digit_below base value ≡ Some value
  digit_fits value small = grind (arith, nat_tests)

  digit_read : (number value : ℕ) (text : List ℕ) → value < base → number_from base number (digit_char value ∷ text) ≡ number_from base (number * base + value) text
  digit_read number value text small =
      ap (λ v. option_and_then (λ value. number_from base (number * base + value) text) (option_and_then (digit_below base) v)) (value_of_digit value (few base value either small))
      ∙ ap (option_and_then (λ value. number_from base (number * base + value) text)) (digit_fits value small)

  whole : (number : ℕ) → number / base * base + number % base ≡ number
  whole number = by either
    where
      by : IsEither base → number / base * base + number % base ≡ number
      by (inl e) = rw e (omega arith)
      by (inr e) = rw e (omega arith)

  some : 0 < base
  some = by either
    where
      by : IsEither base → 0 < base
      by (inl e) = omega (arith, e)
      by (inr e) = omega (arith, e)

  number_read : (digits number : ℕ) (text : List ℕ) → number < base ^ digits → number_from base 0 (digits_of base digits number ++ text) ≡ number_from base number text
  number_read zero number text small = ap (λ n. number_from base n text) (omega (arith, small, pow-zero base))
  number_read (suc digits) number text small =
      let fewer : number / base < base ^ digits = (div-lt_iff_lt-mul {k = base} {x = number} {y = base ^ digits} some).1 (omega (arith, small, pow-suc base digits)) in
      ap (number_from base 0) (parts digits number text)
      ∙ number_read digits (number / base) (last number ∷ text) fewer
      ∙ digit_read (number / base) (number % base) text (below base number either)
      ∙ ap (λ n. number_from base n text) (whole number)

  -- ---- of 0
  zeros_counted : (digits : ℕ) (text : List ℕ) → count_zeros (digits_of base digits 0 ++ text) ≡ digits + count_zeros text
  zeros_counted zero text = omega arith
  zeros_counted (suc digits) text =
      let no_more : 0 / base ≡ 0 = by either in
      let zero_left : 0 % base ≡ 0 = left either in
      ap count_zeros (parts digits 0 text)
      ∙ ap (λ n. count_zeros (digits_of base digits n ++ (last 0 ∷ text))) no_more
      ∙ ap (λ n. count_zeros (digits_of base digits 0 ++ (digit_char n ∷ text))) zero_left
      ∙ zeros_counted digits (0x30 ∷ text)
      ∙ omega arith
    where
      by : IsEither base → 0 / base ≡ 0
      by (inl e) = rw e refl
      by (inr e) = rw e refl

      left : IsEither base → 0 % base ≡ 0
      left (inl e) = rw e refl
      left (inr e) = rw e refl

  -- ---- in a line
  pub digits_in_line : (digits number : ℕ) → AreInLine (digits_of base digits number)
  digits_in_line zero number = All-nil IsInLine
  digits_in_line (suc digits) number =
      All-append IsInLine (digits_of base digits (number / base)) (last number ∷ []) (digits_in_line digits (number / base)) (All-cons IsInLine (last number) [] (ap (λ b. b || (last number == 0x09)) (digit_printable (last number) (its_last number))) (All-nil IsInLine))

-- ---- how a text begins that has two digits first
record IsUnprefixed (text : List ℕ) : Type 0 where
  no_blank : skip_blanks text ≡ text
  unprefixed : is_prefixed text ≡ false
  begun : (count : ℕ) → line_begun count text ≡ offset_read (length text) (after_digits count false text)

two_digits : (text : List ℕ) → 2 ≤ count_digits text → IsUnprefixed text
two_digits [] more = absurd (omega (arith, more))
two_digits (first ∷ []) more = by (is_hex_digit first) refl
  where
    by : (b : Bool) → is_hex_digit first ≡ b → IsUnprefixed (first ∷ [])
    by true e = absurd (omega (arith, more, ap {B = ℕ} (λ b. when b (λ _. 1) (λ _. 0)) e))
    by false e = absurd (omega (arith, more, ap {B = ℕ} (λ b. when b (λ _. 1) (λ _. 0)) e))
two_digits (first ∷ second ∷ text) more = by (is_hex_digit first) (is_hex_digit second) refl refl
  where
    counted_by : (a b : Bool) → is_hex_digit first ≡ a → is_hex_digit second ≡ b → count_digits (first ∷ second ∷ text) ≡ when a (λ _. suc (when b (λ _. suc (count_digits text)) (λ _. 0))) (λ _. 0)
    counted_by a b e f = ap (λ a. when a (λ _. suc (count_digits (second ∷ text))) (λ _. 0)) e ∙ ap (λ b. when a (λ _. suc (when b (λ _. suc (count_digits text)) (λ _. 0))) (λ _. 0)) f

    by : (a b : Bool) → is_hex_digit first ≡ a → is_hex_digit second ≡ b → IsUnprefixed (first ∷ second ∷ text)
    by false b e f = absurd (omega (arith, more, counted_by false b e f))
    by true false e f = absurd (omega (arith, more, counted_by true false e f))
    by true true e f =
        let no_x : is_prefixed (first ∷ second ∷ text) ≡ false = no_prefix first second text (digit_no_x second f) in
        record {
          no_blank = not_skipped first (second ∷ text) (digit_no_blank first e);
          unprefixed = no_x;
          begun = λ count. ap (λ p. offset_read (length (first ∷ second ∷ text)) (after_digits count p (if p then text else first ∷ second ∷ text))) no_x;
        }

-- ---- blanks
blank_of : (octet : ℕ) → (octet == 0x20 || octet == 0x09) ≡ true → is_blank octet ≡ true
blank_of octet is = grind (arith, nat_tests)

blank_in_line : (octet : ℕ) → (octet == 0x20 || octet == 0x09) ≡ true → (is_printable octet || octet == 0x09) ≡ true
blank_in_line octet is = grind (arith, nat_tests)

abbrev pub IsIndent : ℕ → Type 0
IsIndent octet = (octet == 0x20 || octet == 0x09) ≡ true

indent_skipped : (indent text : List ℕ) → AllPass (λ octet. octet == 0x20 || octet == 0x09) indent → skip_blanks (indent ++ text) ≡ skip_blanks text
indent_skipped [] text are = refl
indent_skipped (octet ∷ indent) text are =
    ap (λ b. when b (λ _. skip_blanks (indent ++ text)) (λ _. octet ∷ (indent ++ text))) (blank_of octet (All-head IsIndent octet indent are)) ∙ indent_skipped indent text (All-tail IsIndent octet indent are)

indent_in_line : (indent : List ℕ) → AllPass (λ octet. octet == 0x20 || octet == 0x09) indent → AreInLine indent
indent_in_line [] are = All-nil IsInLine
indent_in_line (octet ∷ indent) are = All-cons IsInLine octet indent (blank_in_line octet (All-head IsIndent octet indent are)) (indent_in_line indent (All-tail IsIndent octet indent are))

prefix_in_line : (has_prefix : Bool) → AreInLine (prefix_if has_prefix)
prefix_in_line true = All-cons IsInLine 0x30 (0x78 ∷ []) refl (All-cons IsInLine 0x78 [] refl (All-nil IsInLine))
prefix_in_line false = All-nil IsInLine

-- ---- offsets of a layout
eight_or_sixteen : (test : Bool) (base : ℕ) → base ≡ (if test then 8 else 16) → IsEither base
eight_or_sixteen true base e = inl e
eight_or_sixteen false base e = inr e

module _ (layout : Layout) (is : IsLayout layout) where
  pub its_base : IsEither layout.base
  its_base = eight_or_sixteen (layout.digits == 7 && not layout.has_prefix && not layout.has_colon) layout.base is.base

  is_long : is_offset_long layout.digits ≡ true
  is_long = and_from (nat_le 4 layout.digits) (nat_le layout.digits 16) (le-leb 4 layout.digits is.least) (le-leb layout.digits 16 is.most)

  abbrev its_digits : (count : ℕ) → List ℕ
  its_digits count = digits_of layout.base layout.digits count

  pub offset_in_line : (count : ℕ) → AreInLine (offset_text layout count)
  offset_in_line count =
      All-append IsInLine layout.indent (prefix_if layout.has_prefix ++ its_digits count) (indent_in_line layout.indent is.indent)
      (All-append IsInLine (prefix_if layout.has_prefix) (its_digits count) (prefix_in_line layout.has_prefix) (digits_in_line layout.base its_base layout.digits count))

  -- what follows an offset, in which `:` is as the base asks
  module _ (count : ℕ) (tail : List ℕ) (none : count_digits tail ≡ 0) where
    digits_counted : count_digits (its_digits count ++ tail) ≡ layout.digits
    digits_counted = counted layout.base its_base layout.digits count tail ∙ omega (arith, none)

    taken : take layout.digits (its_digits count ++ tail) ≡ its_digits count
    taken = take_at (its_digits count) tail layout.digits (as_many layout.base its_base layout.digits count)

    dropped : drop layout.digits (its_digits count ++ tail) ≡ tail
    dropped = drop_at (its_digits count) tail layout.digits (as_many layout.base its_base layout.digits count)

    enough : 2 ≤ count_digits (its_digits count ++ tail)
    enough = omega (arith, digits_counted, is.least)

    -- from where blanks were skipped
    skipped_to : skip_blanks (offset_text layout count ++ tail) ≡ skip_blanks (prefix_if layout.has_prefix ++ (its_digits count ++ tail))
    skipped_to =
        ap skip_blanks (append_assoc layout.indent (prefix_if layout.has_prefix ++ its_digits count) tail) ∙ indent_skipped layout.indent ((prefix_if layout.has_prefix ++ its_digits count) ++ tail) is.indent
        ∙ ap skip_blanks (append_assoc (prefix_if layout.has_prefix) (its_digits count) tail)

    module _ (small : count < layout.base ^ layout.digits) (as_asked : layout.base ≡ base_for layout.digits layout.has_prefix (begins_with 0x3A tail)) where
      number_is : number_from (offset_base layout.has_prefix layout.digits tail) 0 (its_digits count) ≡ Some count
      number_is =
          ap (λ b. number_from b 0 (its_digits count)) (sym as_asked) ∙ ap (number_from layout.base 0) (sym (append-nil (its_digits count))) ∙ number_read layout.base its_base layout.digits count [] small

      offset_is : is_offset count layout.has_prefix layout.digits (its_digits count ++ tail) ≡ true
      offset_is =
          and_from (is_offset_long layout.digits) _ is_long
          (ap (λ t. is_number count (number_from (offset_base layout.has_prefix layout.digits t) 0 (take layout.digits (its_digits count ++ tail)))) dropped
          ∙ ap (λ t. is_number count (number_from (offset_base layout.has_prefix layout.digits tail) 0 t)) taken
          ∙ ap (is_number count) number_is
          ∙ eq-eqb count count refl)

      after_read : after_digits count layout.has_prefix (its_digits count ++ tail) ≡ Some tail
      after_read =
          ap (λ n. if is_offset count layout.has_prefix n (its_digits count ++ tail) then Some (drop n (its_digits count ++ tail)) else None) digits_counted
          ∙ ap (λ b. if b then Some (drop layout.digits (its_digits count ++ tail)) else None) offset_is
          ∙ ap Some dropped

      begun_by : (has_prefix : Bool) → after_digits count has_prefix (its_digits count ++ tail) ≡ Some tail
          → (left : ℕ) × (line_begun count (skip_blanks (prefix_if has_prefix ++ (its_digits count ++ tail))) ≡ after_offset_read left tail)
      begun_by true read = (length (0x30 ∷ 0x78 ∷ (its_digits count ++ tail)), ap (offset_read (length (0x30 ∷ 0x78 ∷ (its_digits count ++ tail)))) read)
      begun_by false read =
          let two = two_digits (its_digits count ++ tail) enough in
          (length (its_digits count ++ tail), ap (line_begun count) two.no_blank ∙ two.begun count ∙ ap (offset_read (length (its_digits count ++ tail))) read)

      -- a line is what is read after its offset
      pub offset_line : (left : ℕ) × (line count (offset_text layout count ++ tail) ≡ after_offset_read left tail)
      offset_line = let found = begun_by layout.has_prefix after_read in (found.0, ap (line_begun count) skipped_to ∙ found.1)

  -- a first line begins as a dump if what follows its offset does
  module _ (tail : List ℕ) (none : count_digits tail ≡ 0) (no_zero : count_zeros tail ≡ 0) where
    all_zeros : count_zeros (its_digits 0 ++ tail) ≡ layout.digits
    all_zeros = zeros_counted layout.base its_base layout.digits tail ∙ omega (arith, no_zero)

    begins_by_zeros : (has_prefix : Bool) → begins_after has_prefix (count_zeros (its_digits 0 ++ tail)) (its_digits 0 ++ tail) ≡ begins_octets (layout.digits == 7 && not has_prefix) tail
    begins_by_zeros has_prefix =
        ap (λ n. begins_after has_prefix n (its_digits 0 ++ tail)) all_zeros
        ∙ ap (λ b. b && begins_octets (layout.digits == 7 && not has_prefix) (drop layout.digits (its_digits 0 ++ tail))) is_long
        ∙ ap (begins_octets (layout.digits == 7 && not has_prefix)) (dropped 0 tail none)

    begins_by : (has_prefix : Bool) → begins_from (skip_blanks (prefix_if has_prefix ++ (its_digits 0 ++ tail))) ≡ begins_octets (layout.digits == 7 && not has_prefix) tail
    begins_by true = begins_by_zeros true
    begins_by false =
        let two = two_digits (its_digits 0 ++ tail) (enough 0 tail none) in
        ap begins_from two.no_blank
        ∙ ap (λ p. begins_after p (count_zeros (if p then drop 2 (its_digits 0 ++ tail) else its_digits 0 ++ tail)) (if p then drop 2 (its_digits 0 ++ tail) else its_digits 0 ++ tail)) two.unprefixed
        ∙ begins_by_zeros false

    pub offset_begins : begins_dump (offset_text layout 0 ++ tail) ≡ begins_octets (layout.digits == 7 && not layout.has_prefix) tail
    offset_begins = ap begins_from (skipped_to 0 tail none) ∙ begins_by layout.has_prefix
