-- What is read of a text is octets, no more than those of the text.
use Rattle.std.proofs.Common.{ℕ, suc, ◌+◌, ◌*◌, ◌<◌, ◌≤◌, ◌≡◌, ◌==◌, ◌&&◌, ◌||◌, nat_le, not, Bool, true, false, List, [], ◌∷◌, length, take, drop, Option, Some, None, IfSome, Ok, Err, refl, arith, length-append, length-take}
use Rattle.std.proofs.lemmas.Bool.{cond_both}
use Rattle.std.proofs.lemmas.Bool.Decides.{nat_tests}
use Rattle.std.specs.Option.{option_and_then, option_map}
use Rattle.hex.specs.Hex.{hex_digit_value}
use Rattle.krb_der.specs.Octets.{AreOctets, begins_with, when}
use Rattle.krb_der.specs.inner.Numbers.{AreOctets-append}
use Rattle.krb_input.specs.Base64.{base64, base64_from, bits_fault, character_value, due, kept, made, or_else, padding_fault, then_character}
use Rattle.krb_input.specs.Braces.{before, block, braces, block_length, escapes_or_tokens, to_brace, unended}
use Rattle.krb_input.specs.Characters.{is_blank, is_x, octet_of, count_digits}
use Rattle.krb_input.specs.Comments.{blanked, unclosed}
use Rattle.krb_input.specs.Digits.{digits, digits_after}
use Rattle.krb_input.specs.Escapes.{after_backslash, after_x, escapes, has_escape, is_between}
use Rattle.krb_input.specs.Readings.{Reading, prepend, then_octet, unless}
use Rattle.krb_input.specs.Tokens.{after_x as after_zero_x, is_mark, is_token, token, tokens}
use Rattle.krb_input.proofs.Blanked.{length_blanked}

-- octets, at most so many, or a fault
abbrev pub IsReading : ℕ → Reading → Type 0
IsReading most (Ok octets) = AreOctets octets × (length octets ≤ most)
IsReading most (Err left) = Unit {0}

pub nothing_read : (most : ℕ) → IsReading most (Ok [])
nothing_read most = (tt, omega arith)

pub of_more : (few most : ℕ) (r : Reading) → few ≤ most → IsReading few r → IsReading most r
of_more few most (Ok octets) less is = (is.0, omega (arith, less, is.1))
of_more few most (Err left) less is = tt

pub either : (most : ℕ) (test : Bool) (one other : Unit {0} → Reading) → IsReading most (one tt) → IsReading most (other tt) → IsReading most (when test one other)
either most true one other a b = a
either most false one other a b = b

pub after_octets : (octets : List ℕ) (few most : ℕ) (r : Reading) → AreOctets octets → length octets + few ≤ most → IsReading few r → IsReading most (prepend octets r)
after_octets octets few most (Ok others) are fits is = (AreOctets-append octets others are is.0, omega (arith, fits, is.1, length-append octets others))
after_octets octets few most (Err left) are fits is = tt

pub after_octet : (octet : Option ℕ) (left few most : ℕ) (r : Reading) → few < most → IfSome octet (λ o. o < 256) → IsReading few r → IsReading most (then_octet octet left r)
after_octet None left few most r less small is = tt
after_octet (Some octet) left few most r less small is = after_octets (octet ∷ []) few most r (small, tt) (omega (arith, less)) is

-- ---- hexadecimal
digit_small : (c : ℕ) → IfSome (hex_digit_value c) (λ v. v < 16)
digit_small c =
    cond_both {A = Option ℕ} (nat_le 65 c && nat_le c 70) _ _ (λ o. IfSome o (λ v. v < 16)) (λ t. grind (arith, nat_tests))
    (λ t. cond_both {A = Option ℕ} (nat_le 97 c && nat_le c 102) _ _ (λ o. IfSome o (λ v. v < 16)) (λ t. grind (arith, nat_tests))
    (λ t. cond_both {A = Option ℕ} (nat_le 48 c && nat_le c 57) _ _ (λ o. IfSome o (λ v. v < 16)) (λ t. grind (arith, nat_tests)) (λ t. tt)))

pair_small : (high low : Option ℕ) → IfSome high (λ v. v < 16) → IfSome low (λ v. v < 16) → IfSome (option_and_then (λ h. option_map (λ l. 16 * h + l) low) high) (λ o. o < 256)
pair_small None low a b = tt
pair_small (Some h) None a b = tt
pair_small (Some h) (Some l) a b = omega (arith, a, b)

pub two_digits : (high low : ℕ) → IfSome (octet_of high low) (λ o. o < 256)
two_digits high low = pair_small (hex_digit_value high) (hex_digit_value low) (digit_small high) (digit_small low)

less_small : (digit : Option ℕ) → IfSome digit (λ v. v < 16) → IfSome digit (λ o. o < 256)
less_small None small = tt
less_small (Some v) small = omega (arith, small)

one_digit : (digit : ℕ) → IfSome (hex_digit_value digit) (λ o. o < 256)
one_digit digit = less_small (hex_digit_value digit) (digit_small digit)

mutual
  pub digits_read : (text : List ℕ) → IsReading (length text) (digits text)
  digits_read [] = nothing_read 0
  digits_read (high ∷ text) = either (length (high ∷ text)) (is_blank high) (λ _. digits text) (λ _. digits_after high text) (of_more _ _ (digits text) (omega arith) (digits_read text)) (after_digit high text)

  after_digit : (high : ℕ) (text : List ℕ) → IsReading (suc (length text)) (digits_after high text)
  after_digit high [] = tt
  after_digit high (low ∷ text) =
      either (suc (length (low ∷ text))) (is_blank low) (λ _. digits_after high text) (λ _. then_octet (octet_of high low) (suc (length text)) (digits text))
      (of_more _ _ (digits_after high text) (omega arith) (after_digit high text))
      (after_octet (octet_of high low) _ (length text) _ (digits text) (omega arith) (two_digits high low) (digits_read text))

-- ---- tokens
mutual
  pub tokens_read : (begins : Bool) (text : List ℕ) → IsReading (length text) (tokens begins text)
  tokens_read begins [] = nothing_read 0
  tokens_read begins (octet ∷ text) =
      either (length (octet ∷ text)) (is_mark octet) (λ _. tokens true text) _ (of_more _ _ (tokens true text) (omega arith) (tokens_read true text))
      (either (length (octet ∷ text)) (begins && not (is_token (octet ∷ text))) _ (λ _. token begins octet text) tt (token_read begins octet text))

  token_read : (begins : Bool) (first : ℕ) (text : List ℕ) → IsReading (suc (length text)) (token begins first text)
  token_read begins first [] = tt
  token_read begins first (second ∷ []) = after_octet (octet_of first second) 2 0 _ (Ok []) (omega arith) (two_digits first second) (nothing_read 0)
  token_read begins first (second ∷ third ∷ text) =
      either (suc (length (second ∷ third ∷ text))) (begins && is_x second) (λ _. after_zero_x (length text + 3) third text (tokens false text) (tokens false (third ∷ text))) _
      (either (suc (length (second ∷ third ∷ text))) (count_digits (third ∷ text) == 1) (λ _. then_octet (hex_digit_value third) (length text + 3) (tokens false text)) (λ _. tokens false (third ∷ text))
      (after_octet (hex_digit_value third) _ (length text) _ (tokens false text) (omega arith) (one_digit third) (tokens_read false text))
      (of_more _ _ (tokens false (third ∷ text)) (omega arith) (tokens_read false (third ∷ text))))
      (after_octet (octet_of first second) _ (length (third ∷ text)) _ (tokens false (third ∷ text)) (omega arith) (two_digits first second) (tokens_read false (third ∷ text)))

-- ---- escapes
mutual
  pub escapes_read : (text : List ℕ) → IsReading (length text) (escapes text)
  escapes_read [] = nothing_read 0
  escapes_read (octet ∷ text) =
      either (length (octet ∷ text)) (octet == 0x5C) (λ _. after_backslash (suc (length text)) text) _ (of_more _ _ (after_backslash (suc (length text)) text) (omega arith) (backslash_read (suc (length text)) text))
      (either (length (octet ∷ text)) (is_between octet) (λ _. escapes text) _ (of_more _ _ (escapes text) (omega arith) (escapes_read text)) tt)

  backslash_read : (left : ℕ) (text : List ℕ) → IsReading (length text) (after_backslash left text)
  backslash_read left [] = tt
  backslash_read left (octet ∷ text) =
      either (length (octet ∷ text)) (octet == 0x78) (λ _. after_x left text) _ (of_more _ _ (after_x left text) (omega arith) (escape_read left text))
      (either (length (octet ∷ text)) (octet == 0x0A || octet == 0x0D && begins_with 0x0A text) (λ _. escapes text) _ (of_more _ _ (escapes text) (omega arith) (escapes_read text)) tt)

  escape_read : (left : ℕ) (text : List ℕ) → IsReading (length text) (after_x left text)
  escape_read left [] = tt
  escape_read left (high ∷ []) = tt
  escape_read left (high ∷ low ∷ text) = after_octet (octet_of high low) left (length text) _ (escapes text) (omega arith) (two_digits high low) (escapes_read text)

-- ---- braces
either_read : (text : List ℕ) → IsReading (length text) (escapes_or_tokens text)
either_read text = either (length text) (has_escape text) (λ _. escapes text) (λ _. tokens true text) (escapes_read text) (tokens_read true text)

blanked_read : (comments : _) (text : List ℕ) → IsReading (length text) (escapes_or_tokens (blanked comments text))
blanked_read comments text = of_more (length (blanked comments text)) (length text) (escapes_or_tokens (blanked comments text)) (omega (arith, length_blanked comments text)) (either_read (blanked comments text))

block_read : (text : List ℕ) → IsReading (length text) (block text)
block_read text = blanked_read _ text

before_read : (following most : ℕ) (r : Reading) → IsReading most r → IsReading most (before following r)
before_read following most (Ok octets) is = is
before_read following most (Err left) is = tt

unended_read : (most : ℕ) (comment : Option ℕ) → IsReading most (unended comment)
unended_read most None = tt
unended_read most (Some left) = tt

to_brace_read : (most : ℕ) (comment : Option ℕ) (inside following : List ℕ) → length inside ≤ most → IsReading most (to_brace comment inside following)
to_brace_read most comment inside [] few = unended_read most comment
to_brace_read most comment inside (brace ∷ following) few = before_read _ most (block inside) (of_more (length inside) most (block inside) few (block_read inside))

pub braces_read : (text : List ℕ) → IsReading (length text) (braces text)
braces_read text = to_brace_read (length text) (unclosed text) (take (block_length text) text) (drop (block_length text) text) (omega (arith, length-take (block_length text) text))

-- ---- base64
character_small : (c : ℕ) → IfSome (character_value c) (λ v. v < 64)
character_small c =
    cond_both {A = Option ℕ} (nat_le 0x41 c && nat_le c 0x5A) _ _ (λ o. IfSome o (λ v. v < 64)) (λ t. grind (arith, nat_tests))
    (λ t. cond_both {A = Option ℕ} (nat_le 0x61 c && nat_le c 0x7A) _ _ (λ o. IfSome o (λ v. v < 64)) (λ t. grind (arith, nat_tests))
    (λ t. cond_both {A = Option ℕ} (nat_le 0x30 c && nat_le c 0x39) _ _ (λ o. IfSome o (λ v. v < 64)) (λ t. grind (arith, nat_tests))
    (λ t. cond_both {A = Option ℕ} (c == 0x2B) _ _ (λ o. IfSome o (λ v. v < 64)) (λ t. omega arith)
    (λ t. cond_both {A = Option ℕ} (c == 0x2F) _ _ (λ o. IfSome o (λ v. v < 64)) (λ t. omega arith) (λ t. tt)))))

faultless : (most : ℕ) (fault : Option ℕ) → IsReading most (unless fault)
faultless most None = nothing_read most
faultless most (Some left) = tt

character_read : (most : ℕ) (value : Option ℕ) (character : ℕ → Reading) (padding : Unit {0} → Reading) → IfSome value (λ v. v < 64) → ((v : ℕ) → v < 64 → IsReading most (character v)) → IsReading most (padding tt) → IsReading most (then_character value character padding)
character_read most None character padding small each other = other
character_read most (Some v) character padding small each other = each v small

-- six bits more make at most one octet
abbrev IsMade : List ℕ → Type 0
IsMade octets = AreOctets octets × (length octets ≤ 1)

next_read : (bits : _) (last octet : ℕ) (text : List ℕ) → ((v : ℕ) → v < 64 → IsMade (made bits v)) → IsReading (length text) (base64_from bits last text) → ((v : ℕ) → v < 64 → IsReading (length text) (base64_from (kept bits v) (suc (length text)) text)) → IsReading (length (octet ∷ text)) (base64_from bits last (octet ∷ text))
next_read bits last octet text makes same next =
    either (length (octet ∷ text)) (is_blank octet) (λ _. base64_from bits last text) _ (of_more _ _ (base64_from bits last text) (omega arith) same)
    (character_read (length (octet ∷ text)) (character_value octet) _ _ (character_small octet)
    (λ v small. let its : IsMade (made bits v) = makes v small in after_octets (made bits v) (length text) (length (octet ∷ text)) (base64_from (kept bits v) (suc (length text)) text) its.0 (omega (arith, its.1)) (next v small))
    (faultless (length (octet ∷ text)) (or_else (padding_fault (due bits) (octet ∷ text)) (bits_fault bits last))))

-- no bits are left between groups of four characters
abbrev between : (bits : _) × ((text : List ℕ) → base64 text ≡ base64_from bits 0 text)
between = (_, λ text. refl)

mutual
  whole_read : (last : ℕ) (text : List ℕ) → IsReading (length text) (base64_from between.0 last text)
  whole_read last [] = nothing_read 0
  whole_read last (octet ∷ text) = next_read between.0 last octet text (λ v small. (tt, omega arith)) (whole_read last text) (λ v small. six_read v (suc (length text)) text small)

  six_read : (six last : ℕ) (text : List ℕ) → six < 64 → IsReading (length text) (base64_from (kept between.0 six) last text)
  six_read six last [] small = tt
  six_read six last (octet ∷ text) small = next_read (kept between.0 six) last octet text (λ v few. ((omega (arith, small, few), tt), omega arith)) (six_read six last text small) (λ v few. four_read six v (suc (length text)) text)

  four_read : (six four last : ℕ) (text : List ℕ) → IsReading (length text) (base64_from (kept (kept between.0 six) four) last text)
  four_read six four last [] = faultless 0 (bits_fault (kept (kept between.0 six) four) last)
  four_read six four last (octet ∷ text) = next_read (kept (kept between.0 six) four) last octet text (λ v few. ((omega (arith, few), tt), omega arith)) (four_read six four last text) (λ v few. two_read six four v (suc (length text)) text)

  two_read : (six four two last : ℕ) (text : List ℕ) → IsReading (length text) (base64_from (kept (kept (kept between.0 six) four) two) last text)
  two_read six four two last [] = faultless 0 (bits_fault (kept (kept (kept between.0 six) four) two) last)
  two_read six four two last (octet ∷ text) = next_read (kept (kept (kept between.0 six) four) two) last octet text (λ v few. ((omega (arith, few), tt), omega arith)) (two_read six four two last text) (λ v few. whole_read (suc (length text)) text)

pub base64_read : (text : List ℕ) → IsReading (length text) (base64 text)
base64_read text = whole_read 0 text
