-- What an input spells is octets, no more than its own, and what is at fault in it is one of these or their end.
use Rattle.std.proofs.Common.{ℕ, ◌≤◌, ◌&&◌, ◌||◌, ◌==◌, not, if◌then◌else◌, Bool, true, false, List, [], ◌∷◌, length, drop, codes, Option, Some, None, IfSome, Ok, Err, arith, length-drop}
use Rattle.std.specs.Option.{option_and_then}
use Rattle.krb_der.specs.Octets.{AreOctets, when}
use Rattle.krb_input.specs.Base64.{base64, first_octet}
use Rattle.krb_input.specs.Braces.{after_first, braces}
use Rattle.krb_input.specs.Characters.{skip_blanks}
use Rattle.krb_input.specs.Digits.{are_digits, digits}
use Rattle.krb_input.specs.Dumps.{begins_dump, dump}
use Rattle.krb_input.specs.Escapes.{escapes, has_escape}
use Rattle.krb_input.specs.Headers.{after_arrow, after_field, after_name, after_scheme_name, after_space, after_word, field_of, is_space, lower_case, or_other, token_of, value_or_all}
use Rattle.krb_input.specs.Inputs.{Spells, as_form, is_first_of, line_spelled, line_spelled_by, spelled, spelled_by, spelled_in_braces, spelled_in_field, spelled_in_text, spelled_in_tokens, spelled_otherwise, spelled_plainly}
use Rattle.krb_input.specs.Octets.{begin_message, first_no_text, is_marked, without_mark}
use Rattle.krb_input.specs.Readings.{Reading}
use Rattle.krb_input.specs.Tokens.{first_unfit, tokens}
use Rattle.krb_source.specs.declared.spelling.Spelling.{Spelling}
use Rattle.krb_source.specs.declared.spelling.Spelling.TheVariants as form
use Rattle.krb_tool_laws.proofs.ReadDumps.{dump_read, fewer_skipped}
use Rattle.krb_tool_laws.proofs.ReadOctets.{IsReading, base64_read, braces_read, digits_read, escapes_read, of_more, tokens_read}

-- of an input of so many octets
abbrev pub IsSpelled : ℕ → Spells → Type 0
IsSpelled size (Ok made) = AreOctets made.1 × (length made.1 ≤ size)
IsSpelled size (Err fault) = fault.1 ≤ size

in_form : (size : ℕ) (form : Spelling) (r : Reading) → IsReading size r → IsSpelled size (as_form size form r)
in_form size form (Ok octets) is = is
in_form size form (Err left) is = omega arith

either : (size : ℕ) (test : Bool) (one other : Unit {0} → Spells) → IsSpelled size (one tt) → IsSpelled size (other tt) → IsSpelled size (when test one other)
either size true one other a b = a
either size false one other a b = b

-- ---- what follows words in a text, if it is there, has no more octets
abbrev AreFewer : ℕ → Option (List ℕ) → Type 0
AreFewer most text = IfSome text (λ others. length others ≤ most)

of_more_octets : (few most : ℕ) (text : Option (List ℕ)) → few ≤ most → AreFewer few text → AreFewer most text
of_more_octets few most None less are = tt
of_more_octets few most (Some text) less are = omega (arith, less, are)

either_text : (most : ℕ) (test : Bool) (one other : Unit {0} → Option (List ℕ)) → AreFewer most (one tt) → AreFewer most (other tt) → AreFewer most (when test one other)
either_text most true one other a b = a
either_text most false one other a b = b

one_or_other : (most : ℕ) (one : Option (List ℕ)) (other : Unit {0} → Option (List ℕ)) → AreFewer most one → AreFewer most (other tt) → AreFewer most (or_other one other)
one_or_other most None other a b = b
one_or_other most (Some text) other a b = a

after_brace : (octet : ℕ) (text : List ℕ) → AreFewer (length text) (after_first octet text)
after_brace octet [] = tt
after_brace octet (first ∷ text) =
    either_text (length (first ∷ text)) (first == octet) (λ _. Some text) (λ _. after_first octet text) (omega arith) (of_more_octets _ _ (after_first octet text) (omega arith) (after_brace octet text))

after_a_word : (word text : List ℕ) → AreFewer (length text) (after_word word text)
after_a_word [] text = omega arith
after_a_word (letter ∷ word) [] = tt
after_a_word (letter ∷ word) (octet ∷ text) =
    either_text (length (octet ∷ text)) (lower_case octet == letter) (λ _. after_word word text) (λ _. None) (of_more_octets _ _ (after_word word text) (omega arith) (after_a_word word text)) tt

after_a_name : (text : List ℕ) → AreFewer (length text) (after_name text)
after_a_name text =
    one_or_other (length text) (after_word (codes "authorization:") text) _ (after_a_word (codes "authorization:") text)
    (one_or_other (length text) (after_word (codes "proxy-authorization:") text) _ (after_a_word (codes "proxy-authorization:") text)
    (one_or_other (length text) (after_word (codes "www-authenticate:") text) _ (after_a_word (codes "www-authenticate:") text) (after_a_word (codes "proxy-authenticate:") text)))

after_a_scheme : (text : List ℕ) → AreFewer (length text) (after_scheme_name text)
after_a_scheme text = one_or_other (length text) (after_word (codes "negotiate") text) _ (after_a_word (codes "negotiate") text) (after_a_word (codes "kerberos") text)

after_an_arrow : (text : List ℕ) → length (after_arrow text) ≤ length text
after_an_arrow [] = omega arith
after_an_arrow (arrow ∷ []) = omega arith
after_an_arrow (arrow ∷ blank ∷ text) = by ((arrow == 0x3E || arrow == 0x3C) && is_space blank)
  where
    by : (is : Bool) → length (when is (λ _. skip_blanks text) (λ _. arrow ∷ blank ∷ text)) ≤ length (arrow ∷ blank ∷ text)
    by true = omega (arith, fewer_skipped text)
    by false = omega arith

value_is : (value : Option (List ℕ)) (text : List ℕ) → AreFewer (length text) value → length (value_or_all value text) ≤ length text
value_is None text are = omega arith
value_is (Some value) text are = omega (arith, are, fewer_skipped value)

after_a_field : (text : List ℕ) → length (after_field text) ≤ length text
after_a_field text = value_is (after_name text) text (after_a_name text)

after_a_space : (text : List ℕ) → AreFewer (length text) (after_space text)
after_a_space [] = tt
after_a_space (octet ∷ text) = by (is_space octet)
  where
    by : (is : Bool) → AreFewer (length (octet ∷ text)) (if is then Some text else None)
    by true = omega arith
    by false = tt

then_a_space : (most : ℕ) (text : Option (List ℕ)) → AreFewer most text → AreFewer most (option_and_then after_space text)
then_a_space most None are = tt
then_a_space most (Some text) are = of_more_octets (length text) most (after_space text) are (after_a_space text)

a_token : (text : List ℕ) → AreFewer (length text) (token_of text)
a_token text =
    let field : List ℕ = after_field (field_of text) in
    then_a_space (length text) (after_scheme_name field) (of_more_octets (length field) (length text) (after_scheme_name field) (omega (arith, after_a_field (field_of text), after_an_arrow (skip_blanks text), fewer_skipped text)) (after_a_scheme field))

-- ---- inputs
module _ (size : ℕ) (text : List ℕ) (few : length text ≤ size) where
  otherwise : (unfit : ℕ) → IsSpelled size (spelled_otherwise size unfit text)
  otherwise unfit =
      either size (is_first_of (first_octet text)) (λ _. as_form size form.Base64 (base64 text)) _ (in_form size form.Base64 (base64 text) (of_more (length text) size (base64 text) few (base64_read text))) (omega arith)

  in_tokens : (unfit : Option ℕ) → IsSpelled size (spelled_in_tokens size unfit text)
  in_tokens None = in_form size form.Hex (tokens true text) (of_more (length text) size (tokens true text) few (tokens_read true text))
  in_tokens (Some unfit) = otherwise unfit

  in_field : (token : Option (List ℕ)) → AreFewer (length text) token → IsSpelled size (spelled_in_field size token text)
  in_field None are = in_tokens (first_unfit false text)
  in_field (Some token) are = in_form size form.Base64 (base64 token) (of_more (length token) size (base64 token) (omega (arith, are, few)) (base64_read token))

  in_braces : (block : Option (List ℕ)) → AreFewer (length text) block → IsSpelled size (spelled_in_braces size block text)
  in_braces None are =
      either size (has_escape text) (λ _. as_form size form.Hex (escapes text)) (λ _. spelled_in_field size (token_of text) text)
      (in_form size form.Hex (escapes text) (of_more (length text) size (escapes text) few (escapes_read text))) (in_field (token_of text) (a_token text))
  in_braces (Some block) are = in_form size form.Hex (braces block) (of_more (length block) size (braces block) (omega (arith, are, few)) (braces_read block))

  plainly : IsSpelled size (spelled_plainly size text)
  plainly =
      either size (are_digits text) (λ _. as_form size form.Hex (digits text)) (λ _. spelled_in_braces size (after_first 0x7B text) text)
      (in_form size form.Hex (digits text) (of_more (length text) size (digits text) few (digits_read text))) (in_braces (after_first 0x7B text) (after_brace 0x7B text))

  in_text : IsSpelled size (spelled_in_text size text)
  in_text =
      either size (begins_dump text) (λ _. as_form size form.Dump (dump text)) (λ _. spelled_plainly size text)
      (in_form size form.Dump (dump text) (of_more (length text) size (dump text) few (dump_read text))) plainly

  in_line : (left : Option ℕ) → IsSpelled size (line_spelled_by size left text)
  in_line None = plainly
  in_line (Some left) = omega arith

fewer_marked : (input : List ℕ) → length (without_mark input) ≤ length input
fewer_marked input = by (is_marked input)
  where
    by : (marked : Bool) → length (if marked then drop 3 input else input) ≤ length input
    by true = omega (arith, length-drop 3 input)
    by false = omega arith

input_by : (left : Option ℕ) (input : List ℕ) → AreOctets input → IsSpelled (length input) (spelled_by left input)
input_by None input are = in_text (length input) (without_mark input) (fewer_marked input)
input_by (Some left) input are = either (length input) (not (is_marked input) && begin_message input) (λ _. Ok (form.Octets, input)) _ (are, omega arith) (omega arith)

pub input_spelled : (input : List ℕ) → AreOctets input → IsSpelled (length input) (spelled input)
unfolding spelled
input_spelled input are = input_by (first_no_text (without_mark input)) input are

pub line_spelled_is : (line : List ℕ) → IsSpelled (length line) (line_spelled line)
unfolding line_spelled
line_spelled_is line = in_line (length line) (without_mark line) (fewer_marked line) (first_no_text (without_mark line))
