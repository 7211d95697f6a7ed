-- Inputs: what people hold of a message, which may be text, as octets.
use Rattle.std.specs.Prelude.{ℕ, ◌-◌, ◌==◌, ◌&&◌, ◌||◌, ◌≡◌, ⊤, not, Bool, true, false, List, length, Option, Some, None, Result, Ok, Err}
use Rattle.krb_der.specs.Octets.{when}
use Rattle.krb_input.specs.Readings.{Reading}
use Rattle.krb_input.specs.Octets.{without_mark, is_marked, first_no_text, is_tag, begin_message}
use Rattle.krb_input.specs.Digits.{are_digits, digits}
use Rattle.krb_input.specs.Braces.{after_first, braces}
use Rattle.krb_input.specs.Escapes.{has_escape, escapes}
use Rattle.krb_input.specs.Headers.{token_of}
use Rattle.krb_input.specs.Tokens.{first_unfit, tokens}
use Rattle.krb_input.specs.Base64.{base64, first_octet}
use Rattle.krb_input.specs.Dumps.{begins_dump, dump}
use Rattle.krb_source.specs.declared.spelling.Spelling.{Spelling}
use Rattle.krb_source.specs.declared.spelling.Spelling.TheVariants as form
use Rattle.krb_input.specs.declared.spelled.InputFault.{InputFault}
use Rattle.krb_input.specs.declared.spelled.InputFault.TheVariants.{Misspelled, Memory}

-- What an input spells: how its octets are spelled, and these; or what it was read as, and the place of the first octet that does not fit.
abbrev pub Spells : Type 0
Spells = Result (Spelling × List ℕ) (Spelling × ℕ)

-- a text at the end of an input of so many octets, read by a rule
abbrev pub as_form : (size : ℕ) → Spelling → Reading → Spells
as_form size form (Ok octets) = Ok (form, octets)
as_form size form (Err left) = Err (form, size - left)

-- the first octets of a message, of what it is in (00 of a frame, A0 and A1 of SPNEGO), and of NTLM
abbrev pub is_first : ℕ → Bool
is_first octet = is_tag octet || octet == 0x00 || octet == 0xA0 || octet == 0xA1 || octet == 0x4E

abbrev pub is_first_of : Option ℕ → Bool
is_first_of None = false
is_first_of (Some octet) = is_first octet

-- A text whose first characters are base64 of a message's first octet is base64; any other does not fit.
abbrev pub spelled_otherwise : (size : ℕ) → (unfit : ℕ) → List ℕ → Spells
spelled_otherwise size unfit text =
    when (is_first_of (first_octet text)) (λ _. as_form size form.Base64 (base64 text)) (λ _. Err (form.Hex, size - unfit))

-- a text of tokens and marks alone, or any other
abbrev pub spelled_in_tokens : (size : ℕ) → Option ℕ → List ℕ → Spells
spelled_in_tokens size None text = as_form size form.Hex (tokens true text)
spelled_in_tokens size (Some unfit) text = spelled_otherwise size unfit text

-- a header field, or any other text
abbrev pub spelled_in_field : (size : ℕ) → Option (List ℕ) → List ℕ → Spells
spelled_in_field size None text = spelled_in_tokens size (first_unfit false text) text
spelled_in_field size (Some token) text = as_form size form.Base64 (base64 token)

-- a text that has `{`, or any other, which may have escapes
abbrev pub spelled_in_braces : (size : ℕ) → Option (List ℕ) → List ℕ → Spells
spelled_in_braces size None text = when (has_escape text) (λ _. as_form size form.Hex (escapes text)) (λ _. spelled_in_field size (token_of text) text)
spelled_in_braces size (Some block) text = as_form size form.Hex (braces block)

-- A text that is no dump: digits and blanks alone, braces, escapes, a header field, tokens, or base64, by the first of these that it is.
abbrev pub spelled_plainly : (size : ℕ) → List ℕ → Spells
spelled_plainly size text =
    when (are_digits text) (λ _. as_form size form.Hex (digits text)) (λ _. spelled_in_braces size (after_first 0x7B text) text)

-- a text: a dump, if it begins as one
abbrev pub spelled_in_text : (size : ℕ) → List ℕ → Spells
spelled_in_text size text = when (begins_dump text) (λ _. as_form size form.Dump (dump text)) (λ _. spelled_plainly size text)

-- An input that has an octet that is no text, with so many octets left, is itself, if it begins as a message.
abbrev pub spelled_in_octets : (left : ℕ) → List ℕ → Spells
spelled_in_octets left input = when (not (is_marked input) && begin_message input) (λ _. Ok (form.Octets, input)) (λ _. Err (form.Hex, length input - left))

abbrev pub spelled_by : Option ℕ → List ℕ → Spells
spelled_by None input = spelled_in_text (length input) (without_mark input)
spelled_by (Some left) input = spelled_in_octets left input

-- what an input spells
unfoldable pub spelled : List ℕ → Spells
spelled input = spelled_by (first_no_text (without_mark input)) input

abbrev pub line_spelled_by : (size : ℕ) → Option ℕ → List ℕ → Spells
line_spelled_by size None text = spelled_plainly size text
line_spelled_by size (Some left) text = Err (form.Hex, size - left)

-- what a line spells, which is an input of its own, and neither a dump nor octets
unfoldable pub line_spelled : List ℕ → Spells
line_spelled line = line_spelled_by (length line) (first_no_text (without_mark line)) (without_mark line)

-- a fault is what an input spells; nothing is said if there is not enough memory
abbrev pub IsFaultOf : Spells → InputFault → Type 0
IsFaultOf spells (Misspelled misspelling) = spells ≡ Err (misspelling.form, misspelling.place)
IsFaultOf spells Memory = ⊤
