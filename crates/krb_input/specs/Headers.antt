-- HTTP's header fields that have a token in base64 (RFC 4559, section 4).
use Rattle.std.specs.Prelude.{ℕ, ◌+◌, ◌==◌, ◌&&◌, ◌||◌, nat_le, Bool, if◌then◌else◌, List, [], ◌∷◌, codes, Option, Some, None}
use Rattle.std.specs.Option.{option_and_then}
use Rattle.krb_der.specs.Octets.{when}
use Rattle.krb_input.specs.Characters.{skip_blanks}

abbrev pub lower_case : ℕ → ℕ
lower_case octet = if nat_le 0x41 octet && nat_le octet 0x5A then octet + 32 else octet

-- what follows a word in lower case at the beginning of a text, where its letters are of either case
abbrev pub after_word : List ℕ → List ℕ → Option (List ℕ)
after_word [] text = Some text
after_word (letter ∷ word) [] = None
after_word (letter ∷ word) (octet ∷ text) = when (lower_case octet == letter) (λ _. after_word word text) (λ _. None)

abbrev pub or_other : Option (List ℕ) → (Unit {0} → Option (List ℕ)) → Option (List ℕ)
or_other None other = other tt
or_other (Some text) other = Some text

-- the fields' names
abbrev pub after_name : List ℕ → Option (List ℕ)
after_name text =
    or_other (after_word (codes "authorization:") text) (λ _.
    or_other (after_word (codes "proxy-authorization:") text) (λ _.
    or_other (after_word (codes "www-authenticate:") text) (λ _.
    after_word (codes "proxy-authenticate:") text)))

-- a blank that ends no line
abbrev pub is_space : ℕ → Bool
is_space octet = octet == 0x20 || octet == 0x09

-- what follows `>` or `<`, a blank that ends no line, and more blanks, as curl -v has before a field, or all of a text
abbrev pub after_arrow : List ℕ → List ℕ
after_arrow (arrow ∷ blank ∷ text) =
    when ((arrow == 0x3E || arrow == 0x3C) && is_space blank) (λ _. skip_blanks text) (λ _. arrow ∷ blank ∷ text)
after_arrow text = text

abbrev pub value_or_all : Option (List ℕ) → List ℕ → List ℕ
value_or_all None text = text
value_or_all (Some value) text = skip_blanks value

-- what follows the name of a field and blanks, or all of a text
abbrev pub after_field : List ℕ → List ℕ
after_field text = value_or_all (after_name text) text

abbrev pub after_space : List ℕ → Option (List ℕ)
after_space [] = None
after_space (octet ∷ text) = if is_space octet then Some text else None

-- what follows `Negotiate` or `Kerberos`
abbrev pub after_scheme_name : List ℕ → Option (List ℕ)
after_scheme_name text = or_other (after_word (codes "negotiate") text) (λ _. after_word (codes "kerberos") text)

-- what follows blanks and an arrow, where a field or a scheme may begin
abbrev pub field_of : List ℕ → List ℕ
field_of text = after_arrow (skip_blanks text)

-- the token of a header field, if a text is one, maybe after blanks and an arrow
abbrev pub token_of : List ℕ → Option (List ℕ)
token_of text = option_and_then after_space (after_scheme_name (after_field (field_of text)))
