-- Octets that are no text.
use Rattle.std.specs.Prelude.{ℕ, suc, ◌==◌, ◌&&◌, ◌||◌, nat_le, not, Bool, true, false, if◌then◌else◌, List, [], ◌∷◌, length, drop, Option, Some, None}
use Rattle.krb_der.specs.Octets.{when}
use Rattle.krb_input.specs.Characters.{is_text}

-- EF BB BF, which some editors write in front of a text in UTF-8 (RFC 3629, section 6)
abbrev pub is_marked : List ℕ → Bool
is_marked (first ∷ second ∷ third ∷ text) = first == 0xEF && second == 0xBB && third == 0xBF
is_marked text = false

-- an input without it
abbrev pub without_mark : List ℕ → List ℕ
without_mark input = if is_marked input then drop 3 input else input

-- how many octets are left from the first on that is not text, if there is one
abbrev pub first_no_text : List ℕ → Option ℕ
first_no_text [] = None
first_no_text (octet ∷ text) = when (is_text octet) (λ _. first_no_text text) (λ _. Some (suc (length text)))

-- the tags (X.690, 8.1.2) of a token of GSS-API, a Ticket, and the messages of RFC 4120
abbrev pub is_tag : ℕ → Bool
is_tag octet = octet == 0x60 || octet == 0x61 || nat_le 0x6A octet && nat_le octet 0x6F || nat_le 0x74 octet && nat_le octet 0x76 || octet == 0x7E

-- whether a text begins with another
abbrev pub begins_with_all : List ℕ → List ℕ → Bool
begins_with_all [] text = true
begins_with_all (octet ∷ octets) [] = false
begins_with_all (octet ∷ octets) (first ∷ text) = first == octet && begins_with_all octets text

-- the signature of NTLM
abbrev pub ntlm : List ℕ
ntlm = 0x4E ∷ 0x54 ∷ 0x4C ∷ 0x4D ∷ 0x53 ∷ 0x53 ∷ 0x50 ∷ 0x00 ∷ []

-- whether octets begin with none that is text, or as a message, a Ticket, a token or NTLM
abbrev pub begin_message : List ℕ → Bool
begin_message [] = false
begin_message (first ∷ octets) = not (is_text first) || is_tag first || begins_with_all ntlm (first ∷ octets)
