-- Tokens and headers that hold no message of Kerberos, or may hold none, by their first octets.
use Rattle.std.specs.Prelude.{ℕ, ◌+◌, ◌-◌, ◌==◌, ◌&&◌, ◌||◌, nat_eq, nat_lt, if◌then◌else◌, Bool, true, false, List, [], ◌∷◌, drop, codes, Option, Some, None, is_some}
use Rattle.std.specs.List.{starts_with}
use Rattle.std.specs.Option.{option_or}
use Rattle.krb_input.specs.Characters.{skip_blanks}
use Rattle.krb_input.specs.Headers.{after_word, after_scheme_name, field_of}
use Rattle.krb_input.specs.declared.hint.Hint.{Hint}
use Rattle.krb_input.specs.declared.hint.Hint.TheVariants as hint
use Rattle.krb_input.specs.declared.source_kind.SourceKind.{SourceKind}
use Rattle.krb_input.specs.declared.source_kind.SourceKind.TheVariants as kind

-- ---- tokens of GSS-API
-- the identifiers of mechanisms (X.690, 8.19): 1.3.6.1.5.2.5, IAKERB; 1.2.840.113554.1.2.2, Kerberos V5 (RFC 4121, 4.1); 1.3.6.1.5.5.2, SPNEGO (RFC 4178, 4)
abbrev pub iakerb : List ℕ
iakerb = 0x06 ∷ 0x06 ∷ 0x2B ∷ 0x06 ∷ 0x01 ∷ 0x05 ∷ 0x02 ∷ 0x05 ∷ []

abbrev pub kerberos : List ℕ
kerberos = 0x06 ∷ 0x09 ∷ 0x2A ∷ 0x86 ∷ 0x48 ∷ 0x86 ∷ 0xF7 ∷ 0x12 ∷ 0x01 ∷ 0x02 ∷ 0x02 ∷ []

abbrev pub negotiation : List ℕ
negotiation = 0x06 ∷ 0x06 ∷ 0x2B ∷ 0x06 ∷ 0x01 ∷ 0x05 ∷ 0x05 ∷ 0x02 ∷ []

-- what follows the tag and the length of a token (RFC 2743, 3.1); a length of more than one octet has their number and 80 first (X.690, 8.1.3.5)
abbrev pub in_token : List ℕ → List ℕ
in_token (tag ∷ length ∷ octets) = if tag == 0x60 then drop (length - 0x80) octets else []
in_token octets = []

-- the tokens of Kerberos that protect messages, by their identifiers (RFC 1964, 1.2), and that of IAKERB
abbrev pub token_of_identifier : (high low : ℕ) → Option Hint
token_of_identifier high low =
    if high == 0x01 && low == 0x01 then Some hint.MicToken
    else if high == 0x02 && low == 0x01 then Some hint.WrapToken
    else if high == 0x05 && low == 0x01 then Some hint.Iakerb
    else None

abbrev pub identified : List ℕ → Option Hint
identified (high ∷ low ∷ octets) = token_of_identifier high low
identified octets = None

abbrev pub framed_token : List ℕ → Option Hint
framed_token octets =
    if starts_with nat_eq octets iakerb then Some hint.Iakerb
    else if starts_with nat_eq octets kerberos then identified (drop 11 octets)
    else None

-- The tokens that protect messages in no frame (RFC 4121, 4.2.6): 05 04, flags, of which there are three, and FF; 04 04, flags, and FF five times.
abbrev pub token_of_filler : (first : ℕ) → List ℕ → Option Hint
token_of_filler first filler =
    if first == 0x05 && starts_with nat_eq filler (0xFF ∷ []) then Some hint.WrapToken
    else if first == 0x04 && starts_with nat_eq filler (0xFF ∷ 0xFF ∷ 0xFF ∷ 0xFF ∷ 0xFF ∷ []) then Some hint.MicToken
    else None

abbrev pub unframed_token : List ℕ → Option Hint
unframed_token (first ∷ second ∷ flags ∷ filler) = if second == 0x04 && nat_lt flags 8 then token_of_filler first filler else None
unframed_token octets = None

-- a token of GSS-API that holds no message, or is one of IAKERB
abbrev pub named_token : List ℕ → Option Hint
named_token octets = option_or (unframed_token octets) (framed_token (in_token octets))

-- ---- what is refused as a message
-- whether one field with a tag is all that so many octets have; its length has one octet
abbrev pub only_field : (tag size : ℕ) → List ℕ → Bool
only_field tag size (first ∷ length ∷ octets) = first == tag && size == length + 2
only_field tag size octets = false

-- a NegTokenInit without mechToken, and a NegTokenResp without responseToken (RFC 4178, 4.2), as far as their lengths show that: mechTypes [0] alone, or no field; and negState [0], whose contents have three octets, and supportedMech [1], or one of them, or no field
abbrev pub has_types_alone : (size : ℕ) → List ℕ → Bool
has_types_alone size fields = size == 0 || only_field 0xA0 size fields

abbrev pub has_state_alone : (size : ℕ) → List ℕ → Bool
has_state_alone size fields =
    size == 0 || only_field 0xA0 size fields || only_field 0xA1 size fields
    || starts_with nat_eq fields (0xA0 ∷ 0x03 ∷ []) && only_field 0xA1 (size - 5) (drop 5 fields)

abbrev pub lacks_token_by : (choice size : ℕ) → List ℕ → Bool
lacks_token_by choice size fields = choice == 0xA0 && has_types_alone size fields || choice == 0xA1 && has_state_alone size fields

-- a token of SPNEGO that has no token of a mechanism, if its lengths have one octet
abbrev pub lacks_token : List ℕ → Bool
lacks_token (choice ∷ length ∷ tag ∷ size ∷ fields) = tag == 0x30 && length == size + 2 && nat_lt length 0x80 && lacks_token_by choice size fields
lacks_token octets = false

-- the same, or a token of GSS-API with such a one
abbrev pub lacks_token_in : List ℕ → Bool
lacks_token_in octets = lacks_token octets || starts_with nat_eq (in_token octets) negotiation && lacks_token (drop 8 (in_token octets))

abbrev pub begins_word : (word text : List ℕ) → Bool
begins_word word text = is_some (after_word word text)

-- how the names of fields of HTTP begin that may have a token (RFC 9110, 11.6 and 11.7)
abbrev pub begins_field : List ℕ → Bool
begins_field text = begins_word (codes "authoriz") text || begins_word (codes "www-auth") text || begins_word (codes "proxy-auth") text

-- schemes that have no token of Kerberos
abbrev pub begins_other_scheme : List ℕ → Bool
begins_other_scheme text = begins_word (codes "ntlm ") text || begins_word (codes "basic ") text || begins_word (codes "digest ") text || begins_word (codes "bearer ") text

abbrev pub has_none : List ℕ → Bool
has_none [] = true
has_none (octet ∷ text) = false

-- a scheme that has one, and nothing but blanks after its name
abbrev pub is_without_token : Option (List ℕ) → Bool
is_without_token None = false
is_without_token (Some text) = has_none (skip_blanks text)

abbrev pub is_header : List ℕ → Bool
is_header text = begins_field text || begins_other_scheme text || is_without_token (after_scheme_name text)

abbrev pub refused_message : List ℕ → Option Hint
refused_message first =
    if is_header (field_of first) then Some hint.Header
    else if lacks_token_in first then Some hint.Negotiation
    else None

-- what may be said of octets that a command refused, to which no other command leads
abbrev pub refused_by : SourceKind → List ℕ → Option Hint
refused_by kind.Message first = refused_message first
refused_by used first = None
