-- GSS-API tokens (RFC 2743, 3.1), and those of Kerberos (RFC 1964, 1.1; RFC 4121, 4.1).
use Rattle.std.specs.Prelude.{ℕ, ◌+◌, ◌-◌, Bool, true, false, ◌||◌, ◌==◌, if◌then◌else◌, List, [], ◌∷◌, codes, bytes_eq, Option, Some, None, Result}
use Rattle.krb_der.specs.Hex.{hex}
use Rattle.krb_der.specs.Octets.{when}
use Rattle.krb_der.specs.declared.why.Why.TheVariants as why
use Rattle.krb_msg.specs.Views.{kind_tag}
use Rattle.krb_msg.specs.declared.message.Kind.TheVariants as kind
use Rattle.krb_token.specs.Opened.{Part, Fault, Opened, refused_in, refused_bare, message_under, and_then}
use Rattle.krb_token.specs.Items.{Item, entered, expected, simple_item, simple_tag}
use Rattle.krb_source.specs.declared.layer.Layer.{Layer}
use Rattle.krb_token.specs.declared.simple.Simple.TheVariants as simple

-- ---- identifiers of mechanisms
-- 1.2.840.113554.1.2.2, Kerberos V5 (RFC 4121, 4.1)
abbrev pub kerberos : List ℕ
kerberos = hex (codes "2A 86 48 86 F7 12 01 02 02")

-- 1.2.840.48018.1.2.2, Kerberos V5 as Windows also writes it (RFC 4559, 4)
abbrev pub kerberos_of_windows : List ℕ
kerberos_of_windows = hex (codes "2A 86 48 82 F7 12 01 02 02")

-- 1.2.840.113554.1.2.2.3, Kerberos V5 from user to user
abbrev pub user_to_user : List ℕ
user_to_user = hex (codes "2A 86 48 86 F7 12 01 02 02 03")

-- 1.3.6.1.5.5.2, SPNEGO (RFC 4178, 4)
abbrev pub negotiation : List ℕ
negotiation = hex (codes "2B 06 01 05 05 02")

abbrev pub is_kerberos : List ℕ → Bool
is_kerberos identifier = bytes_eq identifier kerberos || bytes_eq identifier kerberos_of_windows || bytes_eq identifier user_to_user

-- the identifier of a mechanism in a token, and what follows it
abbrev pub identified : Part → Result Item Fault
identified part =
    and_then (entered (codes "GSS") 0x60 true part)
    (λ token. and_then (expected (codes "GSS") (simple_tag simple.Identifier) token.contents.place token.contents.octets) (λ _. simple_item simple.Identifier (codes "GSS.oid") false token.contents))

-- the identifier is none of those that may be there
abbrev pub unknown_mechanism : List Layer → Item → Opened
unknown_mechanism layers identifier = refused_in layers (codes "GSS.oid") (identifier.rest.place - 1) why.Range

-- ---- tokens of Kerberos
-- the identifier octet of the message in a token whose first octet this is, if there are such tokens; the second octet is 0
abbrev pub message_tag : ℕ → Option ℕ
message_tag high =
    if high == 1 then Some (kind_tag kind.ApReq)
    else if high == 2 then Some (kind_tag kind.ApRep)
    else if high == 3 then Some (kind_tag kind.KrbError)
    else None

-- the message itself, which begins with its identifier octet
abbrev pub message_in : List Layer → ℕ → ℕ → List ℕ → Opened
message_in layers tag place [] = refused_in layers (codes "GSS.message") (place - 1) why.Missing
message_in layers tag place (octet ∷ octets) =
    when (octet == tag) (λ _. message_under layers place (octet ∷ octets)) (λ _. refused_bare layers place why.Tag)

-- the second octet of the token's identifier, and the message
abbrev pub token_of : List Layer → Option ℕ → ℕ → List ℕ → Opened
token_of layers None place octets = refused_in layers (codes "GSS.token-id") place why.Range
token_of layers (Some tag) place [] = refused_in layers (codes "GSS.token-id") place why.Missing
token_of layers (Some tag) place (low ∷ octets) =
    when (low == 0) (λ _. message_in layers tag (place + 2) octets) (λ _. refused_in layers (codes "GSS.token-id") (place + 1) why.Range)

-- what follows the identifier of Kerberos
abbrev pub kerberos_opened : List Layer → ℕ → List ℕ → Opened
kerberos_opened layers place [] = refused_in layers (codes "GSS.token-id") (place - 1) why.Missing
kerberos_opened layers place (high ∷ octets) = token_of layers (message_tag high) place octets
