-- PA-PAC-REQUEST (MS-KILE, 2.2.3), SEQUENCE { include-pac [0] BOOLEAN }: its two values, and their DER (X.690).
use Rattle.std.specs.Prelude.{ℕ, Bool, true, false, List, [], ◌∷◌, codes, nat_eq, if◌then◌else◌, Option, Some, None, ◌≡◌, refl}
use Rattle.std.specs.Cmp.Lexicographic.{pointwise}
use Rattle.krb_der.specs.Hex.{hex}
use Rattle.krb_der.specs.Octets.{item}

-- the contents octet of a BOOLEAN (X.690, 8.2.2 and 11.1)
abbrev pub boolean_octet : Bool → ℕ
boolean_octet true = 255
boolean_octet false = 0

-- a request that the ticket have a PAC, or have none
abbrev pub pac_request : Bool → List ℕ
pac_request include = item 0x30 (item 0xA0 (item 0x01 (boolean_octet include ∷ [])))

-- which of the two octets are, if they are one
abbrev pub pac_request_in : List ℕ → Option Bool
pac_request_in octets =
    if pointwise nat_eq octets (pac_request true) then Some true
    else if pointwise nat_eq octets (pac_request false) then Some false
    else None

with_pac : pac_request true ≡ hex (codes "3005A0030101FF")
with_pac = refl

without_pac : pac_request_in (hex (codes "3005A003010100")) ≡ Some false
without_pac = refl

-- every octet but 00 is true in BER, and FF alone in DER
other_truth : pac_request_in (hex (codes "3005A003010101")) ≡ None
other_truth = refl
