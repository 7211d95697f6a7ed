-- Texts are printable: 20 to 7E.
use Rattle.std.proofs.Common.{◌≡◌, ℕ, ℤ, pos, negsuc, zero, suc, ◌/◌, ◌%◌, ◌^◌, ◌<◌, ◌≤◌, true, false, ◌&&◌, ◌==◌, not, Bool, cond, ◌⊎◌, inl, inr, if◌then◌else◌, List, [], ◌∷◌, ◌++◌, length, get_or, slice_index, codes, decimal, refl, sym, ap, ◌∙◌, subst, arith}
use Rattle.std.specs.Prelude.{nat_le}
use Rattle.std.proofs.lemmas.Bool.{and_parts, leb-true, cases_eq}
use Rattle.std.specs.List.{AllByRecursion, list_all}
use Rattle.std.specs.Fmt.{signed_decimal}
use Rattle.std.specs.Str.{IsAscii}
use Rattle.std.specs.Str.Parse.{AllDigits}
use Rattle.std.proofs.lemmas.Fmt.{decimal_is_IsNumeral}
use Rattle.std.proofs.lemmas.Str.Parse.{digit_from_value}
use lib.Signed.{mag}
use Rattle.hex.specs.Hex.{encode_lower, encode_with, lower_digits}
use Rattle.json.specs.Token.{Token}
use Rattle.json.specs.Token as token
use Rattle.json.specs.Print.{print_from, token_text, escape, escape_byte, quoted, separator, begins, ends}
use Rattle.json.proofs.Printed.Strings.{escape_byte_plain}
use Rattle.krb_der.specs.Octets.{AreOctets}
use Rattle.krb_der.specs.Scalars.{IsTimeFrom}
use Rattle.krb_msg.specs.Views.{kind_name}
use Rattle.krb_msg.specs.declared.message.Kind.{Kind}
use Rattle.krb_judge.specs.FieldNames.{fields_of, field_at, no_field}
use Rattle.krb_judge.specs.declared.locating.names.Names.{Names}
use Rattle.krb_json.specs.Spelling.{is_shown_itself, shown_octet, shown}
use Rattle.krb_json.proofs.KindTexts.{is_printable, all-kinds, all-names}

abbrev pub IsPrintable : List ℕ → Type 0
IsPrintable text = AllByRecursion (λ octet. (32 ≤ octet) × (octet ≤ 126)) text

pub printable-append : (a b : List ℕ) → IsPrintable a → IsPrintable b → IsPrintable (a ++ b)
printable-append [] b p q = q
printable-append (c ∷ a) b p q = (p.0, printable-append a b p.1 q)

pub printable-ascii : (text : List ℕ) → IsPrintable text → IsAscii text
printable-ascii [] p i = omega arith
printable-ascii (c ∷ text) p zero = omega (arith, p.0)
printable-ascii (c ∷ text) p (suc i) = printable-ascii text p.1 i

-- ---- the test
from-test : (text : List ℕ) → is_printable text ≡ true → IsPrintable text
from-test [] is = tt
from-test (c ∷ text) is =
    let parts = and_parts (nat_le 32 c && nat_le c 126) _ is in
    let range = and_parts (nat_le 32 c) _ parts.0 in
    ((leb-true 32 c range.0, leb-true c 126 range.1), from-test text parts.1)

all-or : {A : Type 0} (p : A → Bool) (xs : List A) (d : A) (index : ℕ) → list_all p xs ≡ true → p d ≡ true → p (get_or xs index d) ≡ true
all-or p [] d index all none = none
all-or p (x ∷ xs) d zero all none = (and_parts (p x) _ all).0
all-or p (x ∷ xs) d (suc index) all none = all-or p xs d index (and_parts (p x) _ all).1 none

pub printable-name : (n : Names) (index : ℕ) → IsPrintable (field_at n index).name
printable-name n index = from-test (field_at n index).name (all-or (λ field. is_printable field.name) (fields_of n) no_field index (all-names n) refl)

pub printable-kind : (k : Kind) → IsPrintable (kind_name k)
printable-kind k = from-test (kind_name k) (all-kinds k)

-- ---- scalars
printable-digits : (ds : List ℕ) → AllDigits 10 ds → IsPrintable ds
printable-digits [] digits = tt
printable-digits (d ∷ ds) digits =
    let digit = digit_from_value d digits.0 in
    ((omega (arith, digit), omega (arith, digit)), printable-digits ds digits.1)

pub printable-decimal : (n : ℕ) → n < 2 ^ 64 → IsPrintable (decimal n)
printable-decimal n small = printable-digits (decimal n) (decimal_is_IsNumeral n small).0.1

pub printable-signed : (z : ℤ) → mag z < 2 ^ 63 → IsPrintable (signed_decimal z)
printable-signed (pos n) small = printable-decimal n (omega arith)
printable-signed (negsuc n) small = ((omega arith, omega arith), printable-decimal (suc n) (omega arith))

at-within : {A : Type 0} (p : A → Bool) (xs : List A) (d : A) (index : ℕ) → list_all p xs ≡ true → index < length xs → p (get_or xs index d) ≡ true
at-within p [] d index all within = absurd (omega arith)
at-within p (x ∷ xs) d zero all within = (and_parts (p x) _ all).0
at-within p (x ∷ xs) d (suc index) all within = at-within p xs d index (and_parts (p x) _ all).1 (omega arith)

digit-printable : (d : ℕ) → d < 16 → (32 ≤ slice_index lower_digits d) × (slice_index lower_digits d ≤ 126)
digit-printable d small =
    let range = and_parts (nat_le 32 (slice_index lower_digits d)) _ (at-within (λ c. nat_le 32 c && nat_le c 126) lower_digits 0 d refl small) in
    (leb-true 32 (slice_index lower_digits d) range.0, leb-true (slice_index lower_digits d) 126 range.1)

pub printable-hex : (octets : List ℕ) → AreOctets octets → IsPrintable (encode_lower octets)
unfolding encode_with
printable-hex [] are = tt
printable-hex (octet ∷ octets) are = (digit-printable (octet / 16) (omega (arith, are.0)), (digit-printable (octet % 16) (omega arith), printable-hex octets are.1))

printable-shown_one : (plain : Bool) (octet : ℕ) → octet < 256 → (plain ≡ true → (32 ≤ octet) × (octet ≤ 126)) → IsPrintable (if plain then octet ∷ [] else codes "\\x" ++ encode_lower (octet ∷ []))
printable-shown_one true octet small range = (range refl, tt)
printable-shown_one false octet small range = ((omega arith, omega arith), ((omega arith, omega arith), printable-hex (octet ∷ []) (small, tt)))

pub printable-shown : (octets : List ℕ) → AreOctets octets → IsPrintable (shown octets)
printable-shown [] are = tt
printable-shown (octet ∷ octets) are =
    printable-append (shown_octet octet) (shown octets)
    (printable-shown_one (nat_le 0x20 octet && nat_le octet 0x7E && not (octet == 0x5C)) octet are.0 (range octet))
    (printable-shown octets are.1)
  where
    range : (octet : ℕ) → (nat_le 0x20 octet && nat_le octet 0x7E && not (octet == 0x5C)) ≡ true → (32 ≤ octet) × (octet ≤ 126)
    range octet plain =
        let parts = and_parts (nat_le 0x20 octet) _ (and_parts (nat_le 0x20 octet && nat_le octet 0x7E) _ plain).0 in
        (leb-true 0x20 octet parts.0, leb-true octet 0x7E parts.1)

pub printable-time : (digits : ℕ) (octets : List ℕ) → IsTimeFrom digits octets → IsPrintable octets
printable-time zero [] are = absurd are
printable-time zero (last ∷ []) are = ((omega (arith, are), omega (arith, are)), tt)
printable-time zero (last ∷ next ∷ octets) are = absurd are
printable-time (suc digits) [] are = absurd are
printable-time (suc digits) (digit ∷ octets) are = ((omega (arith, are.0), omega (arith, are.1)), printable-time digits octets are.2)

-- ---- tokens
escape-quote : IsPrintable (escape_byte 34)
unfolding escape_byte
escape-quote = from-test (escape_byte 34) refl

escape-backslash : IsPrintable (escape_byte 92)
unfolding escape_byte
escape-backslash = from-test (escape_byte 92) refl

printable-escape_byte : (x : ℕ) → (32 ≤ x) × (x ≤ 126) → IsPrintable (escape_byte x)
printable-escape_byte x range = by (cases_eq x 34) (cases_eq x 92)
  where
    by : (x ≡ 34) ⊎ (x ≡ 34 → ⊥) → (x ≡ 92) ⊎ (x ≡ 92 → ⊥) → IsPrintable (escape_byte x)
    by (inl e) other = subst (λ y. IsPrintable (escape_byte y)) (sym e) escape-quote
    by (inr quote) (inl e) = subst (λ y. IsPrintable (escape_byte y)) (sym e) escape-backslash
    by (inr quote) (inr backslash) = subst IsPrintable (sym (escape_byte_plain x quote backslash range.0)) (range, tt)

printable-escape : (s : List ℕ) → IsPrintable s → IsPrintable (escape s)
printable-escape [] p = tt
printable-escape (x ∷ s) p = printable-append (escape_byte x) (escape s) (printable-escape_byte x p.0) (printable-escape s p.1)

printable-quoted : (s : List ℕ) → IsPrintable s → IsPrintable (quoted s)
printable-quoted s p = ((omega arith, omega arith), printable-append (escape s) (34 ∷ []) (printable-escape s p) ((omega arith, omega arith), tt))

-- the text in a token
abbrev pub ShowsPrintable : Token → Type 0
ShowsPrintable (token.key s) = IsPrintable s
ShowsPrintable (token.string s) = IsPrintable s
ShowsPrintable (token.number s) = IsPrintable s
ShowsPrintable other = Unit {0}

printable-token : (t : Token) → ShowsPrintable t → IsPrintable (token_text t)
printable-token token.begin_object p = from-test (token_text token.begin_object) refl
printable-token token.end_object p = from-test (token_text token.end_object) refl
printable-token token.begin_array p = from-test (token_text token.begin_array) refl
printable-token token.end_array p = from-test (token_text token.end_array) refl
printable-token (token.key s) p = printable-append (quoted s) (58 ∷ []) (printable-quoted s p) ((omega arith, omega arith), tt)
printable-token (token.string s) p = printable-quoted s p
printable-token (token.number s) p = p
printable-token (token.boolean true) p = from-test (token_text (token.boolean true)) refl
printable-token (token.boolean false) p = from-test (token_text (token.boolean false)) refl
printable-token token.null p = from-test (token_text token.null) refl
printable-token token.bad p = tt

printable-comma : (b : Bool) → IsPrintable (cond b (44 ∷ []) [])
printable-comma true = ((omega arith, omega arith), tt)
printable-comma false = tt

pub printable-print : (after : Bool) (ts : List Token) → AllByRecursion ShowsPrintable ts → IsPrintable (print_from after ts)
unfolding print_from
printable-print after [] p = tt
printable-print after (t ∷ ts) p =
    printable-append (separator after t) (token_text t ++ print_from (ends t) ts) (printable-comma (after && begins t))
    (printable-append (token_text t) (print_from (ends t) ts) (printable-token t p.0) (printable-print (ends t) ts p.1))

-- a string all of whose octets are shown as themselves
pub plain-shown : (octets : List ℕ) → list_all is_shown_itself octets ≡ true → shown octets ≡ octets
plain-shown [] plain = refl
plain-shown (octet ∷ octets) plain =
    let p = and_parts (is_shown_itself octet) (list_all is_shown_itself octets) plain in
    ap (λ b. (if b then octet ∷ [] else codes "\\x" ++ encode_lower (octet ∷ [])) ++ shown octets) p.0 ∙ ap (λ l. octet ∷ l) (plain-shown octets p.1)
