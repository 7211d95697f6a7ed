-- Printed characters, and lines of these and of tabs.
use Rattle.std.proofs.Common.{ℕ, suc, replicate, ◌||◌, ◌/◌, ◌%◌, ◌==◌, ◌≡◌, Bool, true, false, List, [], ◌∷◌, ◌++◌, length, Some, None, refl, ap, ◌∙◌, arith}
use Rattle.std.proofs.lemmas.Bool.Decides.{nat_tests}
use Rattle.std.proofs.lemmas.List.Elements.{All-append, All-cons, All-head, All-nil, All-replicate, All-tail}
use Rattle.std.specs.List.{AllPass}
use Rattle.base64.specs.Tables.{is_printable}
use Rattle.hex.specs.Hex.{encode_lower, encode_with}
use Rattle.krb_der.specs.Octets.{AreOctets, when}
use Rattle.krb_input.specs.Characters.{is_text}
use Rattle.krb_input.specs.Octets.{first_no_text}
use Rattle.krb_input.specs.Dumps.{lines, with_first}
use Rattle.krb_laws.specs.Written.{IsBeside, after_blanks, grouped, spaced}
use Rattle.krb_laws.proofs.Rows.{AreGroups}
use Rattle.krb_laws.proofs.Pairs.{digits_pair, digit_of, digit_printable}

abbrev pub IsPrintable : ℕ → Type 0
IsPrintable octet = is_printable octet ≡ true

abbrev pub ArePrintable : List ℕ → Type 0
ArePrintable text = AllPass is_printable text

-- what a line has: printed characters and tabs
abbrev pub IsInLine : ℕ → Type 0
IsInLine octet = (is_printable octet || octet == 0x09) ≡ true

abbrev pub AreInLine : List ℕ → Type 0
AreInLine text = AllPass (λ octet. is_printable octet || octet == 0x09) text

pub in_line : (text : List ℕ) → ArePrintable text → AreInLine text
in_line [] are = All-nil IsInLine
in_line (octet ∷ text) are = All-cons IsInLine octet text (ap (λ b. b || octet == 0x09) (All-head IsPrintable octet text are)) (in_line text (All-tail IsPrintable octet text are))

-- ---- texts
printable_is_text : (octet : ℕ) → (is_printable octet || octet == 0x09) ≡ true → is_text octet ≡ true
printable_is_text octet is = grind (arith, nat_tests)

text_before : (octet : ℕ) (text : List ℕ) → is_text octet ≡ true → first_no_text text ≡ None → first_no_text (octet ∷ text) ≡ None
text_before octet text is others = ap (λ b. when b (λ _. first_no_text text) (λ _. Some (suc (length text)))) is ∙ others

abbrev IsText : ℕ → Type 0
IsText octet = is_text octet ≡ true

pub all_text : (text : List ℕ) → AllPass is_text text → first_no_text text ≡ None
all_text [] are = refl
all_text (octet ∷ text) are = text_before octet text (All-head IsText octet text are) (all_text text (All-tail IsText octet text are))

-- a line, and a text after it
pub line_before : (line text : List ℕ) → AreInLine line → first_no_text text ≡ None → first_no_text (line ++ (0x0A ∷ text)) ≡ None
line_before [] text are others = others
line_before (octet ∷ line) text are others =
    text_before octet (line ++ (0x0A ∷ text)) (printable_is_text octet (All-head IsInLine octet line are)) (line_before line text (All-tail IsInLine octet line are) others)

-- ---- lines
printable_no_feed : (octet : ℕ) → (is_printable octet || octet == 0x09) ≡ true → (octet == 0x0A) ≡ false
printable_no_feed octet is = grind (arith, nat_tests)

pub first_line : (line text : List ℕ) → AreInLine line → lines (line ++ (0x0A ∷ text)) ≡ (line, 0x0A ∷ text) ∷ lines text
first_line [] text are = refl
first_line (octet ∷ line) text are =
    ap (λ b. when b (λ _. ([], octet ∷ (line ++ (0x0A ∷ text))) ∷ lines (line ++ (0x0A ∷ text))) (λ _. with_first octet (lines (line ++ (0x0A ∷ text))))) (printable_no_feed octet (All-head IsInLine octet line are))
    ∙ ap (with_first octet) (first_line line text (All-tail IsInLine octet line are))

-- ---- digits
pub encoded_printable : (octets : List ℕ) → AreOctets octets → ArePrintable (encode_lower octets)
unfolding encode_with
encoded_printable [] are = All-nil IsPrintable
encoded_printable (octet ∷ octets) are =
    let pair = digits_pair octet are.0 in
    All-cons IsPrintable (digit_of (octet / 16)) (digit_of (octet % 16) ∷ encode_lower octets) (digit_printable (digit_of (octet / 16)) pair.high_digit)
    (All-cons IsPrintable (digit_of (octet % 16)) (encode_lower octets) (digit_printable (digit_of (octet % 16)) pair.low_digit) (encoded_printable octets are.1))

pub beside_printable : (has_colon : Bool) (text : List ℕ) → IsBeside has_colon text → ArePrintable text
beside_printable has_colon [] is = All-nil IsPrintable
beside_printable has_colon (octet ∷ []) is = absurd is
beside_printable has_colon (first ∷ second ∷ text) is = All-cons IsPrintable first (second ∷ text) (ap is_printable is.0) (All-cons IsPrintable second text (ap is_printable is.1) is.2)

blanks_printable : (are_two : Bool) (text : List ℕ) → ArePrintable text → ArePrintable (after_blanks are_two text)
blanks_printable true text are = All-cons IsPrintable 0x20 (0x20 ∷ text) refl (All-cons IsPrintable 0x20 text refl are)
blanks_printable false text are = All-cons IsPrintable 0x20 text refl are

pub spaced_printable : (has_colon : Bool) (is_wide : ℕ → Bool) (number : ℕ) (rows : List (List ℕ)) (after : List ℕ) → AreGroups has_colon rows → ArePrintable after → ArePrintable (spaced is_wide number rows after)
spaced_printable has_colon is_wide number [] after are printable = printable
spaced_printable has_colon is_wide number (octets ∷ others) after are printable =
    blanks_printable (is_wide number) (encode_lower octets ++ spaced is_wide (suc number) others after)
    (All-append IsPrintable (encode_lower octets) (spaced is_wide (suc number) others after) (encoded_printable octets are.0) (spaced_printable has_colon is_wide (suc number) others after are.2 printable))

pub grouped_printable : (has_colon : Bool) (gap : ℕ) (is_wide : ℕ → Bool) (rows : List (List ℕ)) (after : List ℕ) → AreGroups has_colon rows → ArePrintable after → ArePrintable (grouped gap is_wide rows after)
grouped_printable has_colon gap is_wide [] after are printable = printable
grouped_printable has_colon gap is_wide (octets ∷ others) after are printable =
    All-append IsPrintable (replicate gap 0x20) (encode_lower octets ++ spaced is_wide 1 others after) (All-replicate IsPrintable gap 0x20 refl)
    (All-append IsPrintable (encode_lower octets) (spaced is_wide 1 others after) (encoded_printable octets are.0) (spaced_printable has_colon is_wide 1 others after are.2 printable))
