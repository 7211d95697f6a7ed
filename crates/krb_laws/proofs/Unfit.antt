-- Characters of base64 that no hexadecimal has.
use Rattle.std.proofs.Common.{ℕ, suc, ◌+◌, ◌-◌, ◌*◌, ◌/◌, ◌%◌, ◌==◌, ◌≡◌, ◌<◌, ◌≤◌, ◌&&◌, ◌||◌, ◌⊎◌, inl, inr, not, Bool, true, false, List, [], ◌∷◌, ◌++◌, length, replicate, Some, refl, sym, subst, ap, ◌∙◌, arith}
use Rattle.std.proofs.lemmas.Bool.{and_right, cases_eq}
use Rattle.std.specs.List.{list_any}
use Rattle.std.specs.Option.{is_some}
use Rattle.base64.specs.Alphabet.{alphabet_symbols}
use Rattle.base64.specs.Alphabets.{standard}
use Rattle.base64.specs.Rfc4648.{encode_symbols, padding_len}
use Rattle.base64.proofs.Tables.{all_below_at}
use Rattle.hex.specs.Hex.{is_hex_digit}
use Rattle.krb_der.specs.Octets.{when}
use Rattle.krb_input.specs.Characters.{is_x}
use Rattle.krb_input.specs.Laws.{without_blanks}
use Rattle.krb_input.specs.Tokens.{first_unfit, is_mark}
use Rattle.krb_laws.specs.Written.{base64_text}
use Rattle.krb_laws.proofs.Blanks.{some_of}
use Rattle.krb_laws.proofs.Characters.{symbol}
use Rattle.krb_laws.proofs.Nested.{IsHead}

-- whether a character is no digit, no mark and no x
abbrev pub is_unfit : ℕ → Bool
is_unfit octet = not (is_hex_digit octet || is_mark octet || is_x octet)

-- ---- in a text
unfit_parts : (digit mark x after_zero : Bool) → not (digit || mark || x) ≡ true → (digit || mark || after_zero && x) ≡ false
unfit_parts false false false after_zero is = and_right after_zero false refl
unfit_parts other another third after_zero is = absurd (cc)

unfit_here : (after_zero : Bool) (octet : ℕ) (text : List ℕ) → is_unfit octet ≡ true → is_some (first_unfit after_zero (octet ∷ text)) ≡ true
unfit_here after_zero octet text is =
    ap (λ b. is_some (when b (λ _. first_unfit (octet == 0x30) text) (λ _. Some (suc (length text))))) (unfit_parts (is_hex_digit octet) (is_mark octet) (is_x octet) after_zero is)

unfit_on : (fits : Bool) (octet : ℕ) (text : List ℕ) → ((after_zero : Bool) → is_some (first_unfit after_zero text) ≡ true) → is_some (when fits (λ _. first_unfit (octet == 0x30) text) (λ _. Some (suc (length text)))) ≡ true
unfit_on true octet text others = others (octet == 0x30)
unfit_on false octet text others = refl

unfit_by : (octet : ℕ) (text : List ℕ) (unfit : Bool) → is_unfit octet ≡ unfit → (list_any is_unfit text ≡ true → (after_zero : Bool) → is_some (first_unfit after_zero text) ≡ true) → (unfit || list_any is_unfit text) ≡ true →
    (after_zero : Bool) → is_some (first_unfit after_zero (octet ∷ text)) ≡ true
unfit_by octet text true is others any after_zero = unfit_here after_zero octet text is
unfit_by octet text false is others any after_zero = unfit_on (is_hex_digit octet || is_mark octet || after_zero && is_x octet) octet text (others any)

-- a text with such a character
unfit_among : (text : List ℕ) → list_any is_unfit text ≡ true → (after_zero : Bool) → is_some (first_unfit after_zero text) ≡ true
unfit_among [] any = absurd (cc)
unfit_among (octet ∷ text) any = unfit_by octet text (is_unfit octet) refl (unfit_among text) any

-- ---- characters
-- G to T
unfit_symbol : (value : ℕ) → 6 ≤ value → value ≤ 19 → is_unfit (symbol value) ≡ true
unfit_symbol value more less =
    let same : 6 + (value - 6) ≡ value = omega arith in
    subst (λ v. is_unfit (symbol v) ≡ true) same (all_below_at (λ k. is_unfit (symbol (6 + k))) 14 (value - 6) refl (omega arith))

head_unfit : (second third : ℕ) → second < 256 → third < 256 → IsHead second third → (is_unfit (symbol (second % 16 * 4 + third / 64)) ≡ true) ⊎ (is_unfit (symbol (third % 64)) ≡ true)
head_unfit second third few small (inl sequence) = inr (subst (λ t. is_unfit (symbol (t % 64)) ≡ true) (sym sequence) refl)
head_unfit second third few small (inr long) = inl (unfit_symbol (second % 16 * 4 + third / 64) (by_count (cases_eq second 129)) (omega arith))
  where
    by_count : (second ≡ 129) ⊎ (second ≡ 129 → ⊥) → 6 ≤ second % 16 * 4 + third / 64
    by_count (inl one) = let large : 128 ≤ third = long.2 one in omega arith
    by_count (inr more) = omega arith

-- ---- base64
or_third : (a b c d e : Bool) → (c ≡ true) ⊎ (d ≡ true) → (a || (b || (c || (d || e)))) ≡ true
or_third false false false false e (inl is) = absurd (cc)
or_third false false false false e (inr is) = absurd (cc)
or_third other another third fourth e one = refl

pub headed_unfit : (first second third : ℕ) (others : List ℕ) → second < 256 → third < 256 → IsHead second third → list_any is_unfit (base64_text (first ∷ second ∷ third ∷ others)) ≡ true
unfolding encode_symbols
headed_unfit first second third others few small head =
    or_third (is_unfit (symbol (first / 4))) (is_unfit (symbol (first % 4 * 16 + second / 16))) (is_unfit (symbol (second % 16 * 4 + third / 64))) (is_unfit (symbol (third % 64)))
    (list_any is_unfit (encode_symbols (alphabet_symbols standard) others ++ replicate (padding_len (length (first ∷ second ∷ third ∷ others))) 0x3D))
    (head_unfit second third few small head)

-- so base64 with blanks anywhere is neither digits nor tokens
pub unfit_text : (text octets : List ℕ) → without_blanks text ≡ base64_text octets → list_any is_unfit (base64_text octets) ≡ true → is_some (first_unfit false text) ≡ true
unfit_text text octets given any = unfit_among text (some_of is_unfit text (ap (list_any is_unfit) given ∙ any)) false
