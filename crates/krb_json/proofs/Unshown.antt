-- The octets that a text shows, one after another.
use Rattle.std.proofs.Common.{◌≡◌, ℕ, ◌+◌, ◌-◌, ◌*◌, ◌≤◌, List, [], ◌∷◌, ◌++◌, length, append_assoc, take, drop, get_or, Option, Some, None, option_map, Result, Ok, Err, refl, sym, ◌∙◌, ap, arith}
use Rattle.std.specs.Option.{option_and_then}
use Rattle.std.specs.Result.{MatchResult}
use Rattle.std.proofs.Math.Seq.{take-length}
use Rattle.hex.specs.Hex.{decode_pairs, decode_sized, digit_or_error, hex_digit_value, ◌>>=◌}
use Rattle.hex.specs.declared.error.FromHexError.{FromHexError}
use Rattle.krb_json.specs.Spelling.{octet_of, unshown}

-- ---- two digits
by-digits : (a b : Option ℕ) (high low : ℕ) (r : Result (Unit {0}) FromHexError) (out : List ℕ)
    → MatchResult ((digit_or_error high 0 a >>= λ h. digit_or_error low 1 b >>= λ l. Ok (h * 16 + l)) >>= λ octet. Ok (octet ∷ [])) (λ octets. (r ≡ Ok tt) × (out ≡ octets)) (λ e. r ≡ Err e)
    → MatchResult r (λ _. Some (get_or out 0 0) ≡ option_and_then (λ h. option_map (λ l. 16 * h + l) b) a) (λ _. None ≡ option_and_then (λ h. option_map (λ l. 16 * h + l) b) a)
by-digits (Some h) (Some l) high low (Ok done) out is =
    let same : h * 16 + l ≡ 16 * h + l = omega arith in
    ap (λ octets. Some (get_or octets 0 0)) is.1 ∙ ap Some same
by-digits (Some h) (Some l) high low (Err e) out is = cc is.0
by-digits other another high low (Ok done) out is = cc is
by-digits other another high low (Err e) out is = refl

pub two-digits : (high low : ℕ) (r : Result (Unit {0}) FromHexError) (out : List ℕ)
    → MatchResult (decode_sized (high ∷ low ∷ []) 1) (λ octets. (r ≡ Ok tt) × (out ≡ octets)) (λ e. r ≡ Err e)
    → MatchResult r (λ _. Some (get_or out 0 0) ≡ octet_of high low) (λ _. None ≡ octet_of high low)
unfolding decode_pairs
two-digits high low r out is = by-digits (hex_digit_value high) (hex_digit_value low) high low r out is

-- ---- `\x` and two digits
unshown-at : (octet : ℕ) (digits : Option ℕ) (text : List ℕ) → digits ≡ Some octet → option_and_then (λ o. option_map (λ octets. o ∷ octets) (unshown text)) digits ≡ option_map (λ octets. octet ∷ octets) (unshown text)
unshown-at octet digits text is = ap (option_and_then (λ o. option_map (λ octets. o ∷ octets) (unshown text))) is

pub two-digits-shown : (first : ℕ) (others : List ℕ) (octet : ℕ) → first ≡ 92 → 3 ≤ length others → get_or others 0 0 ≡ 120 → octet_of (get_or others 1 0) (get_or others 2 0) ≡ Some octet → unshown (first ∷ others) ≡ option_map (λ octets. octet ∷ octets) (unshown (take (length others - 3) (drop 3 others)))
two-digits-shown first [] octet backslash some x digits = absurd (omega arith)
two-digits-shown first (a ∷ []) octet backslash some x digits = absurd (omega arith)
two-digits-shown first (a ∷ b ∷ []) octet backslash some x digits = absurd (omega arith)
two-digits-shown first (a ∷ b ∷ d ∷ text) octet backslash some x digits =
    let all : length (a ∷ b ∷ d ∷ text) - 3 ≡ length text = omega arith in
    rw (backslash, x) (unshown-at octet (octet_of b d) text digits)
    ∙ ap (λ rest. option_map (λ octets. octet ∷ octets) (unshown rest)) (sym (ap (λ n. take n text) all ∙ take-length text))

-- ---- from one octet to the next
pub whole : (text : List ℕ) → 1 ≤ length text → get_or text 0 0 ∷ take (length text - 1) (drop 1 text) ≡ text
whole [] some = absurd (omega arith)
whole (first ∷ others) some =
    let all : length (first ∷ others) - 1 ≡ length others = omega arith in
    ap (λ rest. first ∷ rest) (ap (λ n. take n others) all ∙ take-length others)

one-more : (done : List ℕ) (octet : ℕ) (octets : Option (List ℕ)) → option_map (λ more. done ++ more) (option_map (λ more. octet ∷ more) octets) ≡ option_map (λ more. (done ++ octet ∷ []) ++ more) octets
one-more done octet None = refl
one-more done octet (Some more) = ap Some (sym (append_assoc done (octet ∷ []) more))

pub one-shown : (text done new rest others : List ℕ) (octet : ℕ) → 1 ≤ length rest → unshown text ≡ option_map (λ more. done ++ more) (unshown rest) → unshown (get_or rest 0 0 ∷ take (length rest - 1) (drop 1 rest)) ≡ option_map (λ more. octet ∷ more) (unshown others) → new ≡ done ++ octet ∷ [] → unshown text ≡ option_map (λ more. new ++ more) (unshown others)
one-shown text done new rest others octet some before first is =
    before
    ∙ ap (λ r. option_map (λ more. done ++ more) (unshown r)) (sym (whole rest some))
    ∙ ap (option_map (λ more. done ++ more)) first
    ∙ one-more done octet (unshown others)
    ∙ ap (λ l. option_map (λ more. l ++ more) (unshown others)) (sym is)
