-- Octets of which one is no text.
use Rattle.std.proofs.Common.{ℕ, suc, ◌-◌, ◌≡◌, ◌&&◌, if◌then◌else◌, not, Bool, true, false, List, [], ◌∷◌, ◌++◌, length, take, drop, Option, Some, None, Ok, Err, refl, subst, ap, ◌∙◌, take-append-drop}
use Rattle.std.specs.Option.{is_some}
use Rattle.krb_der.specs.Octets.{when}
use Rattle.krb_input.specs.Characters.{is_text}
use Rattle.krb_input.specs.Octets.{begin_message, first_no_text, is_marked}
use Rattle.krb_input.specs.Inputs.{spelled, spelled_by}
use Rattle.krb_source.specs.declared.spelling.Spelling.TheVariants as form
use Rattle.krb_laws.specs.Spelled.{OctetsAreSpelled}

octets_by : (octets : List ℕ) (left : Option ℕ) → is_marked octets ≡ false → begin_message octets ≡ true → is_some left ≡ true → spelled_by left octets ≡ Ok (form.Octets, octets)
octets_by octets None unmarked begins some = absurd (cc)
octets_by octets (Some left) unmarked begins some =
    ap (λ m. when (not m && begin_message octets) (λ _. Ok (form.Octets, octets)) (λ _. Err (form.Hex, length octets - left))) unmarked
    ∙ ap (λ b. when (true && b) (λ _. Ok (form.Octets, octets)) (λ _. Err (form.Hex, length octets - left))) begins

pub octets_are_spelled : OctetsAreSpelled
unfolding spelled
octets_are_spelled octets unmarked begins some =
    ap (λ t. spelled_by (first_no_text t) octets) (ap (λ m. if m then drop 3 octets else octets) unmarked)
    ∙ octets_by octets (first_no_text octets) unmarked begins some

-- ---- an octet among others
no_text_first : (octet : ℕ) (octets : List ℕ) → is_text octet ≡ false → is_some (first_no_text (octet ∷ octets)) ≡ true
no_text_first octet octets is = ap (λ b. is_some (when b (λ _. first_no_text octets) (λ _. Some (suc (length octets))))) is

no_text_later : (octets : List ℕ) (octet_is_text : Bool) → is_some (first_no_text octets) ≡ true → is_some (when octet_is_text (λ _. first_no_text octets) (λ _. Some (suc (length octets)))) ≡ true
no_text_later octets true others = others
no_text_later octets false others = refl

pub no_text_after : (before octets : List ℕ) → is_some (first_no_text octets) ≡ true → is_some (first_no_text (before ++ octets)) ≡ true
no_text_after [] octets others = others
no_text_after (octet ∷ before) octets others = no_text_later (before ++ octets) (is_text octet) (no_text_after before octets others)

pub no_text_among : (before : List ℕ) (octet : ℕ) (octets : List ℕ) → is_text octet ≡ false → is_some (first_no_text (before ++ (octet ∷ octets))) ≡ true
no_text_among before octet octets is = no_text_after before (octet ∷ octets) (no_text_first octet octets is)

-- ---- octets among others
text_on : (octet_is_text : Bool) (before others : List ℕ) → (is_some (first_no_text before) ≡ true → is_some (first_no_text (before ++ others)) ≡ true) → is_some (when octet_is_text (λ _. first_no_text before) (λ _. Some (suc (length before)))) ≡ true →
    is_some (when octet_is_text (λ _. first_no_text (before ++ others)) (λ _. Some (suc (length (before ++ others))))) ≡ true
text_on true before others go_on is = go_on is
text_on false before others go_on is = refl

no_text_before : (before others : List ℕ) → is_some (first_no_text before) ≡ true → is_some (first_no_text (before ++ others)) ≡ true
no_text_before [] others is = absurd (cc)
no_text_before (octet ∷ before) others is = text_on (is_text octet) before others (no_text_before before others) is

pub no_text_in_part : (skipped size : ℕ) (octets : List ℕ) → is_some (first_no_text (take size (drop skipped octets))) ≡ true → is_some (first_no_text octets) ≡ true
no_text_in_part skipped size octets is =
    let after : List ℕ = drop skipped octets in
    let in_rest = subst (λ o. is_some (first_no_text o) ≡ true) (take-append-drop size after) (no_text_before (take size after) (drop size after) is) in
    subst (λ o. is_some (first_no_text o) ≡ true) (take-append-drop skipped octets) (no_text_after (take skipped octets) after in_rest)
