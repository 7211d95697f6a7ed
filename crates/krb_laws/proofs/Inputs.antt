-- Inputs that are text, as what rule they are read by.
use Rattle.std.proofs.Common.{ℕ, suc, ◌==◌, ◌≡◌, ◌&&◌, if◌then◌else◌, Bool, true, false, List, [], ◌∷◌, length, drop, Some, None, refl, ap, ◌∙◌, arith}
use Rattle.std.proofs.lemmas.Bool.Decides.{nat_tests}
use Rattle.krb_der.specs.Octets.{when, begins_with}
use Rattle.krb_input.specs.Characters.{is_text}
use Rattle.krb_input.specs.Octets.{first_no_text, is_marked, without_mark}
use Rattle.krb_input.specs.Dumps.{begins_dump, dump}
use Rattle.krb_input.specs.Inputs.{as_form, spelled, spelled_by, spelled_in_text, spelled_plainly}
use Rattle.krb_source.specs.declared.spelling.Spelling.TheVariants as form

-- ---- marks
pub no_mark : (input : List ℕ) → begins_with 0xEF input ≡ false → is_marked input ≡ false
no_mark [] is = refl
no_mark (first ∷ []) is = refl
no_mark (first ∷ second ∷ []) is = refl
no_mark (first ∷ second ∷ third ∷ text) is = ap (λ begins. begins && (second == 0xBB) && (third == 0xBF)) is

without_no_mark : (input : List ℕ) → begins_with 0xEF input ≡ false → without_mark input ≡ input
without_no_mark input is = ap (λ marked. if marked then drop 3 input else input) (no_mark input is)

-- EF is no text
text_unmarked : (text : List ℕ) → first_no_text text ≡ None → begins_with 0xEF text ≡ false
text_unmarked [] none = refl
text_unmarked (first ∷ text) none = by_first (first == 0xEF) refl
  where
    by_first : (begins : Bool) → (first == 0xEF) ≡ begins → (first == 0xEF) ≡ false
    by_first false is = is
    by_first true is =
        let other : is_text first ≡ false = grind (arith, nat_tests) in
        let some : first_no_text (first ∷ text) ≡ Some (suc (length text)) = ap (λ t. when t (λ _. first_no_text text) (λ _. Some (suc (length text)))) other in
        absurd (cc)

-- ---- texts
spelled_text : (text : List ℕ) → first_no_text text ≡ None → spelled text ≡ spelled_in_text (length text) text
unfolding spelled
spelled_text text none =
    ap (λ t. spelled_by (first_no_text t) text) (without_no_mark text (text_unmarked text none))
    ∙ ap (λ left. spelled_by left text) none
    ∙ ap (spelled_in_text (length text)) (without_no_mark text (text_unmarked text none))

pub spelled_no_dump : (text : List ℕ) → first_no_text text ≡ None → begins_dump text ≡ false → spelled text ≡ spelled_plainly (length text) text
spelled_no_dump text none other =
    spelled_text text none
    ∙ ap (λ b. when b (λ _. as_form (length text) form.Dump (dump text)) (λ _. spelled_plainly (length text) text)) other

pub spelled_dump : (text : List ℕ) → first_no_text text ≡ None → begins_dump text ≡ true → spelled text ≡ as_form (length text) form.Dump (dump text)
spelled_dump text none begins =
    spelled_text text none
    ∙ ap (λ b. when b (λ _. as_form (length text) form.Dump (dump text)) (λ _. spelled_plainly (length text) text)) begins
