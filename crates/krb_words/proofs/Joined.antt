-- Words with a separator between them, in a loop.
use Rattle.std.proofs.Common.{◌≡◌, ◌∙◌, ◌++◌, ℕ, List, [], ◌∷◌, ap, append_assoc, refl, sym}
use Rattle.std.specs.List.{flat_map}
use Rattle.krb_record.specs.Text.{joined}

-- the words that follow, after what is before the first of them
abbrev pub rest_text : List ℕ → List ℕ → List (List ℕ) → List ℕ
rest_text separator before [] = []
rest_text separator before (first ∷ others) = (before ++ first) ++ flat_map (λ other. separator ++ other) others

pub rest_all : (separator : List ℕ) → (words : List (List ℕ)) → rest_text separator [] words ≡ joined [] separator (λ word. word) words
rest_all separator [] = refl
rest_all separator (first ∷ others) = refl

rest_others : (separator : List ℕ) → (words : List (List ℕ)) → flat_map (λ other. separator ++ other) words ≡ rest_text separator separator words
rest_others separator [] = refl
rest_others separator (first ∷ others) = refl

pub rest_more : (separator before text word : List ℕ) → (words : List (List ℕ)) → ((text ++ before) ++ word) ++ rest_text separator separator words ≡ text ++ rest_text separator before (word ∷ words)
rest_more separator before text word words =
    ap (λ rest. ((text ++ before) ++ word) ++ rest) (sym (rest_others separator words))
    ∙ ap (λ all. all ++ flat_map (λ other. separator ++ other) words) (append_assoc text before word)
    ∙ append_assoc text (before ++ word) (flat_map (λ other. separator ++ other) words)
