-- The values that pass a test, listed one after another with commas between.
use Rattle.std.proofs.Common.{◌≡◌, ℕ, ◌+◌, ◌==◌, ◌<◌, Bool, true, false, List, [], ◌∷◌, ◌++◌, length, take, get_or, refl, ◌∙◌, append_assoc, codes}
use Rattle.std.proofs.lemmas.List.{append-nil}
use Rattle.std.proofs.lemmas.Grind.{flat_map-append}
use Rattle.std.proofs.lemmas.List.Elements.{filter_more}
use Rattle.std.specs.List.{filter}
use Rattle.krb_record.specs.Text.{joined}

-- what is between these values and one more
abbrev pub separator_after : {A : Type 0} → List A → List ℕ
separator_after [] = []
separator_after (value ∷ values) = codes ","

-- the values with commas between them
abbrev pub listed : {A : Type 0} → (A → List ℕ) → List A → List ℕ
listed text values = joined [] (codes ",") text values

pub listed-more : {A : Type 0} (text : A → List ℕ) (values : List A) (value : A) → listed text (values ++ (value ∷ [])) ≡ listed text values ++ (separator_after values ++ text value)
listed-more text [] value = append-nil (text value)
listed-more text (first ∷ others) value = rw (flat_map-append (λ other. codes "," ++ text other) others (value ∷ [])) (simp (append_assoc, append-nil))

pub separator-more : {A : Type 0} (values : List A) (value : A) → separator_after (values ++ (value ∷ [])) ≡ codes ","
separator-more [] value = refl
separator-more (first ∷ others) value = refl

-- a value that passes
pub listed_one : {A : Type 0} (text : A → List ℕ) (holds : A → Bool) (values : List A) (i : ℕ) (d : A) → i < length values → holds (get_or values i d) ≡ true →
    (listed text (filter holds (take (i + 1) values)) ≡ listed text (filter holds (take i values)) ++ (separator_after (filter holds (take i values)) ++ text (get_or values i d)))
    × (separator_after (filter holds (take (i + 1) values)) ≡ codes ",")
listed_one text holds values i d within e =
    let more : filter holds (take (i + 1) values) ≡ filter holds (take i values) ++ (get_or values i d ∷ []) = rw e at (filter_more holds values i d within) in
    (rw more (listed-more text _ _), rw more (separator-more _ _))

-- a value that does not
pub listed_none : {A : Type 0} (holds : A → Bool) (values : List A) (i : ℕ) (d : A) → i < length values → holds (get_or values i d) ≡ false → filter holds (take (i + 1) values) ≡ filter holds (take i values)
listed_none holds values i d within e =
    let more : filter holds (take (i + 1) values) ≡ filter holds (take i values) ++ [] = rw e at (filter_more holds values i d within) in
    more ∙ append-nil _

-- if nothing precedes the next there is no value, and so the other text
pub none_listed : {A : Type 0} (none : List ℕ) (text : A → List ℕ) (values : List A) → (length (separator_after values) == 0) ≡ true → joined none (codes ",") text values ≡ listed text values ++ none
none_listed none text [] e = refl
none_listed none text (first ∷ others) e = cc

-- else there is one, and so the other text has no part
pub some_listed : {A : Type 0} (none : List ℕ) (text : A → List ℕ) (values : List A) → (length (separator_after values) == 0) ≡ false → joined none (codes ",") text values ≡ listed text values
some_listed none text [] e = cc
some_listed none text (first ∷ others) e = refl
