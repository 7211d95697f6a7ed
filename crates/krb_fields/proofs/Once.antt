-- Texts that are appended unless they are there, in a loop.
use Rattle.std.proofs.Common.{ℕ, Bool, true, false, cond, ◌<◌, ◌≤◌, ◌+◌, ◌≡◌, ◌∙◌, ◌++◌, List, [], ◌∷◌, ap, get_or, length, map, refl, subst, sym, take}
use Rattle.std.proofs.lemmas.Grind.{flat_map-append}
use Rattle.std.proofs.lemmas.List.{append-nil, map-append, take_all, take_more}
use Rattle.std.specs.List.{filter, flat_map}
use Rattle.krb_fields.specs.Fields.{Shape, shape_of}
use Rattle.krb_fields.specs.Names.{kind_text, with_all, with_new}
use Rattle.krb_fields.specs.declared.shape.Shape.{Shape as RustShape}

pub with_all-append : (texts xs ys : List (List ℕ)) → with_all texts (xs ++ ys) ≡ with_all (with_all texts xs) ys
with_all-append texts [] ys = refl
with_all-append texts (x ∷ xs) ys = with_all-append (with_new texts x) xs ys

-- one more of a list
pub one_more : {A : Type 0} → (texts : List (List ℕ)) → (f : A → List ℕ) → (xs : List A) → (i : ℕ) → (d : A) → i < length xs
    → with_all texts (map f (take (i + 1) xs)) ≡ with_new (with_all texts (map f (take i xs))) (f (get_or xs i d))
one_more texts f xs i d below =
    ap (λ ys. with_all texts (map f ys)) (take_more xs i d below)
    ∙ ap (with_all texts) (map-append f (take i xs) (get_or xs i d ∷ []))
    ∙ with_all-append texts (map f (take i xs)) (f (get_or xs i d) ∷ [])

-- those that one more has
pub more_of : {A : Type 0} → (texts : List (List ℕ)) → (f : A → List (List ℕ)) → (xs : List A) → (i : ℕ) → (d : A) → i < length xs
    → with_all texts (flat_map f (take (i + 1) xs)) ≡ with_all (with_all texts (flat_map f (take i xs))) (f (get_or xs i d))
more_of texts f xs i d below =
    ap (λ ys. with_all texts (flat_map f ys)) (take_more xs i d below)
    ∙ ap (with_all texts) (flat_map-append f (take i xs) (get_or xs i d ∷ []) ∙ ap (λ last. flat_map f (take i xs) ++ last) (append-nil (f (get_or xs i d))))
    ∙ with_all-append texts (flat_map f (take i xs)) (f (get_or xs i d))

-- the same text before each of them
pub before_each : {A : Type 0} → (before : List ℕ) → (f : A → List (List ℕ)) → (xs : List A)
    → flat_map (λ x. map (λ text. before ++ text) (f x)) xs ≡ map (λ text. before ++ text) (flat_map f xs)
before_each before f [] = refl
before_each before f (x ∷ xs) =
    ap (λ rest. map (λ text. before ++ text) (f x) ++ rest) (before_each before f xs)
    ∙ sym (map-append (λ text. before ++ text) (f x) (flat_map f xs))

pub map_map : {A B C : Type 0} → (f : B → C) → (g : A → B) → (xs : List A) → map f (map g xs) ≡ map (λ x. f (g x)) xs
map_map f g [] = refl
map_map f g (x ∷ xs) = ap (λ rest. f (g x) ∷ rest) (map_map f g xs)

pub map_same : {A B : Type 0} → (f g : A → B) → ((x : A) → f x ≡ g x) → (xs : List A) → map f xs ≡ map g xs
map_same f g same [] = refl
map_same f g same (x ∷ xs) = ap (λ rest. f x ∷ rest) (map_same f g same xs) ∙ ap (λ first. first ∷ map g xs) (same x)

pub flat_map_same : {A B : Type 0} → (f g : A → List B) → ((x : A) → f x ≡ g x) → (xs : List A) → flat_map f xs ≡ flat_map g xs
flat_map_same f g same [] = refl
flat_map_same f g same (x ∷ xs) = ap (λ rest. f x ++ rest) (flat_map_same f g same xs) ∙ ap (λ first. first ++ flat_map g xs) (same x)

-- all are seen
pub all_seen : {A : Type 0} → (now old : List (List ℕ)) → (f : List A → List (List ℕ)) → (xs : List A) → (i : ℕ) → length xs ≤ i
    → now ≡ with_all old (f (take i xs)) → now ≡ with_all old (f xs)
all_seen now old f xs i past is = subst (λ ys. now ≡ with_all old (f ys)) (take_all i xs past) is

-- a step of such a loop
pub step_one : {A : Type 0} → (now last old : List (List ℕ)) → (f : A → List ℕ) → (xs : List A) → (i : ℕ) → (d : A) → i < length xs
    → last ≡ with_all old (map f (take i xs)) → now ≡ with_new last (f (get_or xs i d)) → now ≡ with_all old (map f (take (i + 1) xs))
step_one now last old f xs i d below before is =
    is ∙ ap (λ texts. with_new texts (f (get_or xs i d))) before ∙ sym (one_more old f xs i d below)

pub step_of : {A : Type 0} → (now last old : List (List ℕ)) → (f : A → List (List ℕ)) → (xs : List A) → (i : ℕ) → (d : A) → i < length xs
    → last ≡ with_all old (flat_map f (take i xs)) → now ≡ with_all last (f (get_or xs i d)) → now ≡ with_all old (flat_map f (take (i + 1) xs))
step_of now last old f xs i d below before is =
    is ∙ ap (λ texts. with_all texts (f (get_or xs i d))) before ∙ sym (more_of old f xs i d below)

-- a text, and two lists of others
pub with_three : (old one two : List (List ℕ)) → (before text : List ℕ) → (xs ys : List (List ℕ)) → one ≡ with_new old ((before ++ text) ++ [])
    → two ≡ with_all one (map (λ text. before ++ text) xs) → with_all two (map (λ text. before ++ text) ys) ≡ with_all old (map (λ text. before ++ text) (text ∷ (xs ++ ys)))
with_three old one two before text xs ys first second =
    ap (λ texts. with_all texts (map (λ text. before ++ text) ys)) (second ∙ ap (λ texts. with_all texts (map (λ text. before ++ text) xs)) (first ∙ ap (with_new old) (append-nil (before ++ text))))
    ∙ sym (with_all-append (with_new old (before ++ text)) (map (λ text. before ++ text) xs) (map (λ text. before ++ text) ys))
    ∙ ap (with_all (with_new old (before ++ text))) (sym (map-append (λ text. before ++ text) xs ys))

-- three lists
pub with_lists : (old one two three xs ys zs : List (List ℕ)) → one ≡ with_all old xs → two ≡ with_all one ys → three ≡ with_all two zs → three ≡ with_all old (xs ++ ys ++ zs)
with_lists old one two three xs ys zs first second third =
    third
    ∙ ap (λ texts. with_all texts zs) (second ∙ ap (λ texts. with_all texts ys) first ∙ sym (with_all-append old xs ys))
    ∙ sym (with_all-append old (xs ++ ys) zs)

-- the kinds of the shapes that pass a test, one by one
pub kinds_passing : (test : Shape → Bool) → (shapes : List RustShape) → flat_map (λ s. map kind_text (filter test (shape_of s ∷ []))) shapes ≡ map kind_text (filter test (map shape_of shapes))
kinds_passing test [] = refl
kinds_passing test (s ∷ shapes) =
    ap (λ rest. map kind_text (filter test (shape_of s ∷ [])) ++ rest) (kinds_passing test shapes)
    ∙ by (test (shape_of s))
  where
    by : (passes : Bool) → map kind_text (cond passes (shape_of s ∷ []) []) ++ map kind_text (filter test (map shape_of shapes)) ≡ map kind_text (cond passes (shape_of s ∷ filter test (map shape_of shapes)) (filter test (map shape_of shapes)))
    by true = refl
    by false = refl
