-- A test of some element, of lists that are made of others, and in a loop that ends at the first.
use Rattle.std.proofs.Common.{ℕ, ◌<◌, ◌≤◌, ◌≡◌, ◌∙◌, ◌||◌, Bool, true, false, List, [], ◌∷◌, ap, get_or, length, map, refl, subst, sym, take}
use Rattle.std.proofs.lemmas.List.{take_all}
use Rattle.std.proofs.lemmas.List.Folds.{list_any-append, list_any_at}
use Rattle.std.specs.List.{flat_map, list_any}
use Rattle.std.specs.Str.{bytes_eq}
use Rattle.krb_fields.specs.Fields.{shape_of}
use Rattle.krb_fields.specs.Names.{is_among, kind_text}
use Rattle.krb_fields.specs.declared.shape.Shape.{Shape as RustShape}

pub any_map : {A B : Type 0} → (p : B → Bool) → (f : A → B) → (xs : List A) → list_any p (map f xs) ≡ list_any (λ x. p (f x)) xs
any_map p f [] = refl
any_map p f (x ∷ xs) = ap (λ rest. p (f x) || rest) (any_map p f xs)

pub any_flat_map : {A B : Type 0} → (p : B → Bool) → (f : A → List B) → (xs : List A) → list_any p (flat_map f xs) ≡ list_any (λ x. list_any p (f x)) xs
any_flat_map p f [] = refl
any_flat_map p f (x ∷ xs) = list_any-append p (f x) (flat_map f xs) ∙ ap (λ rest. list_any p (f x) || rest) (any_flat_map p f xs)

-- one that is found
pub known_at : {X : Type 0} → (p : X → Bool) → (xs : List X) → (i : ℕ) → (d : X) → i < length xs → p (get_or xs i d) ≡ true → true ≡ list_any p xs
known_at p xs i d below holds = sym (list_any_at p xs i d below holds)

-- none is found
pub known_none : {X : Type 0} → (p : X → Bool) → (xs : List X) → (i : ℕ) → length xs ≤ i → list_any p (take i xs) ≡ false → false ≡ list_any p xs
known_none p xs i past none = sym (subst (λ ys. list_any p ys ≡ false) (take_all i xs past) none)

-- all are seen
pub seen : {X : Type 0} → (p : X → Bool) → (xs : List X) → (i : ℕ) → (found : Bool) → length xs ≤ i → found ≡ list_any p (take i xs) → found ≡ list_any p xs
seen p xs i found past is = subst (λ ys. found ≡ list_any p ys) (take_all i xs past) is

pub kinds_any : (word : List ℕ) → (shapes : List RustShape) → is_among word (map kind_text (map shape_of shapes)) ≡ list_any (λ s. bytes_eq word s.kind.now) shapes
kinds_any word shapes = any_map (bytes_eq word) kind_text (map shape_of shapes) ∙ any_map (λ s. bytes_eq word (kind_text s)) shape_of shapes
