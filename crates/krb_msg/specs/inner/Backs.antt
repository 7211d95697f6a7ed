-- Values and back, in lists and if they may be left out.
use Rattle.std.proofs.Common.{◌≡◌, List, [], ◌∷◌, map, Option, Some, None, refl, ap, ap₂}
use Rattle.std.specs.Option.{option_map}

pub map-back : {A B : Type 0} (to : A → B) (from : B → A) → ((a : A) → from (to a) ≡ a) → (xs : List A) → map from (map to xs) ≡ xs
map-back to from back [] = refl
map-back to from back (x ∷ xs) = ap₂ (λ y ys. y ∷ ys) (back x) (map-back to from back xs)

pub option-back : {A B : Type 0} (to : A → B) (from : B → A) → ((a : A) → from (to a) ≡ a) → (o : Option A) → option_map from (option_map to o) ≡ o
option-back to from back None = refl
option-back to from back (Some x) = ap Some (back x)

pub list-back : {A B : Type 0} (to : A → B) (from : B → A) → ((a : A) → from (to a) ≡ a) → (o : Option (List A)) → option_map (map from) (option_map (map to) o) ≡ o
list-back to from back = option-back (map to) (map from) (map-back to from back)
