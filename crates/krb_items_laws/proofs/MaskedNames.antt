-- Paths that are no cipher's and no checksum's.
use Rattle.std.proofs.Common.{◌≡◌, ℕ, ◌-◌, Bool, true, false, not, ◌&&◌, ◌||◌, ◌==◌, nat_eq, List, [], ◌∷◌, ◌++◌, length, take, drop, codes, refl, sym, ◌∙◌, ap, subst, eqb-true, append_assoc, take-append-drop}
use Rattle.std.proofs.lemmas.Bool.{and_parts}
use Rattle.std.specs.Cmp.Lexicographic.{pointwise}
use Rattle.std.specs.List.{ends_with}
use Rattle.krb_items.specs.Names.{field_path}
use Rattle.krb_items_laws.specs.Masked.{is_masked_name}

abbrev last_or : ℕ → List ℕ → ℕ
last_or other [] = other
last_or other (c ∷ text) = last_or c text

last-append : (other c : ℕ) (text more : List ℕ) → last_or other (text ++ c ∷ more) ≡ last_or c more
last-append other c [] more = refl
last-append other c (first ∷ text) more = last-append first c text more

-- a name that ends with neither of the last letters of these
abbrev pub is_other : List ℕ → Bool
is_other name = not (last_or 0 name == 114) && not (last_or 0 name == 109)

pub other-path : (path name : List ℕ) → is_other (codes "." ++ name) ≡ true → is_other (field_path path name) ≡ true
other-path path name e =
    ap (λ (n : List ℕ). not (last_or 0 n == 114) && not (last_or 0 n == 109)) (append_assoc path (codes ".") name)
    ∙ ap (λ (c : ℕ). not (c == 114) && not (c == 109)) (last-append 0 46 path name)
    ∙ e

same-points : (needle text : List ℕ) → pointwise nat_eq needle text ≡ true → needle ≡ text
same-points [] [] e = refl
same-points [] (c ∷ text) e = absurd cc
same-points (a ∷ needle) [] e = absurd cc
same-points (a ∷ needle) (c ∷ text) e =
    let p = and_parts (nat_eq a c) (pointwise nat_eq needle text) e in
    let f : a ≡ c = eqb-true a c p.0 in
    let r : needle ≡ text = same-points needle text p.1 in
    λ i. f i ∷ r i

-- a name that ends so has that last letter
ends-last : (name : List ℕ) (c : ℕ) (more : List ℕ) → ends_with nat_eq name (c ∷ more) ≡ true → last_or 0 name ≡ last_or c more
ends-last name c more e =
    let count : ℕ = length name - length (c ∷ more) in
    let is : c ∷ more ≡ drop count name = same-points (c ∷ more) (drop count name) e in
    let form : name ≡ take count name ++ (c ∷ more) = sym (take-append-drop count name) ∙ ap (λ t. take count name ++ t) (sym is) in
    ap (last_or 0) form ∙ last-append 0 c (take count name) more

pub other-name : (name : List ℕ) → is_other name ≡ true → is_masked_name name ≡ false
other-name name e = by (ends_with nat_eq name (codes ".cipher")) refl (ends_with nat_eq name (codes ".checksum")) refl
  where
    parts : (not (last_or 0 name == 114) ≡ true) × (not (last_or 0 name == 109) ≡ true)
    parts = and_parts (not (last_or 0 name == 114)) (not (last_or 0 name == 109)) e

    no : (c : ℕ) → last_or 0 name ≡ c → not (last_or 0 name == c) ≡ true → not (c == c) ≡ true
    no c is n = subst (λ (l : ℕ). not (l == c) ≡ true) is n

    by : (a : Bool) → ends_with nat_eq name (codes ".cipher") ≡ a → (b : Bool) → ends_with nat_eq name (codes ".checksum") ≡ b → (a || b) ≡ false
    by true e b f = let n = no 114 (ends-last name 46 (codes "cipher") e) parts.0 in absurd cc
    by false e true f = let n = no 109 (ends-last name 46 (codes "checksum") f) parts.1 in absurd cc
    by false e false f = refl
