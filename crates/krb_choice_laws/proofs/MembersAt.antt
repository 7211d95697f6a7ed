-- The member at a path of the object of a field alone.
use Rattle.std.proofs.Common.{◌≡◌, ◌∙◌, ℕ, pos, Bool, true, false, cond, List, [], ◌∷◌, ◌++◌, length, length-append, refl, ap, ap₂, arith, codes}
use Rattle.std.proofs.lemmas.Slice.Eq.{bytes_eq-Decides}
use Rattle.std.specs.Prelude.{bytes_eq}
use Rattle.json.specs.Json.{Json, Members, member, no_members, null, object, string}
use Rattle.krb_registry.specs.declared.registry.Registry.TheVariants as registries
use Rattle.krb_record.specs.Values.{Called, ErrorCode, Named, NoReason, Numbers, Reason, Status, Value, the}
use Rattle.krb_record.specs.declared.path.Path.{Path}
use Rattle.krb_record.specs.declared.path.Path.TheVariants as paths
use Rattle.krb_laws.specs.Json.{if_known, json_of_value, list_of, members_of, name_json, names_of_value}
use Rattle.krb_choice_laws.specs.Cells.{member_at, member_in, member_within, names_of, object_with, unless_null}

-- ---- names
alike : (name : List ℕ) → bytes_eq name name ≡ true
alike name = (bytes_eq-Decides name name).1 refl

other-than : (name other : List ℕ) → (name ≡ other → ⊥) → bytes_eq name other ≡ false
other-than name other differ = by (bytes_eq name other) refl
  where
    by : (b : Bool) → bytes_eq name other ≡ b → b ≡ false
    by true e = absurd (differ ((bytes_eq-Decides name other).0 e))
    by false e = refl

longer : (name : List ℕ) (c : ℕ) (suffix : List ℕ) → bytes_eq name (name ++ (c ∷ suffix)) ≡ false
longer name c suffix = other-than name (name ++ (c ∷ suffix)) (λ e. omega (arith, ap (λ l. length l) e, length-append name (c ∷ suffix)))

shorter : (name : List ℕ) (c : ℕ) (suffix : List ℕ) → bytes_eq (name ++ (c ∷ suffix)) name ≡ false
shorter name c suffix = other-than (name ++ (c ∷ suffix)) name (λ e. omega (arith, ap (λ l. length l) e, length-append name (c ∷ suffix)))

by-suffix : (name one other : List ℕ) → (length one ≡ length other → ⊥) → bytes_eq (name ++ one) (name ++ other) ≡ false
by-suffix name one other differ = other-than (name ++ one) (name ++ other) (λ e. differ (omega (arith, ap (λ l. length l) e, length-append name one, length-append name other)))

-- ---- members
first : (name : List ℕ) (json : Json) (others : Members) → member_in name (member name json others) ≡ json
first name json others = ap (λ b. cond b json (member_in name others)) (alike name)

skip : (name other : List ℕ) (json : Json) (others : Members) → bytes_eq other name ≡ false → member_in name (member other json others) ≡ member_in name others
skip name other json others e = ap (λ b. cond b json (member_in name others)) e

-- ---- what is at a path, by the value of the field and the names beside it
abbrev pub at_json : Path → (json name names : Json) → Json
at_json paths.Name json name names = name
at_json paths.Names json name names = unless_null names (member_within (codes "names" ∷ []) json)
at_json path json name names = member_within (names_of path) json

abbrev pub name_beside : Value → Json
name_beside (Named registry n) = name_json registry n
name_beside (ErrorCode code) = name_json registries.ErrorCodes code
name_beside (Status n) = name_json registries.Statuses (pos n)
name_beside (Reason n name) = string name
name_beside (Called n name) = if_known string name
name_beside value = null

abbrev pub names_beside : Value → Json
names_beside (Numbers registry ns) = list_of (name_json registry) ns
names_beside value = null

module _ (name : List ℕ) (json : Json) where
  abbrev with : List (List ℕ × Json) → Json
  with beside = object (member name json (members_of beside))

  -- if the members beside have these
  at-with : (path : Path) (beside : List (List ℕ × Json)) (one many : Json) → member_in (name ++ codes "_name") (members_of beside) ≡ one → member_in (name ++ codes "_names") (members_of beside) ≡ many
      → member_at path name (with beside) ≡ at_json path json one many
  at-with paths.Name beside one many h k = skip (name ++ codes "_name") name json (members_of beside) (longer name 95 (codes "name")) ∙ h
  at-with paths.Names beside one many h k =
      ap₂ unless_null (skip (name ++ codes "_names") name json (members_of beside) (longer name 95 (codes "names")) ∙ k) (ap (member_within (codes "names" ∷ [])) (first name json (members_of beside)))
  at-with path beside one many h k = ap (member_within (names_of path)) (first name json (members_of beside))

  none : (path : Path) → member_at path name (with []) ≡ at_json path json null null
  none path = at-with path [] null null refl refl

  one : (path : Path) (its : Json) → member_at path name (with ((name ++ codes "_name", its) ∷ [])) ≡ at_json path json its null
  one path its =
      at-with path ((name ++ codes "_name", its) ∷ []) its null (first (name ++ codes "_name") its no_members)
      (skip (name ++ codes "_names") (name ++ codes "_name") its no_members (by-suffix name (codes "_name") (codes "_names") (λ e. omega (arith, e))))

  many : (path : Path) (its : Json) → member_at path name (with ((name ++ codes "_names", its) ∷ [])) ≡ at_json path json null its
  many path its =
      at-with path ((name ++ codes "_names", its) ∷ []) null its
      (skip (name ++ codes "_name") (name ++ codes "_names") its no_members (by-suffix name (codes "_names") (codes "_name") (λ e. omega (arith, e))))
      (first (name ++ codes "_names") its no_members)

pub at-is : (path : Path) (name : List ℕ) (value : Value) → member_at path name (object_with (the name value)) ≡ at_json path (json_of_value value) (name_beside value) (names_beside value)
unfolding names_of_value
at-is path name (Named registry n) = one name (json_of_value (Named registry n)) path (name_json registry n)
at-is path name (ErrorCode code) = one name (json_of_value (ErrorCode code)) path (name_json registries.ErrorCodes code)
at-is path name (Status n) = one name (json_of_value (Status n)) path (name_json registries.Statuses (pos n))
at-is path name (Reason n reason) = one name (json_of_value (Reason n reason)) path (string reason)
at-is path name (Called n called) = one name (json_of_value (Called n called)) path (if_known string called)
at-is path name NoReason = one name (json_of_value NoReason) path null
at-is path name (Numbers registry ns) = many name (json_of_value (Numbers registry ns)) path (list_of (name_json registry) ns)
at-is path name value = none name (json_of_value value) path
