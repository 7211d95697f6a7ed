-- What a check of the names of a SEQUENCE's fields shows of each of them.
use Rattle.std.proofs.Common.{◌≡◌, ℕ, zero, suc, ◌<◌, true, false, ◌||◌, not, Bool, List, [], ◌∷◌, length, take, get_or, refl, sym, ◌∙◌, ap, arith}
use Rattle.std.proofs.lemmas.Bool.{true≢false, ltb-true, and_parts}
use Rattle.std.proofs.Math.Bool.{or-true}
use Rattle.std.specs.Str.{bytes_eq}
use Rattle.std.specs.List.{list_all, list_any}
use Rattle.std.specs.Prelude.{nat_lt}
use Rattle.std.proofs.lemmas.Slice.Eq.{bytes_eq-Decides}
use Rattle.krb_judge.specs.FieldNames.{fields_of, field_at, no_field}
use Rattle.krb_judge.specs.declared.locating.names.Names.{Names}
use Rattle.krb_json.specs.Spelled.{is_field}
use Rattle.krb_json.specs.Laws.{has_own_name}

abbrev pub name : Names → ℕ → List ℕ
name names index = (field_at names index).name

-- ---- tests of lists
pub all_before : {A : Type 0} (p : A → Bool) (xs : List A) (d : A) (index other : ℕ) → list_all p (take index xs) ≡ true → other < index → other < length xs → p (get_or xs other d) ≡ true
all_before p (x ∷ xs) d (suc index) zero all below within = (and_parts (p x) _ all).0
all_before p (x ∷ xs) d (suc index) (suc other) all below within = all_before p xs d index other (and_parts (p x) _ all).1 (omega arith) (omega arith)
all_before p another d third other all below within = absurd (omega arith)

pub any_at : {A : Type 0} (p : A → Bool) (xs : List A) (d : A) (index : ℕ) → index < length xs → p (get_or xs index d) ≡ true → list_any p xs ≡ true
any_at p [] d index within is = absurd (omega arith)
any_at p (x ∷ xs) d zero within is = rw is refl
any_at p (x ∷ xs) d (suc index) within is = ap (λ b. p x || b) (any_at p xs d index (omega arith) is) ∙ or-true (p x)

-- ---- names that differ
false_from : (b : Bool) → (b ≡ true → ⊥) → b ≡ false
false_from true other = absurd (other refl)
false_from false other = refl

not_true : (b : Bool) → not b ≡ true → b ≡ false
not_true true is = absurd (true≢false (sym is))
not_true false is = refl

pub same_name : (a : List ℕ) → bytes_eq a a ≡ true
same_name a = (bytes_eq-Decides a a).1 refl

other_way : (a b : List ℕ) → bytes_eq a b ≡ false → bytes_eq b a ≡ false
other_way a b differ = false_from (bytes_eq b a) (λ same. true≢false (sym ((bytes_eq-Decides a b).1 (sym ((bytes_eq-Decides b a).0 same))) ∙ differ))

-- the field at an index has a name, which no field before it has
pub record IsNew (names : Names) (index : ℕ) : Type 0 where
  pub field : is_field names (name names index) ≡ true
  pub before : (other : ℕ) → other < index → bytes_eq (name names other) (name names index) ≡ false
  pub after : (other : ℕ) → other < index → bytes_eq (name names index) (name names other) ≡ false

pub is-new : (names : Names) (index : ℕ) → has_own_name names index ≡ true → IsNew names index
is-new names index own = record {
  field = any_at (λ field. bytes_eq field.name (name names index)) (fields_of names) no_field index within (same_name (name names index));
  before = before;
  after = λ other below. other_way (name names other) (name names index) (before other below);
}
  where
    parts : (nat_lt index (length (fields_of names)) ≡ true) × (list_all (λ other. not (bytes_eq other.name (name names index))) (take index (fields_of names)) ≡ true)
    parts = and_parts (nat_lt index (length (fields_of names))) _ own

    within : index < length (fields_of names)
    within = ltb-true index (length (fields_of names)) parts.0

    before : (other : ℕ) → other < index → bytes_eq (name names other) (name names index) ≡ false
    before other below = not_true _ (all_before (λ other. not (bytes_eq other.name (name names index))) (fields_of names) no_field index other parts.1 below (omega (arith, within)))
