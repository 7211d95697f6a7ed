-- Names of members that differ.
use Rattle.std.proofs.Common.{◌≡◌, ℕ, zero, suc, ◌<◌, not, Bool, true, false, List, [], ◌∷◌, length, get_or, sym, arith}
use Rattle.std.specs.Prelude.{◌≢◌}
use Rattle.std.proofs.lemmas.Bool.{and_parts, true≢false}
use Rattle.std.proofs.lemmas.Slice.Eq.{bytes_eq-Decides}
use Rattle.std.specs.List.{AllByRecursion, list_all}
use Rattle.std.specs.Str.{bytes_eq}
use Rattle.json.specs.Strict.{AreDistinct}
use Rattle.krb_laws.specs.JsonLaws.{are_different}
use Rattle.krb_laws.proofs.JsonStrings.{all-pass}

abbrev pub AllOthers : List ℕ → List (List ℕ) → Type 0
AllOthers name names = AllByRecursion (λ other. name ≢ other) names

differ : (name other : List ℕ) → not (bytes_eq name other) ≡ true → name ≢ other
differ name other e same = by (bytes_eq name other) ((bytes_eq-Decides name other).1 same) e
  where
    by : (equal : Bool) → equal ≡ true → not equal ≡ true → ⊥
    by true is none = true≢false (sym none)
    by false is none = true≢false (sym is)

pub others : (name : List ℕ) (names : List (List ℕ)) → list_all (λ other. not (bytes_eq name other)) names ≡ true → AllOthers name names
others name names e = all-pass _ (λ other. name ≢ other) (differ name) names e

all-at : {A : Type 0} (P : A → Type 0) (xs : List A) (d : A) (index : ℕ) → AllByRecursion P xs → index < length xs → P (get_or xs index d)
all-at P [] d index all within = absurd (omega arith)
all-at P (x ∷ xs) d zero all within = all.0
all-at P (x ∷ xs) d (suc index) all within = all-at P xs d index all.1 (omega arith)

pub distinct_none : AreDistinct []
distinct_none i j d before within = absurd (omega arith)

pub distinct_cons : (name : List ℕ) (names : List (List ℕ)) → AllOthers name names → AreDistinct names → AreDistinct (name ∷ names)
distinct_cons name names first rest i zero d before within = absurd (omega arith)
distinct_cons name names first rest zero (suc j) d before within = all-at (λ other. name ≢ other) names d j first (omega arith)
distinct_cons name names first rest (suc i) (suc j) d before within = rest i j d (omega arith) (omega arith)

pub distinct : (names : List (List ℕ)) → are_different names ≡ true → AreDistinct names
distinct [] e = distinct_none
distinct (name ∷ names) e =
    let parts = and_parts (list_all (λ other. not (bytes_eq name other)) names) (are_different names) e in
    distinct_cons name names (others name names parts.0) (distinct names parts.1)
