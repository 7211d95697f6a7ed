-- What holds of each entry of a list holds of those that are left of it.
use Rattle.std.proofs.Common.{Bool, true, false, List, [], ◌∷◌, Option, Some, IfSome, cond}
use Rattle.std.specs.List.{AllByRecursion, filter}
use Rattle.std.specs.Map.{lookup, remove_entry}
use Rattle.std.specs.BTreeMap.{insert_entry}
use Rattle.std.specs.Ordering.{match_ordering}
use Rattle.std.specs.declared.cmp.Ordering.{Ordering}
use Rattle.std.specs.declared.cmp.Ordering.TheVariants.{Less, Equal, Greater}

pub chosen : {A : Type 0} (P : A → Type 0) (test : Bool) (one other : A) → P one → P other → P (cond test one other)
chosen P true one other a b = a
chosen P false one other a b = b

module _ {K X : Type 0} (P : X → Type 0) where
  abbrev pub AreKept : List (K × X) → Type 0
  AreKept entries = AllByRecursion (λ (entry : K × X). P entry.1) entries

  ordered : (order : Ordering) (a b c : List (K × X)) → AreKept a → AreKept b → AreKept c → AreKept (match_ordering order a b c)
  ordered Less a b c x y z = x
  ordered Equal a b c x y z = y
  ordered Greater a b c x y z = z

  pub kept_inserted : (cmp : K → K → Ordering) (entries : List (K × X)) (k : K) (v : X) → AreKept entries → P v → AreKept (insert_entry cmp entries k v)
  kept_inserted cmp [] k v are is = (is, tt)
  kept_inserted cmp (e ∷ entries) k v are is =
      ordered (cmp k e.0) ((k, v) ∷ e ∷ entries) ((e.0, v) ∷ entries) (e ∷ insert_entry cmp entries k v) (is, are) (is, are.1) (are.0, kept_inserted cmp entries k v are.1 is)

  pub kept_removed : (test : K → Bool) (entries : List (K × X)) → AreKept entries → AreKept (remove_entry test entries)
  kept_removed test [] are = tt
  kept_removed test (e ∷ entries) are = chosen AreKept (test e.0) entries (e ∷ remove_entry test entries) are.1 (are.0, kept_removed test entries are.1)

  pub kept_found : (test : K → Bool) (entries : List (K × X)) → AreKept entries → IfSome (lookup test entries) P
  kept_found test [] are = tt
  kept_found test (e ∷ entries) are = chosen (λ (o : Option X). IfSome o P) (test e.0) (Some e.1) (lookup test entries) are.0 (kept_found test entries are.1)

-- what holds of each key holds of those of a list that has one more
pub keys_inserted : {K X : Type 0} (Q : K → Type 0) (cmp : K → K → Ordering) (entries : List (K × X)) (k : K) (v : X) → AllByRecursion (λ (entry : K × X). Q entry.0) entries → Q k → AllByRecursion (λ (entry : K × X). Q entry.0) (insert_entry cmp entries k v)
keys_inserted Q cmp [] k v are is = (is, tt)
keys_inserted {K} {X} Q cmp (e ∷ entries) k v are is = by (keys_inserted Q cmp entries k v are.1 is) (cmp k e.0)
  where
    by : AllByRecursion (λ (entry : K × X). Q entry.0) (insert_entry cmp entries k v) → (order : Ordering) → AllByRecursion (λ (entry : K × X). Q entry.0) (match_ordering order ((k, v) ∷ e ∷ entries) ((e.0, v) ∷ entries) (e ∷ insert_entry cmp entries k v))
    by others Less = (is, are)
    by others Equal = are
    by others Greater = (are.0, others)

pub all_filtered : {A : Type 0} (P : A → Type 0) (test : A → Bool) (xs : List A) → AllByRecursion P xs → AllByRecursion P (filter test xs)
all_filtered P test [] are = tt
all_filtered P test (x ∷ xs) are = chosen (AllByRecursion P) (test x) (x ∷ filter test xs) (filter test xs) (are.0, all_filtered P test xs are.1) (all_filtered P test xs are.1)
