-- Laws of `when`, `scan_then` and `enter`.
use Rattle.std.proofs.Common.{◌≡◌, ℕ, ◌≤◌, Bool, true, false, List, [], ◌∷◌, refl, le_trans}
use Rattle.krb_der.specs.declared.why.Why.{Why}
use Rattle.krb_der.specs.Octets.{when}
use Rattle.krb_msg.specs.Term.{Term, Sequence, SequenceOf, Tagged, Application}
use Rattle.krb_scan.specs.Scan.{Mark, Expected, Listed, Each, OneOf, Container, State, Answer, PartScan, Within, Fault, Past, scan_then}
use Rattle.krb_scan.specs.inner.Machine.{in_leaf, opened, enter}

pub when_holds : {A : Type 0} (P : A → Type 0) (b : Bool) (chosen other : Unit {0} → A) → P (chosen tt) → P (other tt) → P (when b chosen other)
when_holds P true chosen other yes_holds no_holds = yes_holds
when_holds P false chosen other yes_holds no_holds = no_holds

-- each branch with what its test says
pub when_knows : {A : Type 0} (P : A → Type 0) (b : Bool) (chosen other : Unit {0} → A) → (b ≡ true → P (chosen tt)) → (b ≡ false → P (other tt)) → P (when b chosen other)
when_knows P true chosen other yes_holds no_holds = yes_holds refl
when_knows P false chosen other yes_holds no_holds = no_holds refl

pub when_same : {A : Type 0} (b : Bool) (x y x' y' : Unit {0} → A) → x tt ≡ x' tt → y tt ≡ y' tt → when b x y ≡ when b x' y'
when_same true x y x' y' e f = e
when_same false x y x' y' e f = f

abbrev pub IsFrom : ℕ → PartScan → Type 0
IsFrom low (Past marks place rest) = low ≤ place
IsFrom low other = Unit {0}

-- a complete part ends at a place or after it
pub record AtLeast (low : ℕ) (seen : PartScan) : Type 0 where
  pub is_from : IsFrom low seen

pub within_at : (low : ℕ) {state : State} → AtLeast low (Within state)
within_at low = record { is_from = tt {0} }

pub fault_at : (low : ℕ) {place : ℕ} {reason : Why} → AtLeast low (Fault place reason)
fault_at low = record { is_from = tt {0} }

pub past_at : (low : ℕ) {marks : List Mark} {place : ℕ} {rest : List ℕ} → low ≤ place → AtLeast low (Past marks place rest)
past_at low h = record { is_from = h }

pub at_least_weaken : (low high : ℕ) (seen : PartScan) → low ≤ high → AtLeast high seen → AtLeast low seen
at_least_weaken low high (Within state) h k = within_at low
at_least_weaken low high (Fault place reason) h k = fault_at low
at_least_weaken low high (Past marks place rest) h k = past_at low (le_trans h k.is_from)

pub at_least_then : (low middle : ℕ) (seen : PartScan) (next : List Mark → ℕ → List ℕ → PartScan) → AtLeast middle seen → ((marks : List Mark) (place : ℕ) (rest : List ℕ) → middle ≤ place → AtLeast low (next marks place rest)) → AtLeast low (scan_then seen next)
at_least_then low middle (Within state) next h k = within_at low
at_least_then low middle (Fault place reason) next h k = fault_at low
at_least_then low middle (Past marks place rest) next h k = k marks place rest h.is_from

pub then_same : (low : ℕ) (seen : PartScan) (f g : List Mark → ℕ → List ℕ → PartScan) → AtLeast low seen → ((marks : List Mark) (place : ℕ) (rest : List ℕ) → low ≤ place → f marks place rest ≡ g marks place rest) → scan_then seen f ≡ scan_then seen g
then_same low (Past marks place rest) f g h e = e marks place rest h.is_from
then_same low other f g h e = refl

pub then_assoc : (seen : PartScan) (f g : List Mark → ℕ → List ℕ → PartScan) → scan_then (scan_then seen f) g ≡ scan_then seen (λ marks place rest. scan_then (f marks place rest) g)
then_assoc (Within state) f g = refl
then_assoc (Fault place reason) f g = refl
then_assoc (Past marks place rest) f g = refl

-- what holds of a leaf and of an item with items in it holds of each item that is entered
pub enters_holds : (P : Answer → Type 0) (term : Term) (start count : ℕ) (stack : List Container) (marks : List Mark) → P (in_leaf term start count stack marks []) → ((expected : Expected) → P (opened term expected start count stack marks)) → P (enter term start count stack marks)
enters_holds P (Sequence fields) start count stack marks leaf items = items (Listed fields)
enters_holds P (SequenceOf empty term) start count stack marks leaf items = items (Each term)
enters_holds P (Tagged index term) start count stack marks leaf items = items (OneOf (term ∷ []))
enters_holds P (Application number term) start count stack marks leaf items = items (OneOf (term ∷ []))
enters_holds P other start count stack marks leaf items = leaf
