-- Values of terms that fit, as values of types and back: numbers, what may be left out, and lists.
use Rattle.std.proofs.Common.{◌≡◌, ℕ, ℤ, pos, negsuc, List, [], ◌∷◌, map, Option, Some, None, refl, ap, ap₂, arith}
use Rattle.std.specs.Prelude.{◌≤ℤ◌}
use Rattle.std.specs.List.{AllByRecursion}
use Rattle.std.specs.Option.{option_map}
use Rattle.std.proofs.lemmas.Int.{ints}
use Rattle.krb_msg.specs.Basic.{micros_of}
use Rattle.krb_msg.specs.Term.{Term, Value, Fits, IfPresent}
use Rattle.krb_msg.specs.Viewed.{AreViewed, items_of}
use Rattle.krb_msg.specs.declared.view.items.ItemsView.{ItemsView}

-- a number that is fixed
pub exactly_one : (k : ℕ) (z : ℤ) → pos k ≤ℤ z → z ≤ℤ pos k → pos k ≡ z
exactly_one k z low high = omega (arith, ints)

-- microseconds, which are not negative
pub micros-back : (z : ℤ) → pos 0 ≤ℤ z → pos (micros_of z) ≡ z
micros-back (pos number) f = refl
micros-back (negsuc number) f = absurd (omega (arith, ints, f))

-- ---- of values that fit
pub option_fits-back : {A B : Type 0} (P : B → Type 0) (to : A → B) (from : B → A) → ((b : B) → P b → to (from b) ≡ b) → (o : Option B) → IfPresent P o → option_map to (option_map from o) ≡ o
option_fits-back P to from back None f = refl
option_fits-back P to from back (Some b) f = ap Some (back b f)

pub list_fits-back : {A B : Type 0} (P : B → Type 0) (to : A → B) (from : B → A) → ((b : B) → P b → to (from b) ≡ b) → (bs : List B) → AllByRecursion P bs → map to (map from bs) ≡ bs
list_fits-back P to from back [] f = refl
list_fits-back P to from back (b ∷ bs) f = ap₂ (λ c cs. c ∷ cs) (back b f.0) (list_fits-back P to from back bs f.1)

-- ---- of views
pub option_seen-back : {A B : Type 0} (P : B → Type 0) (to : A → B) (from : B → A) → ((b : B) → P b → to (from b) ≡ b) → (o : Option B) → IfPresent P o → option_map to (option_map from o) ≡ o
option_seen-back P to from back None f = refl
option_seen-back P to from back (Some b) f = ap Some (back b f)

pub option_part-back : {S A B : Type 0} (P : S → Type 0) (value : S → B) (to : A → B) (from : B → A) → ((s : S) → P s → to (from (value s)) ≡ value s) → (o : Option S) → IfPresent P o → option_map to (option_map from (option_map value o)) ≡ option_map value o
option_part-back P value to from back None f = refl
option_part-back P value to from back (Some s) f = ap Some (back s f)

pub items-back : {A : Type 0} (term : Term) (to : A → Value term) (from : Value term → A) → ((v : Value term) → Fits term v → to (from v) ≡ v) → (octets : List ℕ) → AreViewed term octets → map to (map from (items_of term octets)) ≡ items_of term octets
items-back term to from back octets viewed = list_fits-back (Fits term) to from back (items_of term octets) viewed.items.fits.1

pub option_items-back : {A : Type 0} (term : Term) (to : A → Value term) (from : Value term → A) → ((v : Value term) → Fits term v → to (from v) ≡ v) → (o : Option ItemsView) → IfPresent (λ items. AreViewed term items.octets.now) o → option_map (map to) (option_map (map from) (option_map (λ items. items_of term items.octets.now) o)) ≡ option_map (λ items. items_of term items.octets.now) o
option_items-back term to from back None viewed = refl
option_items-back term to from back (Some items) viewed = ap Some (items-back term to from back items.octets.now viewed)
