-- What is read of the items of an array, and of the names of the members of an object, one after another.
use Rattle.std.proofs.Common.{◌≡◌, ℕ, zero, suc, ◌+◌, ◌<◌, List, [], ◌∷◌, ◌++◌, length, take, drop, get_or, append_assoc, append-nil, add-one, drop-cons, Bool, true, false, not, ◌&&◌, ◌||◌, ◌==◌, Option, Some, None, Result, Ok, Err, refl, sym, ◌∙◌, ap, ap₂, subst, arith}
use Rattle.std.specs.Prelude.{codes}
use Rattle.std.specs.Borrow.{Bor}
use Rattle.std.specs.List.{flat_map, list_any}
use Rattle.std.specs.Str.{bytes_eq}
use Rattle.std.proofs.Math.Bool.{or_comm}
use Rattle.std.proofs.Math.Dec.{eqb-suc-zero}
use Rattle.std.proofs.lemmas.List.{take_more}
use Rattle.std.proofs.lemmas.List.Folds.{list_any-append}
use Rattle.std.proofs.lemmas.Grind.{flat_map-append}
use Rattle.json.specs.Json.{Json, null, object, Items, item, Members, member}
use Rattle.json.specs.Find.{as_array, as_object, get, get_member}
use Rattle.json.specs.Tree.{HasNumbers, ItemsHaveNumbers}
use Rattle.json.specs.Value.{value_view, items_view, members_view}
use Rattle.json.specs.declared.value.Value.{Value}
use Rattle.krb_judge.specs.Paths.{field_path, element_path}
use Rattle.krb_json.specs.declared.wrong.Wrong.{Wrong}
use Rattle.krb_json.specs.declared.wrong.Wrong.TheVariants.{NotAnObject, NotAnArray, Empty, NoSuchField, Twice}
use Rattle.krb_json.specs.declared.value_fault.ValueFault.{ValueFault}
use Rattle.krb_json.specs.declared.value_fault.ValueFault.TheVariants.{At, Memory}
use Rattle.krb_json.specs.Faults.{Fault, fault, ◌>>=◌}
use Rattle.krb_json.specs.Spelling.{shown}
use Rattle.krb_json.specs.Spelled.{or_fault, unless, is_empty, is_among, checked_members, members_spelled, items_spelled}
use Rattle.krb_json.specs.inner.Reading.{IsRead, Reads, IsFaultAt}
use Rattle.krb_json.proofs.ReadLemmas.{fault-read, fault-here, same-read}
use Rattle.krb_json.proofs.Fit.{steps, same_ok}

-- ---- items
-- values, and those that come after them
abbrev after : {A : Type 0} → List A → Result (List A) Fault → Result (List A) Fault
after values others = others >>= λ more. Ok (values ++ more)

after-one : {A : Type 0} (values : List A) (value : A) (others : Result (List A) Fault) → after values (others >>= λ more. Ok (value ∷ more)) ≡ after (values ++ value ∷ []) others
after-one values value (Ok more) = ap Ok (sym (append_assoc values (value ∷ []) more))
after-one values value (Err found) = refl

-- the values so far are read, and those that are left come after them
pub record AreReadTo {A : Type 0} (read : (path : List ℕ) → Json → Result A Fault) (octets_of : A → List ℕ) (all rest : Items) (index : ℕ) (old now : List ℕ) : Type 0 where
  pub values : List A
  pub left : (path : List ℕ) → items_spelled read path 0 all ≡ after values (items_spelled read path index rest)
  pub octets : now ≡ old ++ flat_map octets_of values

pub one-read : {A : Type 0} (read : (path : List ℕ) → Json → Result A Fault) (octets_of : A → List ℕ) (all rest : Items) (j : Json) (index : ℕ) (old mid now : List ℕ) → AreReadTo read octets_of all (item j rest) index old mid → IsRead (λ path. read (element_path path index) j) octets_of mid now → AreReadTo read octets_of all rest (index + 1) old now
one-read read octets_of all rest j index old mid now a r = record {
  values = a.values ++ r.value ∷ [];
  left = λ path.
      a.left path
      ∙ ap (λ x. after a.values (x >>= λ first. items_spelled read path (index + 1) rest >>= λ others. Ok (first ∷ others))) (r.spelled path)
      ∙ after-one a.values r.value (items_spelled read path (index + 1) rest);
  octets =
      r.octets ∙ ap (λ l. l ++ octets_of r.value) a.octets ∙ append_assoc old (flat_map octets_of a.values) (octets_of r.value)
      ∙ ap (λ l. old ++ l) (ap (λ l. flat_map octets_of a.values ++ l) (sym (append-nil (octets_of r.value))) ∙ sym (flat_map-append octets_of a.values (r.value ∷ [])));
}

-- an item has a fault
pub item-stopped : {A : Type 0} (read : (path : List ℕ) → Json → Result A Fault) (octets_of : A → List ℕ) (all rest : Items) (j : Json) (index : ℕ) (old mid older new now : List ℕ) (found : ValueFault) → AreReadTo read octets_of all (item j rest) index old mid → Reads (λ path. read (element_path path index) j) octets_of mid now (Err found) → Reads (λ path. items_spelled read path 0 all) (flat_map octets_of) older new (Err found)
item-stopped read octets_of all rest j index old mid older new now (At found) a r =
    λ path. a.left path ∙ ap (λ x. after a.values (x >>= λ first. items_spelled read path (index + 1) rest >>= λ others. Ok (first ∷ others))) (r path)
item-stopped read octets_of all rest j index old mid older new now Memory a r = tt

-- ---- names
-- the members so far have names of their own, which are allowed
pub record AreCheckedTo (is_field : List ℕ → Bool) (all rest : Members) (has_name : List ℕ → Bool) : Type 0 where
  pub before : List (List ℕ)
  pub among : (name : List ℕ) → is_among name before ≡ has_name name
  pub left : (path : List ℕ) → checked_members is_field path [] all ≡ checked_members is_field path before rest

pub one-checked : (is_field : List ℕ → Bool) (all rest : Members) (name : List ℕ) (j : Json) (has_name more : List ℕ → Bool) → is_field name ≡ true → has_name name ≡ false → ((other : List ℕ) → more other ≡ (has_name other || bytes_eq name other)) → AreCheckedTo is_field all (member name j rest) has_name → AreCheckedTo is_field all rest more
one-checked is_field all rest name j has_name more allowed single same a = record {
  before = name ∷ a.before;
  among = λ other. ap (λ b. bytes_eq name other || b) (a.among other) ∙ or_comm (bytes_eq name other) (has_name other) ∙ sym (same other);
  left = λ path.
      a.left path
      ∙ ap₂ (λ b d. unless (not b) (field_path path (shown name)) NoSuchField (unless d (field_path path (shown name)) Twice (checked_members is_field path (name ∷ a.before) rest))) allowed (a.among name ∙ single);
}

-- a member is not allowed
pub not-allowed : (is_field : List ℕ → Bool) (all rest : Members) (name : List ℕ) (j : Json) (has_name : List ℕ → Bool) (old : List ℕ) (found : ValueFault) → is_field name ≡ false → IsFaultAt (codes "." ++ shown name) NoSuchField found → AreCheckedTo is_field all (member name j rest) has_name → Reads (λ path. checked_members is_field path [] all) (λ _. []) old old (Err found)
not-allowed is_field all rest name j has_name old found other at a =
    fault-read (λ path. checked_members is_field path [] all) (λ _. []) old old (codes "." ++ shown name) NoSuchField found
    (λ path.
    a.left path
    ∙ ap (λ b. unless (not b) (field_path path (shown name)) NoSuchField (unless (is_among name a.before) (field_path path (shown name)) Twice (checked_members is_field path (name ∷ a.before) rest))) other
    ∙ ap (λ p. fault p NoSuchField) (append_assoc path (codes ".") (shown name))) at

-- or came before
pub came-before : (is_field : List ℕ → Bool) (all rest : Members) (name : List ℕ) (j : Json) (has_name : List ℕ → Bool) (old : List ℕ) (found : ValueFault) → is_field name ≡ true → has_name name ≡ true → IsFaultAt (codes "." ++ shown name) Twice found → AreCheckedTo is_field all (member name j rest) has_name → Reads (λ path. checked_members is_field path [] all) (λ _. []) old old (Err found)
came-before is_field all rest name j has_name old found allowed twice at a =
    fault-read (λ path. checked_members is_field path [] all) (λ _. []) old old (codes "." ++ shown name) Twice found
    (λ path.
    a.left path
    ∙ ap₂ (λ b d. unless (not b) (field_path path (shown name)) NoSuchField (unless d (field_path path (shown name)) Twice (checked_members is_field path (name ∷ a.before) rest))) allowed (a.among name ∙ twice)
    ∙ ap (λ p. fault p Twice) (append_assoc path (codes ".") (shown name))) at

-- ---- what is left of vectors
pub items-next : {A : Type 0} (vs : List (Value A)) (i : ℕ) (d : Value A) → i < length vs → items_view (drop i vs) ≡ item (value_view (get_or vs i d)) (items_view (drop (i + 1) vs))
items-next vs i d short = ap items_view (drop-cons vs i d short) ∙ ap (λ n. item (value_view (get_or vs i d)) (items_view (drop n vs))) (sym (add-one i))

pub members-next : {A : Type 0} (ms : List (Bor (List ℕ) × Value A)) (i : ℕ) (d : Bor (List ℕ) × Value A) → i < length ms → members_view (drop i ms) ≡ member (get_or ms i d).0.now (value_view (get_or ms i d).1) (members_view (drop (i + 1) ms))
members-next ms i d short = ap members_view (drop-cons ms i d short) ∙ ap (λ n. member (get_or ms i d).0.now (value_view (get_or ms i d).1) (members_view (drop n ms))) (sym (add-one i))

-- whether a member of some has a name
abbrev pub has_name : {A : Type 0} → List (Bor (List ℕ) × Value A) → List ℕ → Bool
has_name ms name = list_any (λ m. bytes_eq m.0.now name) ms

pub has-name-more : {A : Type 0} (ms : List (Bor (List ℕ) × Value A)) (i : ℕ) (d : Bor (List ℕ) × Value A) → i < length ms → (name : List ℕ) → has_name (take (i + 1) ms) name ≡ (has_name (take i ms) name || bytes_eq (get_or ms i d).0.now name)
has-name-more ms i d short name =
    ap (λ l. has_name l name) (take_more ms i d short)
    ∙ list_any-append (λ m. bytes_eq m.0.now name) (take i ms) (get_or ms i d ∷ [])
    ∙ ap (λ b. has_name (take i ms) name || b) (or_comm (bytes_eq (get_or ms i d).0.now name) false)

-- ---- the member at an index of a vector
module _ {A : Type 0} (is_field : List ℕ → Bool) (ms : List (Bor (List ℕ) × Value A)) (i : ℕ) (m : Bor (List ℕ) × Value A) (short : i < length ms) (is : m ≡ get_or ms i m) (a : AreCheckedTo is_field (members_view ms) (members_view (drop i ms)) (has_name (take i ms))) where
  first : AreCheckedTo is_field (members_view ms) (member m.0.now (value_view m.1) (members_view (drop (i + 1) ms))) (has_name (take i ms))
  first =
      subst (λ rest. AreCheckedTo is_field (members_view ms) rest (has_name (take i ms)))
      (members-next ms i m short ∙ ap (λ (x : Bor (List ℕ) × Value A). member x.0.now (value_view x.1) (members_view (drop (i + 1) ms))) (sym is)) a

  pub name-not-allowed : (old : List ℕ) (found : ValueFault) → is_field m.0.now ≡ false → IsFaultAt (codes "." ++ shown m.0.now) NoSuchField found → Reads (λ path. checked_members is_field path [] (members_view ms)) (λ _. []) old old (Err found)
  name-not-allowed old found other at = not-allowed is_field (members_view ms) (members_view (drop (i + 1) ms)) m.0.now (value_view m.1) (has_name (take i ms)) old found other at first

  pub name-before : (old : List ℕ) (found : ValueFault) → is_field m.0.now ≡ true → has_name (take i ms) m.0.now ≡ true → IsFaultAt (codes "." ++ shown m.0.now) Twice found → Reads (λ path. checked_members is_field path [] (members_view ms)) (λ _. []) old old (Err found)
  name-before old found allowed twice at = came-before is_field (members_view ms) (members_view (drop (i + 1) ms)) m.0.now (value_view m.1) (has_name (take i ms)) old found allowed twice at first

  pub name-checked : is_field m.0.now ≡ true → has_name (take i ms) m.0.now ≡ false → AreCheckedTo is_field (members_view ms) (members_view (drop (i + 1) ms)) (has_name (take (i + 1) ms))
  name-checked allowed single =
      one-checked is_field (members_view ms) (members_view (drop (i + 1) ms)) m.0.now (value_view m.1) (has_name (take i ms)) (has_name (take (i + 1) ms)) allowed single
      (λ other. has-name-more ms i m short other ∙ ap (λ (x : Bor (List ℕ) × Value A). has_name (take i ms) other || bytes_eq x.0.now other) (sym is)) first

pub members-read : (is_field : List ℕ → Bool) (j : Json) (ms : Members) (outcome : Result (Unit {0}) ValueFault) → as_object j ≡ Some ms → Reads (λ path. checked_members is_field path [] ms) (λ _. []) [] [] outcome → Reads (λ path. members_spelled is_field path j) (λ _. []) [] [] outcome
members-read is_field j ms (Ok done) e r = record {
  value = ms;
  spelled = λ path. ap (λ o. or_fault path NotAnObject o >>= λ ms. checked_members is_field path [] ms >>= λ _. Ok ms) e ∙ ap (λ x. x >>= λ _. Ok ms) (r.spelled path);
  octets = refl;
}
members-read is_field j ms (Err (At found)) e r =
    λ path. ap (λ o. or_fault path NotAnObject o >>= λ ms. checked_members is_field path [] ms >>= λ _. Ok ms) e ∙ ap (λ x. x >>= λ _. Ok ms) (r path)
members-read is_field j ms (Err Memory) e r = tt

-- ---- looking into values
-- what an object has for a name is what its members have
pub get-member : (name : List ℕ) (j : Json) (ms : Members) → as_object j ≡ Some ms → get name j ≡ get_member name ms
get-member name null ms e = cc e
get-member name (object own) ms e = ap (get_member name) (same-some own ms e)
  where
    same-some : (a b : Members) → Some a ≡ Some b → a ≡ b
    same-some a b e = cc e
get-member name other ms e = cc e

-- each item of an array has numbers that are numbers
pub item-numbers : {A : Type 0} (vs : List (Value A)) (i : ℕ) (d : Value A) → i < length vs → ItemsHaveNumbers (items_view vs) → HasNumbers (value_view (get_or vs i d))
item-numbers [] i d short h = absurd (omega arith)
item-numbers (v ∷ vs) zero d short h = h.0
item-numbers (v ∷ vs) (suc i) d short h = item-numbers vs i d (omega arith) h.1

-- ---- arrays
pub empty-view : {A : Type 0} (vs : List (Value A)) → is_empty (items_view vs) ≡ (length vs == 0)
empty-view [] = refl
empty-view (v ∷ vs) = sym (eqb-suc-zero (length vs))

module _ {A : Type 0} (empty : Bool) (read : (path : List ℕ) → Json → Result A Fault) (octets_of : List A → List ℕ) (j : Json) (js : Items) (old new : List ℕ) (is : as_array j ≡ Some js) where
  abbrev of_array : (path : List ℕ) → Option Items → Result (List A) Fault
  of_array path o = or_fault path NotAnArray o >>= λ items. unless (not empty && is_empty items) path Empty (items_spelled read path 0 items)

  pub array-read : (outcome : Result (Unit {0}) ValueFault) → (not empty && is_empty js) ≡ false → Reads (λ path. items_spelled read path 0 js) octets_of old new outcome → Reads (λ path. of_array path (as_array j)) octets_of old new outcome
  array-read outcome some r =
      same-read (λ path. items_spelled read path 0 js) (λ path. of_array path (as_array j)) octets_of old new outcome
      (λ path. ap (of_array path) is ∙ ap (λ b. unless b path Empty (items_spelled read path 0 js)) some) r

  pub array-empty : (found : ValueFault) → (not empty && is_empty js) ≡ true → IsFaultAt [] Empty found → Reads (λ path. of_array path (as_array j)) octets_of old new (Err found)
  array-empty found none at =
      fault-here (λ path. of_array path (as_array j)) octets_of old new Empty found (λ path. ap (of_array path) is ∙ ap (λ b. unless b path Empty (items_spelled read path 0 js)) none) at

-- ---- objects
there : {A : Type 0} (path : List ℕ) (wrong : Wrong) (o : Option A) (a : A) → or_fault path wrong o ≡ Ok a → o ≡ Some a
there path wrong None a e = cc e
there path wrong (Some b) a e = ap Some (same_ok b a e)

-- the members of an object of which the names are right
pub members-of : (is_field : List ℕ → Bool) (path : List ℕ) (j : Json) (ms : Members) → members_spelled is_field path j ≡ Ok ms → as_object j ≡ Some ms
members-of is_field path j ms e =
    let s = steps (or_fault path NotAnObject (as_object j)) (λ own. checked_members is_field path [] own >>= λ _. Ok own) ms e in
    let t = steps (checked_members is_field path [] s.value) (λ _. Ok s.value) ms s.then in
    there path NotAnObject (as_object j) s.value s.is ∙ ap Some (same_ok s.value ms t.then)

-- ---- the item at an index of a vector
module _ {A B : Type 0} (read : (path : List ℕ) → Json → Result B Fault) (octets_of : B → List ℕ) (vs : List (Value A)) (i : ℕ) (v : Value A) (short : i < length vs) (is : v ≡ get_or vs i v) (old mid : List ℕ) (a : AreReadTo read octets_of (items_view vs) (items_view (drop i vs)) i old mid) where
  first-item : AreReadTo read octets_of (items_view vs) (item (value_view v) (items_view (drop (i + 1) vs))) i old mid
  first-item =
      subst (λ rest. AreReadTo read octets_of (items_view vs) rest i old mid)
      (items-next vs i v short ∙ ap (λ (x : Value A). item (value_view x) (items_view (drop (i + 1) vs))) (sym is)) a

  pub item-read : (now : List ℕ) → IsRead (λ path. read (element_path path i) (value_view v)) octets_of mid now → AreReadTo read octets_of (items_view vs) (items_view (drop (i + 1) vs)) (i + 1) old now
  item-read now r = one-read read octets_of (items_view vs) (items_view (drop (i + 1) vs)) (value_view v) i old mid now first-item r

  pub item-fault : (older new now : List ℕ) (found : ValueFault) → Reads (λ path. read (element_path path i) (value_view v)) octets_of mid now (Err found) → Reads (λ path. items_spelled read path 0 (items_view vs)) (flat_map octets_of) older new (Err found)
  item-fault older new now found r = item-stopped read octets_of (items_view vs) (items_view (drop (i + 1) vs)) (value_view v) i old mid older new now found first-item r

  pub item-numbers-at : ItemsHaveNumbers (items_view vs) → HasNumbers (value_view v)
  item-numbers-at h = subst (λ (x : Value A). HasNumbers (value_view x)) (sym is) (item-numbers vs i v short h)
