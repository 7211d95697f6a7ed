-- The order of members changes nothing of what a line spells.
use Rattle.std.proofs.Common.{◌≡◌, ℕ, ℤ, pos, ◌+◌, ◌-◌, ◌*◌, inl, inr, Bool, true, false, cond, List, [], ◌∷◌, length, Option, Some, None, Result, Ok, Err, refl, sym, ◌∙◌, ap, subst}
use Rattle.std.specs.Prelude.{⊤, ◌&&◌, ◌||◌, not, codes}
use Rattle.std.specs.Option.{option_and_then}
use Rattle.std.specs.Result.{result_unwrap_or}
use Rattle.std.specs.Str.{bytes_eq}
use Rattle.std.proofs.lemmas.Slice.Eq.{bytes_eq-Decides}
use Rattle.json.specs.Json.{Json, null, array, object, Items, no_items, item, Members, no_members, member}
use Rattle.json.specs.Find.{as_array, as_object, get_member, later_or}
use Rattle.krb_der.specs.declared.profile.Profile.{Profile}
use Rattle.krb_msg.specs.Term.{Term, Fields, Integer, Text, Octets, Time, Bits, Sequence, SequenceOf, Tagged, Application, End, Required, Optional, Values, der}
use Rattle.krb_msg.specs.Views.{kind_name, kind_term_in}
use Rattle.krb_msg.specs.declared.message.Kind.{Kind}
use Rattle.krb_msg.specs.declared.message.Message.{Message}
use Rattle.krb_judge.specs.FieldNames.{field_at, names_of_kind}
use Rattle.krb_judge.specs.Paths.{field_path, element_path}
use Rattle.krb_judge.specs.declared.locating.names.Names.{Names}
use Rattle.krb_json.specs.declared.wrong.Wrong.{Wrong}
use Rattle.krb_json.specs.declared.wrong.Wrong.TheVariants.{NoSuchField, Twice, NotAnArray, Empty}
use Rattle.krb_json.specs.Faults.{Fault, ◌>>=◌}
use Rattle.krb_json.specs.Lines.{in_line, kind_named, line_spells, member_spells, message_spelled, named_spells, sole_member, value_of_line, value_spells, within}
use Rattle.krb_json.specs.Spelling.{shown}
use Rattle.krb_json.specs.Spelled.{bits_from, bits_spelled, checked_members, count_of, fields_spelled, if_there, integer_spelled, is_among, is_bits_field, is_empty, is_field, items_spelled, members_spelled, octets_spelled, optional, or_fault, required, spelled, text_spelled, time_spelled, unless}
use Rattle.krb_json.specs.OtherCase.{AreAlike}
use Rattle.krb_json.specs.Reordered.{IsInserted, Reordered, AreReordered, HaveOtherOrder}
use Rattle.krb_json.specs.Laws.{SpellingChangesNothing}
use Rattle.krb_json.proofs.Fit.{ok, passed, same_ok, steps}
use Rattle.krb_message_laws.proofs.OtherCases.{line-same}

-- ---- one step after another
both-steps : {A B : Type 0} (r : Result A Fault) (next : A → Result B Fault) (a : A) (b : B) → r ≡ Ok a → next a ≡ Ok b → (r >>= next) ≡ Ok b
both-steps r next a b first second = ap (λ x. x >>= next) first ∙ second

-- ---- names
not_true : (b : Bool) → not b ≡ false → b ≡ true
not_true true e = refl
not_true false e = cc e

neither : (a b : Bool) → (a || b) ≡ false → (a ≡ false) × (b ≡ false)
neither true b e = cc e
neither false b e = (refl, e)

same-name : (a b : List ℕ) → bytes_eq a b ≡ true → a ≡ b
same-name a b e = (bytes_eq-Decides a b).0 e

other-way : (a b : List ℕ) → bytes_eq a b ≡ false → bytes_eq b a ≡ false
other-way a b e = by (bytes_eq b a) refl
  where
    by : (t : Bool) → bytes_eq b a ≡ t → bytes_eq b a ≡ false
    by true is = cc (sym e ∙ ap (λ n. bytes_eq n b) (sym (same-name b a is)) ∙ ap (bytes_eq b) (same-name b a is) ∙ is)
    by false is = is

-- no member has a name
abbrev NotIn : List ℕ → Members → Type 0
NotIn name no_members = ⊤
NotIn name (member first j members) = (bytes_eq first name ≡ false) × NotIn name members

-- each name is allowed, is none of those before and is there once
abbrev Allowed : (List ℕ → Bool) → (before : List (List ℕ)) → Members → Type 0
Allowed is_allowed before no_members = ⊤
Allowed is_allowed before (member name j members) = (is_allowed name ≡ true) × (is_among name before ≡ false) × NotIn name members × Allowed is_allowed before members

-- without one before them
fewer : (is_allowed : List ℕ → Bool) (name : List ℕ) (before : List (List ℕ)) (members : Members) → Allowed is_allowed (name ∷ before) members → NotIn name members × Allowed is_allowed before members
fewer is_allowed name before no_members a = (tt, tt)
fewer is_allowed name before (member first j members) a =
    let apart = neither (bytes_eq name first) (is_among first before) a.1 in
    let rest = fewer is_allowed name before members a.3 in
    ((other-way name first apart.0, rest.0), (a.0, apart.1, a.2, rest.1))

more : (is_allowed : List ℕ → Bool) (name : List ℕ) (before : List (List ℕ)) (members : Members) → NotIn name members → Allowed is_allowed before members → Allowed is_allowed (name ∷ before) members
more is_allowed name before no_members none a = tt
more is_allowed name before (member first j members) none a =
    (a.0, ap (λ b. b || is_among first before) (other-way first name none.0) ∙ a.1, a.2, more is_allowed name before members none.1 a.3)

allowed-checked : (is_allowed : List ℕ → Bool) (path : List ℕ) (before : List (List ℕ)) (members : Members) → checked_members is_allowed path before members ≡ Ok tt → Allowed is_allowed before members
allowed-checked is_allowed path before no_members e = tt
allowed-checked is_allowed path before (member name j members) e =
    let first = passed (not (is_allowed name)) _ _ _ tt e in
    let second = passed (is_among name before) _ _ _ tt first.1 in
    let rest = fewer is_allowed name before members (allowed-checked is_allowed path (name ∷ before) members second.1) in
    (not_true (is_allowed name) first.0, second.0, rest.0, rest.1)

checked-allowed : (is_allowed : List ℕ → Bool) (path : List ℕ) (before : List (List ℕ)) (members : Members) → Allowed is_allowed before members → checked_members is_allowed path before members ≡ Ok tt
checked-allowed is_allowed path before no_members a = refl
checked-allowed is_allowed path before (member name j members) a =
    (λ i. unless (not (a.0 i)) (field_path path (shown name)) NoSuchField (unless (is_among name before) (field_path path (shown name)) Twice (checked_members is_allowed path (name ∷ before) members)))
    ∙ (λ i. unless (a.1 i) (field_path path (shown name)) Twice (checked_members is_allowed path (name ∷ before) members))
    ∙ checked-allowed is_allowed path (name ∷ before) members (more is_allowed name before members a.2 a.3)

-- ---- one more member
module _ (name : List ℕ) (k : Json) where
  inserted-none : (other : List ℕ) (rest all : Members) → bytes_eq name other ≡ false → NotIn other rest → IsInserted name k rest all → NotIn other all
  inserted-none other rest no_members apart none i = absurd i
  inserted-none other rest (member first j all) apart none (inl here) =
      (ap (λ n. bytes_eq n other) here.0 ∙ apart, subst (NotIn other) (sym here.2) none)
  inserted-none other rest (member first j all) apart none (inr there) =
      let none_there = subst (NotIn other) there.1 none in
      (none_there.0, inserted-none other there.0 all apart none_there.1 there.2)

  inserted-allowed : (is_allowed : List ℕ → Bool) (before : List (List ℕ)) (rest all : Members) → is_allowed name ≡ true → is_among name before ≡ false → NotIn name rest → Allowed is_allowed before rest → IsInserted name k rest all → Allowed is_allowed before all
  inserted-allowed is_allowed before rest no_members allowed apart none a i = absurd i
  inserted-allowed is_allowed before rest (member first j all) allowed apart none a (inl here) = (
    ap is_allowed here.0 ∙ allowed,
    ap (λ n. is_among n before) here.0 ∙ apart,
    subst (NotIn first) (sym here.2) (subst (λ n. NotIn n rest) (sym here.0) none),
    subst (Allowed is_allowed before) (sym here.2) a,
  )
  inserted-allowed is_allowed before rest (member first j all) allowed apart none a (inr there) =
      let none_there = subst (NotIn name) there.1 none in
      let a_there = subst (Allowed is_allowed before) there.1 a in (
        a_there.0,
        a_there.1,
        inserted-none first there.0 all (other-way first name none_there.0) a_there.2 there.2,
        inserted-allowed is_allowed before there.0 all allowed apart none_there.1 a_there.3 there.2,
      )

  -- what is found of a name is what is found among the others, or the member
  exchanged : (x first : List ℕ) (j : Json) (found : Option Json) → bytes_eq first name ≡ false → later_or (later_or found (cond (bytes_eq name x) (Some k) None)) (cond (bytes_eq first x) (Some j) None) ≡ later_or (later_or found (cond (bytes_eq first x) (Some j) None)) (cond (bytes_eq name x) (Some k) None)
  exchanged x first j (Some value) apart = refl
  exchanged x first j None apart = by (bytes_eq name x) (bytes_eq first x) refl refl
    where
      by : (a b : Bool) → bytes_eq name x ≡ a → bytes_eq first x ≡ b → later_or (cond a (Some k) None) (cond b (Some j) None) ≡ later_or (cond b (Some j) None) (cond a (Some k) None)
      by true true is also = cc (sym apart ∙ ap (bytes_eq first) (same-name name x is) ∙ also)
      by true false is also = refl
      by false true is also = refl
      by false false is also = refl

  inserted-found : (x : List ℕ) (rest all : Members) → NotIn name rest → IsInserted name k rest all → get_member x all ≡ later_or (get_member x rest) (cond (bytes_eq name x) (Some k) None)
  inserted-found x rest no_members none i = absurd i
  inserted-found x rest (member first j all) none (inl here) = (λ i. later_or (get_member x (here.2 i)) (cond (bytes_eq (here.0 i) x) (Some (here.1 i)) None))
  inserted-found x rest (member first j all) none (inr there) =
      let none_there = subst (NotIn name) there.1 none in
      ap (λ found. later_or found (cond (bytes_eq first x) (Some j) None)) (inserted-found x there.0 all none_there.1 there.2)
      ∙ exchanged x first j (get_member x there.0) none_there.0
      ∙ ap (λ others. later_or (get_member x others) (cond (bytes_eq name x) (Some k) None)) (sym there.1)

-- ---- members in another order
later-alike : (found others : Option Json) (j k : Json) (b : Bool) → AreAlike Reordered found others → Reordered j k → AreAlike Reordered (later_or found (cond b (Some j) None)) (later_or others (cond b (Some k) None))
later-alike None None j k true a r = r
later-alike None None j k false a r = tt
later-alike (Some value) (Some other) j k b a r = a
later-alike another third j k b a r = absurd a

order-none : (name : List ℕ) (members others : Members) → NotIn name members → HaveOtherOrder members others → NotIn name others
order-none name no_members others none o = subst (NotIn name) (sym o) tt
order-none name (member first j members) others none o =
    inserted-none first o.0 name o.1 others none.0 (order-none name members o.1 none.1 o.4) o.2

order-allowed : (is_allowed : List ℕ → Bool) (before : List (List ℕ)) (members others : Members) → Allowed is_allowed before members → HaveOtherOrder members others → Allowed is_allowed before others
order-allowed is_allowed before no_members others a o = subst (Allowed is_allowed before) (sym o) tt
order-allowed is_allowed before (member first j members) others a o =
    inserted-allowed first o.0 is_allowed before o.1 others a.0 a.1 (order-none first members o.1 a.2 o.4) (order-allowed is_allowed before members o.1 a.3 o.4) o.2

order-found : (is_allowed : List ℕ → Bool) (before : List (List ℕ)) (x : List ℕ) (members others : Members) → Allowed is_allowed before members → HaveOtherOrder members others → AreAlike Reordered (get_member x members) (get_member x others)
order-found is_allowed before x no_members others a o = subst (λ m. AreAlike Reordered None (get_member x m)) (sym o) tt
order-found is_allowed before x (member first j members) others a o =
    subst (AreAlike Reordered (later_or (get_member x members) (cond (bytes_eq first x) (Some j) None))) (sym (inserted-found first o.0 x o.1 others (order-none first members o.1 a.2 o.4) o.2))
    (later-alike (get_member x members) (get_member x o.1) j o.0 (bytes_eq first x) (order-found is_allowed before x members o.1 a.3 o.4) o.3)

-- ---- what a value spells, whatever the order
abbrev Keeps : {A : Type 0} → (Json → Result A Fault) → Type 0
Keeps {A} read = (j k : Json) (value : A) → Reordered j k → read j ≡ Ok value → read k ≡ Ok value

-- of values that have no members
scalar-kept : {A : Type 0} (read : Json → Result A Fault) → ((items : Items) (value : A) → read (array items) ≡ Ok value → ⊥) → ((members : Members) (value : A) → read (object members) ≡ Ok value → ⊥) → Keeps read
scalar-kept read no_array no_object null k value r e = ap read (sym r) ∙ e
scalar-kept read no_array no_object (array items) k value r e = absurd (no_array items value e)
scalar-kept read no_array no_object (object members) k value r e = absurd (no_object members value e)
scalar-kept read no_array no_object other k value r e = ap read (sym r) ∙ e

integer-kept : (low high : ℤ) (path : List ℕ) → Keeps (integer_spelled low high path)
integer-kept low high path = scalar-kept (integer_spelled low high path) (λ items value e. cc e) (λ given value e. cc e)

octets-kept : (path : List ℕ) → Keeps (octets_spelled path)
octets-kept path = scalar-kept (octets_spelled path) (λ items value e. cc e) (λ given value e. cc e)

-- objects
record HasMembers (is_allowed : List ℕ → Bool) (path : List ℕ) (k : Json) (members : Members) : Type 0 where
  others : Members
  spelled_others : members_spelled is_allowed path k ≡ Ok others
  alike : (x : List ℕ) → AreAlike Reordered (get_member x members) (get_member x others)

object-kept : (is_allowed : List ℕ → Bool) (path : List ℕ) (j k : Json) (found : Members) → Reordered j k → members_spelled is_allowed path j ≡ Ok found → HasMembers is_allowed path k found
object-kept is_allowed path null k found r e = cc e
object-kept is_allowed path (object given) k found r e =
    let s = steps (checked_members is_allowed path [] given) (λ _. Ok given) found e in
    let a : Allowed is_allowed [] given = allowed-checked is_allowed path [] given s.is in
    let same : given ≡ found = same_ok given found s.then in
    record {
      others = r.0;
      spelled_others = ap (members_spelled is_allowed path) r.1 ∙ ap (λ x. x >>= λ _. Ok r.0) (checked-allowed is_allowed path [] r.0 (order-allowed is_allowed [] given r.0 a r.2));
      alike = λ x. subst (λ m. AreAlike Reordered (get_member x m) (get_member x r.0)) same (order-found is_allowed [] x given r.0 a r.2);
    }
object-kept is_allowed path other k found r e = cc e

required-of : {A : Type 0} (read : List ℕ → Json → Result A Fault) (path name : List ℕ) (found others : Option Json) (wrong : Wrong) (value : A) → ((p : List ℕ) → Keeps (read p)) → AreAlike Reordered found others → (or_fault (field_path path name) wrong found >>= read (field_path path name)) ≡ Ok value → (or_fault (field_path path name) wrong others >>= read (field_path path name)) ≡ Ok value
required-of read path name None None wrong value keeps a e = e
required-of read path name (Some j) (Some k) wrong value keeps a e = keeps (field_path path name) j k value a e
required-of read path name other another wrong value keeps a e = absurd a

optional-of : {A : Type 0} (read : Json → Result A Fault) (found others : Option Json) (value : Option A) → Keeps read → AreAlike Reordered found others → if_there read found ≡ Ok value → if_there read others ≡ Ok value
optional-of read None None value keeps a e = e
optional-of read (Some j) (Some k) value keeps a e =
    let s = steps (read j) (λ v. Ok (Some v)) value e in
    both-steps (read k) (λ v. Ok (Some v)) s.value value (keeps j k s.value a s.is) s.then
optional-of read other another value keeps a e = absurd a

bits-kept : (least : ℕ) (path : List ℕ) → Keeps (bits_spelled least path)
bits-kept least path j k value r e =
    let m = steps (members_spelled is_bits_field path j) _ value e in
    let o = object-kept is_bits_field path j k m.value r m.is in
    let octets = steps (required octets_spelled path (codes "value") m.value) _ value m.then in
    let low : ℤ = pos (8 * length octets.value - 7) in
    let high : ℤ = pos (8 * length octets.value) in
    let count = steps (required (integer_spelled low high) path (codes "length") m.value) (λ n. bits_from least path octets.value (count_of n)) value octets.then in
    both-steps (members_spelled is_bits_field path k) _ o.others value o.spelled_others
    (both-steps (required octets_spelled path (codes "value") o.others) _ octets.value value (required-of octets_spelled path (codes "value") (get_member (codes "value") m.value) (get_member (codes "value") o.others) _ octets.value octets-kept (o.alike (codes "value")) octets.is)
    (both-steps (required (integer_spelled low high) path (codes "length") o.others) (λ n. bits_from least path octets.value (count_of n)) count.value value (required-of (integer_spelled low high) path (codes "length") (get_member (codes "length") m.value) (get_member (codes "length") o.others) _ count.value (integer-kept low high) (o.alike (codes "length")) count.is) count.then))

-- arrays
items-kept : {A : Type 0} (read : List ℕ → Json → Result A Fault) → ((p : List ℕ) → Keeps (read p)) → (path : List ℕ) (index : ℕ) (items others : Items) (values : List A) → AreReordered items others → items_spelled read path index items ≡ Ok values → items_spelled read path index others ≡ Ok values
items-kept read keeps path index no_items others values r e = ap (items_spelled read path index) r ∙ e
items-kept read keeps path index (item j items) others values r e =
    let first = steps (read (element_path path index) j) _ values e in
    let rest = steps (items_spelled read path (index + 1) items) (λ vs. Ok (first.value ∷ vs)) values first.then in
    ap (items_spelled read path index) r.2
    ∙ both-steps (read (element_path path index) r.0) _ first.value values (keeps (element_path path index) j r.0 first.value r.3 first.is)
    (both-steps (items_spelled read path (index + 1) r.1) (λ vs. Ok (first.value ∷ vs)) rest.value values (items-kept read keeps path (index + 1) items r.1 rest.value r.4 rest.is) rest.then)

same-empty : (items others : Items) → AreReordered items others → is_empty others ≡ is_empty items
same-empty no_items others r = ap is_empty r
same-empty (item j items) others r = ap is_empty r.2

array-kept : {A : Type 0} (empty : Bool) (read : List ℕ → Json → Result A Fault) (path : List ℕ) → ((p : List ℕ) → Keeps (read p)) → Keeps (λ j. or_fault path NotAnArray (as_array j) >>= λ items. unless (not empty && is_empty items) path Empty (items_spelled read path 0 items))
array-kept empty read path keeps null k value r e = cc e
array-kept empty read path keeps (array items) k value r e =
    let p = passed (not empty && is_empty items) path _ _ value e in
    ap (λ x. or_fault path NotAnArray (as_array x) >>= λ is. unless (not empty && is_empty is) path Empty (items_spelled read path 0 is)) r.1
    ∙ ap (λ b. unless b path Empty (items_spelled read path 0 r.0)) (ap (λ b. not empty && b) (same-empty items r.0 r.2) ∙ p.0)
    ∙ items-kept read keeps path 0 items r.0 value r.2 p.1
array-kept empty read path keeps other k value r e = cc e

mutual
  term-kept : (term : Term) (names : Names) (path : List ℕ) → Keeps (spelled term names path)
  term-kept (Integer low high) names path j k value r e = integer-kept low high path j k value r e
  term-kept (Text greatest) names path j k value r e = scalar-kept (text_spelled greatest path) (λ items v x. cc x) (λ given v x. cc x) j k value r e
  term-kept Octets names path j k value r e = octets-kept path j k value r e
  term-kept Time names path j k value r e = scalar-kept (time_spelled path) (λ items v x. cc x) (λ given v x. cc x) j k value r e
  term-kept (Bits least) names path j k value r e = bits-kept least path j k value r e
  term-kept (Sequence fields) names path j k value r e =
      let m = steps (members_spelled (is_field names) path j) (fields_spelled fields names path 0) value e in
      let o = object-kept (is_field names) path j k m.value r m.is in
      both-steps (members_spelled (is_field names) path k) (fields_spelled fields names path 0) o.others value o.spelled_others (fields-kept fields names path 0 m.value o.others value o.alike m.then)
  term-kept (SequenceOf empty term) names path j k value r e = array-kept empty (spelled term names) path (term-kept term names) j k value r e
  term-kept (Tagged index term) names path j k value r e = term-kept term names path j k value r e
  term-kept (Application tag term) names path j k value r e = term-kept term names path j k value r e

  fields-kept : (fields : Fields) (names : Names) (path : List ℕ) (index : ℕ) (given others : Members) (values : Values fields) → ((x : List ℕ) → AreAlike Reordered (get_member x given) (get_member x others)) → fields_spelled fields names path index given ≡ Ok values → fields_spelled fields names path index others ≡ Ok values
  fields-kept End names path index given others values alike e = e
  fields-kept (Required term fields) names path index given others values alike e =
      let name : List ℕ = (field_at names index).name in
      let inside : Names = (field_at names index).inside in
      let first = steps (required (spelled term inside) path name given) _ values e in
      let rest = steps (fields_spelled fields names path (index + 1) given) (λ vs. Ok (first.value, vs)) values first.then in
      both-steps (required (spelled term inside) path name others) _ first.value values (required-of (spelled term inside) path name (get_member name given) (get_member name others) _ first.value (term-kept term inside) (alike name) first.is)
      (both-steps (fields_spelled fields names path (index + 1) others) (λ vs. Ok (first.value, vs)) rest.value values (fields-kept fields names path (index + 1) given others rest.value alike rest.is) rest.then)
  fields-kept (Optional term fields) names path index given others values alike e =
      let name : List ℕ = (field_at names index).name in
      let inside : Names = (field_at names index).inside in
      let first = steps (optional (spelled term inside) path name given) _ values e in
      let rest = steps (fields_spelled fields names path (index + 1) given) (λ vs. Ok (first.value, vs)) values first.then in
      both-steps (optional (spelled term inside) path name others) _ first.value values (optional-of (spelled term inside (field_path path name)) (get_member name given) (get_member name others) first.value (term-kept term inside (field_path path name)) (alike name) first.is)
      (both-steps (fields_spelled fields names path (index + 1) others) (λ vs. Ok (first.value, vs)) rest.value values (fields-kept fields names path (index + 1) given others rest.value alike rest.is) rest.then)

-- ---- lines
message-of : {A : Type 0} (r other : Result A Fault) (m : A) → (r ≡ Ok m → other ≡ Ok m) → in_line r ≡ Ok m → in_line other ≡ Ok m
message-of (Ok value) other m kept e = ap in_line (kept (ap (λ r. ok (result_unwrap_or r value)) e))
message-of (Err found) other m kept e = cc e

spelled-kept : (profile : Profile) (limit : ℕ) (kind : Kind) (j k : Json) (m : Message) → Reordered j k → message_spelled profile limit kind j ≡ Ok m → message_spelled profile limit kind k ≡ Ok m
spelled-kept profile limit kind j k m r e =
    let s = steps (spelled (kind_term_in profile kind) (names_of_kind kind) (kind_name kind) j) (λ value. within limit kind (der (kind_term_in profile kind) value)) m e in
    both-steps (spelled (kind_term_in profile kind) (names_of_kind kind) (kind_name kind) k) (λ value. within limit kind (der (kind_term_in profile kind) value)) s.value m (term-kept (kind_term_in profile kind) (names_of_kind kind) (kind_name kind) j k s.value r s.is) s.then

named-kept : (profile : Profile) (limit : ℕ) (j k : Json) (kind : Option Kind) (m : Message) → Reordered j k → named_spells profile limit j kind ≡ Ok m → named_spells profile limit k kind ≡ Ok m
named-kept profile limit j k None m r e = cc e
named-kept profile limit j k (Some kind) m r e = message-of (message_spelled profile limit kind j) (message_spelled profile limit kind k) m (spelled-kept profile limit kind j k m r) e

-- the sole member of an object is that of one in another order
sole-inserted : (name : List ℕ) (k : Json) (members : Members) → IsInserted name k no_members members → sole_member members ≡ Some (name, k)
sole-inserted name k no_members i = absurd i
sole-inserted name k (member first j rest) (inl here) = (λ i. sole_member (member (here.0 i) (here.1 i) (here.2 i)))
sole-inserted name k (member first j rest) (inr there) = cc there.1

member-kept : (profile : Profile) (limit : ℕ) (members others : Members) (m : Message) → HaveOtherOrder members others → member_spells profile limit (sole_member members) ≡ Ok m → member_spells profile limit (sole_member others) ≡ Ok m
member-kept profile limit no_members others m o e = cc e
member-kept profile limit (member name j no_members) others m o e =
    ap (member_spells profile limit) (sole-inserted name o.0 others (subst (λ rest. IsInserted name o.0 rest others) o.4 o.2))
    ∙ named-kept profile limit j o.0 (kind_named name) m o.3 e
member-kept profile limit (member name j (member next i given)) others m o e = cc e

value-kept : (profile : Profile) (limit : ℕ) (j k : Json) (m : Message) → Reordered j k → value_spells profile limit (Some j) ≡ Ok m → value_spells profile limit (Some k) ≡ Ok m
value-kept profile limit null k m r e = cc e
value-kept profile limit (object members) k m r e =
    ap (λ x. member_spells profile limit (option_and_then sole_member (as_object x))) r.1 ∙ member-kept profile limit members r.0 m r.2 e
value-kept profile limit other k m r e = cc e

line-kept : (profile : Profile) (limit : ℕ) (line other : List ℕ) (j k : Json) (m : Message) → value_of_line line ≡ Some j → value_of_line other ≡ Some k → Reordered j k → line_spells profile limit line ≡ Ok m → line_spells profile limit other ≡ Ok m
line-kept profile limit line other j k m is also r e = ap (value_spells profile limit) also ∙ value-kept profile limit j k m r (ap (value_spells profile limit) (sym is) ∙ e)

pub spelling_changes_nothing : SpellingChangesNothing
spelling_changes_nothing = record { of_one_value = λ profile limit line other same. ap (value_spells profile limit) same; in_any_order = line-kept; in_either_case = line-same }
