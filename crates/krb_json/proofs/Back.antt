-- Each value is spelled by its JSON.
use Rattle.std.proofs.Common.{◌≡◌, ℕ, ◌+◌, ◌^◌, ◌<◌, ◌≤◌, true, false, ◌&&◌, ◌||◌, not, Bool, cond, List, [], ◌∷◌, ◌++◌, length, length-append, map, Option, Some, None, option_map, Ok, refl, sym, ◌∙◌, ap, arith}
use Rattle.std.specs.Prelude.{int_le, nat_lt, pos, negsuc, ◌≤ℤ◌, ℤ}
use Rattle.std.proofs.lemmas.Bool.{and_parts}
use Rattle.std.proofs.lemmas.Int.{ints}
use Rattle.std.specs.Str.{bytes_eq}
use Rattle.std.specs.List.{AllByRecursion, flat_map}
use lib.Signed.{mag}
use Rattle.json.specs.Json.{Json, Members, no_members, member}
use Rattle.json.specs.Find.{get_member, later_or}
use Rattle.json.specs.Value.{items_of}
use Rattle.krb_der.specs.Octets.{item, length_octets, octets_of_option}
use Rattle.krb_msg.proofs.Integers.{int_le-true}
use Rattle.krb_msg.specs.Term.{Term, Fields, Integer, Text, Octets, Time, Bits, Sequence, SequenceOf, Tagged, Application, End, Required, Optional, Value, Values, Fits, AllFit, IfPresent, der, der_of_fields}
use Rattle.krb_judge.specs.FieldNames.{field_at}
use Rattle.krb_judge.specs.Paths.{field_path, element_path}
use Rattle.krb_judge.specs.declared.locating.names.Names.{Names}
use Rattle.krb_json.specs.Objects.{json, members_of, member_if}
use Rattle.krb_json.specs.Spelled.{spelled, fields_spelled, checked_members, is_field, is_among, items_spelled, is_empty}
use Rattle.krb_json.specs.Laws.{is_named, are_named, has_own_name}
use Rattle.krb_json.proofs.Names.{name, IsNew, is-new, same_name}
use Rattle.krb_json.proofs.Leaves.{number-back, text-back, octets-back, time-back, bits-back}

-- ---- members
-- the members of one list after those of another
abbrev join : Members → Members → Members
join no_members after = after
join (member name j ms) after = member name j (join ms after)

later_or-None : (o : Option Json) → later_or o None ≡ o
later_or-None None = refl
later_or-None (Some j) = refl

later_or-assoc : (a b c : Option Json) → later_or (later_or a b) c ≡ later_or a (later_or b c)
later_or-assoc None b c = refl
later_or-assoc (Some j) b c = refl

get_member-join : (name : List ℕ) (before after : Members) → get_member name (join before after) ≡ later_or (get_member name after) (get_member name before)
get_member-join name no_members after = sym (later_or-None (get_member name after))
get_member-join name (member k j ms) after =
    ap (λ o. later_or o (cond (bytes_eq k name) (Some j) None)) (get_member-join name ms after)
    ∙ later_or-assoc (get_member name after) (get_member name ms) (cond (bytes_eq k name) (Some j) None)

join-one : (before after : Members) (name : List ℕ) (j : Json) → join (join before (member name j no_members)) after ≡ join before (member name j after)
join-one no_members after name j = refl
join-one (member k i ms) after name j = ap (member k i) (join-one ms after name j)

get_member-other : (name k : List ℕ) (j : Json) (ms : Members) → bytes_eq k name ≡ false → get_member name (member k j ms) ≡ get_member name ms
get_member-other name k j ms other = rw other (later_or-None (get_member name ms))

get_member-same : (name : List ℕ) (j : Json) (ms : Members) → get_member name ms ≡ None → get_member name (member name j ms) ≡ Some j
get_member-same name j ms none = rw (none, same_name name) refl

member_if-none : (name k : List ℕ) (o : Option Json) (ms : Members) → bytes_eq k name ≡ false → get_member name ms ≡ None → get_member name (member_if k o ms) ≡ None
member_if-none name k None ms other none = none
member_if-none name k (Some j) ms other none = get_member-other name k j ms other ∙ none

-- ---- the names of fields from an index on
-- what the check of fields shows of the first, of its term and of the others
pub record First (names : Names) (index : ℕ) (term : Term) (fields : Fields) : Type 0 where
  pub new : IsNew names index
  pub inside : is_named term (field_at names index).inside ≡ true
  pub others : are_named fields names (index + 1) ≡ true

pub first : (term : Term) (fields : Fields) (names : Names) (index : ℕ) → (has_own_name names index && (is_named term (field_at names index).inside && are_named fields names (index + 1))) ≡ true → First names index term fields
first term fields names index named =
    let parts = and_parts (has_own_name names index) _ named in
    let inner = and_parts (is_named term (field_at names index).inside) _ parts.1 in
    record { new = is-new names index parts.0; inside = inner.0; others = inner.1 }

-- the fields from the one at an index on have no name that is not theirs
later-none : (fields : Fields) (names : Names) (index other : ℕ) → are_named fields names index ≡ true → other < index → (values : Values fields) → get_member (name names other) (members_of fields names index values) ≡ None
later-none End names index other named before values = refl
later-none (Required term fields) names index other named before values =
    let f : First names index term fields = first term fields names index named in
    get_member-other (name names other) (name names index) (json term (field_at names index).inside values.0) (members_of fields names (index + 1) values.1) (f.new.after other before)
    ∙ later-none fields names (index + 1) other f.others (omega (arith, before)) values.1
later-none (Optional term fields) names index other named before values =
    let f : First names index term fields = first term fields names index named in
    member_if-none (name names other) (name names index) (option_map (json term (field_at names index).inside) values.0) _ (f.new.after other before)
    (later-none fields names (index + 1) other f.others (omega (arith, before)) values.1)

-- no name of a field from an index on is there
abbrev Absent : Members → Names → ℕ → Type 0
Absent before names index = (later : ℕ) → index ≤ later → IsNew names later → get_member (name names later) before ≡ None

absent-next : (before : Members) (names : Names) (index : ℕ) (j : Json) → Absent before names index → Absent (join before (member (name names index) j no_members)) names (index + 1)
absent-next before names index j absent later after new =
    get_member-join (name names later) before (member (name names index) j no_members)
    ∙ rw (get_member-other (name names later) (name names index) j no_members (new.before index (omega (arith, after))), absent later (omega (arith, after)) new) refl

absent-later : (before : Members) (names : Names) (index : ℕ) → Absent before names index → Absent before names (index + 1)
absent-later before names index absent later after new = absent later (omega (arith, after)) new

-- ---- the members of a SEQUENCE have names of fields, and no two the same
abbrev Unseen : List (List ℕ) → Names → ℕ → Type 0
Unseen before names index = (later : ℕ) → index ≤ later → IsNew names later → is_among (name names later) before ≡ false

unseen-next : (before : List (List ℕ)) (names : Names) (index : ℕ) → Unseen before names index → Unseen (name names index ∷ before) names (index + 1)
unseen-next before names index unseen later after new = rw (new.before index (omega (arith, after)), unseen later (omega (arith, after)) new) refl

checked-one : (names : Names) (path : List ℕ) (before : List (List ℕ)) (index : ℕ) (j : Json) (ms : Members) → IsNew names index → is_among (name names index) before ≡ false → checked_members (is_field names) path (name names index ∷ before) ms ≡ Ok tt → checked_members (is_field names) path before (member (name names index) j ms) ≡ Ok tt
checked-one names path before index j ms new unseen others = rw (new.field, unseen) others

abbrev AreChecked : Fields → Names → ℕ → Type 0
AreChecked fields names index = (path : List ℕ) (before : List (List ℕ)) → Unseen before names index → (values : Values fields) → checked_members (is_field names) path before (members_of fields names index values) ≡ Ok tt

checked-if : (term : Term) (fields : Fields) (names : Names) (index : ℕ) → First names index term fields → AreChecked fields names (index + 1) → (path : List ℕ) (before : List (List ℕ)) → Unseen before names index → (value : Option (Value term)) (values : Values fields) → checked_members (is_field names) path before (member_if (name names index) (option_map (json term (field_at names index).inside) value) (members_of fields names (index + 1) values)) ≡ Ok tt
checked-if term fields names index f rest path before unseen None values = rest path before (λ later after new. unseen later (omega (arith, after)) new) values
checked-if term fields names index f rest path before unseen (Some value) values =
    checked-one names path before index (json term (field_at names index).inside value) (members_of fields names (index + 1) values) f.new (unseen index (omega arith) f.new) (rest path (name names index ∷ before) (unseen-next before names index unseen) values)

checked : (fields : Fields) (names : Names) (index : ℕ) → are_named fields names index ≡ true → AreChecked fields names index
checked End names index named path before unseen values = refl
checked (Required term fields) names index named path before unseen values =
    let f : First names index term fields = first term fields names index named in
    checked-one names path before index (json term (field_at names index).inside values.0) (members_of fields names (index + 1) values.1) f.new (unseen index (omega arith) f.new)
    (checked fields names (index + 1) f.others path (name names index ∷ before) (unseen-next before names index unseen) values.1)
checked (Optional term fields) names index named path before unseen values =
    let f : First names index term fields = first term fields names index named in
    checked-if term fields names index f (checked fields names (index + 1) f.others) path before unseen values.0 values.1

-- ---- what is short enough
abbrev pub IsShort : (term : Term) → Value term → Type 0
IsShort term value = length (der term value) < 2 ^ 31

pub item-longer : (tag : ℕ) (contents : List ℕ) → length contents < length (item tag contents)
item-longer tag contents = omega (arith, length-append (length_octets (length contents)) contents)

-- ---- lists
abbrev Comes : Term → Names → Type 0
Comes term names = (path : List ℕ) (value : Value term) → Fits term value → IsShort term value → spelled term names path (json term names value) ≡ Ok value

items-back : (term : Term) (names : Names) (path : List ℕ) (index : ℕ) → Comes term names → (values : List (Value term)) → AllByRecursion (Fits term) values → length (flat_map (der term) values) < 2 ^ 31 → items_spelled (spelled term names) path index (items_of (map (json term names) values)) ≡ Ok values
items-back term names path index comes [] fit short = refl
items-back term names path index comes (v ∷ vs) fit short =
    let both = length-append (der term v) (flat_map (der term) vs) in
    rw (comes (element_path path index) v fit.0 (omega (arith, both, short)), items-back term names path (index + 1) comes vs fit.1 (omega (arith, both, short))) refl

not-empty : (empty : Bool) (term : Term) (names : Names) (values : List (Value term)) → (empty || nat_lt 0 (length values)) ≡ true → (not empty && is_empty (items_of (map (json term names) values))) ≡ false
not-empty false term names [] some = cc some
not-empty other term names another some = refl

-- ---- fields
-- what is found of a field, after others
found : (before : Members) (names : Names) (index : ℕ) (j : Json) (ms : Members) → get_member (name names index) ms ≡ None → get_member (name names index) (join before (member (name names index) j ms)) ≡ Some j
found before names index j ms none =
    get_member-join (name names index) before (member (name names index) j ms)
    ∙ ap (λ o. later_or o (get_member (name names index) before)) (get_member-same (name names index) j ms none)

missed : (before : Members) (names : Names) (index : ℕ) (ms : Members) → Absent before names index → IsNew names index → get_member (name names index) ms ≡ None → get_member (name names index) (join before ms) ≡ None
missed before names index ms absent new none = get_member-join (name names index) before ms ∙ rw (none, absent index (omega arith) new) refl

abbrev FieldsCome : Fields → Names → ℕ → Type 0
FieldsCome fields names index = (path : List ℕ) (before : Members) → Absent before names index → (values : Values fields) → AllFit fields values → length (der_of_fields fields values) < 2 ^ 31 → fields_spelled fields names path index (join before (members_of fields names index values)) ≡ Ok values

-- the fields after one that is there
after-one : (fields : Fields) (names : Names) (index : ℕ) → FieldsCome fields names (index + 1) → (path : List ℕ) (before : Members) (j : Json) → Absent before names index → (values : Values fields) → AllFit fields values → length (der_of_fields fields values) < 2 ^ 31 → fields_spelled fields names path (index + 1) (join before (member (name names index) j (members_of fields names (index + 1) values))) ≡ Ok values
after-one fields names index rest path before j absent values fit short =
    ap (fields_spelled fields names path (index + 1)) (sym (join-one before (members_of fields names (index + 1) values) (name names index) j))
    ∙ rest path (join before (member (name names index) j no_members)) (absent-next before names index j absent) values fit short

required-back : (term : Term) (fields : Fields) (names : Names) (index : ℕ) → Comes term (field_at names index).inside → FieldsCome fields names (index + 1) → First names index term fields → FieldsCome (Required term fields) names index
required-back term fields names index comes rest f path before absent values fit short =
    let both = length-append (der term values.0) (der_of_fields fields values.1) in
    let j : Json = json term (field_at names index).inside values.0 in
    rw (
      found before names index j (members_of fields names (index + 1) values.1) (later-none fields names (index + 1) index f.others (omega arith) values.1),
      comes (field_path path (name names index)) values.0 fit.0 (omega (arith, both, short)),
      after-one fields names index rest path before j absent values.1 fit.1 (omega (arith, both, short)),
    )
    refl

optional-back : (term : Term) (fields : Fields) (names : Names) (index : ℕ) → Comes term (field_at names index).inside → FieldsCome fields names (index + 1) → First names index term fields → (path : List ℕ) (before : Members) → Absent before names index → (value : Option (Value term)) (values : Values fields) → IfPresent (Fits term) value → AllFit fields values → length (octets_of_option (der term) value ++ der_of_fields fields values) < 2 ^ 31 → fields_spelled (Optional term fields) names path index (join before (members_of (Optional term fields) names index (value, values))) ≡ Ok (value, values)
optional-back term fields names index comes rest f path before absent None values is fit short =
    rw (
      missed before names index (members_of fields names (index + 1) values) absent f.new (later-none fields names (index + 1) index f.others (omega arith) values),
      rest path before (absent-later before names index absent) values fit short,
    )
    refl
optional-back term fields names index comes rest f path before absent (Some value) values is fit short =
    let both = length-append (der term value) (der_of_fields fields values) in
    let j : Json = json term (field_at names index).inside value in
    rw (
      found before names index j (members_of fields names (index + 1) values) (later-none fields names (index + 1) index f.others (omega arith) values),
      comes (field_path path (name names index)) value is (omega (arith, both, short)),
      after-one fields names index rest path before j absent values fit (omega (arith, both, short)),
    )
    refl

-- a number of 64 bits
pub magnitude : (low high z : ℤ) → (int_le (negsuc 9223372036854775806) low && int_le high (pos 9223372036854775807)) ≡ true → low ≤ℤ z → z ≤ℤ high → mag z < 2 ^ 63
magnitude low high z named above below =
    let parts = and_parts (int_le (negsuc 9223372036854775806) low) _ named in
    size z (int_le-true (negsuc 9223372036854775806) low parts.0) (int_le-true high (pos 9223372036854775807) parts.1) above below
  where
    size : (z : ℤ) → negsuc 9223372036854775806 ≤ℤ low → high ≤ℤ pos 9223372036854775807 → low ≤ℤ z → z ≤ℤ high → mag z < 2 ^ 63
    size (pos n) least most above below = omega (arith, ints, most, below)
    size (negsuc n) least most above below = omega (arith, ints, least, above)

mutual
  pub term-back : (term : Term) (names : Names) → is_named term names ≡ true → Comes term names
  term-back (Integer low high) names named path value fit short = number-back low high path value (magnitude low high value named fit.0 fit.1) fit.0 fit.1
  term-back (Text greatest) names named path octets fit short = text-back greatest path octets fit.0 fit.1
  term-back Octets names named path octets fit short = octets-back path octets fit
  term-back Time names named path octets fit short = time-back path octets fit
  term-back (Bits least) names named path bits fit short = bits-back least path bits fit.0 fit.1 fit.2 (omega (arith, item-longer 0x03 (bits.0 ∷ bits.1), short))
  term-back (Sequence fields) names named path values fit short =
      rw (checked fields names 0 named path [] (λ later after new. refl) values)
      (fields-back fields names 0 named path no_members (λ later after new. refl) values fit (omega (arith, item-longer 0x30 (der_of_fields fields values), short)))
  term-back (SequenceOf empty term) names named path values fit short =
      rw (not-empty empty term names values fit.0)
      (items-back term names path 0 (term-back term names named) values fit.1 (omega (arith, item-longer 0x30 (flat_map (der term) values), short)))
  term-back (Tagged index term) names named path value fit short = term-back term names named path value fit (omega (arith, item-longer (0xA0 + index) (der term value), short))
  term-back (Application tag term) names named path value fit short = term-back term names named path value fit (omega (arith, item-longer (0x60 + tag) (der term value), short))

  pub fields-back : (fields : Fields) (names : Names) (index : ℕ) → are_named fields names index ≡ true → FieldsCome fields names index
  fields-back End names index named path before absent values fit short = refl
  fields-back (Required term fields) names index named path before absent values fit short =
      let f : First names index term fields = first term fields names index named in
      required-back term fields names index (term-back term (field_at names index).inside f.inside) (fields-back fields names (index + 1) f.others) f path before absent values fit short
  fields-back (Optional term fields) names index named path before absent values fit short =
      let f : First names index term fields = first term fields names index named in
      optional-back term fields names index (term-back term (field_at names index).inside f.inside) (fields-back fields names (index + 1) f.others) f path before absent values.0 values.1 fit.0 fit.1 short
