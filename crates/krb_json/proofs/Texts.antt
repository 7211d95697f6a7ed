-- The JSON of a value can be written and read back: its numbers are numbers, it nests no deeper than its term, its names are unique, and it is printable.
use Rattle.std.proofs.Common.{◌≡◌, ℕ, zero, suc, ◌+◌, ◌^◌, ◌<◌, ◌≤◌, max, true, false, List, [], ◌∷◌, ◌++◌, length, length-append, get_or, map, Option, Some, None, option_map, codes, decimal, sym, ◌∙◌, ap, arith}
use Rattle.std.specs.Prelude.{◌≢◌}
use Rattle.std.proofs.lemmas.Bool.{true≢false}
use Rattle.std.proofs.lemmas.Slice.Eq.{bytes_eq-Decides}
use Rattle.std.specs.Str.{bytes_eq}
use Rattle.std.specs.List.{AllByRecursion, flat_map}
use Rattle.hex.specs.Hex.{encode_lower}
use Rattle.json.specs.Json.{Json, string, number as number_json, array, object, Items, Members, no_members, member}
use Rattle.json.specs.Value.{items_of}
use Rattle.json.specs.Tree.{json_tokens, items_tokens, members_tokens, depth, items_depth, members_depth, HasNumbers, ItemsHaveNumbers, MembersHaveNumbers}
use Rattle.json.specs.Strict.{keys, AreDistinct, HasUniqueKeys, ItemsHaveUniqueKeys, MembersHaveUniqueKeys}
use Rattle.json.proofs.Printed.Decimals.{IsNumber-decimal, IsNumber-signed_decimal}
use Rattle.krb_der.specs.Octets.{octets_of_option, AreOctets}
use Rattle.krb_msg.specs.Shape as shape
use Rattle.krb_msg.specs.Term.{Term, Fields, Integer, Text, Octets, Time, Bits, Sequence, SequenceOf, Tagged, Application, End, Required, Optional, Value, Values, Fits, AllFit, IfPresent, der, der_of_fields}
use Rattle.krb_judge.specs.FieldNames.{field_at}
use Rattle.krb_judge.specs.declared.locating.names.Names.{Names}
use Rattle.krb_json.specs.Spelling.{bit_count}
use Rattle.krb_json.specs.Objects.{json, members_of, member_if, bits_json}
use Rattle.krb_json.specs.Laws.{is_named, are_named}
use Rattle.krb_json.proofs.Names.{name}
use Rattle.krb_json.proofs.Back.{First, first, IsShort, item-longer, magnitude}
use Rattle.krb_json.proofs.Printable.{IsPrintable, ShowsPrintable, printable-decimal, printable-signed, printable-hex, printable-shown, printable-time, printable-name}

all-append : {A : Type 0} (P : A → Type 0) (a b : List A) → AllByRecursion P a → AllByRecursion P b → AllByRecursion P (a ++ b)
all-append P [] b p q = q
all-append P (x ∷ a) b p q = (p.0, all-append P a b p.1 q)

-- ---- what is wanted of a value, of items and of members
pub record IsGood (j : Json) (levels : ℕ) : Type 0 where
  pub numbers : HasNumbers j
  pub shallow : depth j ≤ levels
  pub unique : HasUniqueKeys j
  pub printable : AllByRecursion ShowsPrintable (json_tokens j)

record AreGoodItems (js : Items) (levels : ℕ) : Type 0 where
  numbers : ItemsHaveNumbers js
  shallow : items_depth js ≤ levels
  unique : ItemsHaveUniqueKeys js
  printable : AllByRecursion ShowsPrintable (items_tokens js)

pub record AreGoodMembers (ms : Members) (levels : ℕ) : Type 0 where
  pub numbers : MembersHaveNumbers ms
  pub shallow : members_depth ms ≤ levels
  pub unique : MembersHaveUniqueKeys ms
  pub printable : AllByRecursion ShowsPrintable (members_tokens ms)

good-string : (s : List ℕ) (levels : ℕ) → IsPrintable s → IsGood (string s) levels
good-string s levels p = record { numbers = tt; shallow = omega arith; unique = tt; printable = (p, tt) }

pub good-end : (levels : ℕ) → AreGoodMembers no_members levels
good-end levels = record { numbers = tt; shallow = omega arith; unique = tt; printable = (tt, tt) }

pub good-member : (k : List ℕ) (j : Json) (ms : Members) (levels others : ℕ) → IsPrintable k → IsGood j levels → AreGoodMembers ms others → AreGoodMembers (member k j ms) (max levels others)
good-member k j ms levels others p g h = record {
  numbers = (g.numbers, h.numbers);
  shallow = omega (arith, g.shallow, h.shallow);
  unique = (g.unique, h.unique);
  printable = (p, all-append ShowsPrintable (json_tokens j) (members_tokens ms) g.printable h.printable);
}

pub good-object : (ms : Members) (levels : ℕ) → AreDistinct (keys ms) → AreGoodMembers ms levels → IsGood (object ms) (1 + levels)
good-object ms levels distinct g = record { numbers = g.numbers; shallow = omega (arith, g.shallow); unique = (distinct, g.unique); printable = (tt, g.printable) }

-- ---- names that differ
all-at : {A : Type 0} (P : A → Type 0) (xs : List A) (d : A) (index : ℕ) → AllByRecursion P xs → index < length xs → P (get_or xs index d)
all-at P [] d index all within = absurd (omega arith)
all-at P (x ∷ xs) d zero all within = all.0
all-at P (x ∷ xs) d (suc index) all within = all-at P xs d index all.1 (omega arith)

pub distinct-none : AreDistinct []
distinct-none i j d before within = absurd (omega arith)

pub distinct-cons : (k : List ℕ) (ks : List (List ℕ)) → AllByRecursion (λ other. k ≢ other) ks → AreDistinct ks → AreDistinct (k ∷ ks)
distinct-cons k ks others rest i zero d before within = absurd (omega arith)
distinct-cons k ks others rest zero (suc j) d before within = all-at (λ other. k ≢ other) ks d j others (omega arith)
distinct-cons k ks others rest (suc i) (suc j) d before within = rest i j d (omega arith) (omega arith)

differ : (a b : List ℕ) → bytes_eq a b ≡ false → a ≢ b
differ a b other same = true≢false (sym ((bytes_eq-Decides a b).1 same) ∙ other)

-- the names from an index on are not those before it
other-keys-if : (names : Names) (index other : ℕ) → name names other ≢ name names index → (o : Option Json) (ms : Members) → AllByRecursion (λ key. name names other ≢ key) (keys ms) → AllByRecursion (λ key. name names other ≢ key) (keys (member_if (name names index) o ms))
other-keys-if names index other first None ms rest = rest
other-keys-if names index other first (Some j) ms rest = (first, rest)

other-keys : (fields : Fields) (names : Names) (index other : ℕ) → are_named fields names index ≡ true → other < index → (values : Values fields) → AllByRecursion (λ key. name names other ≢ key) (keys (members_of fields names index values))
other-keys End names index other named before values = tt
other-keys (Required term fields) names index other named before values =
    let f : First names index term fields = first term fields names index named in
    (differ (name names other) (name names index) (f.new.before other before), other-keys fields names (index + 1) other f.others (omega (arith, before)) values.1)
other-keys (Optional term fields) names index other named before values =
    let f : First names index term fields = first term fields names index named in
    other-keys-if names index other (differ (name names other) (name names index) (f.new.before other before)) (option_map (json term (field_at names index).inside) values.0) (members_of fields names (index + 1) values.1)
    (other-keys fields names (index + 1) other f.others (omega (arith, before)) values.1)

distinct-if : (names : Names) (index : ℕ) (o : Option Json) (ms : Members) → AllByRecursion (λ key. name names index ≢ key) (keys ms) → AreDistinct (keys ms) → AreDistinct (keys (member_if (name names index) o ms))
distinct-if names index None ms others rest = rest
distinct-if names index (Some j) ms others rest = distinct-cons (name names index) (keys ms) others rest

distinct : (fields : Fields) (names : Names) (index : ℕ) → are_named fields names index ≡ true → (values : Values fields) → AreDistinct (keys (members_of fields names index values))
distinct End names index named values = distinct-none
distinct (Required term fields) names index named values =
    let f : First names index term fields = first term fields names index named in
    distinct-cons (name names index) (keys (members_of fields names (index + 1) values.1)) (other-keys fields names (index + 1) index f.others (omega arith) values.1) (distinct fields names (index + 1) f.others values.1)
distinct (Optional term fields) names index named values =
    let f : First names index term fields = first term fields names index named in
    distinct-if names index (option_map (json term (field_at names index).inside) values.0) (members_of fields names (index + 1) values.1)
    (other-keys fields names (index + 1) index f.others (omega arith) values.1) (distinct fields names (index + 1) f.others values.1)

-- ---- flags
good-bits : (bits : ℕ × List ℕ) → AreOctets bits.1 → length bits.1 < 2 ^ 31 → IsGood (bits_json bits) 1
good-bits bits octets short =
    let count : bit_count bits < 2 ^ 64 = omega (arith, short) in
    good-object (member (codes "value") (string (encode_lower bits.1)) (member (codes "length") (number_json (decimal (bit_count bits))) no_members)) 0
    (distinct-cons (codes "value") (codes "length" ∷ []) ((λ same. omega (arith, ap length same)), tt) (distinct-cons (codes "length") [] tt distinct-none))
    record {
      numbers = (tt, (IsNumber-decimal (bit_count bits) count, tt));
      shallow = omega arith;
      unique = (tt, (tt, tt));
      printable = (value-printable, (printable-hex bits.1 octets, (length-printable, (printable-decimal (bit_count bits) count, (tt, tt)))));
    }
  where
    value-printable : IsPrintable (codes "value")
    value-printable = search arith

    length-printable : IsPrintable (codes "length")
    length-printable = search arith

-- ---- lists
good-items : {A : Type 0} (to : A → Json) (levels : ℕ) (P : A → Type 0) → ((a : A) → P a → IsGood (to a) levels) → (values : List A) → AllByRecursion P values → AreGoodItems (items_of (map to values)) levels
good-items to levels P good [] fit = record { numbers = tt; shallow = omega arith; unique = tt; printable = (tt, tt) }
good-items to levels P good (v ∷ vs) fit =
    let g : IsGood (to v) levels = good v fit.0 in
    let h : AreGoodItems (items_of (map to vs)) levels = good-items to levels P good vs fit.1 in
    record {
      numbers = (g.numbers, h.numbers);
      shallow = omega (arith, g.shallow, h.shallow);
      unique = (g.unique, h.unique);
      printable = all-append ShowsPrintable (json_tokens (to v)) (items_tokens (items_of (map to vs))) g.printable h.printable;
    }

good-array : (js : Items) (levels : ℕ) → AreGoodItems js levels → IsGood (array js) (1 + levels)
good-array js levels g = record { numbers = g.numbers; shallow = omega (arith, g.shallow); unique = g.unique; printable = (tt, g.printable) }

-- each item fits, and is short
fit-and-short : (term : Term) (values : List (Value term)) → AllByRecursion (Fits term) values → length (flat_map (der term) values) < 2 ^ 31 → AllByRecursion (λ v. Fits term v × IsShort term v) values
fit-and-short term [] fit short = tt
fit-and-short term (v ∷ vs) fit short =
    let both = length-append (der term v) (flat_map (der term) vs) in
    ((fit.0, omega (arith, both, short)), fit-and-short term vs fit.1 (omega (arith, both, short)))

-- ---- terms
good-more : (j : Json) (levels more : ℕ) → levels ≤ more → IsGood j levels → IsGood j more
good-more j levels more le g = record { numbers = g.numbers; shallow = omega (arith, g.shallow); unique = g.unique; printable = g.printable }

members-more : (ms : Members) (levels more : ℕ) → levels ≤ more → AreGoodMembers ms levels → AreGoodMembers ms more
members-more ms levels more le g = record { numbers = g.numbers; shallow = omega (arith, g.shallow); unique = g.unique; printable = g.printable }

good-if : (term : Term) (names : Names) (k : List ℕ) (ms : Members) (others : ℕ) → IsPrintable k → ((value : Value term) → Fits term value → IsShort term value → IsGood (json term names value) (shape.depth term)) → (o : Option (Value term)) → IfPresent (Fits term) o → length (octets_of_option (der term) o) < 2 ^ 31 → AreGoodMembers ms others → AreGoodMembers (member_if k (option_map (json term names) o) ms) (max (shape.depth term) others)
good-if term names k ms others p good None fit short h = members-more ms others (max (shape.depth term) others) (omega arith) h
good-if term names k ms others p good (Some value) fit short h = good-member k (json term names value) ms (shape.depth term) others p (good value fit short) h

mutual
  pub good : (term : Term) (names : Names) → is_named term names ≡ true → (value : Value term) → Fits term value → IsShort term value → IsGood (json term names value) (shape.depth term)
  good (Integer low high) names named value fit short =
      let small = magnitude low high value named fit.0 fit.1 in
      record { numbers = IsNumber-signed_decimal value small; shallow = omega arith; unique = tt; printable = (printable-signed value small, tt) }
  good (Text greatest) names named octets fit short = good-string _ 1 (printable-shown octets fit.0)
  good Octets names named octets fit short = good-string _ 1 (printable-hex octets fit)
  good Time names named octets fit short = good-string _ 1 (printable-time 14 octets fit)
  good (Bits least) names named bits fit short = good-bits bits fit.1 (omega (arith, item-longer 0x03 (bits.0 ∷ bits.1), short))
  good (Sequence fields) names named values fit short =
      good-object (members_of fields names 0 values) (shape.depth_of_fields fields) (distinct fields names 0 named values)
      (good-fields fields names 0 named values fit (omega (arith, item-longer 0x30 (der_of_fields fields values), short)))
  good (SequenceOf empty term) names named values fit short =
      good-array (items_of (map (json term names) values)) (shape.depth term)
      (good-items (json term names) (shape.depth term) (λ v. Fits term v × IsShort term v) (λ v both. good term names named v both.0 both.1) values
      (fit-and-short term values fit.1 (omega (arith, item-longer 0x30 (flat_map (der term) values), short))))
  good (Tagged index term) names named value fit short =
      good-more (json term names value) (shape.depth term) (1 + shape.depth term) (omega arith)
      (good term names named value fit (omega (arith, item-longer (0xA0 + index) (der term value), short)))
  good (Application tag term) names named value fit short =
      good-more (json term names value) (shape.depth term) (1 + shape.depth term) (omega arith)
      (good term names named value fit (omega (arith, item-longer (0x60 + tag) (der term value), short)))

  good-fields : (fields : Fields) (names : Names) (index : ℕ) → are_named fields names index ≡ true → (values : Values fields) → AllFit fields values → length (der_of_fields fields values) < 2 ^ 31 → AreGoodMembers (members_of fields names index values) (shape.depth_of_fields fields)
  good-fields End names index named values fit short = good-end 0
  good-fields (Required term fields) names index named values fit short =
      let f : First names index term fields = first term fields names index named in
      let both = length-append (der term values.0) (der_of_fields fields values.1) in
      good-member (name names index) (json term (field_at names index).inside values.0) (members_of fields names (index + 1) values.1) (shape.depth term) (shape.depth_of_fields fields) (printable-name names index)
      (good term (field_at names index).inside f.inside values.0 fit.0 (omega (arith, both, short)))
      (good-fields fields names (index + 1) f.others values.1 fit.1 (omega (arith, both, short)))
  good-fields (Optional term fields) names index named values fit short =
      let f : First names index term fields = first term fields names index named in
      let both = length-append (octets_of_option (der term) values.0) (der_of_fields fields values.1) in
      good-if term (field_at names index).inside (name names index) (members_of fields names (index + 1) values.1) (shape.depth_of_fields fields) (printable-name names index)
      (good term (field_at names index).inside f.inside) values.0 fit.0 (omega (arith, both, short))
      (good-fields fields names (index + 1) f.others values.1 fit.1 (omega (arith, both, short)))
