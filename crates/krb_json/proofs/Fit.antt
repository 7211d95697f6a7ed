-- What a JSON value spells is a value of the term.
use Rattle.std.proofs.Common.{◌≡◌, ℕ, ℤ, pos, negsuc, zero, suc, ◌+◌, ◌-◌, ◌*◌, ◌%◌, ◌^◌, ◌≤◌, true, false, ◌&&◌, ◌||◌, ◌==◌, not, Bool, List, [], ◌∷◌, length, Option, Some, None, Result, Ok, Err, codes, refl, ap, subst, arith}
use Rattle.std.specs.Prelude.{◌≤ℤ◌, int_le, nat_le, nat_lt}
use Rattle.std.proofs.lemmas.Bool.{leb-true, and_parts, eqb-true, ltb-false, lt-ltb}
use Rattle.std.proofs.lemmas.Int.{ints}
use Rattle.std.specs.Result.{result_unwrap_or}
use Rattle.std.specs.List.{list_any, AllByRecursion}
use Rattle.std.specs.Str.Parse.{signed_digits_value}
use Rattle.hex.specs.Hex.{decode_of, IsBytes}
use Rattle.hex.specs.declared.error.FromHexError.{FromHexError}
use Rattle.hex.proofs.HexLemmas.{decode_of-ok}
use Rattle.json.specs.Json.{Json, Items, no_items, item, Members}
use Rattle.json.specs.Find.{get_member, as_str, as_number, as_array}
use Rattle.krb_der.specs.Octets.{AreOctets, AreBits, last_or_zero}
use Rattle.krb_der.specs.Scalars.{IsTimeFrom}
use Rattle.krb_msg.proofs.Integers.{int_le-true}
use Rattle.krb_msg.specs.Term.{Term, Fields, Integer, Text, Octets, Time, Bits, Sequence, SequenceOf, Tagged, Application, End, Required, Optional, Value, Values, Fits, AllFit, IfPresent}
use Rattle.krb_judge.specs.FieldNames.{field_at}
use Rattle.krb_judge.specs.Paths.{field_path, element_path}
use Rattle.krb_judge.specs.declared.locating.names.Names.{Names}
use Rattle.krb_json.specs.declared.wrong.Wrong.{Wrong}
use Rattle.krb_json.specs.Faults.{Fault, ◌>>=◌}
use Rattle.krb_json.specs.Spelling.{unshown, is_time_from, is_integer}
use Rattle.krb_json.specs.Spelled.{spelled, fields_spelled, members_spelled, is_field, is_bits_field, items_spelled, required, optional, if_there, is_empty, or_fault, unless, number_spelled, integer_spelled, text_spelled, octets_spelled, time_spelled, bits_spelled, bits_from, count_of, decoded}
use Rattle.krb_json.specs.Laws.{is_named, are_named, has_own_name}

-- ---- steps without a fault
abbrev pub ok : {A : Type 0} → A → Result A Fault
ok a = Ok a

pub same_ok : {A : Type 0} (a b : A) → ok a ≡ ok b → a ≡ b
same_ok a b e = ap (λ r. result_unwrap_or r a) e

pub record Steps {A B : Type 0} (r : Result A Fault) (next : A → Result B Fault) (b : B) : Type 0 where
  pub value : A
  pub is : r ≡ Ok value
  pub then : next value ≡ Ok b

pub steps : {A B : Type 0} (r : Result A Fault) (next : A → Result B Fault) (b : B) → (r >>= next) ≡ Ok b → Steps r next b
steps (Ok a) next b e = record { value = a; is = refl; then = e }
steps (Err fault) next b e = cc e

pub passed : {A : Type 0} (test : Bool) (path : List ℕ) (wrong : Wrong) (other : Result A Fault) (a : A) → unless test path wrong other ≡ Ok a → (test ≡ false) × (other ≡ Ok a)
passed true path wrong other a e = cc e
passed false path wrong other a e = (refl, e)

was_true : (b : Bool) → not b ≡ false → b ≡ true
was_true true e = refl
was_true false e = cc e

-- ---- scalars
number-fits : (low high : ℤ) (path text : List ℕ) (value : ℤ) → number_spelled low high path text ≡ Ok value → (low ≤ℤ value) × (value ≤ℤ high)
number-fits low high path text value e =
    let whole = passed (not (is_integer text)) path _ _ value e in
    let within = passed (not (int_le low (signed_digits_value 10 text) && int_le (signed_digits_value 10 text) high)) path _ _ value whole.1 in
    let parts = and_parts (int_le low (signed_digits_value 10 text)) _ (was_true _ within.0) in
    let same : signed_digits_value 10 text ≡ value = same_ok (signed_digits_value 10 text) value within.1 in (
      subst (λ z. low ≤ℤ z) same (int_le-true low (signed_digits_value 10 text) parts.0),
      subst (λ z. z ≤ℤ high) same (int_le-true (signed_digits_value 10 text) high parts.1),
    )

pub integer-fits : (low high : ℤ) (path : List ℕ) (j : Json) (value : ℤ) → integer_spelled low high path j ≡ Ok value → (low ≤ℤ value) × (value ≤ℤ high)
integer-fits low high path j value e =
    let s = steps (or_fault path _ (as_number j)) (number_spelled low high path) value e in
    number-fits low high path s.value value s.then

pub neither : (a b : Bool) → (a || b) ≡ false → (a ≡ false) × (b ≡ false)
neither true b e = cc e
neither false b e = (refl, e)

within-greatest : (greatest : ℕ) (octets : List ℕ) → list_any (λ octet. nat_lt greatest octet) octets ≡ false → AllByRecursion (λ octet. octet ≤ greatest) octets
within-greatest greatest [] e = tt
within-greatest greatest (octet ∷ octets) e =
    let parts = neither (nat_lt greatest octet) (list_any (λ octet. nat_lt greatest octet) octets) e in
    (ltb-false greatest octet parts.0, within-greatest greatest octets parts.1)

small-octets : (greatest : ℕ) (octets : List ℕ) → greatest ≤ 255 → AllByRecursion (λ octet. octet ≤ greatest) octets → AreOctets octets
small-octets greatest [] small within = tt
small-octets greatest (octet ∷ octets) small within = (omega (arith, within.0), small-octets greatest octets small within.1)

text-fits : (greatest : ℕ) (path : List ℕ) (j : Json) (value : List ℕ) → nat_le greatest 255 ≡ true → text_spelled greatest path j ≡ Ok value → AreOctets value × AllByRecursion (λ octet. octet ≤ greatest) value
text-fits greatest path j value small e =
    let s = steps (or_fault path _ (as_str j)) _ value e in
    let t = steps (or_fault path _ (unshown s.value)) _ value s.then in
    let few = passed (list_any (λ octet. nat_lt greatest octet) t.value) path _ _ value t.then in
    let within = subst (AllByRecursion (λ octet. octet ≤ greatest)) (same_ok t.value value few.1) (within-greatest greatest t.value few.0) in
    (small-octets greatest value (leb-true greatest 255 small) within, within)

octets-of : (octets : List ℕ) → IsBytes octets → AreOctets octets
octets-of [] are = tt
octets-of (octet ∷ octets) are = (are 0, octets-of octets (λ i. are (suc i)))

decoded-ok : (path : List ℕ) (r : Result (List ℕ) FromHexError) (value : List ℕ) → decoded path r ≡ Ok value → r ≡ Ok value
decoded-ok path (Ok octets) value e = ap Ok (same_ok octets value e)
decoded-ok path (Err error) value e = cc e

pub octets-fit : (path : List ℕ) (j : Json) (value : List ℕ) → octets_spelled path j ≡ Ok value → AreOctets value
octets-fit path j value e =
    let s = steps (or_fault path _ (as_str j)) (λ text. decoded path (decode_of text)) value e in
    octets-of value (decode_of-ok s.value value (decoded-ok path (decode_of s.value) value s.then)).3

pub time-shape : (digits : ℕ) (octets : List ℕ) → is_time_from digits octets ≡ true → IsTimeFrom digits octets
time-shape zero [] e = cc e
time-shape zero (last ∷ []) e = eqb-true last 90 e
time-shape zero (last ∷ next ∷ octets) e = cc e
time-shape (suc digits) [] e = cc e
time-shape (suc digits) (digit ∷ octets) e =
    let parts = and_parts (nat_le 48 digit && nat_le digit 57) _ e in
    let range = and_parts (nat_le 48 digit) _ parts.0 in
    (leb-true 48 digit range.0, leb-true digit 57 range.1, time-shape digits octets parts.1)

time-fits : (path : List ℕ) (j : Json) (value : List ℕ) → time_spelled path j ≡ Ok value → IsTimeFrom 14 value
time-fits path j value e =
    let s = steps (or_fault path _ (as_str j)) _ value e in
    let shaped = passed (not (is_time_from 14 s.value)) path _ _ value s.then in
    subst (IsTimeFrom 14) (same_ok s.value value shaped.1) (time-shape 14 s.value (was_true _ shaped.0))

-- ---- flags
abbrev FitBits : ℕ → ℕ × List ℕ → Type 0
FitBits least bits = AreBits bits.0 bits.1 × AreOctets bits.1 × (least + bits.0 ≤ 8 * length bits.1)

bits-from-fit : (least : ℕ) (path octets : List ℕ) (count : ℕ) (value : ℕ × List ℕ) → AreOctets octets → 8 * length octets - 7 ≤ count → count ≤ 8 * length octets → bits_from least path octets count ≡ Ok value → FitBits least value
bits-from-fit least path octets count value are low high e =
    let clear = passed (not (last_or_zero octets % 2 ^ (8 * length octets - count) == 0)) (field_path path (codes "value")) _ _ value e in
    let enough = passed (nat_lt count least) path _ _ value clear.1 in
    subst (FitBits least) (same_ok (8 * length octets - count, octets) value enough.1) (
      record {
        few = omega arith;
        none_unused = λ none. omega (arith, ap length none);
        clear = eqb-true _ 0 (was_true _ clear.0);
      },
      are,
      omega (arith, ltb-false count least enough.0),
    )

count-of : (n : ℕ) (count : ℤ) → (pos (8 * n - 7) ≤ℤ count) × (count ≤ℤ pos (8 * n)) → (8 * n - 7 ≤ count_of count) × (count_of count ≤ 8 * n)
count-of n (pos count) within = (omega (arith, ints, within.0), omega (arith, ints, within.1))
count-of n (negsuc count) within = absurd (omega (arith, ints, within.0))

bits-fit : (least : ℕ) (path : List ℕ) (j : Json) (value : ℕ × List ℕ) → bits_spelled least path j ≡ Ok value → FitBits least value
bits-fit least path j value e =
    let m = steps (members_spelled is_bits_field path j) _ value e in
    let o = steps (required octets_spelled path (codes "value") m.value) _ value m.then in
    let n = steps (required (integer_spelled (pos (8 * length o.value - 7)) (pos (8 * length o.value))) path (codes "length") m.value) _ value o.then in
    let octets = steps (or_fault (field_path path (codes "value")) _ (get_member (codes "value") m.value)) (octets_spelled (field_path path (codes "value"))) o.value o.is in
    let number = steps (or_fault (field_path path (codes "length")) _ (get_member (codes "length") m.value)) (integer_spelled (pos (8 * length o.value - 7)) (pos (8 * length o.value)) (field_path path (codes "length"))) n.value n.is in
    let within = count-of (length o.value) n.value (integer-fits (pos (8 * length o.value - 7)) (pos (8 * length o.value)) (field_path path (codes "length")) number.value n.value number.then) in
    bits-from-fit least path o.value (count_of n.value) value (octets-fit (field_path path (codes "value")) octets.value o.value octets.then) within.0 within.1 n.then

-- ---- lists
items-fit : {A : Type 0} (P : A → Type 0) (read : List ℕ → Json → Result A Fault) → ((path : List ℕ) (j : Json) (a : A) → read path j ≡ Ok a → P a) → (path : List ℕ) (index : ℕ) (items : Items) (values : List A) → items_spelled read path index items ≡ Ok values → AllByRecursion P values × (is_empty items ≡ false → nat_lt 0 (length values) ≡ true)
items-fit P read fits path index no_items values e = (subst (AllByRecursion P) (same_ok [] values e) tt, λ some. cc some)
items-fit P read fits path index (item j items) values e =
    let first = steps (read (element_path path index) j) _ values e in
    let others = steps (items_spelled read path (index + 1) items) _ values first.then in
    let rest = items-fit P read fits path (index + 1) items others.value others.is in
    subst (λ vs. AllByRecursion P vs × (is_empty (item j items) ≡ false → nat_lt 0 (length vs) ≡ true)) (same_ok (first.value ∷ others.value) values others.then)
    ((fits (element_path path index) j first.value first.is, rest.0), λ some. lt-ltb 0 (length (first.value ∷ others.value)) (omega arith))

may-be-empty : (empty none some : Bool) → (not empty && none) ≡ false → (none ≡ false → some ≡ true) → (empty || some) ≡ true
may-be-empty true none some e there = refl
may-be-empty false none some e there = there e

-- ---- terms
abbrev SpellsFit : Term → Names → Type 0
SpellsFit term names = (path : List ℕ) (j : Json) (value : Value term) → spelled term names path j ≡ Ok value → Fits term value

abbrev FieldsFit : Fields → Names → ℕ → Type 0
FieldsFit fields names index = (path : List ℕ) (members : Members) (values : Values fields) → fields_spelled fields names path index members ≡ Ok values → AllFit fields values

required-fits : (term : Term) (names : Names) (name : List ℕ) → SpellsFit term names → (path : List ℕ) (members : Members) (value : Value term) → required (spelled term names) path name members ≡ Ok value → Fits term value
required-fits term names name fits path members value e =
    let s = steps (or_fault (field_path path name) _ (get_member name members)) (spelled term names (field_path path name)) value e in
    fits (field_path path name) s.value value s.then

if-there-fits : (term : Term) (names : Names) → SpellsFit term names → (path : List ℕ) (o : Option Json) (value : Option (Value term)) → if_there (spelled term names path) o ≡ Ok value → IfPresent (Fits term) value
if-there-fits term names fits path None value e = subst (IfPresent (Fits term)) (same_ok None value e) tt
if-there-fits term names fits path (Some j) value e =
    let s = steps (spelled term names path j) _ value e in
    subst (IfPresent (Fits term)) (same_ok (Some s.value) value s.then) (fits path j s.value s.is)

inside-and-others : (term : Term) (fields : Fields) (names : Names) (index : ℕ) → (has_own_name names index && (is_named term (field_at names index).inside && are_named fields names (index + 1))) ≡ true → (is_named term (field_at names index).inside ≡ true) × (are_named fields names (index + 1) ≡ true)
inside-and-others term fields names index named = and_parts (is_named term (field_at names index).inside) _ (and_parts (has_own_name names index) _ named).1

mutual
  pub term-fits : (term : Term) (names : Names) → is_named term names ≡ true → SpellsFit term names
  term-fits (Integer low high) names named path j value e = integer-fits low high path j value e
  term-fits (Text greatest) names named path j value e = text-fits greatest path j value named e
  term-fits Octets names named path j value e = octets-fit path j value e
  term-fits Time names named path j value e = time-fits path j value e
  term-fits (Bits least) names named path j value e = bits-fit least path j value e
  term-fits (Sequence fields) names named path j values e =
      let s = steps (members_spelled (is_field names) path j) (fields_spelled fields names path 0) values e in
      fields-fit fields names 0 named path s.value values s.then
  term-fits (SequenceOf empty term) names named path j values e =
      let s = steps (or_fault path _ (as_array j)) _ values e in
      let some = passed (not empty && is_empty s.value) path _ _ values s.then in
      let fit = items-fit (Fits term) (spelled term names) (term-fits term names named) path 0 s.value values some.1 in
      (may-be-empty empty (is_empty s.value) (nat_lt 0 (length values)) some.0 fit.1, fit.0)
  term-fits (Tagged index term) names named path j value e = term-fits term names named path j value e
  term-fits (Application number term) names named path j value e = term-fits term names named path j value e

  pub fields-fit : (fields : Fields) (names : Names) (index : ℕ) → are_named fields names index ≡ true → FieldsFit fields names index
  fields-fit End names index named path given values e = tt
  fields-fit (Required term fields) names index named path given values e =
      let n = inside-and-others term fields names index named in
      let one = steps (required (spelled term (field_at names index).inside) path (field_at names index).name given) _ values e in
      let others = steps (fields_spelled fields names path (index + 1) given) _ values one.then in
      subst (AllFit (Required term fields)) (same_ok (one.value, others.value) values others.then) (
        required-fits term (field_at names index).inside (field_at names index).name (term-fits term (field_at names index).inside n.0) path given one.value one.is,
        fields-fit fields names (index + 1) n.1 path given others.value others.is,
      )
  fields-fit (Optional term fields) names index named path given values e =
      let n = inside-and-others term fields names index named in
      let one = steps (optional (spelled term (field_at names index).inside) path (field_at names index).name given) _ values e in
      let others = steps (fields_spelled fields names path (index + 1) given) _ values one.then in
      subst (AllFit (Optional term fields)) (same_ok (one.value, others.value) values others.then) (
        if-there-fits term (field_at names index).inside (term-fits term (field_at names index).inside n.0) (field_path path (field_at names index).name) (get_member (field_at names index).name given) one.value one.is,
        fields-fit fields names (index + 1) n.1 path given others.value others.is,
      )
