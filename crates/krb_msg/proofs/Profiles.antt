-- The values of a narrowed term are those of the term of which no note holds, and their DER is the same.
use Rattle.std.proofs.Common.{◌≡◌, ℕ, ◌+◌, ◌-◌, ◌*◌, ◌≤◌, min, Bool, true, false, not, ◌&&◌, ◌||◌, ltb, ℤ, pos, negsuc, List, [], ◌∷◌, ◌++◌, length, map, Option, Some, None, refl, sym, ◌∙◌, ap, ap₂, arith, if◌then◌else◌, lt-ltb}
use Rattle.std.specs.Prelude.{◌≤ℤ◌}
use Rattle.std.proofs.lemmas.Int.{ints}
use Rattle.std.proofs.lemmas.Bool.{or_parts, le-ltb, ltb-false}
use Rattle.std.proofs.lemmas.List.{length-map}
use Rattle.std.specs.List.{flat_map, list_any, AllByRecursion}
use Rattle.std.specs.Option.{option_map}
use Rattle.krb_der.specs.Octets.{item, octets_of_option}
use Rattle.krb_msg.specs.Term.{Term, Fields, Integer, Text, Octets, Time, Bits, Sequence, SequenceOf, Tagged, Application, End, Required, Optional, Value, Values, der, der_of_fields, Fits, AllFit, IfPresent}
use Rattle.krb_msg.specs.Profiles.{is_unsigned, not_negative, narrowed, narrowed_fields, narrowed_value, narrowed_values}
use Rattle.krb_msg.specs.Notes.{Note, HighOctet, FewFlags, Negative, EmptyList, text_has, flags_have, number_has, list_has, is_list_that_has, option_any, has, any_has}

-- ---- values and back
abbrev mutual
  pub widened_value : (optional : Bool) → (term : Term) → Value (narrowed optional term) → Value term
  widened_value optional (Integer low high) value = value
  widened_value optional (Text greatest) octets = octets
  widened_value optional Octets octets = octets
  widened_value optional Time octets = octets
  widened_value optional (Bits least) bits = bits
  widened_value optional (Sequence fields) values = widened_values fields values
  widened_value optional (SequenceOf empty term) values = map (widened_value false term) values
  widened_value optional (Tagged index term) value = widened_value optional term value
  widened_value optional (Application number term) value = widened_value false term value

  pub widened_values : (fields : Fields) → Values (narrowed_fields fields) → Values fields
  widened_values End values = tt
  widened_values (Required term fields) values = (widened_value false term values.0, widened_values fields values.1)
  widened_values (Optional term fields) values = (option_map (widened_value true term) values.0, widened_values fields values.1)

pub maps_back : {A B : Type 0} (f : A → B) (g : B → A) → ((b : B) → f (g b) ≡ b) → (bs : List B) → map f (map g bs) ≡ bs
maps_back f g back [] = refl
maps_back f g back (b ∷ bs) = ap₂ (λ x xs. x ∷ xs) (back b) (maps_back f g back bs)

pub option_back : {A B : Type 0} (f : A → B) (g : B → A) → ((b : B) → f (g b) ≡ b) → (o : Option B) → option_map f (option_map g o) ≡ o
option_back f g back None = refl
option_back f g back (Some b) = ap Some (back b)

mutual
  pub narrowed_widened : (optional : Bool) (term : Term) (value : Value (narrowed optional term)) → narrowed_value optional term (widened_value optional term value) ≡ value
  narrowed_widened optional (Integer low high) value = refl
  narrowed_widened optional (Text greatest) octets = refl
  narrowed_widened optional Octets octets = refl
  narrowed_widened optional Time octets = refl
  narrowed_widened optional (Bits least) bits = refl
  narrowed_widened optional (Sequence fields) values = narrowed_widened_fields fields values
  narrowed_widened optional (SequenceOf empty term) values = maps_back (narrowed_value false term) (widened_value false term) (narrowed_widened false term) values
  narrowed_widened optional (Tagged index term) value = narrowed_widened optional term value
  narrowed_widened optional (Application number term) value = narrowed_widened false term value

  narrowed_widened_fields : (fields : Fields) (values : Values (narrowed_fields fields)) → narrowed_values fields (widened_values fields values) ≡ values
  narrowed_widened_fields End values = refl
  narrowed_widened_fields (Required term fields) values = ap₂ (λ v vs. (v, vs)) (narrowed_widened false term values.0) (narrowed_widened_fields fields values.1)
  narrowed_widened_fields (Optional term fields) values =
      ap₂ (λ v vs. (v, vs)) (option_back (narrowed_value true term) (widened_value true term) (narrowed_widened true term) values.0) (narrowed_widened_fields fields values.1)

-- ---- DER
same_octets : {A B : Type 0} (f : A → B) (octets_of : A → List ℕ) (octets_as : B → List ℕ) → ((a : A) → octets_as (f a) ≡ octets_of a) → (values : List A) → flat_map octets_as (map f values) ≡ flat_map octets_of values
same_octets f octets_of octets_as same [] = refl
same_octets f octets_of octets_as same (a ∷ values) = ap₂ (λ x y. x ++ y) (same a) (same_octets f octets_of octets_as same values)

same_option : {A B : Type 0} (f : A → B) (octets_of : A → List ℕ) (octets_as : B → List ℕ) → ((a : A) → octets_as (f a) ≡ octets_of a) → (value : Option A) → octets_of_option octets_as (option_map f value) ≡ octets_of_option octets_of value
same_option f octets_of octets_as same None = refl
same_option f octets_of octets_as same (Some a) = same a

mutual
  pub der_narrowed : (optional : Bool) (term : Term) (value : Value term) → der (narrowed optional term) (narrowed_value optional term value) ≡ der term value
  der_narrowed optional (Integer low high) value = refl
  der_narrowed optional (Text greatest) octets = refl
  der_narrowed optional Octets octets = refl
  der_narrowed optional Time octets = refl
  der_narrowed optional (Bits least) bits = refl
  der_narrowed optional (Sequence fields) values = ap (item 0x30) (der_narrowed_fields fields values)
  der_narrowed optional (SequenceOf empty term) values = ap (item 0x30) (same_octets (narrowed_value false term) (der term) (der (narrowed false term)) (der_narrowed false term) values)
  der_narrowed optional (Tagged index term) value = ap (item (0xA0 + index)) (der_narrowed optional term value)
  der_narrowed optional (Application number term) value = ap (item (0x60 + number)) (der_narrowed false term value)

  der_narrowed_fields : (fields : Fields) (values : Values fields) → der_of_fields (narrowed_fields fields) (narrowed_values fields values) ≡ der_of_fields fields values
  der_narrowed_fields End values = refl
  der_narrowed_fields (Required term fields) values = ap₂ (λ x y. x ++ y) (der_narrowed false term values.0) (der_narrowed_fields fields values.1)
  der_narrowed_fields (Optional term fields) values =
      ap₂ (λ x y. x ++ y) (same_option (narrowed_value true term) (der term) (der (narrowed true term)) (der_narrowed true term) values.0) (der_narrowed_fields fields values.1)

-- ---- what no note holds of
-- no note holds of a value of a field that is OPTIONAL or not
abbrev pub IsQuiet : (optional : Bool) → (term : Term) → Value term → Type 0
IsQuiet optional term value = ((note : Note) → has note term value ≡ false) × (optional ≡ true → (note : Note) → is_list_that_has note term value ≡ false)

none_of : (a b : Bool) → a ≡ false → b ≡ false → (a || b) ≡ false
none_of a b p q = rw (p, q) refl

-- ---- numbers
not_negative_quiet : (value : ℕ) (note : Note) → number_has note (pos value) ≡ false
not_negative_quiet value HighOctet = refl
not_negative_quiet value FewFlags = refl
not_negative_quiet value Negative = refl
not_negative_quiet value EmptyList = refl

number_down : (unsigned : Bool) (low value : ℤ) → (if unsigned then not_negative low else low) ≤ℤ value → (low ≤ℤ value) × ((note : Note) → (unsigned && number_has note value) ≡ false)
number_down false low value h = (h, λ note. refl)
number_down true (pos low) (pos value) h = (h, not_negative_quiet value)
number_down true (pos low) (negsuc value) h = absurd (omega (arith, ints, h))
number_down true (negsuc low) (pos value) h = (omega (arith, ints), not_negative_quiet value)
number_down true (negsuc low) (negsuc value) h = absurd (omega (arith, ints, h))

number_up : (unsigned : Bool) (low value : ℤ) → low ≤ℤ value → (unsigned && number_has Negative value) ≡ false → (if unsigned then not_negative low else low) ≤ℤ value
number_up false low value h q = h
number_up true (pos low) value h q = h
number_up true (negsuc low) (pos value) h q = omega (arith, ints)
number_up true (negsuc low) (negsuc value) h q = absurd cc

-- ---- strings and flags
text_down : (greatest : ℕ) (octets : List ℕ) → AllByRecursion (λ octet. octet ≤ min greatest 0x7F) octets → AllByRecursion (λ octet. octet ≤ greatest) octets × (list_any (λ octet. ltb 0x7F octet) octets ≡ false)
text_down greatest [] a = (tt, refl)
text_down greatest (octet ∷ octets) a =
    let p : AllByRecursion (λ octet. octet ≤ greatest) octets × (list_any (λ octet. ltb 0x7F octet) octets ≡ false) = text_down greatest octets a.1 in
    ((omega (arith, a.0), p.0), none_of _ _ (le-ltb 0x7F octet (omega (arith, a.0))) p.1)

text_quiet : (octets : List ℕ) → list_any (λ octet. ltb 0x7F octet) octets ≡ false → (note : Note) → text_has note octets ≡ false
text_quiet octets q HighOctet = q
text_quiet octets q FewFlags = refl
text_quiet octets q Negative = refl
text_quiet octets q EmptyList = refl

text_up : (greatest : ℕ) (octets : List ℕ) → AllByRecursion (λ octet. octet ≤ greatest) octets → list_any (λ octet. ltb 0x7F octet) octets ≡ false → AllByRecursion (λ octet. octet ≤ min greatest 0x7F) octets
text_up greatest [] a q = tt
text_up greatest (octet ∷ octets) a q =
    let p : (ltb 0x7F octet ≡ false) × (list_any (λ octet. ltb 0x7F octet) octets ≡ false) = or_parts (ltb 0x7F octet) _ q in
    (omega (arith, a.0, ltb-false 0x7F octet p.0), text_up greatest octets a.1 p.1)

flags_quiet : (bits : ℕ × List ℕ) → 32 + bits.0 ≤ 8 * length bits.1 → (note : Note) → flags_have note bits ≡ false
flags_quiet bits h HighOctet = refl
flags_quiet bits h FewFlags = le-ltb (8 * length bits.1 - bits.0) 32 (omega (arith, h))
flags_quiet bits h Negative = refl
flags_quiet bits h EmptyList = refl

-- ---- lists
some_quiet : {A : Type 0} (value : A) (values : List A) (note : Note) → list_has note (value ∷ values) ≡ false
some_quiet value values HighOctet = refl
some_quiet value values FewFlags = refl
some_quiet value values Negative = refl
some_quiet value values EmptyList = refl

list_down : {A : Type 0} (empty optional : Bool) (values : List A) → ((empty && not optional) || ltb 0 (length values)) ≡ true → ((empty || ltb 0 (length values)) ≡ true) × (optional ≡ true → (note : Note) → list_has note values ≡ false)
list_down true true [] h = absurd cc
list_down true false [] h = (refl, λ e. absurd cc)
list_down false optional [] h = absurd cc
list_down true optional (value ∷ values) h = (refl, λ e. some_quiet value values)
list_down false optional (value ∷ values) h = (h, λ e. some_quiet value values)

list_up : {A : Type 0} (empty optional : Bool) (values : List A) → (empty || ltb 0 (length values)) ≡ true → (optional ≡ true → (note : Note) → list_has note values ≡ false) → ((empty && not optional) || ltb 0 (length values)) ≡ true
list_up true true [] h q = let e : true ≡ false = q refl EmptyList in absurd cc
list_up true true (value ∷ values) h q = lt-ltb 0 (length (value ∷ values)) (omega arith)
list_up true false values h q = refl
list_up false optional values h q = h

all_down : {A B : Type 0} (f : A → B) (P : B → Type 0) (Q : A → Type 0) (holds : Note → A → Bool) → ((a : A) → P (f a) → Q a × ((note : Note) → holds note a ≡ false)) → (values : List A) → AllByRecursion P (map f values) → AllByRecursion Q values × ((note : Note) → list_any (holds note) values ≡ false)
all_down f P Q holds down [] a = (tt, λ note. refl)
all_down f P Q holds down (value ∷ values) a =
    let p : Q value × ((note : Note) → holds note value ≡ false) = down value a.0 in
    let q : AllByRecursion Q values × ((note : Note) → list_any (holds note) values ≡ false) = all_down f P Q holds down values a.1 in
    ((p.0, q.0), λ note. none_of _ _ (p.1 note) (q.1 note))

all_up : {A B : Type 0} (f : A → B) (P : B → Type 0) (Q : A → Type 0) (holds : Note → A → Bool) → ((a : A) → Q a → ((note : Note) → holds note a ≡ false) → P (f a)) → (values : List A) → AllByRecursion Q values → ((note : Note) → list_any (holds note) values ≡ false) → AllByRecursion P (map f values)
all_up f P Q holds up [] a q = tt
all_up f P Q holds up (value ∷ values) a q = (up value a.0 (λ note. (or_parts _ _ (q note)).0), all_up f P Q holds up values a.1 (λ note. (or_parts _ _ (q note)).1))

option_down : {A B : Type 0} (f : A → B) (P : B → Type 0) (Q : A → Type 0) (holds : Note → A → Bool) → ((a : A) → P (f a) → Q a × ((note : Note) → holds note a ≡ false)) → (value : Option A) → IfPresent P (option_map f value) → IfPresent Q value × ((note : Note) → option_any (holds note) value ≡ false)
option_down f P Q holds down None a = (tt, λ note. refl)
option_down f P Q holds down (Some value) a = down value a

option_up : {A B : Type 0} (f : A → B) (P : B → Type 0) (Q : A → Type 0) (holds : Note → A → Bool) → ((a : A) → Q a → ((note : Note) → holds note a ≡ false) → P (f a)) → (value : Option A) → IfPresent Q value → ((note : Note) → option_any (holds note) value ≡ false) → IfPresent P (option_map f value)
option_up f P Q holds up None a q = tt
option_up f P Q holds up (Some value) a q = up value a q

-- ---- every term
mutual
  pub fits_narrowed : (optional : Bool) (term : Term) (value : Value term) → Fits (narrowed optional term) (narrowed_value optional term value) → Fits term value × IsQuiet optional term value
  fits_narrowed optional (Integer low high) value f = let p = number_down (is_unsigned high) low value f.0 in ((p.0, f.1), (p.1, λ e note. refl))
  fits_narrowed optional (Text greatest) octets f = let p = text_down greatest octets f.1 in ((f.0, p.0), (text_quiet octets p.1, λ e note. refl))
  fits_narrowed optional Octets octets f = (f, (λ note. refl, λ e note. refl))
  fits_narrowed optional Time octets f = (f, (λ note. refl, λ e note. refl))
  fits_narrowed optional (Bits least) bits f = ((f.0, f.1, omega (arith, f.2)), (flags_quiet bits (omega (arith, f.2)), λ e note. refl))
  fits_narrowed optional (Sequence fields) values f = let p = fit_narrowed fields values f in (p.0, (p.1, λ e note. refl))
  fits_narrowed optional (SequenceOf empty term) values f =
      let p = list_down empty optional values (ap (λ n. (empty && not optional) || ltb 0 n) (sym (length-map values (narrowed_value false term))) ∙ f.0) in
      let q = all_down (narrowed_value false term) (Fits (narrowed false term)) (Fits term) (λ note. has note term) (λ value g. let r = fits_narrowed false term value g in (r.0, r.1.0)) values f.1 in
      ((p.0, q.0), (q.1, p.1))
  fits_narrowed optional (Tagged index term) value f = fits_narrowed optional term value f
  fits_narrowed optional (Application number term) value f = let p = fits_narrowed false term value f in (p.0, (p.1.0, λ e note. refl))

  fit_narrowed : (fields : Fields) (values : Values fields) → AllFit (narrowed_fields fields) (narrowed_values fields values) → AllFit fields values × ((note : Note) → any_has note fields values ≡ false)
  fit_narrowed End values f = (tt, λ note. refl)
  fit_narrowed (Required term fields) values f =
      let p = fits_narrowed false term values.0 f.0 in
      let q = fit_narrowed fields values.1 f.1 in
      ((p.0, q.0), λ note. none_of _ _ (p.1.0 note) (q.1 note))
  fit_narrowed (Optional term fields) values f =
      let p = option_down (narrowed_value true term) (Fits (narrowed true term)) (Fits term) (λ note value. is_list_that_has note term value || has note term value) (λ value g. let r = fits_narrowed true term value g in (r.0, λ note. none_of _ _ (r.1.1 refl note) (r.1.0 note))) values.0 f.0 in
      let q = fit_narrowed fields values.1 f.1 in
      ((p.0, q.0), λ note. none_of _ _ (p.1 note) (q.1 note))

mutual
  pub narrowed_fits : (optional : Bool) (term : Term) (value : Value term) → Fits term value → IsQuiet optional term value → Fits (narrowed optional term) (narrowed_value optional term value)
  narrowed_fits optional (Integer low high) value f q = (number_up (is_unsigned high) low value f.0 (q.0 Negative), f.1)
  narrowed_fits optional (Text greatest) octets f q = (f.0, text_up greatest octets f.1 (q.0 HighOctet))
  narrowed_fits optional Octets octets f q = f
  narrowed_fits optional Time octets f q = f
  narrowed_fits optional (Bits least) bits f q = (f.0, f.1, omega (arith, f.2, ltb-false (8 * length bits.1 - bits.0) 32 (q.0 FewFlags)))
  narrowed_fits optional (Sequence fields) values f q = narrowed_fit fields values f q.0
  narrowed_fits optional (SequenceOf empty term) values f q = (
    ap (λ n. (empty && not optional) || ltb 0 n) (length-map values (narrowed_value false term)) ∙ list_up empty optional values f.0 q.1,
    all_up (narrowed_value false term) (Fits (narrowed false term)) (Fits term) (λ note. has note term) (λ value g h. narrowed_fits false term value g (h, λ e. absurd cc)) values f.1 q.0,
  )
  narrowed_fits optional (Tagged index term) value f q = narrowed_fits optional term value f q
  narrowed_fits optional (Application number term) value f q = narrowed_fits false term value f (q.0, λ e. absurd cc)

  narrowed_fit : (fields : Fields) (values : Values fields) → AllFit fields values → ((note : Note) → any_has note fields values ≡ false) → AllFit (narrowed_fields fields) (narrowed_values fields values)
  narrowed_fit End values f q = tt
  narrowed_fit (Required term fields) values f q = (
    narrowed_fits false term values.0 f.0 (λ note. (or_parts _ _ (q note)).0, λ e. absurd cc),
    narrowed_fit fields values.1 f.1 (λ note. (or_parts _ _ (q note)).1),
  )
  narrowed_fit (Optional term fields) values f q = (
    option_up (narrowed_value true term) (Fits (narrowed true term)) (Fits term) (λ note value. is_list_that_has note term value || has note term value)
        (λ value g h. narrowed_fits true term value g (λ note. (or_parts _ _ (h note)).1, λ e note. (or_parts _ _ (h note)).0))
        values.0 f.0 (λ note. (or_parts _ _ (q note)).0),
    narrowed_fit fields values.1 f.1 (λ note. (or_parts _ _ (q note)).1),
  )
