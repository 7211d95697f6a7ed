-- What functions return that read values, put together.
use Rattle.std.proofs.Common.{◌≡◌, ℕ, ℤ, pos, negsuc, inl, inr, to_z, of_z, w64, ◌<◌, ◌+◌, ◌-◌, ◌≤◌, List, [], ◌∷◌, ◌++◌, length, length-append, take, drop, get_or, append_assoc, append-nil, Bool, Some, Result, Ok, Err, refl, sym, ◌∙◌, ap, ap₂, subst, arith}
use Rattle.std.specs.Prelude.{codes, decimal, string_bytes}
use Rattle.std.specs.Int.RustNames.{FitsSigned}
use Rattle.std.specs.Borrow.{Bor}
use Rattle.std.specs.List.{flat_map, AllByRecursion}
use Rattle.std.proofs.Math.Seq.{take-append_seam, drop-append_seam}
use Rattle.json.specs.Json.{Json, Members}
use Rattle.json.specs.Find.{get_member}
use Rattle.std.proofs.lemmas.Bool.{cases_lt}
use Rattle.std.proofs.lemmas.Int.{to_z-of_z, fits_signed_from_abs}
use Rattle.krb_der.specs.Octets.{item, length_octets, integer_octets, spelled as spelled_octets}
use Rattle.krb_der.specs.inner.Numbers.{length-spelled-mono}
use Rattle.krb_der.proofs.Sizes.{length-complement}
use Rattle.krb_msg.specs.Nodes.{nodes, term_at}
use Rattle.krb_msg.specs.Table.{IsFormOf, IsSlot, fields_from, with_slot}
use Rattle.krb_msg.specs.declared.grammar.Form.TheVariants as form
use Rattle.krb_msg.specs.declared.grammar.Slot.{Slot}
use Rattle.krb_msg.specs.declared.grammar.Slot.TheVariants as slot
use Rattle.krb_msg.specs.Term.{Term, Fields, Integer, Text, Octets, Time, Bits, Sequence, SequenceOf, Tagged, Application, Value, tag_of, der, der_of_fields, octets_of_option}
use Rattle.krb_msg.specs.inner.Values.{contents, der_is}
use Rattle.krb_judge.specs.Named.{Named}
use Rattle.krb_judge.specs.FieldNames.{field_at}
use Rattle.krb_judge.specs.Paths.{field_path, element_path}
use Rattle.krb_judge.specs.declared.locating.names.Names.{Names}
use Rattle.krb_json.specs.declared.wrong.Wrong.{Wrong}
use Rattle.krb_json.specs.declared.wrong.Wrong.TheVariants.{Missing}
use Rattle.krb_json.specs.declared.value_fault.ValueFault.{ValueFault}
use Rattle.krb_json.specs.declared.value_fault.ValueFault.TheVariants.{At, Memory}
use Rattle.krb_json.specs.Faults.{Fault, fault, ◌>>=◌}
use Rattle.krb_json.specs.Spelled.{or_fault, integer_spelled, text_spelled, octets_spelled, time_spelled, bits_spelled, required, optional, if_there, spelled, fields_spelled}
use Rattle.krb_json.specs.inner.Sizes.{size, size_of_fields}
use Rattle.krb_json.specs.inner.Writing.{slot_node}
use Rattle.krb_json.specs.inner.Reading.{IsRead, Reads, ReadsField, ReadsFields, IsFaultAt, IsUnder}
use Rattle.krb_json.proofs.Walks.{slots-split}

-- ---- faults
-- a fault of which the path has more after that of the value
pub fault-read : {A : Type 0} (read : (path : List ℕ) → Result A Fault) (octets_of : A → List ℕ) (old new more : List ℕ) (wrong : Wrong) (found : ValueFault) → ((path : List ℕ) → read path ≡ fault (path ++ more) wrong) → IsFaultAt more wrong found → Reads read octets_of old new (Err found)
fault-read read octets_of old new more wrong (At found) is at = λ path. is path ∙ ap₂ (λ p w. fault (path ++ p) w) (sym at.0) (sym at.1)
fault-read read octets_of old new more wrong Memory is at = tt

-- a fault of the value itself
pub fault-here : {A : Type 0} (read : (path : List ℕ) → Result A Fault) (octets_of : A → List ℕ) (old new : List ℕ) (wrong : Wrong) (found : ValueFault) → ((path : List ℕ) → read path ≡ fault path wrong) → IsFaultAt [] wrong found → Reads read octets_of old new (Err found)
fault-here read octets_of old new wrong found is at =
    fault-read read octets_of old new [] wrong found (λ path. is path ∙ ap (λ p. fault p wrong) (sym (append-nil path))) at

-- ---- the same by other words
pub same-read : {A : Type 0} (read other : (path : List ℕ) → Result A Fault) (octets_of : A → List ℕ) (old new : List ℕ) (outcome : Result (Unit {0}) ValueFault) → ((path : List ℕ) → other path ≡ read path) → Reads read octets_of old new outcome → Reads other octets_of old new outcome
same-read read other octets_of old new (Ok done) same r = record { value = r.value; spelled = λ path. same path ∙ r.spelled path; octets = r.octets }
same-read read other octets_of old new (Err (At found)) same r = λ path. same path ∙ r path
same-read read other octets_of old new (Err Memory) same r = tt

-- ---- a part of a value, with more in its path
pub under-read : {A : Type 0} (read : (path : List ℕ) → Result A Fault) (octets_of : A → List ℕ) (old new more : List ℕ) (inner outer : Result (Unit {0}) ValueFault) → IsUnder more inner outer → Reads read octets_of old new inner → Reads (λ path. read (path ++ more)) octets_of old new outer
under-read read octets_of old new more (Ok done) outer u r =
    subst (Reads (λ path. read (path ++ more)) octets_of old new) (sym u) record { value = r.value; spelled = λ path. r.spelled (path ++ more); octets = r.octets }
under-read read octets_of old new more (Err Memory) outer u r = subst (Reads (λ path. read (path ++ more)) octets_of old new) (sym u) tt
under-read read octets_of old new more (Err (At found)) (Ok done) u r = absurd u
under-read read octets_of old new more (Err (At found)) (Err outer) u r =
    fault-read (λ path. read (path ++ more)) octets_of old new (more ++ string_bytes found.path) found.wrong outer
    (λ path. r (path ++ more) ∙ ap (λ p. fault p found.wrong) (append_assoc path more (string_bytes found.path))) u

-- a field
pub field-read : {A : Type 0} (read : (path : List ℕ) → Result A Fault) (octets_of : A → List ℕ) (old new name : List ℕ) (inner outer : Result (Unit {0}) ValueFault) → IsUnder (codes "." ++ name) inner outer → Reads read octets_of old new inner → Reads (λ path. read (field_path path name)) octets_of old new outer
field-read read octets_of old new name inner outer u r =
    same-read (λ path. read (path ++ (codes "." ++ name))) (λ path. read (field_path path name)) octets_of old new outer (λ path. ap read (append_assoc path (codes ".") name))
    (under-read read octets_of old new (codes "." ++ name) inner outer u r)

-- an item
pub element-read : {A : Type 0} (read : (path : List ℕ) → Result A Fault) (octets_of : A → List ℕ) (old new : List ℕ) (index : ℕ) (inner outer : Result (Unit {0}) ValueFault) → IsUnder (codes "[" ++ decimal index ++ codes "]") inner outer → Reads read octets_of old new inner → Reads (λ path. read (element_path path index)) octets_of old new outer
element-read read octets_of old new index inner outer u r =
    same-read (λ path. read (path ++ (codes "[" ++ decimal index ++ codes "]"))) (λ path. read (element_path path index)) octets_of old new outer
    (λ path. ap read (append_assoc (path ++ codes "[") (decimal index) (codes "]") ∙ append_assoc path (codes "[") (decimal index ++ codes "]") ∙ ap (λ l. path ++ l) (sym (append_assoc (codes "[") (decimal index) (codes "]")))))
    (under-read read octets_of old new (codes "[" ++ decimal index ++ codes "]") inner outer u r)

-- ---- one after another
pub then-read : {A B : Type 0} (first : (path : List ℕ) → Result A Fault) (second : (path : List ℕ) → Result B Fault) (octets_of : A → List ℕ) (others_of : B → List ℕ) (old mid new : List ℕ) (outcome : Result (Unit {0}) ValueFault) → IsRead first octets_of old mid → Reads second others_of mid new outcome
    → Reads {A = A × B} (λ path. first path >>= λ a. second path >>= λ b. Ok (a, b)) (λ p. octets_of p.0 ++ others_of p.1) old new outcome
then-read first second octets_of others_of old mid new (Ok done) r s = record {
  value = (r.value, s.value);
  spelled = λ path. ap (λ x. x >>= λ a. second path >>= λ b. Ok (a, b)) (r.spelled path) ∙ ap (λ y. y >>= λ b. Ok (r.value, b)) (s.spelled path);
  octets = s.octets ∙ ap (λ l. l ++ others_of s.value) r.octets ∙ append_assoc old (octets_of r.value) (others_of s.value);
}
then-read first second octets_of others_of old mid new (Err (At found)) r s =
    λ path. ap (λ x. x >>= λ a. second path >>= λ b. Ok (a, b)) (r.spelled path) ∙ ap (λ y. y >>= λ b. Ok (r.value, b)) (s path)
then-read first second octets_of others_of old mid new (Err Memory) r s = tt

-- what comes after a step that has no fault
pub after-step : {A B : Type 0} (first : (path : List ℕ) → Result A Fault) (next : (path : List ℕ) → A → Result B Fault) (octets_of : B → List ℕ) (old new : List ℕ) (outcome : Result (Unit {0}) ValueFault) (a : A) → ((path : List ℕ) → first path ≡ Ok a) → Reads (λ path. next path a) octets_of old new outcome → Reads (λ path. first path >>= next path) octets_of old new outcome
after-step first next octets_of old new outcome a is r =
    same-read (λ path. next path a) (λ path. first path >>= next path) octets_of old new outcome (λ path. ap (λ x. x >>= next path) (is path)) r

-- the first has a fault
pub stopped : {A B : Type 0} (first : (path : List ℕ) → Result A Fault) (next : (path : List ℕ) → A → Result B Fault) (octets_of : A → List ℕ) (others_of : B → List ℕ) (old mid older new : List ℕ) (found : ValueFault) → Reads first octets_of old mid (Err found) → Reads (λ path. first path >>= next path) others_of older new (Err found)
stopped first next octets_of others_of old mid older new (At found) r = λ path. ap (λ x. x >>= next path) (r path)
stopped first next octets_of others_of old mid older new Memory r = tt

-- ---- an item: its head before its contents
-- its tag and an octet for its length, before its contents
room_for_head : {A : Type 0} (read : (path : List ℕ) → Result A Fault) (octets_of : A → List ℕ) (old begun mid : List ℕ) (start tag : ℕ) → start ≡ length old → begun ≡ old ++ tag ∷ 0 ∷ [] → (r : IsRead read octets_of begun mid) → length mid ≡ start + 2 + length (octets_of r.value)
room_for_head read octets_of old begun mid start tag at begins r =
    omega (arith, at, ap length r.octets, length-append begun (octets_of r.value), ap length begins, length-append old (tag ∷ 0 ∷ []))

pub has-head : {A : Type 0} (read : (path : List ℕ) → Result A Fault) (octets_of : A → List ℕ) (old begun mid : List ℕ) (start tag : ℕ) → start ≡ length old → begun ≡ old ++ tag ∷ 0 ∷ [] → IsRead read octets_of begun mid → start + 2 ≤ length mid
has-head read octets_of old begun mid start tag at begins r = omega (arith, room_for_head read octets_of old begun mid start tag at begins r)

-- what an item is read into, when the octet is its length
module _ (old begun mid octets : List ℕ) (start tag : ℕ) (at : start ≡ length old) (begins : begun ≡ old ++ tag ∷ 0 ∷ []) (is : mid ≡ begun ++ octets) where
  whole_item : mid ≡ (old ++ tag ∷ 0 ∷ []) ++ octets
  whole_item = is ∙ ap (λ l. l ++ octets) begins

  before_length : take (start + 1) mid ≡ old ++ tag ∷ []
  before_length =
      ap (take (start + 1)) (whole_item ∙ append_assoc old (tag ∷ 0 ∷ []) octets ∙ sym (append_assoc old (tag ∷ []) (0 ∷ octets)))
      ∙ subst (λ n. take n ((old ++ tag ∷ []) ++ 0 ∷ octets) ≡ old ++ tag ∷ []) (omega (arith, length-append old (tag ∷ []), at)) (take-append_seam (old ++ tag ∷ []) (0 ∷ octets))

  after_length : drop (start + 2) mid ≡ octets
  after_length =
      ap (drop (start + 2)) whole_item
      ∙ subst (λ n. drop n ((old ++ tag ∷ 0 ∷ []) ++ octets) ≡ octets) (omega (arith, length-append old (tag ∷ 0 ∷ []), at)) (drop-append_seam (old ++ tag ∷ 0 ∷ []) octets)

  with_length : take (start + 1) mid ++ length_octets (length octets) ++ drop (start + 2) mid ≡ old ++ item tag octets
  with_length =
      (λ i. (before_length i ++ length_octets (length octets)) ++ after_length i)
      ∙ append_assoc (old ++ tag ∷ []) (length_octets (length octets)) octets
      ∙ append_assoc old (tag ∷ []) (length_octets (length octets) ++ octets)

pub headed : (term : Term) (read : (path : List ℕ) → Result (Value term) Fault) (old begun mid new : List ℕ) (start size tag : ℕ) → start ≡ length old → size ≡ length mid - (start + 2) → tag ≡ tag_of term → begun ≡ old ++ tag ∷ 0 ∷ [] → new ≡ take (start + 1) mid ++ length_octets size ++ drop (start + 2) mid → IsRead read (contents term) begun mid → IsRead read (der term) old new
headed term read old begun mid new start size tag at sized tagged begins is r =
    let few : size ≡ length (contents term r.value) = omega (arith, sized, room_for_head read (contents term) old begun mid start tag at begins r) in
    record {
      value = r.value;
      spelled = r.spelled;
      octets =
          is
          ∙ ap (λ n. take (start + 1) mid ++ length_octets n ++ drop (start + 2) mid) few
          ∙ with_length old begun mid (contents term r.value) start tag at begins r.octets
          ∙ ap (λ t. old ++ item t (contents term r.value)) tagged
          ∙ ap (λ l. old ++ l) (sym (der_is term r.value));
    }

-- ---- the numbers of the table
wide : (n : ℕ) → length (spelled_octets 128 n) ≤ 5 → n < 549755813888
wide n short =
    elim (cases_lt n 549755813888) [
      | inl small ↦ small
      | inr large ↦ absurd (omega (arith, short, six, length-spelled-mono 128 549755813888 n (omega arith) large))
    ]
  where
    six : length (spelled_octets 128 549755813888) ≡ 6
    six = refl

number-fits : (z : ℤ) → length (integer_octets z) ≤ 5 → FitsSigned w64 z
number-fits (pos n) short = fits_signed_from_abs w64 (pos n) (omega (arith, wide n short))
number-fits (negsuc n) short = fits_signed_from_abs w64 (negsuc n) (omega (arith, wide n (omega (arith, short, length-complement (spelled_octets 128 n)))))

form-fits : (low high : ℤ) (widest : ℕ) (term : Term) → IsFormOf nodes (form.Integer low high widest) term → FitsSigned w64 low × FitsSigned w64 high
form-fits low high widest (Integer from to) f = (
  subst (FitsSigned w64) (sym f.0) (number-fits from (omega (arith, f.2, f.3))),
  subst (FitsSigned w64) (sym f.1) (number-fits to (omega (arith, f.2, f.3))),
)
form-fits low high widest term f = absurd f

-- ---- what a form says of a term
module _ (names : Names) (j : Json) (old new : List ℕ) (outcome : Result (Unit {0}) ValueFault) where
  pub integer-read : (low high : ℤ) (widest : ℕ) (term : Term) → IsFormOf nodes (form.Integer low high widest) term → Reads (λ path. integer_spelled low high path j) integer_octets old new outcome → Reads (λ path. spelled term names path j) (contents term) old new outcome
  integer-read low high widest (Integer from to) f r =
      subst (λ z. Reads (λ path. integer_spelled from z path j) integer_octets old new outcome) f.1 (subst (λ z. Reads (λ path. integer_spelled z high path j) integer_octets old new outcome) f.0 r)
  integer-read low high widest term f r = absurd f

  -- by numbers that are of 64 bits, as those of the table are
  pub integer-read-as : (low high : ℤ) (widest : ℕ) (term : Term) → IsFormOf nodes (form.Integer low high widest) term → Reads (λ path. integer_spelled (to_z w64 (of_z w64 low)) (to_z w64 (of_z w64 high)) path j) integer_octets old new outcome → Reads (λ path. spelled term names path j) (contents term) old new outcome
  integer-read-as low high widest term f r =
      let fits = form-fits low high widest term f in
      integer-read low high widest term f
      (subst (λ z. Reads (λ path. integer_spelled low z path j) integer_octets old new outcome) (to_z-of_z w64 high fits.1)
      (subst (λ z. Reads (λ path. integer_spelled z (to_z w64 (of_z w64 high)) path j) integer_octets old new outcome) (to_z-of_z w64 low fits.0) r))

  pub text-read : (most : ℕ) (term : Term) → IsFormOf nodes (form.Text most) term → Reads (λ path. text_spelled most path j) (λ octets. octets) old new outcome → Reads (λ path. spelled term names path j) (contents term) old new outcome
  text-read most (Text greatest) f r = subst (λ n. Reads (λ path. text_spelled n path j) (λ octets. octets) old new outcome) f r
  text-read most term f r = absurd f

  pub octets-read : (term : Term) → IsFormOf nodes form.Octets term → Reads (λ path. octets_spelled path j) (λ octets. octets) old new outcome → Reads (λ path. spelled term names path j) (contents term) old new outcome
  octets-read Octets f r = r
  octets-read term f r = absurd f

  pub time-read : (term : Term) → IsFormOf nodes form.Time term → Reads (λ path. time_spelled path j) (λ octets. octets) old new outcome → Reads (λ path. spelled term names path j) (contents term) old new outcome
  time-read Time f r = r
  time-read term f r = absurd f

  pub bits-read : (fewest : ℕ) (term : Term) → IsFormOf nodes (form.Bits fewest) term → Reads (λ path. bits_spelled fewest path j) (λ bits. bits.0 ∷ bits.1) old new outcome → Reads (λ path. spelled term names path j) (contents term) old new outcome
  bits-read fewest (Bits least) f r = subst (λ n. Reads (λ path. bits_spelled n path j) (λ bits. bits.0 ∷ bits.1) old new outcome) f r
  bits-read fewest term f r = absurd f

  pub inner-read : (node : ℕ) (term : Term) → IsFormOf nodes (form.Item node) term → Reads (λ path. spelled (term_at node) names path j) (der (term_at node)) old new outcome → Reads (λ path. spelled term names path j) (contents term) old new outcome
  inner-read node (Tagged index inner) f r = subst (λ t. Reads (λ path. spelled t names path j) (der t) old new outcome) f.1 r
  inner-read node (Application number inner) f r = subst (λ t. Reads (λ path. spelled t names path j) (der t) old new outcome) f.1 r
  inner-read node term f r = absurd f

  pub list-read : (node : ℕ) (none : Bool) (term : Term) → IsFormOf nodes (form.Items node none) term → Reads (λ path. spelled (SequenceOf none (term_at node)) names path j) (flat_map (der (term_at node))) old new outcome → Reads (λ path. spelled term names path j) (contents term) old new outcome
  list-read node none (SequenceOf empty inner) f r =
      subst (λ t. Reads (λ path. spelled (SequenceOf empty t) names path j) (flat_map (der t)) old new outcome) f.2
      (subst (λ e. Reads (λ path. spelled (SequenceOf e (term_at node)) names path j) (flat_map (der (term_at node))) old new outcome) f.1 r)
  list-read node none term f r = absurd f

  pub sequence-read : (slots : Bor (List Slot)) (term : Term) → IsFormOf nodes (form.Fields slots) term → Reads (λ path. spelled (Sequence (fields_from nodes slots.now)) names path j) (der_of_fields (fields_from nodes slots.now)) old new outcome → Reads (λ path. spelled term names path j) (contents term) old new outcome
  sequence-read slots (Sequence fields) f r = subst (λ fs. Reads (λ path. spelled (Sequence fs) names path j) (der_of_fields fs) old new outcome) f.1 r
  sequence-read slots term f r = absurd f

-- ---- a field
some-read : {A : Type 0} (read : (path : List ℕ) → Result A Fault) (octets_of : A → List ℕ) (old new : List ℕ) (outcome : Result (Unit {0}) ValueFault) → Reads read octets_of old new outcome → Reads (λ path. read path >>= λ value. Ok (Some value)) (octets_of_option octets_of) old new outcome
some-read read octets_of old new (Ok done) r = record { value = Some r.value; spelled = λ path. ap (λ x. x >>= λ value. Ok (Some value)) (r.spelled path); octets = r.octets }
some-read read octets_of old new (Err (At found)) r = λ path. ap (λ x. x >>= λ value. Ok (Some value)) (r path)
some-read read octets_of old new (Err Memory) r = tt

-- of which there is the member
pub there-read : (field : Slot) (named : Named) (members : Members) (j : Json) (old new : List ℕ) (outcome : Result (Unit {0}) ValueFault) → get_member named.name members ≡ Some j → Reads (λ path. spelled (term_at (slot_node field)) named.inside (field_path path named.name) j) (der (term_at (slot_node field))) old new outcome → ReadsField field named members old new outcome
there-read (slot.Required node) named members j old new outcome e r =
    same-read (λ path. spelled (term_at node) named.inside (field_path path named.name) j) (λ path. required (spelled (term_at node) named.inside) path named.name members) (der (term_at node)) old new outcome
    (λ path. ap (λ o. or_fault (field_path path named.name) Missing o >>= spelled (term_at node) named.inside (field_path path named.name)) e) r
there-read (slot.Optional node) named members j old new outcome e r =
    same-read (λ path. spelled (term_at node) named.inside (field_path path named.name) j >>= λ value. Ok (Some value)) (λ path. optional (spelled (term_at node) named.inside) path named.name members) (octets_of_option (der (term_at node))) old new outcome
    (λ path. ap (if_there (spelled (term_at node) named.inside (field_path path named.name))) e)
    (some-read (λ path. spelled (term_at node) named.inside (field_path path named.name) j) (der (term_at node)) old new outcome r)

-- ---- fields
with-slot : (field : Slot) (fields : Fields) (names : Names) (index : ℕ) (members : Members) (old mid new : List ℕ) (outcome : Result (Unit {0}) ValueFault) → ReadsField field (field_at names index) members old mid (Ok tt) → ReadsFields fields names (index + 1) members mid new outcome → ReadsFields (with_slot nodes field fields) names index members old new outcome
with-slot (slot.Required node) fields names index members old mid new outcome r s =
    then-read (λ path. required (spelled (term_at node) (field_at names index).inside) path (field_at names index).name members) (λ path. fields_spelled fields names path (index + 1) members)
    (der (term_at node)) (der_of_fields fields) old mid new outcome r s
with-slot (slot.Optional node) fields names index members old mid new outcome r s =
    then-read (λ path. optional (spelled (term_at node) (field_at names index).inside) path (field_at names index).name members) (λ path. fields_spelled fields names path (index + 1) members)
    (octets_of_option (der (term_at node))) (der_of_fields fields) old mid new outcome r s

stopped-slot : (field : Slot) (fields : Fields) (names : Names) (index : ℕ) (members : Members) (old mid new : List ℕ) (found : ValueFault) → ReadsField field (field_at names index) members old mid (Err found) → ReadsFields (with_slot nodes field fields) names index members old new (Err found)
stopped-slot (slot.Required node) fields names index members old mid new found r =
    stopped (λ path. required (spelled (term_at node) (field_at names index).inside) path (field_at names index).name members)
    (λ path value. fields_spelled fields names path (index + 1) members >>= λ others. Ok (value, others))
    (der (term_at node)) (der_of_fields (with_slot nodes (slot.Required node) fields)) old mid old new found r
stopped-slot (slot.Optional node) fields names index members old mid new found r =
    stopped (λ path. optional (spelled (term_at node) (field_at names index).inside) path (field_at names index).name members)
    (λ path value. fields_spelled fields names path (index + 1) members >>= λ others. Ok (value, others))
    (octets_of_option (der (term_at node))) (der_of_fields (with_slot nodes (slot.Optional node) fields)) old mid old new found r

pub no-fields : (slots : List Slot) (names : Names) (index : ℕ) (given : Members) (old : List ℕ) → length slots ≤ 0 → ReadsFields (fields_from nodes slots) names index given old old (Ok tt)
no-fields [] names index given old none = record { value = tt; spelled = λ path. refl; octets = sym (append-nil old) }
no-fields (first ∷ others) names index given old none = absurd (omega arith)

pub more-fields : (slots : List Slot) (names : Names) (index : ℕ) (named : Named) (members : Members) (old mid new : List ℕ) (outcome : Result (Unit {0}) ValueFault) → 1 ≤ length slots → named ≡ field_at names index → ReadsField (get_or slots 0 (slot.Required 0)) named members old mid (Ok tt) → ReadsFields (fields_from nodes (take (length slots - 1) (drop 1 slots))) names (index + 1) members mid new outcome → ReadsFields (fields_from nodes slots) names index members old new outcome
more-fields slots names index named members old mid new outcome some same r s =
    subst (λ l. ReadsFields (fields_from nodes l) names index members old new outcome) (sym (slots-split slots (slot.Required 0) some))
    (with-slot (get_or slots 0 (slot.Required 0)) (fields_from nodes (take (length slots - 1) (drop 1 slots))) names index members old mid new outcome
    (subst (λ f. ReadsField (get_or slots 0 (slot.Required 0)) f members old mid (Ok tt)) same r) s)

pub stopped-fields : (slots : List Slot) (names : Names) (index : ℕ) (named : Named) (members : Members) (old mid new : List ℕ) (found : ValueFault) → 1 ≤ length slots → named ≡ field_at names index → ReadsField (get_or slots 0 (slot.Required 0)) named members old mid (Err found) → ReadsFields (fields_from nodes slots) names index members old new (Err found)
stopped-fields slots names index named members old mid new found some same r =
    subst (λ l. ReadsFields (fields_from nodes l) names index members old new (Err found)) (sym (slots-split slots (slot.Required 0) some))
    (stopped-slot (get_or slots 0 (slot.Required 0)) (fields_from nodes (take (length slots - 1) (drop 1 slots))) names index members old mid new found
    (subst (λ f. ReadsField (get_or slots 0 (slot.Required 0)) f members old mid (Err found)) same r))

-- ---- measures
pub size-slots : (slots : List Slot) → 1 ≤ length slots → size_of_fields (fields_from nodes slots) ≡ 1 + size (term_at (slot_node (get_or slots 0 (slot.Required 0)))) + size_of_fields (fields_from nodes (take (length slots - 1) (drop 1 slots)))
size-slots slots some = ap (λ l. size_of_fields (fields_from nodes l)) (slots-split slots (slot.Required 0) some) ∙ of (get_or slots 0 (slot.Required 0)) (fields_from nodes (take (length slots - 1) (drop 1 slots)))
  where
    of : (field : Slot) (fields : Fields) → size_of_fields (with_slot nodes field fields) ≡ 1 + size (term_at (slot_node field)) + size_of_fields fields
    of (slot.Required node) fields = refl
    of (slot.Optional node) fields = refl

pub length-slots : (slots : List Slot) → 1 ≤ length slots → length slots ≡ 1 + length (take (length slots - 1) (drop 1 slots))
length-slots slots some = ap length (slots-split slots (slot.Required 0) some) ∙ of (take (length slots - 1) (drop 1 slots))
  where
    of : (more : List Slot) → length (get_or slots 0 (slot.Required 0) ∷ more) ≡ 1 + length more
    of more = omega arith

pub slots-known : (slots : List Slot) → 1 ≤ length slots → AllByRecursion IsSlot slots → AllByRecursion IsSlot (take (length slots - 1) (drop 1 slots))
slots-known slots some known = of (take (length slots - 1) (drop 1 slots)) (subst (AllByRecursion IsSlot) (slots-split slots (slot.Required 0) some) known)
  where
    of : (more : List Slot) → AllByRecursion IsSlot (get_or slots 0 (slot.Required 0) ∷ more) → AllByRecursion IsSlot more
    of more known = known.1
