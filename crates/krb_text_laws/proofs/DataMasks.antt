-- What is masked in the data of an error has no part in what is told of them.
use Rattle.std.proofs.Common.{◌≡◌, ℕ, ℤ, Bool, true, false, eqb, Option, Some, None, List, [], ◌∷◌, ◌++◌, length, map, refl, sym, ◌∙◌, ap, ap₂, eq-eqb}
use Rattle.std.proofs.lemmas.Bool.{true≢false}
use Rattle.std.specs.Prelude.{◌==◌, if◌then◌else◌}
use Rattle.std.specs.List.{flat_map}
use Rattle.std.specs.Option.{option_map}
use Rattle.krb_der.specs.Octets.{item}
use Rattle.krb_der.specs.inner.PrefixFree.{same_octets}
use Rattle.krb_file.specs.Fields.{zeros}
use Rattle.krb_file.proofs.Zeros.{length-zeros}
use Rattle.krb_msg.specs.Grammar.{method_data, pa_data}
use Rattle.krb_msg.specs.Shape.{is_unambiguous}
use Rattle.krb_msg.specs.Term.{Term, Octets, SequenceOf, Tagged, Value, der, tag_of}
use Rattle.krb_msg.specs.Types.{pa_data_of}
use Rattle.krb_msg.specs.ValueOfDer.{first_or_zero}
use Rattle.krb_msg.specs.inner.Values.{contents, der-append}
use Rattle.krb_padata.specs.ExtendedError.{kerb_ext_error_in}
use Rattle.krb_padata.specs.Grammar.{kerb_error_data, typed_data, typed_data_item}
use Rattle.krb_padata.specs.Types.{kerb_error_data_of, typed_data_item_of}
use Rattle.krb_padata.specs.declared.kerb_ext_error.KerbExtError.{KerbExtError}
use Rattle.krb_record.specs.Values.{Part, if_there}
use Rattle.krb_text.specs.Inside.{clear_type, data_parts, error_data_part, ext_error_if, ext_error_in, ext_error_part, first_parts, is_extended, item_parts, method_parts, one_if, typed_item_parts, typed_parts, types_part, types_unless}
use Rattle.krb_text.specs.Judged.{judged}
use Rattle.krb_text.specs.Masks.{masked_as, masked_data, masked_error_data, masked_method, masked_typed, masked_typed_item, octets_or_zeros}
use Rattle.krb_text.specs.MessageFields.{padata}
use Rattle.krb_text.specs.declared.clear_type.Carrier.TheVariants as carriers
use Rattle.krb_text.proofs.Judged.{is_judged}
use Rattle.krb_text_laws.proofs.Alike.{Alike, SomeAlike, each_alike}
use Rattle.krb_text_laws.proofs.MaskedParts.{IsMasked, clear_replaced, clear_same, is_masked, kept, zeros_not_judged}

-- ---- the masks keep the number of octets
method_alike : (v : Value pa_data) → Alike pa_data (masked_method v) v
method_alike v = (refl, (clear_replaced (clear_type carriers.Error v.0) v.1.0, tt))

typed_alike : (index : ℕ) (type : ℤ) (octets : Option (List ℕ)) → SomeAlike (Alike (Tagged index Octets)) (option_map (masked_typed type) octets) octets
typed_alike index type None = tt
typed_alike index type (Some octets) = kept octets (ext_error_if (is_extended type) octets)

typed_item_alike : (v : Value typed_data_item) → Alike typed_data_item (masked_typed_item v) v
typed_item_alike v = (refl, (typed_alike 1 v.0 v.1.0, tt))

error_data_alike : (v : Value kerb_error_data) → Alike kerb_error_data (masked_error_data v) v
error_data_alike v = (refl, (typed_alike 2 v.0 v.1.0, tt))

methods_masked : (octets : List ℕ) → IsMasked method_data (map masked_method) octets
methods_masked = is_masked method_data (map masked_method) refl refl (λ e. absurd cc) (each_alike (Alike pa_data) masked_method method_alike)

types_masked : (octets : List ℕ) → IsMasked typed_data (map masked_typed_item) octets
types_masked = is_masked typed_data (map masked_typed_item) refl refl (λ e. absurd cc) (each_alike (Alike typed_data_item) masked_typed_item typed_item_alike)

error_data_masked : (octets : List ℕ) → IsMasked kerb_error_data masked_error_data octets
error_data_masked = is_masked kerb_error_data masked_error_data refl refl (λ e. absurd cc) error_data_alike

-- ---- data of one type are of none before it
same_contents : (one other : List ℕ) → item 0x30 one ≡ item 0x30 other → one ≡ other
same_contents one other e = (same_octets 0x30 one other [] [] (ap (λ l. l ++ []) e)).0

differ : (tag other : ℕ) → eqb tag other ≡ false → (one another : List ℕ) → first_or_zero one ≡ tag → first_or_zero another ≡ other → one ≡ another → ⊥
differ tag other apart one another first second e = true≢false (sym (eq-eqb tag other (sym first ∙ ap first_or_zero e ∙ second)) ∙ apart)

types_apart : (v : Value typed_data_item) (vs : Value typed_data) (ws : Value method_data) → der typed_data (v ∷ vs) ≡ der method_data ws → ⊥
types_apart v vs [] e =
    differ 0x30 0 refl (flat_map (der typed_data_item) (v ∷ vs)) [] refl refl (same_contents (flat_map (der typed_data_item) (v ∷ vs)) [] e)
types_apart v vs (w ∷ ws) e =
    let same : der typed_data_item v ++ flat_map (der typed_data_item) vs ≡ der pa_data w ++ flat_map (der pa_data) ws =
    same_contents (flat_map (der typed_data_item) (v ∷ vs)) (flat_map (der pa_data) (w ∷ ws)) e in
    let inner : contents typed_data_item v ≡ contents pa_data w =
    (same_octets 0x30 (contents typed_data_item v) (contents pa_data w) (flat_map (der typed_data_item) vs) (flat_map (der pa_data) ws) same).0 in
    differ 0xA0 0xA1 refl (contents typed_data_item v) (contents pa_data w) refl refl inner

error_data_apart : (term : Term) → tag_of term ≡ 0x30 → (v : Value kerb_error_data) (ws : List (Value term)) → der kerb_error_data v ≡ der (SequenceOf true term) ws → ⊥
error_data_apart term tag v [] e = differ 0xA1 0 refl (contents kerb_error_data v) [] refl refl (same_contents (contents kerb_error_data v) [] e)
error_data_apart term tag v (w ∷ ws) e =
    differ 0xA1 0x30 refl (contents kerb_error_data v) (flat_map (der term) (w ∷ ws)) refl (ap first_or_zero (der-append term w (flat_map (der term) ws)) ∙ tag)
    (same_contents (contents kerb_error_data v) (flat_map (der term) (w ∷ ws)) e)

no_other : (term : Term) → is_unambiguous term ≡ true → (octets : List ℕ) → ((v : Value term) → octets ≡ der term v → ⊥) → judged term octets ≡ None
no_other term u octets apart = by (judged term octets) refl
  where
    by : (found : Option (Value term)) → judged term octets ≡ found → judged term octets ≡ None
    by None e = e
    by (Some v) e = absurd (apart v (sym (is_judged term octets v u e).form))

no_methods : (octets : List ℕ) (items : Value typed_data) → judged method_data octets ≡ None → judged typed_data octets ≡ Some items → judged method_data (der typed_data (map masked_typed_item items)) ≡ None
no_methods octets [] none is = ap (judged method_data) (is_judged typed_data octets [] refl is).form ∙ none
no_methods octets (v ∷ vs) none is =
    no_other method_data refl (der typed_data (map masked_typed_item (v ∷ vs))) (types_apart (masked_typed_item v) (map masked_typed_item vs))

no_list : (term : Term) → tag_of term ≡ 0x30 → is_unambiguous (SequenceOf true term) ≡ true → (octets : List ℕ) → judged (SequenceOf true term) (masked_as kerb_error_data masked_error_data octets) ≡ None
no_list term tag u octets = by (judged kerb_error_data octets) refl
  where
    by : (found : Option (Value kerb_error_data)) → judged kerb_error_data octets ≡ found → judged (SequenceOf true term) (masked_as kerb_error_data masked_error_data octets) ≡ None
    by None e = rw e (zeros_not_judged (SequenceOf true term) (λ t. absurd cc) (length octets))
    by (Some v) e = rw e (no_other (SequenceOf true term) u (der kerb_error_data (masked_error_data v)) (error_data_apart term tag (masked_error_data v)))

-- ---- what is told of a masked value
method_types-same : (items : Value method_data) → map (λ item. item.padata_type) (map pa_data_of (map masked_method items)) ≡ map (λ item. item.padata_type) (map pa_data_of items)
method_types-same [] = refl
method_types-same (v ∷ items) = ap (λ (types : List ℤ). v.0 ∷ types) (method_types-same items)

method_items-same : (items : Value method_data) → flat_map (item_parts carriers.Error) (map pa_data_of (map masked_method items)) ≡ flat_map (item_parts carriers.Error) (map pa_data_of items)
method_items-same [] = refl
method_items-same (v ∷ items) = ap₂ (λ (a b : List Part). a ++ b) (clear_same (clear_type carriers.Error v.0) v.1.0) (method_items-same items)

types_unless-same : (asks : Bool) (items : Value method_data) → types_unless asks (map pa_data_of (map masked_method items)) ≡ types_unless asks (map pa_data_of items)
types_unless-same true items = refl
types_unless-same false items = rw (method_types-same items) refl

methods-same : (asks : Bool) (items : Value method_data) → method_parts asks (map pa_data_of (map masked_method items)) ≡ method_parts asks (map pa_data_of items)
methods-same asks items = ap₂ (λ (a b : List Part). a ++ b) (types_unless-same asks items) (method_items-same items)

pub shown_methods-same : (found : Option (Value method_data)) → if_there (λ items. padata (map pa_data_of items)) (option_map (map masked_method) found) ≡ if_there (λ items. padata (map pa_data_of items)) found
shown_methods-same None = refl
shown_methods-same (Some items) = rw (method_types-same items) refl

if-none : {A : Type 0} (b : Bool) (a : A) → (if b then Some a else None) ≡ None → b ≡ false
if-none true a e = absurd cc
if-none false a e = refl

zeros_no_error : (octets : List ℕ) → kerb_ext_error_in octets ≡ None → kerb_ext_error_in (zeros (length octets)) ≡ None
zeros_no_error octets none =
    let other : (length octets == 12) ≡ false = if-none (length octets == 12) _ none in
    rw (length-zeros (length octets), other) refl

error-same : (octets : List ℕ) (found : Option KerbExtError) → kerb_ext_error_in octets ≡ found → kerb_ext_error_in (octets_or_zeros octets found) ≡ kerb_ext_error_in octets
error-same octets None e = zeros_no_error octets e ∙ sym e
error-same octets (Some error) e = refl

typed_if-same : (is : Bool) (octets : List ℕ) → ext_error_if is (octets_or_zeros octets (ext_error_if is octets)) ≡ ext_error_if is octets
typed_if-same false octets = refl
typed_if-same true octets = error-same octets (kerb_ext_error_in octets) refl

typed-same : (type : ℤ) (octets : Option (List ℕ)) → ext_error_in type (option_map (masked_typed type) octets) ≡ ext_error_in type octets
typed-same type None = refl
typed-same type (Some octets) = typed_if-same (is_extended type) octets

item_types-same : (items : Value typed_data) → map (λ item. item.data_type) (map typed_data_item_of (map masked_typed_item items)) ≡ map (λ item. item.data_type) (map typed_data_item_of items)
item_types-same [] = refl
item_types-same (v ∷ items) = ap (λ (types : List ℤ). v.0 ∷ types) (item_types-same items)

typed_items-same : (items : Value typed_data) → flat_map typed_item_parts (map typed_data_item_of (map masked_typed_item items)) ≡ flat_map typed_item_parts (map typed_data_item_of items)
typed_items-same [] = refl
typed_items-same (v ∷ items) = ap₂ (λ (a b : List Part). a ++ b) (ap (one_if ext_error_part) (typed-same v.0 v.1.0)) (typed_items-same items)

types_part-same : (items : Value typed_data) → types_part (map typed_data_item_of (map masked_typed_item items)) ≡ types_part (map typed_data_item_of items)
types_part-same items = rw (item_types-same items) refl

types-same : (items : Value typed_data) → typed_parts (map typed_data_item_of (map masked_typed_item items)) ≡ typed_parts (map typed_data_item_of items)
types-same items = ap₂ (λ (p : Part) (ps : List Part). p ∷ ps) (types_part-same items) (typed_items-same items)

error_data-same : (asks : Bool) (found : Option (Value kerb_error_data)) → first_parts asks None None (option_map masked_error_data found) ≡ first_parts asks None None found
error_data-same asks None = refl
error_data-same asks (Some v) = ap (λ error. error_data_part (kerb_error_data_of v) ∷ one_if ext_error_part error) (typed-same v.0 v.1.0)

-- ---- what is told of masked data
pub record IsSame (octets : List ℕ) : Type 0 where
  pub many : length (masked_data octets) ≡ length octets
  pub methods : judged method_data (masked_data octets) ≡ option_map (map masked_method) (judged method_data octets)
  pub parts : (asks : Bool) → data_parts asks (masked_data octets) ≡ data_parts asks octets

pub data_masked : (octets : List ℕ) → IsSame octets
data_masked octets = by (judged method_data octets) (judged typed_data octets) refl refl
  where
    by : (methods : Option (Value method_data)) (types : Option (Value typed_data)) → judged method_data octets ≡ methods → judged typed_data octets ≡ types → IsSame octets
    by (Some items) types m t =
        let to : masked_data octets ≡ masked_as method_data (map masked_method) octets = rw m refl in
        let read : judged method_data (masked_data octets) ≡ option_map (map masked_method) (judged method_data octets) = ap (judged method_data) to ∙ (methods_masked octets).judged_as in
        let found : judged method_data (masked_data octets) ≡ Some (map masked_method items) = read ∙ ap (option_map (map masked_method)) m in
        record {
          many = ap length to ∙ (methods_masked octets).replace.many;
          methods = read;
          parts = λ asks.
              ap (λ f. first_parts asks f (judged typed_data (masked_data octets)) (judged kerb_error_data (masked_data octets))) found
              ∙ methods-same asks items
              ∙ sym (ap (λ f. first_parts asks f (judged typed_data octets) (judged kerb_error_data octets)) m);
        }
    by None (Some items) m t =
        let to : masked_data octets ≡ masked_as typed_data (map masked_typed_item) octets = rw (m, t) refl in
        let form : masked_data octets ≡ der typed_data (map masked_typed_item items) = rw (m, t) refl in
        let none : judged method_data (masked_data octets) ≡ None = ap (judged method_data) form ∙ no_methods octets items m t in
        let found : judged typed_data (masked_data octets) ≡ Some (map masked_typed_item items) =
        ap (judged typed_data) to ∙ (types_masked octets).judged_as ∙ ap (option_map (map masked_typed_item)) t in
        record {
          many = ap length to ∙ (types_masked octets).replace.many;
          methods = none ∙ sym (ap (option_map (map masked_method)) m);
          parts = λ asks.
              ap₂ (λ f g. first_parts asks f g (judged kerb_error_data (masked_data octets))) none found
              ∙ types-same items
              ∙ sym (ap₂ (λ f g. first_parts asks f g (judged kerb_error_data octets)) m t);
        }
    by None None m t =
        let to : masked_data octets ≡ masked_as kerb_error_data masked_error_data octets = rw (m, t) refl in
        let none : judged method_data (masked_data octets) ≡ None = ap (judged method_data) to ∙ no_list pa_data refl refl octets in
        let no_types : judged typed_data (masked_data octets) ≡ None = ap (judged typed_data) to ∙ no_list typed_data_item refl refl octets in
        let found : judged kerb_error_data (masked_data octets) ≡ option_map masked_error_data (judged kerb_error_data octets) = ap (judged kerb_error_data) to ∙ (error_data_masked octets).judged_as in
        record {
          many = ap length to ∙ (error_data_masked octets).replace.many;
          methods = none ∙ sym (ap (option_map (map masked_method)) m);
          parts = λ asks.
              ap₂ (λ f g. first_parts asks f g (judged kerb_error_data (masked_data octets))) none no_types
              ∙ ap (first_parts asks None None) found
              ∙ error_data-same asks (judged kerb_error_data octets)
              ∙ sym (ap₂ (λ f g. first_parts asks f g (judged kerb_error_data octets)) m t);
        }
