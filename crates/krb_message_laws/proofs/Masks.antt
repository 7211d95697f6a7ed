-- What is not encrypted changes no path, and where all is encrypted there is nothing to mask.
use Rattle.std.proofs.Common.{◌≡◌, ℕ, ◌+◌, Bool, true, false, List, [], ◌∷◌, map, Option, Some, None, refl, sym, ◌∙◌, ap}
use Rattle.std.specs.Prelude.{◌&&◌, if◌then◌else◌, option_map}
use Rattle.std.specs.Option.{option_and_then}
use Rattle.krb_msg.specs.Term.{Term, Fields, Sequence, SequenceOf, Tagged, Application, End, Required, Optional, Value, Values}
use Rattle.krb_msg.specs.Views.{kind_of, kind_name, kind_term, message_value}
use Rattle.krb_msg.specs.declared.message.Kind.{Kind}
use Rattle.krb_msg.specs.declared.message.Message.{Message}
use Rattle.krb_judge.specs.FieldNames.{field_at, names_of_kind}
use Rattle.krb_judge.specs.Paths.{field_path, element_path}
use Rattle.krb_judge.specs.declared.locating.names.Names.{Names}
use Rattle.json.specs.Json.{object, member, no_members}
use Rattle.json.specs.Print.{print}
use Rattle.json.specs.Tree.{json_tokens}
use Rattle.krb_json.specs.Laws.{UnencryptedChangesNothing}
use Rattle.krb_json.specs.Lines.{message_text}
use Rattle.krb_json.specs.Masked.{zeroed, zeroed_fields, masked, masked_fields, masked_in}
use Rattle.krb_json.specs.Objects.{json}
use Rattle.krb_json.specs.Unencrypted.{begin_with_zero, first_of, is_encrypted_data, is_zero, unencrypted, unencrypted_fields, unencrypted_in, unencrypted_items}

-- ---- the number 0 is not masked
zero-zeroed : (term : Term) (value : Value term) → is_zero term (zeroed term value) ≡ is_zero term value
zero-zeroed (Tagged index term) value = zero-zeroed term value
zero-zeroed (Application number term) value = zero-zeroed term value
zero-zeroed other value = refl

begin-zeroed : (fields : Fields) (values : Values fields) → begin_with_zero fields (zeroed_fields fields values) ≡ begin_with_zero fields values
begin-zeroed (Required term fields) values = zero-zeroed term values.0
begin-zeroed other values = refl

zero-masked : (term : Term) (names : Names) (value : Value term) → is_zero term (masked term names value) ≡ is_zero term value
zero-masked (Tagged index term) names value = zero-masked term names value
zero-masked (Application number term) names value = zero-masked term names value
zero-masked other names value = refl

begin-masked : (fields : Fields) (names : Names) (values : Values fields) → begin_with_zero fields (masked_fields fields names 0 values) ≡ begin_with_zero fields values
begin-masked (Required term fields) names values = zero-masked term (field_at names 0).inside values.0
begin-masked other names values = refl

-- ---- the same paths
-- of a SEQUENCE, by whether it is an EncryptedData of encryption type 0
sequence-same : (fields : Fields) (names : Names) (path : List ℕ) (values : Values fields) (zero : Bool) → (is_encrypted_data names && begin_with_zero fields values) ≡ zero
    → unencrypted_fields fields names path 0 (masked_fields fields names 0 values) ≡ unencrypted_fields fields names path 0 values
    → unencrypted (Sequence fields) names path (if zero then zeroed_fields fields values else masked_fields fields names 0 values) ≡ (if zero then Some path else unencrypted_fields fields names path 0 values)
sequence-same fields names path values true is others =
    ap (λ b. if b then Some path else unencrypted_fields fields names path 0 (zeroed_fields fields values)) (ap (λ b. is_encrypted_data names && b) (begin-zeroed fields values) ∙ is)
sequence-same fields names path values false is others =
    ap (λ b. if b then Some path else unencrypted_fields fields names path 0 (masked_fields fields names 0 values)) (ap (λ b. is_encrypted_data names && b) (begin-masked fields names values) ∙ is) ∙ others

module _ {A : Type 0} (find : (path : List ℕ) → A → Option (List ℕ)) (mask : A → A) (same : (path : List ℕ) (value : A) → find path (mask value) ≡ find path value) where
  items-same : (path : List ℕ) (index : ℕ) (values : List A) → unencrypted_items find path index (map mask values) ≡ unencrypted_items find path index values
  items-same path index [] = refl
  items-same path index (value ∷ values) = (λ i. first_of (same (element_path path index) value i) (items-same path (index + 1) values i))

  option-same : (path : List ℕ) (value : Option A) → option_and_then (find path) (option_map mask value) ≡ option_and_then (find path) value
  option-same path None = refl
  option-same path (Some value) = same path value

mutual
  term-same : (term : Term) (names : Names) (path : List ℕ) (value : Value term) → unencrypted term names path (masked term names value) ≡ unencrypted term names path value
  term-same (Sequence fields) names path values = sequence-same fields names path values (is_encrypted_data names && begin_with_zero fields values) refl (fields-same fields names path 0 values)
  term-same (SequenceOf empty term) names path values = items-same (unencrypted term names) (masked term names) (term-same term names) path 0 values
  term-same (Tagged index term) names path value = term-same term names path value
  term-same (Application number term) names path value = term-same term names path value
  term-same other names path value = refl

  fields-same : (fields : Fields) (names : Names) (path : List ℕ) (index : ℕ) (values : Values fields) → unencrypted_fields fields names path index (masked_fields fields names index values) ≡ unencrypted_fields fields names path index values
  fields-same End names path index values = refl
  fields-same (Required term fields) names path index values =
      (λ i. first_of (term-same term (field_at names index).inside (field_path path (field_at names index).name) values.0 i) (fields-same fields names path (index + 1) values.1 i))
  fields-same (Optional term fields) names path index values =
      (λ i. first_of
      (option-same (unencrypted term (field_at names index).inside) (masked term (field_at names index).inside) (term-same term (field_at names index).inside) (field_path path (field_at names index).name) values.0 i)
      (fields-same fields names path (index + 1) values.1 i))

-- ---- where all is encrypted
both-none : (first other : Option (List ℕ)) → first_of first other ≡ None → (first ≡ None) × (other ≡ None)
both-none None other e = (refl, e)
both-none (Some path) other e = cc e

sequence-kept : (fields : Fields) (names : Names) (path : List ℕ) (values : Values fields) (zero : Bool) → (unencrypted_fields fields names path 0 values ≡ None → masked_fields fields names 0 values ≡ values)
    → (if zero then Some path else unencrypted_fields fields names path 0 values) ≡ None → (if zero then zeroed_fields fields values else masked_fields fields names 0 values) ≡ values
sequence-kept fields names path values true kept e = cc e
sequence-kept fields names path values false kept e = kept e

module _ {A : Type 0} (find : (path : List ℕ) → A → Option (List ℕ)) (mask : A → A) (kept : (path : List ℕ) (value : A) → find path value ≡ None → mask value ≡ value) where
  items-kept : (path : List ℕ) (index : ℕ) (values : List A) → unencrypted_items find path index values ≡ None → map mask values ≡ values
  items-kept path index [] e = refl
  items-kept path index (value ∷ values) e =
      let none = both-none (find (element_path path index) value) (unencrypted_items find path (index + 1) values) e in
      (λ i. kept (element_path path index) value none.0 i ∷ items-kept path (index + 1) values none.1 i)

  option-kept : (path : List ℕ) (value : Option A) → option_and_then (find path) value ≡ None → option_map mask value ≡ value
  option-kept path None e = refl
  option-kept path (Some value) e = ap Some (kept path value e)

mutual
  term-kept : (term : Term) (names : Names) (path : List ℕ) (value : Value term) → unencrypted term names path value ≡ None → masked term names value ≡ value
  term-kept (Sequence fields) names path values e = sequence-kept fields names path values (is_encrypted_data names && begin_with_zero fields values) (fields-kept fields names path 0 values) e
  term-kept (SequenceOf empty term) names path values e = items-kept (unencrypted term names) (masked term names) (term-kept term names) path 0 values e
  term-kept (Tagged index term) names path value e = term-kept term names path value e
  term-kept (Application number term) names path value e = term-kept term names path value e
  term-kept other names path value e = refl

  fields-kept : (fields : Fields) (names : Names) (path : List ℕ) (index : ℕ) (values : Values fields) → unencrypted_fields fields names path index values ≡ None → masked_fields fields names index values ≡ values
  fields-kept End names path index values e = refl
  fields-kept (Required term fields) names path index values e =
      let none = both-none (unencrypted term (field_at names index).inside (field_path path (field_at names index).name) values.0) (unencrypted_fields fields names path (index + 1) values.1) e in
      (λ i. (term-kept term (field_at names index).inside (field_path path (field_at names index).name) values.0 none.0 i, fields-kept fields names path (index + 1) values.1 none.1 i))
  fields-kept (Optional term fields) names path index values e =
      let none = both-none (option_and_then (unencrypted term (field_at names index).inside (field_path path (field_at names index).name)) values.0) (unencrypted_fields fields names path (index + 1) values.1) e in
      (λ i. (
        option-kept (unencrypted term (field_at names index).inside) (masked term (field_at names index).inside) (term-kept term (field_at names index).inside) (field_path path (field_at names index).name) values.0 none.0 i,
        fields-kept fields names path (index + 1) values.1 none.1 i,
      ))

-- ---- messages
-- by a kind and a value
abbrev OfKind : Type 0
OfKind = (kind : Kind) × Value (kind_term kind)

path_of : OfKind → Option (List ℕ)
path_of v = unencrypted (kind_term v.0) (names_of_kind v.0) (kind_name v.0) v.1

text_of : OfKind → List ℕ
text_of v = print (json_tokens (object (member (kind_name v.0) (json (kind_term v.0) (names_of_kind v.0) v.1) no_members)))

path-masked : (m : Message) → unencrypted_in m ≡ path_of (masked_in m)
unfolding path_of
path-masked m = sym (term-same (kind_term (kind_of m)) (names_of_kind (kind_of m)) (kind_name (kind_of m)) (message_value m))

text-masked : (m : Message) → unencrypted_in m ≡ None → message_text m ≡ text_of (masked_in m)
unfolding text_of
text-masked m none = sym (ap (λ value. text_of (kind_of m, value)) (term-kept (kind_term (kind_of m)) (names_of_kind (kind_of m)) (kind_name (kind_of m)) (message_value m) none))

same-path : (m other : Message) → masked_in m ≡ masked_in other → unencrypted_in m ≡ unencrypted_in other
same-path m other alike = path-masked m ∙ ap path_of alike ∙ sym (path-masked other)

same-text : (m other : Message) → masked_in m ≡ masked_in other → unencrypted_in m ≡ None → message_text m ≡ message_text other
same-text m other alike none = text-masked m none ∙ ap text_of alike ∙ sym (text-masked other (sym (same-path m other alike) ∙ none))

pub unencrypted_changes_nothing : UnencryptedChangesNothing
unencrypted_changes_nothing = record { paths = same-path; texts = same-text }
