-- The notes on values of terms, part by part.
use Rattle.std.proofs.Common.{◌≡◌, Bool, false, ◌||◌, Option, None, Some, List, [], ◌∷◌, map, refl, sym, ap, ◌∙◌}
use Rattle.std.proofs.lemmas.List.{map-id}
use Rattle.std.specs.List.{list_any}
use Rattle.std.specs.Option.{option_map}
use Rattle.krb_msg.specs.Notes.{Note, HighOctet, FewFlags, Negative, EmptyList, list_has, is_list_that_has, has, option_any, notes_by, either, empty_list_note}
use Rattle.krb_msg.specs.inner.Notes.{HasNoNotes, is_list}
use Rattle.krb_msg.specs.Term.{Term, SequenceOf, Tagged, Value}

-- The notes by two tests are the same if the tests are.
pub same_notes : {test other : Note → Bool} → ((note : Note) → test note ≡ other note) → notes_by test ≡ notes_by other
same_notes same = rw (same HighOctet, same FewFlags, same Negative, same EmptyList) refl

-- The notes on a value are those on another one if they are the same.
pub same_value : (term : Term) {value other : Value term} → other ≡ value → notes_by (λ note. has note term value) ≡ notes_by (λ note. has note term other)
same_value term same = ap (λ v. notes_by (λ note. has note term v)) (sym same)

-- ---- a list that is empty
only_empty : {A : Type 0} (values : List A) → empty_list_note (list_has EmptyList values) ≡ notes_by (λ note. list_has note values)
only_empty [] = refl
only_empty (value ∷ values) = refl

list_notes : (term : Term) (value : Value term) → empty_list_note (is_list_that_has EmptyList term value) ≡ notes_by (λ note. is_list_that_has note term value)
list_notes (SequenceOf empty term) value = only_empty value
list_notes (Tagged index term) value = list_notes term value
list_notes other value = refl

-- the notes on a value of a field that may be left out
pub optional-has : (term : Term) (value : Value term) → either (empty_list_note (is_list_that_has EmptyList term value)) (notes_by (λ note. has note term value)) ≡ notes_by (λ note. is_list_that_has note term value || has note term value)
optional-has term value = ap (λ notes. either notes (notes_by (λ note. has note term value))) (list_notes term value)

-- ---- what is no list
no_list-has : (note : Note) (term : Term) (value : Value term) → is_list term ≡ false → is_list_that_has note term value ≡ false
no_list-has note (SequenceOf empty term) value no_list = absurd cc
no_list-has note (Tagged index term) value no_list = no_list-has note term value no_list
no_list-has note other value no_list = refl

-- the notes on a value of a field that may be left out
pub optional_other-has : (term : Term) (value : Value term) → is_list term ≡ false → notes_by (λ note. has note term value) ≡ notes_by (λ note. is_list_that_has note term value || has note term value)
optional_other-has term value no_list =
    let no = λ (note : Note). no_list-has note term value no_list in
    rw (no HighOctet, no EmptyList) refl

-- none hold in a field that may be left out, if none can
pub none-have : (term : Term) → is_list term ≡ false → HasNoNotes term → (value : Option (Value term)) → notes_by (λ note. false) ≡ notes_by (λ note. option_any (λ value. is_list_that_has note term value || has note term value) value)
none-have term no_list none None = refl
none-have term no_list none (Some value) =
    let has_none = λ (note : Note). none note value in
    rw (has_none HighOctet, has_none FewFlags, has_none Negative, has_none EmptyList) refl ∙ optional_other-has term value no_list

-- the notes on a field that may be left out, of which a value is itself
pub same_option : (term : Term) (value : Option (Value term)) → notes_by (λ note. option_any (λ value. is_list_that_has note term value || has note term value) (option_map (λ v. v) value)) ≡ notes_by (λ note. option_any (λ value. is_list_that_has note term value || has note term value) value)
same_option term None = refl
same_option term (Some value) = refl

-- the notes on a list of which an item is itself
pub same_list : (term : Term) (values : List (Value term)) → notes_by (λ note. list_any (has note term) (map (λ v. v) values)) ≡ notes_by (λ note. list_any (has note term) values)
same_list term values = ap (λ vs. notes_by (λ note. list_any (has note term) vs)) (map-id values)

-- ---- the items of a list, one after another
pub no_items-have : (term : Term) → HasNoNotes term → (values : List (Value term)) (note : Note) → list_any (has note term) values ≡ false
no_items-have term none [] note = refl
no_items-have term none (value ∷ values) note = rw (none note value) (no_items-have term none values note)

pub any-map : {A B : Type 0} (test : B → Bool) (f : A → B) (values : List A) → list_any test (map f values) ≡ list_any (λ value. test (f value)) values
any-map test f [] = refl
any-map test f (value ∷ values) = ap (λ b. test (f value) || b) (any-map test f values)
