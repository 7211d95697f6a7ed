-- The case of hexadecimal digits changes nothing of what a line spells, nor of its fault.
use Rattle.std.proofs.Common.{◌≡◌, ℕ, pos, ◌+◌, ◌-◌, ◌*◌, Bool, List, [], ◌∷◌, length, map, Option, Some, None, Result, Ok, Err, refl, sym, ◌∙◌, ap}
use Rattle.std.specs.Prelude.{◌&&◌, not, nat_lt, codes}
use Rattle.std.specs.List.{list_any}
use Rattle.hex.specs.Hex.{hex_digit_value}
use Rattle.json.specs.Json.{Json, no_items, item, Members, no_members, member}
use Rattle.json.specs.Find.{as_array, as_object, as_str, get_member}
use Rattle.json.specs.Strict.{keys}
use Rattle.krb_der.specs.declared.profile.Profile.{Profile}
use Rattle.krb_msg.specs.Term.{Term, Fields, Integer, Text, Octets, Time, Bits, Sequence, SequenceOf, Tagged, Application, End, Required, Optional, der}
use Rattle.krb_msg.specs.Views.{kind_name, kind_term_in}
use Rattle.krb_judge.specs.FieldNames.{field_at, names_of_kind}
use Rattle.krb_judge.specs.Paths.{field_path, element_path}
use Rattle.krb_judge.specs.declared.locating.names.Names.{Names}
use Rattle.krb_json.specs.declared.wrong.Wrong.{Wrong}
use Rattle.krb_json.specs.declared.wrong.Wrong.TheVariants.{Backslash, Empty, HighOctet, Missing, NoSuchField, NotAnArray, NotAnObject, NotAString, Twice}
use Rattle.krb_json.specs.Faults.{Fault, ◌>>=◌}
use Rattle.krb_json.specs.Lines.{in_line, line_spells, named_spells, value_of_line, value_spells, within}
use Rattle.krb_json.specs.OtherCase.{AreAlike, AreAlikeAt, BitsInOtherCase, FieldsInOtherCase, HaveMembers, InOtherCase, ItemsAreAlike, MeanTheSame, MessageInOtherCase}
use Rattle.krb_json.specs.Spelled.{bits_from, bits_spelled, checked_members, count_of, fields_spelled, if_there, integer_spelled, is_among, is_bits_field, is_empty, is_field, items_spelled, members_spelled, octets_spelled, optional, or_fault, required, spelled, text_spelled, time_spelled, unless}
use Rattle.krb_json.specs.Spelling.{shown, unshown}
use Rattle.krb_json.proofs.Digits.{case-same}
use Rattle.krb_json.proofs.KindTexts.{kind-back}

-- what is read of related values is the same
abbrev Same : {A B : Type 0} → (A → A → Type 0) → (A → B) → Type 0
Same {A} related read = (a b : A) → related a b → read a ≡ read b

found-same : {A B : Type 0} (related : A → A → Type 0) (path : List ℕ) (wrong : Wrong) (next : A → Result B Fault) (found other : Option A) → Same related next → AreAlike related found other → (or_fault path wrong found >>= next) ≡ (or_fault path wrong other >>= next)
found-same related path wrong next None None same a = refl
found-same related path wrong next (Some x) (Some y) same a = same x y a
found-same related path wrong next other another same a = absurd a

if-there-same : {A : Type 0} (related : Json → Json → Type 0) (read : Json → Result A Fault) (found other : Option Json) → Same related read → AreAlike related found other → if_there read found ≡ if_there read other
if-there-same related read None None same a = refl
if-there-same related read (Some j) (Some k) same a = ap (λ r. r >>= λ value. Ok (Some value)) (same j k a)
if-there-same related read other another same a = absurd a

-- ---- strings
text-same : (greatest : ℕ) (path : List ℕ) → Same (MeanTheSame unshown) (text_spelled greatest path)
text-same greatest path j k a =
    found-same (λ text other. unshown text ≡ unshown other) path NotAString _ (as_str j) (as_str k) (λ text other e. ap (λ meant. or_fault path Backslash meant >>= λ octets. unless (list_any (λ octet. nat_lt greatest octet) octets) path HighOctet (Ok octets)) e) a

octets-same : (path : List ℕ) → Same (MeanTheSame (map hex_digit_value)) (octets_spelled path)
octets-same path j k a = found-same (λ text other. map hex_digit_value text ≡ map hex_digit_value other) path NotAString _ (as_str j) (as_str k) (case-same path) a

-- ---- objects
checked_names : (is_allowed : List ℕ → Bool) → (path : List ℕ) → (before names : List (List ℕ)) → Result (Unit {0}) Fault
checked_names is_allowed path before [] = Ok tt
checked_names is_allowed path before (name ∷ names) =
    unless (not (is_allowed name)) (field_path path (shown name)) NoSuchField
    (unless (is_among name before) (field_path path (shown name)) Twice
    (checked_names is_allowed path (name ∷ before) names))

by-names : (is_allowed : List ℕ → Bool) (path : List ℕ) (before : List (List ℕ)) (members : Members) → checked_members is_allowed path before members ≡ checked_names is_allowed path before (keys members)
unfolding checked_names
by-names is_allowed path before no_members = refl
by-names is_allowed path before (member name j members) =
    ap (λ r. unless (not (is_allowed name)) (field_path path (shown name)) NoSuchField (unless (is_among name before) (field_path path (shown name)) Twice r)) (by-names is_allowed path (name ∷ before) members)

abbrev checked : (is_allowed : List ℕ → Bool) → (path : List ℕ) → Members → Result Members Fault
checked is_allowed path members = checked_members is_allowed path [] members >>= λ _. Ok members

object-same : {A : Type 0} (is_allowed : List ℕ → Bool) (path : List ℕ) (related : Members → Members → Type 0) (next : Members → Result A Fault) → Same related next → Same (HaveMembers related) (λ j. members_spelled is_allowed path j >>= next)
object-same {A} is_allowed path related next same j k = by (as_object j) (as_object k)
  where
    then : (given others : Members) (c : Result (Unit {0}) Fault) → related given others → ((c >>= λ _. Ok given) >>= next) ≡ ((c >>= λ _. Ok others) >>= next)
    then given others (Ok tt) r = same given others r
    then given others (Err fault) r = refl

    by : (found other : Option Members) → AreAlike (λ given others. (keys given ≡ keys others) × related given others) found other → ((or_fault path NotAnObject found >>= checked is_allowed path) >>= next) ≡ ((or_fault path NotAnObject other >>= checked is_allowed path) >>= next)
    by None None a = refl
    by (Some given) (Some others) a =
        ap (λ c. (c >>= λ _. Ok given) >>= next) (by-names is_allowed path [] given ∙ ap (checked_names is_allowed path []) a.0 ∙ sym (by-names is_allowed path [] others))
        ∙ then given others (checked_members is_allowed path [] others) a.1
    by other another a = absurd a

required-same : {A : Type 0} (related : Json → Json → Type 0) (read : List ℕ → Json → Result A Fault) (path name : List ℕ) → ((p : List ℕ) → Same related (read p)) → Same (AreAlikeAt name related) (required read path name)
required-same related read path name same given others a =
    found-same related (field_path path name) Missing (read (field_path path name)) (get_member name given) (get_member name others) (same (field_path path name)) a

-- the bits of octets and a length
abbrev with_length : (least : ℕ) → (path octets : List ℕ) → Option Json → Result (ℕ × List ℕ) Fault
with_length least path octets found =
    or_fault (field_path path (codes "length")) Missing found >>= integer_spelled (pos (8 * length octets - 7)) (pos (8 * length octets)) (field_path path (codes "length")) >>= λ count.
    bits_from least path octets (count_of count)

bits-same : (least : ℕ) (path : List ℕ) → Same (HaveMembers BitsInOtherCase) (bits_spelled least path)
bits-same least path = object-same is_bits_field path BitsInOtherCase _ both
  where
    both : Same BitsInOtherCase (λ members. required octets_spelled path (codes "value") members >>= λ octets. with_length least path octets (get_member (codes "length") members))
    both given others a =
        ap (λ r. r >>= λ octets. with_length least path octets (get_member (codes "length") given)) (required-same (MeanTheSame (map hex_digit_value)) octets_spelled path (codes "value") octets-same given others a.0)
        ∙ ap (λ found. required octets_spelled path (codes "value") others >>= λ octets. with_length least path octets found) a.1

-- ---- arrays
items-same : {A : Type 0} (related : Json → Json → Type 0) (read : List ℕ → Json → Result A Fault) (path : List ℕ) (index : ℕ) → ((p : List ℕ) → Same related (read p)) → Same (ItemsAreAlike related) (items_spelled read path index)
items-same related read path index same no_items no_items a = refl
items-same related read path index same no_items (item k others) a = absurd a
items-same related read path index same (item j items) no_items a = absurd a
items-same related read path index same (item j items) (item k others) a =
    ap (λ r. r >>= λ first. items_spelled read path (index + 1) items >>= λ rest. Ok (first ∷ rest)) (same (element_path path index) j k a.0)
    ∙ ap (λ r. read (element_path path index) k >>= λ first. r >>= λ rest. Ok (first ∷ rest)) (items-same related read path (index + 1) same items others a.1)

empty-same : (related : Json → Json → Type 0) → Same (ItemsAreAlike related) is_empty
empty-same related no_items no_items a = refl
empty-same related no_items (item k others) a = absurd a
empty-same related (item j items) no_items a = absurd a
empty-same related (item j items) (item k others) a = refl

array-same : {A : Type 0} (empty : Bool) (related : Json → Json → Type 0) (read : List ℕ → Json → Result A Fault) (path : List ℕ) → ((p : List ℕ) → Same related (read p)) → Same (ItemsAreAlike related) (λ items. unless (not empty && is_empty items) path Empty (items_spelled read path 0 items))
array-same empty related read path same items others a =
    ap (λ b. unless (not empty && b) path Empty (items_spelled read path 0 items)) (empty-same related items others a)
    ∙ ap (unless (not empty && is_empty others) path Empty) (items-same related read path 0 same items others a)

-- ---- terms
mutual
  term-same : (term : Term) (names : Names) (path : List ℕ) → Same (InOtherCase term names) (spelled term names path)
  term-same (Integer low high) names path j k a = ap (integer_spelled low high path) a
  term-same (Text greatest) names path j k a = text-same greatest path j k a
  term-same Octets names path j k a = octets-same path j k a
  term-same Time names path j k a = ap (time_spelled path) a
  term-same (Bits least) names path j k a = bits-same least path j k a
  term-same (Sequence fields) names path j k a = object-same (is_field names) path (FieldsInOtherCase fields names 0) (fields_spelled fields names path 0) (fields-same fields names path 0) j k a
  term-same (SequenceOf empty term) names path j k a =
      found-same (ItemsAreAlike (InOtherCase term names)) path NotAnArray _ (as_array j) (as_array k) (array-same empty (InOtherCase term names) (spelled term names) path (term-same term names)) a
  term-same (Tagged index term) names path j k a = term-same term names path j k a
  term-same (Application tag term) names path j k a = term-same term names path j k a

  fields-same : (fields : Fields) (names : Names) (path : List ℕ) (index : ℕ) → Same (FieldsInOtherCase fields names index) (fields_spelled fields names path index)
  fields-same End names path index given others a = refl
  fields-same (Required term fields) names path index given others a =
      let name : List ℕ = (field_at names index).name in
      let inside : Names = (field_at names index).inside in
      ap (λ r. r >>= λ value. fields_spelled fields names path (index + 1) given >>= λ rest. Ok (value, rest)) (required-same (InOtherCase term inside) (spelled term inside) path name (term-same term inside) given others a.0)
      ∙ ap (λ r. required (spelled term inside) path name others >>= λ value. r >>= λ rest. Ok (value, rest)) (fields-same fields names path (index + 1) given others a.1)
  fields-same (Optional term fields) names path index given others a =
      let name : List ℕ = (field_at names index).name in
      let inside : Names = (field_at names index).inside in
      ap (λ r. r >>= λ value. fields_spelled fields names path (index + 1) given >>= λ rest. Ok (value, rest)) (if-there-same (InOtherCase term inside) (spelled term inside (field_path path name)) (get_member name given) (get_member name others) (term-same term inside (field_path path name)) a.0)
      ∙ ap (λ r. optional (spelled term inside) path name others >>= λ value. r >>= λ rest. Ok (value, rest)) (fields-same fields names path (index + 1) given others a.1)

-- ---- lines
value-same : (profile : Profile) (limit : ℕ) (j k : Json) → MessageInOtherCase profile j k → value_spells profile limit (Some j) ≡ value_spells profile limit (Some k)
value-same profile limit j k (kind, value, other, is, also, a) =
    ap (λ x. value_spells profile limit (Some x)) is
    ∙ ap (named_spells profile limit value) (kind-back kind)
    ∙ ap (λ r. in_line (r >>= λ v. within limit kind (der (kind_term_in profile kind) v))) (term-same (kind_term_in profile kind) (names_of_kind kind) (kind_name kind) value other a)
    ∙ ap (named_spells profile limit other) (sym (kind-back kind))
    ∙ ap (λ x. value_spells profile limit (Some x)) (sym also)

pub line-same : (profile : Profile) (limit : ℕ) (line other : List ℕ) (j k : Json) → value_of_line line ≡ Some j → value_of_line other ≡ Some k → MessageInOtherCase profile j k → line_spells profile limit line ≡ line_spells profile limit other
line-same profile limit line other j k is also a = ap (value_spells profile limit) is ∙ value-same profile limit j k a ∙ ap (value_spells profile limit) (sym also)
