-- Records whose values are shown, and whose numbers are small, fit JSON; from any origin.
use Rattle.std.proofs.Common.{◌≡◌, ℕ, ◌*◌, ◌^◌, ◌<◌, not, Bool, true, false, cond, List, [], ◌∷◌, ◌++◌, length, Option, Some, None, IfSome, codes, append-nil, append_assoc, refl, sym, ◌∙◌, ap}
use Rattle.std.proofs.lemmas.Bool.{and_parts, and_from}
use Rattle.std.proofs.lemmas.Grind.{flat_map-append}
use Rattle.std.specs.List.{AllByRecursion, flat_map, list_all}
use Rattle.std.specs.Str.{bytes_eq}
use Rattle.krb_record.specs.Values.{Value, Absent, NoTicket, Number, Named, Numbers, ErrorCode, Status, Reason, NoReason, String, Quoted, FileName, Word, Hex, Flags, TicketFlags, Encrypted, Principal, Address, Digest, YesNo, Offset, RefusedTicket, Flow, Layers, Span, Called, Host, Field, LastLine, Part, Printed, printed, with_inside, with_last, with_origin}
use Rattle.krb_record.specs.Labels.{file_field, with_file}
use Rattle.krb_record.specs.declared.form.Form.TheVariants as forms
use Rattle.krb_text_laws.proofs.EachForm.{AreShown, IsShown}
use Rattle.krb_laws.specs.JsonLaws.{FitsJson, IsSmall, PartFits, PrintsJson, ValueFits, are_different, inside_name, is_plain, member_names}
use Rattle.krb_laws.proofs.JsonRecords.{FitsObject, ValuesFit, names_are_plain, object_is_json}
use Rattle.krb_laws.proofs.JsonStrings.{all-append}

-- ---- the numbers of values
abbrev pub IsCounted : Value → Type 0
IsCounted (Number n) = IsSmall n
IsCounted (Named registry n) = IsSmall n
IsCounted (Numbers registry ns) = AllByRecursion IsSmall ns
IsCounted (ErrorCode code) = IsSmall code
IsCounted (Reason n name) = n < 10 ^ 64
IsCounted (Flags registry bits) = 8 * length bits.1 < 10 ^ 64
IsCounted (Encrypted etype kvno size) = IsSmall etype × IfSome kvno IsSmall × (size < 10 ^ 64)
IsCounted (Principal name_type components realm) = IsSmall name_type
IsCounted (Address addr_type octets) = IsSmall addr_type
IsCounted (Digest cksumtype size) = IsSmall cksumtype × (size < 10 ^ 64)
IsCounted (Offset seconds microseconds) = IsSmall seconds × IsSmall microseconds
IsCounted (Span microseconds) = IsSmall microseconds
IsCounted (Called n name) = n < 10 ^ 64
IsCounted (RefusedTicket refusal) = refusal.place < 10 ^ 64
IsCounted (Flow transport source target) = (source.port < 10 ^ 64) × (target.port < 10 ^ 64)
IsCounted value = Unit {0}

fits : (value : Value) → IsShown value → IsCounted value → ValueFits value
fits Absent s h = tt
fits NoTicket s h = tt
fits (Status number) s h = tt
fits (Reason n name) s h = (h, s)
fits NoReason s h = tt
fits (String octets) s h = tt
fits (Quoted octets) s h = tt
fits (FileName octets) s h = tt
fits (Word text) s h = s
fits (Hex octets) s h = tt
fits (TicketFlags flags) s h = tt
fits (YesNo holds) s h = tt
fits (Flow transport source target) s h = ((s.0, h.0), (s.1, h.1))
fits (Layers layers) s h = tt
fits (Called n None) s h = (h, tt)
fits (Called n (Some name)) s h = (h, s)
fits (Host address) s h = s
fits other s h = h

abbrev pub AreCounted : List Field → Type 0
AreCounted fields = AllByRecursion (λ (f : Field). IsCounted f.value) fields

pub fields_fit : (fields : List Field) → AreShown fields → AreCounted fields → ValuesFit fields
fields_fit [] s h = tt
fields_fit (first ∷ rest) s h = (fits first.value s.0 h.0, fields_fit rest s.1 h.1)

-- ---- some of several names
abbrev pub picked : {A : Type 0} → List Bool → List A → List A
picked [] names = names
picked (keeps ∷ others) [] = []
picked (keeps ∷ others) (name ∷ names) = cond keeps (name ∷ picked others names) (picked others names)

all-picked : {A : Type 0} (test : A → Bool) (keeps : List Bool) (names : List A) → list_all test names ≡ true → list_all test (picked keeps names) ≡ true
all-picked test [] names e = e
all-picked test (keep ∷ keeps) [] e = refl
all-picked test (true ∷ keeps) (name ∷ names) e =
    let parts = and_parts (test name) (list_all test names) e in
    and_from (test name) (list_all test (picked keeps names)) parts.0 (all-picked test keeps names parts.1)
all-picked test (false ∷ keeps) (name ∷ names) e = all-picked test keeps names (and_parts (test name) (list_all test names) e).1

different-picked : (keeps : List Bool) (names : List (List ℕ)) → are_different names ≡ true → are_different (picked keeps names) ≡ true
different-picked [] names e = e
different-picked (keep ∷ keeps) [] e = refl
different-picked (true ∷ keeps) (name ∷ names) e =
    let parts = and_parts (list_all (λ other. not (bytes_eq name other)) names) (are_different names) e in
    and_from (list_all (λ other. not (bytes_eq name other)) (picked keeps names)) (are_different (picked keeps names)) (all-picked (λ other. not (bytes_eq name other)) keeps names parts.0) (different-picked keeps names parts.1)
different-picked (false ∷ keeps) (name ∷ names) e = different-picked keeps names (and_parts (list_all (λ other. not (bytes_eq name other)) names) (are_different names) e).1

-- ---- origins
abbrev pub names_of : List Field → List (List ℕ)
names_of fields = flat_map (λ (f : Field). member_names f.name) fields

-- the names that an origin may have, and those of a record's members
abbrev pub origin_names : List (List ℕ)
origin_names = flat_map member_names (codes "line" ∷ codes "via" ∷ codes "packet" ∷ codes "t" ∷ codes "flow" ∷ [])

-- a field has three names at most
abbrev pub thrice : List Bool → List Bool
thrice keeps = flat_map (λ keep. keep ∷ keep ∷ keep ∷ []) keeps

pub record IsOrigin (origin : List Field) : Type 0 where
  pub plain : names_are_plain origin ≡ true
  pub keeps : List Bool
  pub among : (rest : List (List ℕ)) → names_of origin ++ rest ≡ picked (thrice keeps) (origin_names ++ rest)
  pub values : ValuesFit origin

-- the names that what is last may have, and at the end that of the record's file
abbrev pub last_names : List (List ℕ)
last_names = flat_map member_names (codes "t_us" ∷ codes "again" ∷ codes "of" ∷ codes "after" ∷ codes "waited" ∷ codes "file" ∷ [])

pub record IsLast (last : List Field) : Type 0 where
  pub plain : names_are_plain last ≡ true
  pub fewer : (names : List (List ℕ)) → are_different (names ++ last_names) ≡ true → are_different (names ++ (names_of last ++ member_names (codes "file"))) ≡ true
  pub values : ValuesFit last

all-front : {A : Type 0} (test : A → Bool) (xs ys : List A) → list_all test (xs ++ ys) ≡ true → list_all test (xs ++ []) ≡ true
all-front test [] ys e = refl
all-front test (x ∷ xs) ys e =
    let parts = and_parts (test x) (list_all test (xs ++ ys)) e in
    and_from (test x) (list_all test (xs ++ [])) parts.0 (all-front test xs ys parts.1)

different-front : (xs ys : List (List ℕ)) → are_different (xs ++ ys) ≡ true → are_different (xs ++ []) ≡ true
different-front [] ys e = refl
different-front (x ∷ xs) ys e =
    let parts = and_parts (list_all (λ other. not (bytes_eq x other)) (xs ++ ys)) (are_different (xs ++ ys)) e in
    and_from (list_all (λ other. not (bytes_eq x other)) (xs ++ [])) (are_different (xs ++ [])) (all-front (λ other. not (bytes_eq x other)) xs ys parts.0) (different-front xs ys parts.1)

-- some of the last names
all-back : {A : Type 0} (test : A → Bool) (keeps : List Bool) (xs ys : List A) → list_all test (xs ++ ys) ≡ true → list_all test (xs ++ picked keeps ys) ≡ true
all-back test keeps [] ys e = all-picked test keeps ys e
all-back test keeps (x ∷ xs) ys e =
    let parts = and_parts (test x) (list_all test (xs ++ ys)) e in
    and_from (test x) (list_all test (xs ++ picked keeps ys)) parts.0 (all-back test keeps xs ys parts.1)

pub different-back : (keeps : List Bool) (xs ys : List (List ℕ)) → are_different (xs ++ ys) ≡ true → are_different (xs ++ picked keeps ys) ≡ true
different-back keeps [] ys e = different-picked keeps ys e
different-back keeps (x ∷ xs) ys e =
    let parts = and_parts (list_all (λ other. not (bytes_eq x other)) (xs ++ ys)) (are_different (xs ++ ys)) e in
    and_from (list_all (λ other. not (bytes_eq x other)) (xs ++ picked keeps ys)) (are_different (xs ++ picked keeps ys)) (all-back (λ other. not (bytes_eq x other)) keeps xs ys parts.0) (different-back keeps xs ys parts.1)

pub no_last : IsLast []
no_last = record { plain = refl; fewer = λ names e. different-back (thrice (false ∷ false ∷ false ∷ false ∷ false ∷ true ∷ [])) names last_names e; values = tt }

-- a record that fits from each origin, and with what may be last
pub record FitsFrom (kind : List ℕ) (fields : List Field) (inside : Option (List Part)) : Type 0 where
  pub kind_plain : is_plain kind ≡ true
  pub plain : names_are_plain fields ≡ true
  pub apart : are_different ((codes "kind" ∷ (origin_names ++ (names_of fields ++ inside_name inside))) ++ last_names) ≡ true
  pub values : ValuesFit fields
  pub parts : IfSome inside (AllByRecursion PartFits)

all-both : {A : Type 0} (test : A → Bool) (xs ys : List A) → list_all test xs ≡ true → list_all test ys ≡ true → list_all test (xs ++ ys) ≡ true
all-both test [] ys e f = f
all-both test (x ∷ xs) ys e f =
    let parts = and_parts (test x) (list_all test xs) e in
    and_from (test x) (list_all test (xs ++ ys)) parts.0 (all-both test xs ys parts.1 f)

-- the names of an origin and of fields are some of all names
both_names : (origin fields : List Field) (others : List (List ℕ)) (o : IsOrigin origin) → names_of (origin ++ fields) ++ others ≡ picked (thrice o.keeps) (origin_names ++ (names_of fields ++ others))
both_names origin fields others o =
    ap (λ names. names ++ others) (flat_map-append (λ (f : Field). member_names f.name) origin fields)
    ∙ append_assoc (names_of origin) (names_of fields) others
    ∙ o.among (names_of fields ++ others)

the_four : (a b c d : List (List ℕ)) → a ++ (b ++ (c ++ d)) ≡ a ++ (b ++ c) ++ d
the_four a b c d = simp append_assoc refl

pub from_origin : (origin : List Field) (kind : List ℕ) (fields : List Field) (inside : Option (List Part)) (last : List Field) → IsOrigin origin → IsLast last → FitsFrom kind fields inside → FitsJson (with_last last (with_origin origin (with_inside inside (printed kind fields))))
from_origin origin kind fields inside last o l r = record {
  kind = r.kind_plain;
  names = all-both (λ (f : Field). is_plain f.name) origin fields o.plain r.plain;
  apart =
      ap (λ names. are_different (codes "kind" ∷ names)) (both_names origin fields (inside_name inside ++ (names_of last ++ member_names (codes "file"))) o)
      ∙ different-picked (true ∷ thrice o.keeps) (codes "kind" ∷ (origin_names ++ (names_of fields ++ (inside_name inside ++ (names_of last ++ member_names (codes "file"))))))
      (ap (λ names. are_different (codes "kind" ∷ names)) (the_four origin_names (names_of fields) (inside_name inside) (names_of last ++ member_names (codes "file"))) ∙ l.fewer (codes "kind" ∷ (origin_names ++ (names_of fields ++ inside_name inside))) r.apart);
  values = all-append (λ (f : Field). ValueFits f.value) origin fields o.values r.values;
  inside = r.parts;
  last_names = l.plain;
  last_values = l.values;
}

-- what is told aside is no matter
pub aside_too : (aside : Option LastLine) (r : Printed) → FitsJson r → FitsJson (record r { aside = aside })
aside_too aside r h = record { kind = h.kind; names = h.names; apart = h.apart; values = h.values; inside = h.inside; last_names = h.last_names; last_values = h.last_values }

pub no_origin : IsOrigin []
no_origin = record { plain = refl; keeps = false ∷ false ∷ false ∷ false ∷ false ∷ []; among = λ rest. refl; values = tt }

-- ---- records with the names of their files
-- without the last names the others differ as well
by_itself : (names last : List (List ℕ)) → are_different (names ++ last) ≡ true → are_different names ≡ true
by_itself names last e = ap are_different (sym (append-nil names)) ∙ different-front names last e

before_file : (a b c d : List (List ℕ)) → (a ++ (b ++ c)) ++ d ≡ a ++ (b ++ (c ++ d))
before_file a b c d = simp append_assoc refl

unlabelled : (r : Printed) → FitsJson r → FitsObject r
unlabelled r h = record {
  kind = h.kind;
  names = h.names;
  apart =
      by_itself (codes "kind" ∷ (names_of (r.origin ++ r.fields) ++ (inside_name r.inside ++ names_of r.last))) (member_names (codes "file"))
      (ap (λ names. are_different (codes "kind" ∷ names)) (before_file (names_of (r.origin ++ r.fields)) (inside_name r.inside) (names_of r.last) (member_names (codes "file"))) ∙ h.apart);
  values = h.values;
  inside = h.inside;
  last_names = h.last_names;
  last_values = h.last_values;
}

labelled : (name : List ℕ) (r : Printed) → FitsJson r → FitsObject (with_file forms.Json name r)
labelled name r h = record {
  kind = h.kind;
  names = h.names;
  apart = ap (λ last. are_different (codes "kind" ∷ (names_of (r.origin ++ r.fields) ++ (inside_name r.inside ++ last)))) (flat_map-append (λ (f : Field). member_names f.name) r.last (file_field name ∷ [])) ∙ h.apart;
  values = h.values;
  inside = h.inside;
  last_names = all-both (λ (f : Field). is_plain f.name) r.last (file_field name ∷ []) h.last_names refl;
  last_values = all-append (λ (f : Field). ValueFits f.value) r.last (file_field name ∷ []) h.last_values (tt, tt);
}

pub record_is_json : (r : Printed) → FitsJson r → PrintsJson r
record_is_json r h None = object_is_json r (unlabelled r h)
record_is_json r h (Some name) = object_is_json (with_file forms.Json name r) (labelled name r h)
