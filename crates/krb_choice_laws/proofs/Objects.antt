-- The members of a field in the object of its record are those of the field alone, and its cells are the first of its name.
use Rattle.std.proofs.Common.{◌≡◌, ◌∙◌, ℕ, zero, suc, ◌&&◌, not, ◌⊎◌, inl, inr, Bool, true, false, cond, Option, Some, None, List, [], ◌∷◌, ◌++◌, map, append-nil, sym, refl, ap, ap₂, subst, arith, codes}
use Rattle.std.proofs.lemmas.Bool.{and_from, and_parts}
use Rattle.std.proofs.lemmas.Grind.{flat_map-append}
use Rattle.std.proofs.lemmas.List.{map-append}
use Rattle.std.proofs.lemmas.List.Folds.{flat_map-map, list_all-append}
use Rattle.std.proofs.lemmas.Slice.Eq.{bytes_eq-Decides}
use Rattle.std.specs.List.{AllByRecursion, Contains, flat_map, list_all}
use Rattle.std.specs.Prelude.{bytes_eq}
use Rattle.json.specs.Json.{Json, null, string}
use Rattle.json.specs.Value.{items_of}
use Rattle.std.specs.Option.{option_map}
use Rattle.krb_record.specs.Forms.{cell, list_cell}
use Rattle.krb_record.specs.Values.{Called, ErrorCode, Field, Named, NoReason, Numbers, Part, Printed, Reason, Status, Value}
use Rattle.krb_record.specs.declared.path.Path.{Path}
use Rattle.krb_record.specs.declared.path.Path.TheVariants as paths
use Rattle.krb_choice.specs.Choices.{ShownField, ShownPart, cell_of, inside_cell, shown_field, shown_part}
use Rattle.krb_laws.specs.Json.{field_members, inside_members, json_of, json_of_value, list_of, members_of, names_of_value, part_json}
use Rattle.krb_laws.specs.JsonLaws.{are_different, inside_name, member_names}
use Rattle.krb_choice_laws.specs.Cells.{InsideSaysObjects, IsKind, KindsSayObjects, kinds_in, kinds_said, CellsSayObjects, CellsSayParts, NamesDiffer, PartNamesDiffer, names_beside, member_at, member_in, member_of, member_within, names_of, object_with, said_of, unless_null}
use Rattle.krb_choice_laws.proofs.CellsSay.{IsOther, cells-say, list-is, word-other}
use Rattle.krb_choice_laws.proofs.Lists.{joined-map}
use Rattle.krb_choice_laws.proofs.Texts.{word-items, words}
use Rattle.krb_choice_laws.proofs.MembersAt.{name_beside, names_beside as numbers_beside}

-- ---- lists
abbrev IsIn : {A : Type 0} → A → List A → Type 0
IsIn a [] = ⊥
IsIn a (first ∷ others) = (first ≡ a) ⊎ IsIn a others

is-in : {A : Type 0} (all : List A) (a : A) → Contains all a → IsIn a all
is-in [] a (k, h, e) = absurd (omega (arith, h))
is-in (first ∷ others) a (zero, h, e) = inl e
is-in (first ∷ others) a (suc k, h, e) = inr (is-in others a (k, omega (arith, h), e))

in-left : {A : Type 0} (xs ys : List A) (a : A) → IsIn a xs → IsIn a (xs ++ ys)
in-left [] ys a h = absurd h
in-left (x ∷ xs) ys a (inl e) = inl e
in-left (x ∷ xs) ys a (inr h) = inr (in-left xs ys a h)

in-right : {A : Type 0} (xs ys : List A) (a : A) → IsIn a ys → IsIn a (xs ++ ys)
in-right [] ys a h = h
in-right (x ∷ xs) ys a h = inr (in-right xs ys a h)

in-either : {A : Type 0} (xs ys : List A) (a : A) → IsIn a (xs ++ ys) → IsIn a xs ⊎ IsIn a ys
in-either [] ys a h = inr h
in-either (x ∷ xs) ys a (inl e) = inl (inl e)
in-either (x ∷ xs) ys a (inr h) = elim (in-either xs ys a h) [ inl g ↦ inl (inr g) | inr g ↦ inr g ]

in-map : {A B : Type 0} (f : A → B) (xs : List A) (a : A) → IsIn a xs → IsIn (f a) (map f xs)
in-map f [] a h = absurd h
in-map f (x ∷ xs) a (inl e) = inl (ap f e)
in-map f (x ∷ xs) a (inr h) = inr (in-map f xs a h)

-- ---- names that differ
abbrev differs : List ℕ → List (List ℕ) → Bool
differs name names = list_all (λ other. not (bytes_eq name other)) names

flip : (one other : List ℕ) → not (bytes_eq one other) ≡ true → bytes_eq other one ≡ false
flip one other e = by (bytes_eq other one) refl
  where
    by : (b : Bool) → bytes_eq other one ≡ b → b ≡ false
    by true same = let f : bytes_eq one other ≡ true = (bytes_eq-Decides one other).1 (sym ((bytes_eq-Decides other one).0 same)) in let g : false ≡ true = sym (ap not f) ∙ e in cc
    by false same = refl

one-of : (test : List ℕ → Bool) (names : List (List ℕ)) (name : List ℕ) → list_all test names ≡ true → IsIn name names → test name ≡ true
one-of test [] name h i = absurd i
one-of test (first ∷ others) name h (inl e) = subst (λ n. test n ≡ true) e (and_parts (test first) (list_all test others) h).0
one-of test (first ∷ others) name h (inr i) = one-of test others name (and_parts (test first) (list_all test others) h).1 i

rest-differ : (xs ys : List (List ℕ)) → are_different (xs ++ ys) ≡ true → are_different ys ≡ true
rest-differ [] ys h = h
rest-differ (x ∷ xs) ys h = rest-differ xs ys (and_parts (differs x (xs ++ ys)) (are_different (xs ++ ys)) h).1

-- a name before others, and one after others
before-differs : (xs ys : List (List ℕ)) (name : List ℕ) → IsIn name xs → are_different (xs ++ ys) ≡ true → differs name ys ≡ true
before-differs [] ys name i h = absurd i
before-differs (x ∷ xs) ys name (inl e) h =
    let this : differs x xs && differs x ys ≡ true = sym (list_all-append (λ other. not (bytes_eq x other)) xs ys) ∙ (and_parts (differs x (xs ++ ys)) (are_different (xs ++ ys)) h).0 in
    subst (λ n. differs n ys ≡ true) e (and_parts (differs x xs) (differs x ys) this).1
before-differs (x ∷ xs) ys name (inr i) h = before-differs xs ys name i (and_parts (differs x (xs ++ ys)) (are_different (xs ++ ys)) h).1

after-differs : (xs ys : List (List ℕ)) (name : List ℕ) → IsIn name ys → are_different (xs ++ ys) ≡ true → differs name xs ≡ true
after-differs [] ys name i h = refl
after-differs (x ∷ xs) ys name i h =
    let parts = and_parts (differs x (xs ++ ys)) (are_different (xs ++ ys)) h in
    and_from (not (bytes_eq name x)) (differs name xs) (ap not (flip x name (one-of (λ other. not (bytes_eq x other)) (xs ++ ys) name parts.0 (in-right xs ys name i)))) (after-differs xs ys name i parts.1)

-- ---- entries of an object: members, and the names that they may have
record Entry : Type 0 where
  pub names : List (List ℕ)
  pub members : List (List ℕ × Json)

-- no member has another name
record IsEntry (e : Entry) : Type 0 where
  pub past : (name : List ℕ) (rest : List (List ℕ × Json)) → differs name e.names ≡ true → member_in name (members_of (e.members ++ rest)) ≡ member_in name (members_of rest)

abbrev AreEntries : List Entry → Type 0
AreEntries all = AllByRecursion IsEntry all

abbrev all_names : List Entry → List (List ℕ)
all_names all = flat_map (λ (e : Entry). e.names) all

abbrev all_members : List Entry → List (List ℕ × Json)
all_members all = flat_map (λ (e : Entry). e.members) all

none-has : (all : List Entry) → AreEntries all → (name : List ℕ) → differs name (all_names all) ≡ true → member_in name (members_of (all_members all)) ≡ null
none-has [] h name d = refl
none-has (e ∷ others) h name d =
    let parts = and_parts (differs name e.names) (differs name (all_names others)) (sym (list_all-append (λ other. not (bytes_eq name other)) e.names (all_names others)) ∙ d) in
    h.0.past name (all_members others) parts.0 ∙ none-has others h.1 name parts.1

-- members in front of others of which none has the name
front : (name : List ℕ) (xs rest : List (List ℕ × Json)) → member_in name (members_of rest) ≡ null → member_in name (members_of (xs ++ rest)) ≡ member_in name (members_of xs)
front name [] rest h = h
front name (x ∷ xs) rest h = ap (λ json. cond (bytes_eq x.0 name) x.1 json) (front name xs rest h)

names-in : (all : List Entry) (e : Entry) (name : List ℕ) → IsIn e all → IsIn name e.names → IsIn name (all_names all)
names-in [] e name i n = absurd i
names-in (first ∷ others) e name (inl same) n = in-left first.names (all_names others) name (subst (λ (e : Entry). IsIn name e.names) (sym same) n)
names-in (first ∷ others) e name (inr i) n = in-right first.names (all_names others) name (names-in others e name i n)

-- a name of an entry is that of one of its members, or of none
own-members : (all : List Entry) → AreEntries all → are_different (all_names all) ≡ true → (e : Entry) → IsIn e all → (name : List ℕ) → IsIn name e.names → member_in name (members_of (all_members all)) ≡ member_in name (members_of e.members)
own-members [] h d e i name n = absurd i
own-members (first ∷ others) h d e (inl same) name n =
    let its : IsIn name first.names = subst (λ (e : Entry). IsIn name e.names) (sym same) n in
    front name first.members (all_members others) (none-has others h.1 name (before-differs first.names (all_names others) name its d)) ∙ ap (λ (e : Entry). member_in name (members_of e.members)) same
own-members (first ∷ others) h d e (inr i) name n =
    h.0.past name (all_members others) (after-differs first.names (all_names others) name (names-in others e name i n) d)
    ∙ own-members others h.1 (rest-differ first.names (all_names others) d) e i name n

-- ---- those of a field
abbrev of_field : Field → Entry
of_field f = record { names = member_names f.name; members = field_members f }

past-names : (name of : List ℕ) (rest : List (List ℕ × Json)) (value : Value) → bytes_eq (of ++ codes "_name") name ≡ false → bytes_eq (of ++ codes "_names") name ≡ false
    → member_in name (members_of (names_of_value of value ++ rest)) ≡ member_in name (members_of rest)
unfolding names_of_value
past-names name of rest (Named registry n) h k = ap (λ b. cond b (name_beside (Named registry n)) (member_in name (members_of rest))) h
past-names name of rest (ErrorCode code) h k = ap (λ b. cond b (name_beside (ErrorCode code)) (member_in name (members_of rest))) h
past-names name of rest (Status n) h k = ap (λ b. cond b (name_beside (Status n)) (member_in name (members_of rest))) h
past-names name of rest (Reason n reason) h k = ap (λ b. cond b (name_beside (Reason n reason)) (member_in name (members_of rest))) h
past-names name of rest (Called n called) h k = ap (λ b. cond b (name_beside (Called n called)) (member_in name (members_of rest))) h
past-names name of rest NoReason h k = ap (λ b. cond b (name_beside NoReason) (member_in name (members_of rest))) h
past-names name of rest (Numbers registry ns) h k = ap (λ b. cond b (numbers_beside (Numbers registry ns)) (member_in name (members_of rest))) k
past-names name of rest value h k = refl

field-entry : (f : Field) → IsEntry (of_field f)
field-entry f = record {
  past = λ name rest d.
      let one = and_parts (not (bytes_eq name f.name)) (differs name ((f.name ++ codes "_name") ∷ (f.name ++ codes "_names") ∷ [])) d in
      let two = and_parts (not (bytes_eq name (f.name ++ codes "_name"))) (differs name ((f.name ++ codes "_names") ∷ [])) one.1 in
      let three = and_parts (not (bytes_eq name (f.name ++ codes "_names"))) true two.1 in
      ap (λ b. cond b (json_of_value f.value) (member_in name (members_of (names_of_value f.name f.value ++ rest)))) (flip name f.name one.0)
      ∙ past-names name f.name rest f.value (flip name (f.name ++ codes "_name") two.0) (flip name (f.name ++ codes "_names") three.0);
}

field-entries : (fields : List Field) → AreEntries (map of_field fields)
field-entries [] = tt
field-entries (f ∷ others) = (field-entry f, field-entries others)

both-entries : (xs ys : List Entry) → AreEntries xs → AreEntries ys → AreEntries (xs ++ ys)
both-entries [] ys h k = k
both-entries (x ∷ xs) ys h k = (h.0, both-entries xs ys h.1 k)

-- ---- those of a record
abbrev of_kind : List ℕ → Entry
of_kind kind = record { names = codes "kind" ∷ []; members = (codes "kind", string kind) ∷ [] }

kind-entry : (kind : List ℕ) → IsEntry (of_kind kind)
kind-entry kind = record { past = λ name rest d. ap (λ b. cond b (string kind) (member_in name (members_of rest))) (flip name (codes "kind") (and_parts (not (bytes_eq name (codes "kind"))) true d).0) }

abbrev of_inside : Option (List Part) → Entry
of_inside inside = record { names = inside_name inside; members = inside_members inside }

inside-entry : (inside : Option (List Part)) → IsEntry (of_inside inside)
inside-entry None = record { past = λ name rest d. refl }
inside-entry (Some parts) = record { past = λ name rest d. ap (λ b. cond b (list_of part_json parts) (member_in name (members_of rest))) (flip name (codes "inside") (and_parts (not (bytes_eq name (codes "inside"))) true d).0) }

abbrev field_names : List Field → List (List ℕ)
field_names fields = names_beside fields

abbrev its_members : List Field → List (List ℕ × Json)
its_members fields = flat_map field_members fields

-- its own is among the names that its members may have
named : (fields : List Field) (f : Field) → IsIn f fields → IsIn f.name (field_names fields)
named [] f i = absurd i
named (g ∷ others) f (inl e) = inl (ap (λ (g : Field). g.name) e)
named (g ∷ others) f (inr i) = in-right (member_names g.name) (field_names others) f.name (named others f i)

-- ---- cells
first-cell : (path : Path) (fields : List Field) (rest : List ShownField) (more : List (List ℕ)) (f : Field) → IsIn f fields → are_different (field_names fields ++ more) ≡ true → cell_of f.name path (map shown_field fields ++ rest) ≡ cell path f.value
first-cell path [] rest more f i d = absurd i
first-cell path (g ∷ others) rest more f (inl e) d =
    subst (λ (g : Field). cond (bytes_eq g.name f.name) (cell path g.value) (cell_of f.name path (map shown_field others ++ rest)) ≡ cell path f.value) (sym e)
    (ap (λ b. cond b (cell path f.value) (cell_of f.name path (map shown_field others ++ rest))) ((bytes_eq-Decides f.name f.name).1 refl))
first-cell path (g ∷ others) rest more f (inr i) d =
    let its = in-left (field_names others) more f.name (named others f i) in
    let other = after-differs (member_names g.name) (field_names others ++ more) f.name its d in
    ap (λ b. cond b (cell path g.value) (cell_of f.name path (map shown_field others ++ rest))) (flip f.name g.name (and_parts (not (bytes_eq f.name g.name)) (differs f.name ((g.name ++ codes "_name") ∷ (g.name ++ codes "_names") ∷ [])) other).0)
    ∙ first-cell path others rest more f i (rest-differ (member_names g.name) (field_names others ++ more) d)

past-cells : (path : Path) (name : List ℕ) (fields : List Field) (rest : List ShownField) → differs name (field_names fields) ≡ true → cell_of name path (map shown_field fields ++ rest) ≡ cell_of name path rest
past-cells path name [] rest d = refl
past-cells path name (g ∷ others) rest d =
    let parts = and_parts (differs name (member_names g.name)) (differs name (field_names others)) (sym (list_all-append (λ other. not (bytes_eq name other)) (member_names g.name) (field_names others)) ∙ d) in
    ap (λ b. cond b (cell path g.value) (cell_of name path (map shown_field others ++ rest))) (flip name g.name (and_parts (not (bytes_eq name g.name)) (differs name ((g.name ++ codes "_name") ∷ (g.name ++ codes "_names") ∷ [])) parts.0).0)
    ∙ past-cells path name others rest parts.1

-- ---- what is at a path
at-same : (path : Path) (name : List ℕ) (json one : Json) → ((n : List ℕ) → IsIn n (member_names name) → member_of n json ≡ member_of n one) → member_at path name json ≡ member_at path name one
at-same paths.Name name json one h = h (name ++ codes "_name") (inr (inl refl))
at-same paths.Names name json one h = ap₂ unless_null (h (name ++ codes "_names") (inr (inr (inl refl)))) (ap (member_within (codes "names" ∷ [])) (h name (inl refl)))
at-same path name json one h = ap (member_within (names_of path)) (h name (inl refl))

-- ---- a record inside
module _ (p : Part) (fits : PartNamesDiffer p) (f : Field) (found : IsIn f p.fields) where
  abbrev part_entries : List Entry
  part_entries = of_kind p.kind ∷ map of_field p.fields

  part-differ : are_different (all_names part_entries) ≡ true
  part-differ = ap (λ ns. are_different (codes "kind" ∷ ns)) (flat_map-map (λ (e : Entry). e.names) of_field p.fields) ∙ fits

  part-member : (n : List ℕ) → IsIn n (member_names f.name) → member_of n (part_json p) ≡ member_of n (object_with f)
  part-member n i =
      ap (λ ms. member_in n (members_of ((codes "kind", string p.kind) ∷ ms))) (sym (flat_map-map (λ (e : Entry). e.members) of_field p.fields))
      ∙ own-members part_entries (kind-entry p.kind, field-entries p.fields) part-differ (of_field f) (inr (in-map of_field p.fields f found)) n i

  part-cell : (path : Path) → cell_of f.name path (map shown_field p.fields) ≡ cell path f.value
  part-cell path =
      ap (cell_of f.name path) (sym (append-nil (map shown_field p.fields)))
      ∙ first-cell path p.fields [] [] f found (ap are_different (append-nil (field_names p.fields)) ∙ rest-differ (codes "kind" ∷ []) (field_names p.fields) fits)

pub parts-say : CellsSayParts
parts-say p fits path f contains h =
    let found = is-in p.fields f contains in
    part-cell p fits f found path ∙ cells-say path f h ∙ ap (said_of f.value path) (sym (at-same path f.name (part_json p) (object_with f) (part-member p fits f found)))

-- ---- a record
module _ (r : Printed) (fits : NamesDiffer r) where
  abbrev own : List Field
  own = r.origin ++ r.fields

  abbrev later : List Entry
  later = of_inside r.inside ∷ map of_field r.last

  abbrev entries : List Entry
  entries = of_kind r.kind ∷ (map of_field own ++ later)

  abbrev names_after : List (List ℕ)
  names_after = inside_name r.inside ++ field_names r.last

  names-are : all_names entries ≡ codes "kind" ∷ (field_names own ++ names_after)
  names-are =
      let names = λ (e : Entry). e.names in
      ap (λ ns. codes "kind" ∷ ns) (flat_map-append names (map of_field own) later
      ∙ ap₂ (λ a b. a ++ (inside_name r.inside ++ b)) (flat_map-map names of_field own) (flat_map-map names of_field r.last))

  members-are : all_members entries ≡ (codes "kind", string r.kind) ∷ (its_members own ++ (inside_members r.inside ++ its_members r.last))
  members-are =
      let members = λ (e : Entry). e.members in
      ap (λ ms. (codes "kind", string r.kind) ∷ ms) (flat_map-append members (map of_field own) later
      ∙ ap₂ (λ a b. a ++ (inside_members r.inside ++ b)) (flat_map-map members of_field own) (flat_map-map members of_field r.last))

  are-entries : AreEntries entries
  are-entries = (kind-entry r.kind, both-entries (map of_field own) later (field-entries own) (inside-entry r.inside, field-entries r.last))

  differ : are_different (all_names entries) ≡ true
  differ = ap are_different names-are ∙ fits

  own-differ : are_different (field_names own ++ names_after) ≡ true
  own-differ = rest-differ (codes "kind" ∷ []) (field_names own ++ names_after) fits

module _ (r : Printed) (fits : NamesDiffer r) (f : Field) (found : IsIn f (r.origin ++ r.fields ++ r.last)) where
  its-entry : IsIn (of_field f) (entries r fits)
  its-entry = inr (elim (in-either (own r fits) r.last f found) [
    | inl i ↦ in-left (map of_field (own r fits)) (later r fits) (of_field f) (in-map of_field (own r fits) f i)
    | inr i ↦ in-right (map of_field (own r fits)) (later r fits) (of_field f) (inr (in-map of_field r.last f i))
  ])

  its-member : (n : List ℕ) → IsIn n (member_names f.name) → member_of n (json_of r) ≡ member_of n (object_with f)
  unfolding json_of
  its-member n i = ap (λ ms. member_in n (members_of ms)) (sym (members-are r fits)) ∙ own-members (entries r fits) (are-entries r fits) (differ r fits) (of_field f) its-entry n i

  its-cell : (path : Path) → cell_of f.name path (map shown_field (r.origin ++ r.fields ++ r.last)) ≡ cell path f.value
  its-cell path =
      ap (cell_of f.name path) (map-append shown_field (own r fits) r.last)
      ∙ elim (in-either (own r fits) r.last f found) as (λ _. cell_of f.name path (map shown_field (own r fits) ++ map shown_field r.last) ≡ cell path f.value) [
        | inl i ↦ first-cell path (own r fits) (map shown_field r.last) (names_after r fits) f i (own-differ r fits)
        | inr i ↦
            let its = in-right (inside_name r.inside) (field_names r.last) f.name (named r.last f i) in
            let last_differ = rest-differ (inside_name r.inside) (field_names r.last) (rest-differ (field_names (own r fits)) (names_after r fits) (own-differ r fits)) in
            past-cells path f.name (own r fits) (map shown_field r.last) (after-differs (field_names (own r fits)) (names_after r fits) f.name its (own-differ r fits))
            ∙ ap (cell_of f.name path) (sym (append-nil (map shown_field r.last)))
            ∙ first-cell path r.last [] [] f i (ap are_different (append-nil (field_names r.last)) ∙ last_differ)
      ]

pub objects-say : CellsSayObjects
objects-say r fits path f contains h =
    let found = is-in (r.origin ++ r.fields ++ r.last) f contains in
    its-cell r fits f found path ∙ cells-say path f h ∙ ap (said_of f.value path) (sym (at-same path f.name (json_of r) (object_with f) (its-member r fits f found)))

-- ---- the kind, and the kinds of what is inside
pub kinds-say : KindsSayObjects
unfolding json_of
kinds-say r h = h.alone ∙ words r.kind h.word

inside-member : (r : Printed) (parts : List Part) → NamesDiffer r → r.inside ≡ Some parts → member_of (codes "inside") (json_of r) ≡ list_of part_json parts
unfolding json_of
inside-member r parts d e =
    ap (λ ms. member_in (codes "inside") (members_of ms)) (sym (members-are r d))
    ∙ own-members (entries r d) (are-entries r d) (differ r d) (of_inside r.inside) (inr (in-right (map of_field (own r d)) (later r d) (of_inside r.inside) (inl refl))) (codes "inside") (subst (λ inside. IsIn (codes "inside") (inside_name inside)) (sym e) (inl refl))
    ∙ ap (λ inside. member_in (codes "inside") (members_of (inside_members inside))) e

kinds-are : (parts : List Part) → AllByRecursion (λ (p : Part). IsKind p.kind) parts → map (λ (p : ShownPart). p.kind) (map shown_part parts) ≡ kinds_in (items_of (map part_json parts))
kinds-are [] h = refl
kinds-are (p ∷ others) h = ap₂ (λ kind kinds. kind ∷ kinds) (sym (word-items p.kind h.0.word h.0.comma)) (kinds-are others h.1)

others-are : (parts : List Part) → AllByRecursion (λ (p : Part). IsKind p.kind) parts → AllByRecursion IsOther (map (λ (p : ShownPart). p.kind) (map shown_part parts))
others-are [] h = tt
others-are (p ∷ others) h = (word-other p.kind (record { word = h.0.word; comma = h.0.comma }), others-are others h.1)

pub inside-says : InsideSaysObjects
inside-says r parts d e h =
    let kinds = map (λ (p : ShownPart). p.kind) (map shown_part parts) in
    ap (λ inside. inside_cell (option_map (map shown_part) inside)) e
    ∙ joined-map (λ (p : ShownPart). p.kind) (map shown_part parts) ∙ list-is kinds (others-are parts h) ∙ ap list_cell (kinds-are parts h)
    ∙ sym (ap kinds_said (inside-member r parts d e))
