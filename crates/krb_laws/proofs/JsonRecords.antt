-- The text of a record is that of its object.
use Rattle.std.proofs.Common.{◌≡◌, ℕ, pos, ◌+◌, ◌≤◌, Bool, true, Option, Some, None, IfSome, List, [], ◌∷◌, ◌++◌, codes, refl, sym, ◌∙◌, ap, subst, append_assoc, append-nil, arith}
use Rattle.std.specs.Prelude.{◌≢◌}
use Rattle.std.proofs.lemmas.Bool.{and_parts}
use Rattle.std.specs.List.{AllByRecursion, flat_map, list_all}
use Rattle.json.specs.Json.{Json, Members, member, no_members, null, string}
use Rattle.json.specs.Strict.{keys, AreDistinct}
use Rattle.krb_registry.specs.declared.registry.Registry.TheVariants as registries
use Rattle.krb_record.specs.Forms.{aside_text, closing, end_text, ending, fields_text, heading, inside_text, json_value, labelled, members, name_string, names_member, opening, opening_from, part_text, record_text}
use Rattle.krb_record.specs.Text.{list_text}
use Rattle.krb_record.specs.Values.{Value, Named, Numbers, ErrorCode, Status, Reason, NoReason, Called, Field, LastLine, Part, Printed}
use Rattle.krb_record.specs.declared.form.Form.TheVariants as form
use Rattle.krb_laws.specs.Json.{field_members, inside_members, json_of, json_of_value, list_of, members_of, name_json, names_of_value, object_of, part_json}
use Rattle.krb_laws.specs.JsonLaws.{IsJson, PartFits, ValueFits, are_different, inside_name, is_plain, member_names}
use Rattle.krb_laws.proofs.JsonNames.{AllOthers, distinct, distinct_cons, others as all_others}
use Rattle.krb_laws.proofs.JsonPieces.{AreMembers, IsPlain, IsText, a_list, a_null, a_plain, an_object, as_text, deeper, document_is, no_more_members, one_more_member, printed_is}
use Rattle.krb_laws.proofs.JsonStrings.{IsPlainOne, all-append, is_plain-plain}
use Rattle.krb_laws.proofs.JsonValues.{a_name, every, or_no_name, printable, value_text}

-- ---- the names of the numbers in a value, before other members
suffixed : (name suffix value text : List ℕ) → 44 ∷ 34 ∷ (name ++ suffix ++ 34 ∷ 58 ∷ (value ++ text)) ≡ (44 ∷ 34 ∷ name) ++ (suffix ++ 34 ∷ 58 ∷ []) ++ value ++ text
suffixed name suffix value text = simp append_assoc refl

module _ (levels : ℕ) (enough : 2 ≤ levels) (name : List ℕ) (plain : IsPlain name) where
  one_named : {value text : List ℕ} {j : Json} {ms : Members} (suffix : List ℕ) → is_plain suffix ≡ true → IsText value j levels → AreMembers text ms levels → AreMembers ((44 ∷ 34 ∷ name) ++ (suffix ++ 34 ∷ 58 ∷ []) ++ value ++ text) (member (name ++ suffix) j ms) levels
  one_named {value} {text} {j} {ms} suffix e h k =
      subst (λ t. AreMembers t (member (name ++ suffix) j ms) levels) (suffixed name suffix value text)
      (one_more_member (name ++ suffix) levels (all-append IsPlainOne name suffix plain (is_plain-plain suffix e)) h k)

  names_text : {text : List ℕ} (rest : List (List ℕ × Json)) (value : Value) → ValueFits value → AreMembers text (members_of rest) levels → AreMembers (names_member (44 ∷ 34 ∷ name) value ++ text) (members_of (names_of_value name value ++ rest)) levels
  unfolding names_member names_of_value
  names_text rest (Named registry n) h k = one_named (codes "_name") refl (a_name registry n) k
  names_text rest (ErrorCode code) h k = one_named (codes "_name") refl (a_name registries.ErrorCodes code) k
  names_text rest (Status n) h k = one_named (codes "_name") refl (a_name registries.Statuses (pos n)) k
  names_text rest (Reason n reason) h k = one_named (codes "_name") refl (printable reason h.1) k
  names_text rest (Called n called) h k = one_named (codes "_name") refl (or_no_name called h.1) k
  names_text {text} rest NoReason h k =
      subst (λ t. AreMembers (t ++ text) (members_of ((name ++ codes "_name", null) ∷ rest)) levels) (append_assoc (44 ∷ 34 ∷ name) (codes "_name\":") (codes "null")) (one_named (codes "_name") refl a_null k)
  names_text rest (Numbers registry ns) h k =
      one_named (codes "_names") refl (deeper 2 levels enough (a_list 1 (name_string registry) (name_json registry) (λ n. Unit {0}) (λ n h. a_name registry n) ns (every ns))) k
  names_text rest value h k = k

-- ---- fields
-- a field, its names, the fields after it, and what ends them
member_then : (name value names fields end : List ℕ) → 44 ∷ 34 ∷ (name ++ 34 ∷ 58 ∷ (value ++ (names ++ (fields ++ end)))) ≡ (44 ∷ 34 ∷ name) ++ (34 ∷ 58 ∷ []) ++ value ++ names ++ fields ++ end
member_then name value names fields end = simp append_assoc refl

abbrev pub names_are_plain : List Field → Bool
names_are_plain fields = list_all (λ (f : Field). is_plain f.name) fields

abbrev pub ValuesFit : List Field → Type 0
ValuesFit fields = AllByRecursion (λ (f : Field). ValueFits f.value) fields

-- the members of fields, before others
all_fields : (levels : ℕ) → 2 ≤ levels → {text : List ℕ} (more : List (List ℕ × Json)) (fields : List Field) → names_are_plain fields ≡ true → ValuesFit fields → AreMembers text (members_of more) levels → AreMembers (fields_text form.Json fields ++ text) (members_of (flat_map field_members fields ++ more)) levels
unfolding labelled members
all_fields levels enough more [] e h k = k
all_fields levels enough {text} more (first ∷ rest) e h k =
    let parts = and_parts (is_plain first.name) (names_are_plain rest) e in
    let plain : IsPlain first.name = is_plain-plain first.name parts.0 in
    let after = names_text levels enough first.name plain (flat_map field_members rest ++ more) first.value h.0 (all_fields levels enough more rest parts.1 h.1 k) in
    subst (λ ms. AreMembers (fields_text form.Json (first ∷ rest) ++ text) (member first.name (json_of_value first.value) (members_of ms)) levels) (sym (append_assoc (names_of_value first.name first.value) (flat_map field_members rest) more))
    (subst (λ t. AreMembers t (member first.name (json_of_value first.value) (members_of (names_of_value first.name first.value ++ (flat_map field_members rest ++ more)))) levels)
    (member_then first.name (json_value first.value) (names_member (44 ∷ 34 ∷ first.name) first.value) (fields_text form.Json rest) text)
    (one_more_member first.name levels plain (deeper 2 levels enough (value_text first.value h.0)) after))

-- ---- names that differ
after_names : (P : List ℕ → Type 0) (name : List ℕ) (rest : List (List ℕ × Json)) → P (name ++ codes "_name") → P (name ++ codes "_names") → AllByRecursion P (keys (members_of rest)) → (value : Value) → AllByRecursion P (keys (members_of (names_of_value name value ++ rest)))
unfolding names_of_value
after_names P name rest h k all (Named registry n) = (h, all)
after_names P name rest h k all (ErrorCode code) = (h, all)
after_names P name rest h k all (Status n) = (h, all)
after_names P name rest h k all (Reason n reason) = (h, all)
after_names P name rest h k all (Called n called) = (h, all)
after_names P name rest h k all NoReason = (h, all)
after_names P name rest h k all (Numbers registry ns) = (k, all)
after_names P name rest h k all value = all

distinct_names : (name : List ℕ) (rest : List (List ℕ × Json)) → AllOthers (name ++ codes "_name") (keys (members_of rest)) → AllOthers (name ++ codes "_names") (keys (members_of rest)) → AreDistinct (keys (members_of rest)) → (value : Value) → AreDistinct (keys (members_of (names_of_value name value ++ rest)))
unfolding names_of_value
distinct_names name rest h k apart (Named registry n) = distinct_cons (name ++ codes "_name") (keys (members_of rest)) h apart
distinct_names name rest h k apart (ErrorCode code) = distinct_cons (name ++ codes "_name") (keys (members_of rest)) h apart
distinct_names name rest h k apart (Status n) = distinct_cons (name ++ codes "_name") (keys (members_of rest)) h apart
distinct_names name rest h k apart (Reason n reason) = distinct_cons (name ++ codes "_name") (keys (members_of rest)) h apart
distinct_names name rest h k apart (Called n called) = distinct_cons (name ++ codes "_name") (keys (members_of rest)) h apart
distinct_names name rest h k apart NoReason = distinct_cons (name ++ codes "_name") (keys (members_of rest)) h apart
distinct_names name rest h k apart (Numbers registry ns) = distinct_cons (name ++ codes "_names") (keys (members_of rest)) k apart
distinct_names name rest h k apart value = apart

record Apart (name : List ℕ) (names : List (List ℕ)) : Type 0 where
  first : AllOthers name names
  rest : are_different names ≡ true

apart : (name : List ℕ) (names : List (List ℕ)) → are_different (name ∷ names) ≡ true → Apart name names
apart name names e =
    let parts = and_parts (list_all _ names) (are_different names) e in
    record { first = all_others name names parts.0; rest = parts.1 }

-- names that members may have, and of which they have some
record Cover (names : List (List ℕ)) (ms : List (List ℕ × Json)) : Type 0 where
  others : (name : List ℕ) → AllOthers name names → AllOthers name (keys (members_of ms))
  apart : are_different names ≡ true → AreDistinct (keys (members_of ms))

no_names : Cover [] []
no_names = record { others = λ name h. h; apart = distinct [] }

-- those of a field, and of fields, before others
and_field : (names : List (List ℕ)) (more : List (List ℕ × Json)) (first : Field) (rest : List Field) → Cover (flat_map (λ f. member_names f.name) rest ++ names) (flat_map field_members rest ++ more) → Cover (flat_map (λ f. member_names f.name) (first ∷ rest) ++ names) (flat_map field_members (first ∷ rest) ++ more)
and_field names more first rest after = record {
  others = λ other h. (
    h.0,
    subst (λ ms. AllOthers other (keys (members_of ms))) (sym (append_assoc (names_of_value name first.value) (flat_map field_members rest) more))
        (after_names (λ next. other ≢ next) name members h.1.0 h.1.1.0 (after.others other h.1.1.1) first.value),
  );
  apart = λ e.
      let a : Apart name ((name ++ codes "_name") ∷ (name ++ codes "_names") ∷ later) = apart name ((name ++ codes "_name") ∷ (name ++ codes "_names") ∷ later) e in
      let b : Apart (name ++ codes "_name") ((name ++ codes "_names") ∷ later) = apart (name ++ codes "_name") ((name ++ codes "_names") ∷ later) a.rest in
      let c : Apart (name ++ codes "_names") later = apart (name ++ codes "_names") later b.rest in
      subst (λ ms. AreDistinct (name ∷ keys (members_of ms))) (sym (append_assoc (names_of_value name first.value) (flat_map field_members rest) more))
      (distinct_cons name (keys (members_of (names_of_value name first.value ++ members)))
      (after_names (λ other. name ≢ other) name members a.first.0 a.first.1.0 (after.others name a.first.1.1) first.value)
      (distinct_names name members (after.others (name ++ codes "_name") b.first.1) (after.others (name ++ codes "_names") c.first) (after.apart c.rest) first.value));
}
  where
    name : List ℕ
    name = first.name

    later : List (List ℕ)
    later = flat_map (λ (f : Field). member_names f.name) rest ++ names

    members : List (List ℕ × Json)
    members = flat_map field_members rest ++ more

and_fields : (names : List (List ℕ)) (more : List (List ℕ × Json)) (fields : List Field) → Cover names more → Cover (flat_map (λ f. member_names f.name) fields ++ names) (flat_map field_members fields ++ more)
and_fields names more [] c = c
and_fields names more (first ∷ rest) c = and_field names more first rest (and_fields names more rest c)

-- that of what is inside, before others
and_inside : (names : List (List ℕ)) (more : List (List ℕ × Json)) (inside : Option (List Part)) → Cover names more → Cover (inside_name inside ++ names) (inside_members inside ++ more)
and_inside names more None c = c
and_inside names more (Some parts) c = record {
  others = λ name h. (h.0, c.others name h.1);
  apart = λ e.
      let a : Apart (codes "inside") names = apart (codes "inside") names e in
      distinct_cons (codes "inside") (keys (members_of more)) (c.others (codes "inside") a.first) (c.apart a.rest);
}

-- ---- objects
around : (kind origin fields end : List ℕ) → 123 ∷ 34 ∷ (codes "kind" ++ 34 ∷ 58 ∷ ((34 ∷ (kind ++ 34 ∷ [])) ++ (origin ++ fields ++ end))) ≡ codes "{\"kind\":\"" ++ kind ++ codes "\"" ++ origin ++ fields ++ end
around kind origin fields end = go (34 ∷ [])
  where
    go : (quote : List ℕ) → codes "{\"kind\":\"" ++ (kind ++ quote ++ (origin ++ fields ++ end)) ≡ codes "{\"kind\":\"" ++ (kind ++ quote ++ origin ++ fields ++ end)
    go quote = simp append_assoc refl

-- an object of a kind, of fields, and of other members
module _ (levels : ℕ) (enough : 2 ≤ levels) {text : List ℕ} (others : List (List ℕ)) (more : List (List ℕ × Json)) (cover : Cover others more) (last : AreMembers text (members_of more) levels) (kind : List ℕ) (fields : List Field) where
  its_object : is_plain kind ≡ true → names_are_plain fields ≡ true → are_different (codes "kind" ∷ (flat_map (λ (f : Field). member_names f.name) fields ++ others)) ≡ true → ValuesFit fields → IsText (123 ∷ 34 ∷ (codes "kind" ++ 34 ∷ 58 ∷ ((34 ∷ (kind ++ 34 ∷ [])) ++ (fields_text form.Json fields ++ text)))) (object_of ((codes "kind", string kind) ∷ (flat_map field_members fields ++ more))) (1 + levels)
  its_object plain names different values =
      let e = apart (codes "kind") (flat_map (λ (f : Field). member_names f.name) fields ++ others) different in
      let all = and_fields others more fields cover in
      an_object (codes "kind") levels (is_plain-plain (codes "kind") refl) (a_plain kind (is_plain-plain kind plain)) (all_fields levels enough more fields names values last)
      (distinct_cons (codes "kind") (keys (members_of (flat_map field_members fields ++ more))) (all.others (codes "kind") e.first) (all.apart e.rest))

-- ---- records inside of another
nothing_more : (fields : List Field) → flat_map (λ (f : Field). member_names f.name) fields ++ [] ≡ flat_map (λ (f : Field). member_names f.name) fields
nothing_more fields = append-nil (flat_map (λ (f : Field). member_names f.name) fields)

a_part : (p : Part) → PartFits p → IsText (part_text form.Json p) (part_json p) 3
unfolding part_text opening closing
a_part p h =
    as_text
    (subst (λ ms. IsText (123 ∷ 34 ∷ (codes "kind" ++ 34 ∷ 58 ∷ ((34 ∷ (p.kind ++ 34 ∷ [])) ++ (fields_text form.Json p.fields ++ codes "}")))) (object_of ((codes "kind", string p.kind) ∷ ms)) 3) (append-nil (flat_map field_members p.fields))
    (its_object 2 (omega arith) [] [] no_names no_more_members p.kind p.fields h.kind h.names (ap (λ names. are_different (codes "kind" ∷ names)) (nothing_more p.fields) ∙ h.apart) h.values))
    (around p.kind [] (fields_text form.Json p.fields) (codes "}") ∙ ap (λ t. t ++ fields_text form.Json p.fields ++ codes "}") (append-nil (codes "{\"kind\":\"" ++ p.kind ++ codes "\"")))

-- what is last, and what ends a record
its_last : (last : List Field) → names_are_plain last ≡ true → ValuesFit last → AreMembers (end_text form.Json last) (members_of (flat_map field_members last)) 4
unfolding closing
its_last [] e h = no_more_members
its_last (first ∷ rest) e h =
    subst (λ ms. AreMembers (end_text form.Json (first ∷ rest)) (members_of ms) 4) (append-nil (flat_map field_members (first ∷ rest))) (all_fields 4 (omega arith) [] (first ∷ rest) e h no_more_members)

its_end : (inside : Option (List Part)) (last : List Field) → IfSome inside (AllByRecursion PartFits) → AreMembers (end_text form.Json last) (members_of (flat_map field_members last)) 4 → AreMembers (ending form.Json inside last) (members_of (inside_members inside ++ flat_map field_members last)) 4
unfolding inside_text
its_end None last h k = k
its_end (Some parts) last h k =
    subst (λ t. AreMembers t (member (codes "inside") (list_of part_json parts) (members_of (flat_map field_members last))) 4) (sym (append_assoc (codes ",\"inside\":") (list_text (part_text form.Json) parts) (end_text form.Json last)))
    (one_more_member (codes "inside") 4 (is_plain-plain (codes "inside") refl) (a_list 3 (part_text form.Json) part_json PartFits a_part parts h) k)

last_cover : (last : List Field) → Cover (flat_map (λ (f : Field). member_names f.name) last) (flat_map field_members last)
last_cover last =
    subst (λ names. Cover names (flat_map field_members last)) (nothing_more last)
    (subst (λ ms. Cover (flat_map (λ (f : Field). member_names f.name) last ++ []) ms) (append-nil (flat_map field_members last)) (and_fields [] [] last no_names))

-- ---- records
both_fields : (a b : List Field) → fields_text form.Json (a ++ b) ≡ fields_text form.Json a ++ fields_text form.Json b
both_fields [] b = refl
both_fields (first ∷ a) b =
    ap (λ t. labelled form.Json (codes " " ++ first.name ++ codes "=") (codes ",\"" ++ first.name) first.value ++ t) (both_fields a b)
    ∙ sym (append_assoc (labelled form.Json (codes " " ++ first.name ++ codes "=") (codes ",\"" ++ first.name) first.value) (fields_text form.Json a) (fields_text form.Json b))

headed : (origin : List Field) (kind : List ℕ) → heading form.Json origin kind ≡ codes "{\"kind\":\"" ++ kind ++ codes "\"" ++ fields_text form.Json origin
unfolding opening opening_from labelled
headed [] kind = sym (append-nil (codes "{\"kind\":\"" ++ kind ++ codes "\""))
headed (first ∷ rest) kind = refl

-- an object has nothing of what is told aside
nothing_aside : (front end : List ℕ) (aside : Option LastLine) → front ++ end ≡ front ++ aside_text form.Json aside ++ end
nothing_aside front end None = ap (λ t. t ++ end) (sym (append-nil front))
nothing_aside front end (Some line) = ap (λ t. t ++ end) (sym (append-nil front))

whole : (r : Printed) → 123 ∷ 34 ∷ (codes "kind" ++ 34 ∷ 58 ∷ ((34 ∷ (r.kind ++ 34 ∷ [])) ++ (fields_text form.Json (r.origin ++ r.fields) ++ ending form.Json r.inside r.last))) ≡ record_text form.Json r
unfolding record_text
whole r =
    ap (λ t. 123 ∷ 34 ∷ (codes "kind" ++ 34 ∷ 58 ∷ ((34 ∷ (r.kind ++ 34 ∷ [])) ++ (t ++ ending form.Json r.inside r.last)))) (both_fields r.origin r.fields)
    ∙ around r.kind (fields_text form.Json r.origin) (fields_text form.Json r.fields) (ending form.Json r.inside r.last)
    ∙ ap (λ t. t ++ fields_text form.Json r.fields ++ ending form.Json r.inside r.last) (sym (headed r.origin r.kind))
    ∙ nothing_aside (heading form.Json r.origin r.kind ++ fields_text form.Json r.fields) (ending form.Json r.inside r.last) r.aside

-- a record that is an object by itself
pub record FitsObject (r : Printed) : Type 0 where
  pub kind : is_plain r.kind ≡ true
  pub names : list_all (λ (f : Field). is_plain f.name) (r.origin ++ r.fields) ≡ true
  pub apart : are_different (codes "kind" ∷ (flat_map (λ (f : Field). member_names f.name) (r.origin ++ r.fields) ++ (inside_name r.inside ++ flat_map (λ (f : Field). member_names f.name) r.last))) ≡ true
  pub values : AllByRecursion (λ (f : Field). ValueFits f.value) (r.origin ++ r.fields)
  pub inside : IfSome r.inside (AllByRecursion PartFits)
  pub last_names : list_all (λ (f : Field). is_plain f.name) r.last ≡ true
  pub last_values : AllByRecursion (λ (f : Field). ValueFits f.value) r.last

record_text_is : (r : Printed) → FitsObject r → IsText (record_text form.Json r) (json_of r) 5
unfolding json_of
record_text_is r h =
    as_text
    (its_object 4 (omega arith)
    (inside_name r.inside ++ flat_map (λ (f : Field). member_names f.name) r.last)
    (inside_members r.inside ++ flat_map field_members r.last)
    (and_inside (flat_map (λ (f : Field). member_names f.name) r.last) (flat_map field_members r.last) r.inside (last_cover r.last))
    (its_end r.inside r.last h.inside (its_last r.last h.last_names h.last_values)) r.kind (r.origin ++ r.fields) h.kind h.names h.apart h.values)
    (whole r)

pub object_is_json : (r : Printed) → FitsObject r → IsJson (record_text form.Json r) (json_of r)
object_is_json r h =
    let t : IsText (record_text form.Json r) (json_of r) 5 = record_text_is r h in
    record { document_is = document_is 5 (omega arith) t; printed = printed_is t; unique = t.unique }
