-- The laws of the texts and of the lines of messages.
use Rattle.std.proofs.Common.{◌≡◌, ℕ, ◌+◌, ◌^◌, ◌<◌, ◌≤◌, max, true, false, Bool, List, [], ◌∷◌, length, map, Option, Some, None, option_map, Result, Ok, Err, refl, sym, ◌∙◌, ap, ap₂, subst, arith}
use Rattle.std.specs.Prelude.{nat_lt}
use Rattle.std.specs.Option.{option_and_then}
use Rattle.std.specs.Result.{result_unwrap_or}
use Rattle.std.specs.Str.{is_utf8}
use Rattle.std.proofs.lemmas.Bool.{le-ltb, ltb-false, leb-true}
use Rattle.std.proofs.lemmas.Str.{is_utf8-from_IsUtf8, IsUtf8-from_ascii}
use Rattle.json.specs.Json.{Json, object, no_members, member, document}
use Rattle.json.specs.Find.{as_object}
use Rattle.json.specs.Value.{items_of}
use Rattle.json.specs.Tree.{json_tokens}
use Rattle.json.proofs.Printed.Trees.{document-print}
use Rattle.krb_der.specs.Octets.{AreOctets}
use Rattle.krb_der.specs.declared.profile.Profile.{Profile}
use Rattle.krb_der.specs.declared.profile.Profile.TheVariants as profiles
use Rattle.krb_der.specs.declared.verdict.Verdict.TheVariants as verdict
use Rattle.krb_msg.specs.Shape as shape
use Rattle.krb_msg.specs.Laws.{AreMessage}
use Rattle.krb_msg.specs.Grammar.{messages}
use Rattle.krb_msg.specs.Judgement.{judgement}
use Rattle.krb_msg.specs.Profiles.{narrowed, narrowed_fields, narrowed_value, narrowed_values}
use Rattle.krb_msg.specs.Views.{message_of_der}
use Rattle.krb_msg.specs.Term.{Term, Fields, Sequence, SequenceOf, Tagged, Application, End, Required, Optional, Value, Values, Fits, der}
use Rattle.krb_msg.specs.Views.{kind_of, kind_name, kind_term, kind_term_in, message_value, message_value_in, message_der, IsInProfile}
use Rattle.krb_msg.specs.declared.message.Kind.{Kind}
use Rattle.krb_msg.specs.declared.message.Message.{Message}
use Rattle.krb_msg.proofs.Judged.{message_der_in, messages_are_grammar, whole_is_message}
use Rattle.krb_msg.proofs.KindLaws.{kind_is_one_of}
use Rattle.krb_msg.proofs.Grammars.{one_of_is_whole, one_of_is_octets}
use Rattle.krb_msg.proofs.MessageOfDer.{message_of_der_is_message}
use Rattle.krb_judge.specs.FieldNames.{field_at, names_of_kind}
use Rattle.krb_judge.specs.declared.locating.names.Names.{Names}
use Rattle.krb_json.specs.Faults.{Fault}
use Rattle.krb_json.specs.Objects.{json, members_of, member_if, message_json}
use Rattle.krb_json.specs.Spelled.{spelled}
use Rattle.krb_json.specs.Lines.{message_text, line_spells, value_of_line, value_spells, member_spells, named_spells, message_spelled, in_line, kind_named, sole_member, LineFault}
use Rattle.krb_json.specs.Laws.{IsText, IsSpelled}
use Rattle.krb_json.proofs.Back.{term-back}
use Rattle.krb_json.proofs.KindTexts.{named, kind-back, shallow, depth-in}
use Rattle.krb_json.proofs.Fit.{term-fits, steps, passed, same_ok}
use Rattle.krb_json.proofs.Printable.{IsPrintable, printable-ascii, printable-kind, printable-print}
use Rattle.krb_json.proofs.Texts.{IsGood, AreGoodMembers, good, good-end, good-member, good-object, distinct-cons, distinct-none}

-- ---- the strict profile: the same JSON, and values back
map-same : {A B C : Type 0} (f : A → B) (g : B → C) (h : A → C) → ((a : A) → g (f a) ≡ h a) → (values : List A) → map g (map f values) ≡ map h values
map-same f g h same [] = refl
map-same f g h same (a ∷ values) = ap₂ (λ x xs. x ∷ xs) (same a) (map-same f g h same values)

option-same : {A B C : Type 0} (f : A → B) (g : B → C) (h : A → C) → ((a : A) → g (f a) ≡ h a) → (o : Option A) → option_map g (option_map f o) ≡ option_map h o
option-same f g h same None = refl
option-same f g h same (Some a) = ap Some (same a)

mutual
  json-narrowed : (optional : Bool) (term : Term) (names : Names) (value : Value term) → json (narrowed optional term) names (narrowed_value optional term value) ≡ json term names value
  json-narrowed optional (Sequence fields) names values = ap object (members-narrowed fields names 0 values)
  json-narrowed optional (SequenceOf empty term) names values =
      ap (λ js. Rattle.json.specs.Json.array (items_of js)) (map-same (narrowed_value false term) (json (narrowed false term) names) (json term names) (json-narrowed false term names) values)
  json-narrowed optional (Tagged index term) names value = json-narrowed optional term names value
  json-narrowed optional (Application tag term) names value = json-narrowed false term names value
  json-narrowed optional other names value = refl

  members-narrowed : (fields : Fields) (names : Names) (index : ℕ) (values : Values fields) → members_of (narrowed_fields fields) names index (narrowed_values fields values) ≡ members_of fields names index values
  members-narrowed End names index values = refl
  members-narrowed (Required term fields) names index values =
      ap₂ (λ j ms. member (field_at names index).name j ms) (json-narrowed false term (field_at names index).inside values.0) (members-narrowed fields names (index + 1) values.1)
  members-narrowed (Optional term fields) names index values =
      ap₂ (λ o ms. member_if (field_at names index).name o ms)
      (option-same (narrowed_value true term) (json (narrowed true term) (field_at names index).inside) (json term (field_at names index).inside) (json-narrowed true term (field_at names index).inside) values.0)
      (members-narrowed fields names (index + 1) values.1)

-- the JSON of a message is that of its value in any profile
pub json-in : (profile : Profile) (m : Message) → json (kind_term_in profile (kind_of m)) (names_of_kind (kind_of m)) (message_value_in profile m) ≡ json (kind_term (kind_of m)) (names_of_kind (kind_of m)) (message_value m)
json-in profiles.Lenient m = refl
json-in profiles.Strict m = json-narrowed false (kind_term (kind_of m)) (names_of_kind (kind_of m)) (message_value m)

pub short-in : (profile : Profile) (m : Message) → IsInProfile profile m → length (der (kind_term_in profile (kind_of m)) (message_value_in profile m)) < 2 ^ 31
short-in profile m i = omega (arith, ap length (message_der_in profile m), i.short)

-- ---- texts
-- the JSON of a message has what is wanted
message-good : (profile : Profile) (m : Message) → IsInProfile profile m → IsGood (message_json m) 128
message-good profile m i = subst (λ j. IsGood (object (member (kind_name (kind_of m)) j no_members)) 128) (json-in profile m) (one (good (kind_term_in profile (kind_of m)) (names_of_kind (kind_of m)) (named profile (kind_of m)) (message_value_in profile m) i.fits (short-in profile m i)))
  where
    levels : shape.depth (kind_term_in profile (kind_of m)) ≤ 127
    levels = omega (arith, depth-in profile (kind_of m), leb-true (shape.depth (kind_term (kind_of m))) 127 (shallow (kind_of m)))

    one : {j : Json} → IsGood j (shape.depth (kind_term_in profile (kind_of m))) → IsGood (object (member (kind_name (kind_of m)) j no_members)) 128
    one {j} g =
        let ms : AreGoodMembers (member (kind_name (kind_of m)) j no_members) (max (shape.depth (kind_term_in profile (kind_of m))) 0) =
        good-member (kind_name (kind_of m)) j no_members (shape.depth (kind_term_in profile (kind_of m))) 0 (printable-kind (kind_of m)) g (good-end 0) in
        let o : IsGood (object (member (kind_name (kind_of m)) j no_members)) (1 + max (shape.depth (kind_term_in profile (kind_of m))) 0) =
        good-object (member (kind_name (kind_of m)) j no_members) (max (shape.depth (kind_term_in profile (kind_of m))) 0) (distinct-cons (kind_name (kind_of m)) [] tt distinct-none) ms in
        record { numbers = o.numbers; shallow = omega (arith, o.shallow, levels); unique = o.unique; printable = o.printable }

text-printable : (profile : Profile) (m : Message) → IsInProfile profile m → IsPrintable (message_text m)
text-printable profile m i = printable-print false (json_tokens (message_json m)) (message-good profile m i).printable

text-document : (profile : Profile) (m : Message) → IsInProfile profile m → document (message_text m) ≡ Some (message_json m)
text-document profile m i = let g : IsGood (message_json m) 128 = message-good profile m i in document-print (message_json m) g.numbers g.shallow

pub texts_are_json : (profile : Profile) (m : Message) → IsInProfile profile m → IsText m
texts_are_json profile m i = record {
  document_is = text-document profile m i;
  unique = (message-good profile m i).unique;
  printable = text-printable profile m i;
}

text-utf8 : (profile : Profile) (m : Message) → IsInProfile profile m → is_utf8 (message_text m) ≡ true
text-utf8 profile m i = is_utf8-from_IsUtf8 (message_text m) (IsUtf8-from_ascii (message_text m) (printable-ascii (message_text m) (text-printable profile m i)))

text-value : (profile : Profile) (m : Message) → IsInProfile profile m → value_of_line (message_text m) ≡ Some (message_json m)
text-value profile m i = rw (text-utf8 profile m i) (text-document profile m i)

-- a message is spelled by the JSON in its object
message-back : (profile : Profile) (limit : ℕ) (m : Message) → IsInProfile profile m → length (message_der m) ≤ limit → message_spelled profile limit (kind_of m) (json (kind_term (kind_of m)) (names_of_kind (kind_of m)) (message_value m)) ≡ Ok m
message-back profile limit m i short =
    let k : Kind = kind_of m in
    let back : spelled (kind_term_in profile k) (names_of_kind k) (kind_name k) (json (kind_term k) (names_of_kind k) (message_value m)) ≡ Ok (message_value_in profile m) =
    ap (spelled (kind_term_in profile k) (names_of_kind k) (kind_name k)) (sym (json-in profile m))
    ∙ term-back (kind_term_in profile k) (names_of_kind k) (named profile k) (kind_name k) (message_value_in profile m) i.fits (short-in profile m i) in
    rw (back, le-ltb limit (length (der (kind_term_in profile k) (message_value_in profile m))) (omega (arith, ap length (message_der_in profile m), short)))
    (ap Ok (ap message_of_der (message_der_in profile m) ∙ message_of_der_is_message profile m i))

pub texts_come_back : (profile : Profile) (limit : ℕ) (m : Message) → IsInProfile profile m → length (message_der m) ≤ limit → line_spells profile limit (message_text m) ≡ Ok m
texts_come_back profile limit m i short =
    ap (value_spells profile limit) (text-value profile m i)
    ∙ ap (named_spells profile limit (json (kind_term (kind_of m)) (names_of_kind (kind_of m)) (message_value m))) (kind-back (kind_of m))
    ∙ ap in_line (message-back profile limit m i short)

abbrev or_message : Message → Result Message LineFault → Message
or_message m r = result_unwrap_or r m

pub texts_differ : (profile : Profile) (m other : Message) → IsInProfile profile m → IsInProfile profile other → message_text m ≡ message_text other → m ≡ other
texts_differ profile m other i j same =
    let limit : ℕ = length (message_der m) + length (message_der other) in
    ap (or_message m) (sym (texts_come_back profile limit m i (omega arith)) ∙ ap (line_spells profile limit) same ∙ texts_come_back profile limit other j (omega arith))

-- ---- lines
-- the message of a value of a profile is in the profile, and has the DER of the value
pub record IsOfValue (profile : Profile) (k : Kind) (value : Value (kind_term_in profile k)) (m : Message) : Type 0 where
  pub in_profile : IsInProfile profile m
  pub form : message_der m ≡ der (kind_term_in profile k) value

pub value-message : (profile : Profile) (k : Kind) (value : Value (kind_term_in profile k)) → Fits (kind_term_in profile k) value → length (der (kind_term_in profile k) value) < 2 ^ 31 → IsOfValue profile k value (message_of_der (der (kind_term_in profile k) value))
value-message profile k value fits short = of (whole_is_message profile (length octets) octets short are (omega arith) whole)
  where
    octets : List ℕ
    octets = der (kind_term_in profile k) value

    are : AreOctets (der (kind_term_in profile k) value)
    are = one_of_is_octets (messages profile) (messages_are_grammar profile) (kind_term_in profile k) (kind_is_one_of profile k) value fits short

    whole : judgement profile (length (der (kind_term_in profile k) value)) (der (kind_term_in profile k) value) ≡ verdict.Whole
    whole = one_of_is_whole (messages profile) (messages_are_grammar profile) (kind_term_in profile k) (kind_is_one_of profile k) value fits short

    of : AreMessage profile (length (der (kind_term_in profile k) value)) (der (kind_term_in profile k) value) → IsOfValue profile k value (message_of_der (der (kind_term_in profile k) value))
    of found =
        let same : found.message ≡ message_of_der (der (kind_term_in profile k) value) = sym (message_of_der_is_message profile found.message found.in_profile) ∙ ap message_of_der found.form in
        subst (IsOfValue profile k value) same record { in_profile = found.in_profile; form = found.form }

kind-spells : (profile : Profile) (limit : ℕ) (k : Kind) (j : Json) (m : Message) → limit < 2147483648 → message_spelled profile limit k j ≡ Ok m → IsSpelled profile limit m
kind-spells profile limit k j m small e =
    let s = steps (spelled (kind_term_in profile k) (names_of_kind k) (kind_name k) j) _ m e in
    let p = passed (nat_lt limit (length (der (kind_term_in profile k) s.value))) (kind_name k) _ _ m s.then in
    let fits : Fits (kind_term_in profile k) s.value = term-fits (kind_term_in profile k) (names_of_kind k) (named profile k) (kind_name k) j s.value s.is in
    let short : length (der (kind_term_in profile k) s.value) ≤ limit = ltb-false limit (length (der (kind_term_in profile k) s.value)) p.0 in
    let v : IsOfValue profile k s.value (message_of_der (der (kind_term_in profile k) s.value)) = value-message profile k s.value fits (omega (arith, small, short)) in
    subst (IsSpelled profile limit) (same_ok (message_of_der (der (kind_term_in profile k) s.value)) m p.1) record { in_profile = v.in_profile; short = omega (arith, ap length v.form, short) }

in-line-ok : (r : Result Message Fault) (m : Message) → in_line r ≡ Ok m → r ≡ Ok m
in-line-ok (Ok n) m e = ap Ok (ap (or_message n) e)
in-line-ok (Err fault) m e = cc e

module _ (profile : Profile) (limit : ℕ) (m : Message) (small : limit < 2147483648) where
  named-spells : (j : Json) (o : Option Kind) → named_spells profile limit j o ≡ Ok m → IsSpelled profile limit m
  named-spells j None e = cc e
  named-spells j (Some k) e = kind-spells profile limit k j m small (in-line-ok (message_spelled profile limit k j) m e)

  member-spells : (o : Option (List ℕ × Json)) → member_spells profile limit o ≡ Ok m → IsSpelled profile limit m
  member-spells None e = cc e
  member-spells (Some sole) e = named-spells sole.1 (kind_named sole.0) e

  value-spells : (o : Option Json) → value_spells profile limit o ≡ Ok m → IsSpelled profile limit m
  value-spells None e = cc e
  value-spells (Some j) e = member-spells (option_and_then sole_member (as_object j)) e

pub lines_spell_messages : (profile : Profile) (limit : ℕ) (text : List ℕ) (m : Message) → limit < 2147483648 → line_spells profile limit text ≡ Ok m → IsSpelled profile limit m
lines_spell_messages profile limit text m small e = value-spells profile limit m small (value_of_line text) e
