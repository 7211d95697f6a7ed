-- Records of refusals, ends and captures are of printable texts.
use Rattle.std.proofs.Common.{◌≡◌, ℕ, true, false, Option, Some, None, IfSome, List, [], ◌∷◌, ◌++◌, pos, refl, codes, if◌then◌else◌}
use Rattle.std.specs.List.{list_all}
use Rattle.krb_der.specs.Octets.{AreOctets}
use Rattle.krb_der.specs.declared.why.Why.{Why}
use Rattle.krb_der.specs.declared.why.Why.TheVariants as whys
use Rattle.krb_source.specs.Spellings.{spelling_name}
use Rattle.krb_source.specs.declared.layer.Layer.{Layer}
use Rattle.krb_source.specs.declared.spelling.Spelling.{Spelling}
use Rattle.krb_source.specs.declared.spelling.Spelling.TheVariants as spellings
use Rattle.krb_msg.specs.Stream.{Boundary, End, Refused, Within}
use Rattle.krb_record.specs.Captures.{captured as captured_record}
use Rattle.krb_record.specs.Files.{file_origin, file_record, unless_some}
use Rattle.krb_record.specs.Forms.{base_of, field, fields_text, heading, is_plain_form, is_unmarked_plain, labelled, match_base, opening, opening_from}
use Rattle.krb_record.specs.Inputs.{input_kind, input_member, input_refused_record, input_told, input_word}
use Rattle.krb_record.specs.Labels.{file_field, on_json, with_file_if}
use Rattle.krb_record.specs.Laws.{OriginIsInRange}
use Rattle.krb_record.specs.Origins.{message_origin}
use Rattle.krb_der.specs.Reasons.{reason_name, reason_number}
use Rattle.krb_der.specs.declared.verdict.Refusal.{Refusal}
use Rattle.krb_source.specs.FileReasons.{file_reason_name, file_reason_number}
use Rattle.krb_source.specs.declared.file_why.FileWhy.{FileWhy}
use Rattle.krb_record.specs.Refusals.{extent_in, file_refused_record, form_field, known_path, message_refused_record, path_in, spelling_in, told}
use Rattle.krb_record.specs.Streams.{counted_end, counted_end_record, refused_record}
use Rattle.krb_record.specs.Text.{IsPrintable}
use Rattle.krb_record.specs.Values.{Field, FileName, LastLine, Number, Printed, Reason, String, Word, if_there, printed, the, told_by, with_first, with_last, with_origin}
use Rattle.krb_record.specs.declared.capture_origin.CaptureOrigin.{CaptureOrigin}
use Rattle.krb_record.specs.declared.extent.Extent.{Extent}
use Rattle.krb_record.specs.declared.form.Base.{Base}
use Rattle.krb_record.specs.declared.form.Base.TheVariants as bases
use Rattle.krb_record.specs.declared.form.Form.{Form}
use Rattle.krb_record.specs.declared.form.Form.TheVariants as forms
use Rattle.krb_record.specs.declared.input.InputFault.{InputFault}
use Rattle.krb_record.specs.declared.input.InputFault.TheVariants as faults
use Rattle.krb_record.proofs.Printable.{Prints, is_printable, join, word}
use Rattle.krb_record.proofs.Reasons as reasons
use Rattle.krb_text.specs.StreamEnds.{end_record}
use Rattle.krb_text_laws.proofs.EachForm.{IsShown}
use Rattle.krb_text_laws.proofs.EndOneLine.{number_shown, origin_is_plain, origin_shown}
use Rattle.krb_choice_laws.specs.Plain.{ArePlain, IsPlain, IsPlainField, line_text}
use Rattle.krb_choice_laws.proofs.MessagesPlain.{plain-last, plain-origin}
use Rattle.krb_choice_laws.proofs.RowLines.{all-plain}
use Rattle.krb_choice_laws.proofs.Values.{plain-field, plain-fields}

-- ---- the line that tells of a record
in-field : (f : Field) → IsPlainField f → Prints (field forms.NamedLines f.name f.value)
unfolding labelled
in-field f h = join (join (join (word (codes " ") refl) (record { all = h.name })) (word (codes "=") refl)) (record { all = h.line true })

in-fields : (fields : List Field) → ArePlain fields → Prints (fields_text forms.NamedLines fields)
in-fields [] h = word [] refl
in-fields (f ∷ others) h = join (in-field f h.0) (in-fields others h.1)

in-heading : (origin : List Field) (kind : List ℕ) → ArePlain origin → IsPrintable kind → Prints (heading forms.NamedLines origin kind)
unfolding opening opening_from labelled
in-heading [] kind h k = record { all = k }
in-heading (f ∷ others) kind h k =
    join (join (join (join (join (record { all = h.0.name }) (word (codes "=") refl)) (record { all = h.0.line true })) (in-fields others h.1)) (word (codes " ") refl)) (record { all = k })

aside-plain : (line : LastLine) → ArePlain line.origin → IsPrintable line.kind → ArePlain line.fields → IsPrintable (line_text line)
aside-plain line h k fields = (join (in-heading line.origin line.kind h k) (in-fields line.fields fields)).all

-- ---- records of a kind and fields, from an origin
pub of-fields : (origin : List Field) (kind : List ℕ) (fields : List Field) → ArePlain origin → IsPrintable kind → ArePlain fields → IsPlain (with_origin origin (printed kind fields))
of-fields origin kind fields h k fs = record { kind = k; origin = h; fields = fs; inside = tt; last = tt; aside = tt }

pub of-told : (origin : List Field) (named kind : List ℕ) (line fields : List Field) → ArePlain origin → IsPrintable named → ArePlain line → IsPrintable kind → ArePlain fields
    → IsPlain (with_origin origin (told_by (printed named line) (printed kind fields)))
of-told origin named kind line fields h n l k fs = record { kind = k; origin = h; fields = fs; inside = tt; last = tt; aside = aside-plain (record { origin = origin; kind = named; fields = line }) h n l }

pub of-capture : (form : Form) (origin : CaptureOrigin) (kind : List ℕ) (fields : List Field) → OriginIsInRange origin → IsPrintable kind → ArePlain fields → IsPlain (captured_record form origin (printed kind fields))
of-capture form origin kind fields range k fs = record { kind = k; origin = plain-origin form origin range; fields = fs; inside = tt; last = plain-last origin; aside = tt }

-- ---- what is told
pub told-plain : (form : Form) (fields : List Field) → ArePlain fields → ArePlain (told form fields)
told-plain form fields h = elim (is_plain_form form) as (λ b. ArePlain (if b then [] else fields)) [ true ↦ tt | false ↦ h ]

octets-shown : (path : Option (List ℕ)) → IfSome path AreOctets → IsShown (if_there String path)
octets-shown None h = tt
octets-shown (Some octets) h = h

pub in-path : (form : Form) (path : Option (List ℕ)) → IfSome path AreOctets → ArePlain (path_in form path)
in-path form path h = told-plain form _ (plain-field (the (codes "in") (if_there String path)) refl (octets-shown path h), tt)

pub known : (form : Form) (path : Option (List ℕ)) → IfSome path AreOctets → IfSome (known_path form path) AreOctets
known form path h = elim (is_unmarked_plain form) as (λ b. IfSome (if b then None else path) AreOctets) [ true ↦ tt | false ↦ h ]

in-extent : (form : Form) (extent : Extent) → ArePlain (extent_in form extent)
in-extent form extent = told-plain form _ (plain-fields (extent_in forms.NamedLines extent) refl (tt, (number_shown extent.length, tt)))

abbrev pub located_in : Form → Option (List ℕ) → Extent → List Field
located_in form path extent = path_in form path ++ extent_in form extent

pub located : (form : Form) (path : Option (List ℕ)) (extent : Extent) → IfSome path AreOctets → ArePlain (located_in form path extent)
located form path extent h = all-plain (path_in form path) (extent_in form extent) (in-path form path h) (in-extent form extent)

spelled : (s : Spelling) → Prints (spelling_name s)
spelled spellings.Octets = word _ refl
spelled other = word _ refl

spelled-if : (s : Option Spelling) → IsShown (if_there (λ s. Word (spelling_name s)) s)
spelled-if None = tt
spelled-if (Some s) = (spelled s).all

in-spelling : (form : Form) (s : Spelling) → ArePlain (spelling_in form s)
in-spelling form s = told-plain form _ (plain-field (form_field (Some s)) refl (spelled s).all, tt)

-- ---- refusals
pub refused-kind : IsPrintable (codes "refused")
refused-kind = (word (codes "refused") refl).all

pub faulty : (place number : ℕ) (name : List ℕ) (fields : List Field) → IsPrintable name → ArePlain fields → ArePlain (the (codes "place") (Number (pos place)) ∷ the (codes "why") (Reason number name) ∷ fields)
faulty place number name fields h fs = (plain-field (the (codes "place") (Number (pos place))) refl tt, (plain-field (the (codes "why") (Reason number name)) refl h, fs))

-- octets that are refused, with the path and what follows it
fault-plain : (origin : List Field) (place number : ℕ) (name : List ℕ) (line fields : List Field) → ArePlain origin → IsPrintable name → ArePlain line → ArePlain fields
    → IsPlain (with_origin origin (told_by (printed (codes "refused") (the (codes "place") (Number (pos place)) ∷ the (codes "why") (Reason number name) ∷ line)) (printed (codes "refused") (the (codes "place") (Number (pos place)) ∷ the (codes "why") (Reason number name) ∷ fields))))
fault-plain origin place number name line fields h n l fs =
    of-told origin (codes "refused") (codes "refused") _ _ h refused-kind (faulty place number name line n l) refused-kind (faulty place number name fields n fs)

pub from-message : (line : Option ℕ) (layers : List Layer) → ArePlain (message_origin line layers)
from-message line layers = plain-fields (message_origin line layers) (origin_is_plain line layers) (origin_shown line layers)

pub file-refused : (form : Form) (place : ℕ) (reason : FileWhy) (path : Option (List ℕ)) (extent : Extent) → IfSome path AreOctets → IsPlain (file_refused_record form place reason path extent)
file-refused form place reason path extent h =
    let path_is = known_path form path in let p = known form path h in
    fault-plain [] place (file_reason_number reason) (file_reason_name reason) _ _ tt (reasons.file_name reason).all (located forms.NamedLines path_is extent p) (located form path_is extent p)

pub message-refused : (form : Form) (line : Option ℕ) (layers : List Layer) (refusal : Refusal) (path : Option (List ℕ)) (extent : Extent) (spelling : Spelling) → IfSome path AreOctets
    → IsPlain (with_origin (message_origin line layers) (message_refused_record form refusal path extent spelling))
message-refused form line layers refusal path extent spelling h =
    let path_is = known_path form path in let p = known form path h in
    let by = λ (f : Form). all-plain (path_in f path_is ++ extent_in f extent) (spelling_in f spelling) (located f path_is extent p) (in-spelling f spelling) in
    fault-plain (message_origin line layers) refusal.place (reason_number refusal.why) (reason_name refusal.why) _ _ (from-message line layers) (reasons.name refusal.why).all (by forms.NamedLines) (by form)

-- ---- streams
frame-plain : (messages place : ℕ) (reason : Why) (fields : List Field) → ArePlain fields
    → ArePlain (the (codes "messages") (Number (pos messages)) ∷ the (codes "place") (Number (pos place)) ∷ the (codes "why") (Reason (reason_number reason) (reason_name reason)) ∷ fields)
frame-plain messages place reason fields h =
    (plain-field (the (codes "messages") (Number (pos messages))) refl tt, faulty place (reason_number reason) (reason_name reason) fields (reasons.name reason).all h)

frame-refused : (form : Form) (messages place : ℕ) (reason : Why) (path : Option (List ℕ)) (extent : Extent) → IfSome path AreOctets → IsPlain (refused_record form messages place reason path extent)
frame-refused form messages place reason path extent h =
    let path_is = known_path form path in let p = known form path h in
    of-told [] (codes "refused") (codes "refused") _ _ tt refused-kind (frame-plain messages place reason (located_in forms.NamedLines path_is extent) (located forms.NamedLines path_is extent p)) refused-kind
    (frame-plain messages place reason (located_in form path_is extent) (located form path_is extent p))

pub end-kind : IsPrintable (codes "end")
end-kind = (word (codes "end") refl).all

pub stream-end : (form : Form) (messages : ℕ) (end : End) (path : Option (List ℕ)) (extent : Extent) → IfSome path AreOctets → IsPlain (end_record form messages end path extent)
stream-end form messages Boundary path extent h = of-fields [] (codes "end") _ tt end-kind (plain-field (the (codes "messages") (Number (pos messages))) refl tt, tt)
stream-end form messages (Within present) path extent h = frame-refused form messages present whys.Truncated path extent h
stream-end form messages (Refused place reason) path extent h = frame-refused form messages place reason path extent h

pub counted-end : (messages refused : ℕ) → IsPlain (counted_end_record messages refused)
counted-end messages refused = let fields = plain-fields (counted_end messages refused).fields refl (tt, (tt, tt)) in of-told [] (codes "end") (codes "end") _ _ tt end-kind fields end-kind fields

-- ---- input that is refused
match-base : {A : Type 0} (P : A → Type 0) (base : Option Base) (line other : A) → P line → P other → P (match_base base line other)
match-base P (Some bases.Lines) line other h k = h
match-base P (Some bases.NamedLines) line other h k = h
match-base P (Some bases.Json) line other h k = k
match-base P None line other h k = k

worded : (fault : InputFault) → Prints (input_word fault)
worded (faults.Misspelled spelling) = spelled spelling
worded other = word _ refl

input-kind : (form : Form) (fault : InputFault) → IsPrintable (input_kind form fault)
input-kind form fault = match-base IsPrintable (base_of form) (codes "refused " ++ input_word fault) (codes "refused") (join (word (codes "refused ") refl) (worded fault)).all refused-kind

input-member : (form : Form) (fault : InputFault) → ArePlain (input_member form fault)
input-member form fault = match-base ArePlain (base_of form) [] (the (codes "input") (Word (input_word fault)) ∷ []) tt (plain-field (the (codes "input") (Word (input_word fault))) refl (worded fault).all, tt)

input-told : (form : Form) (place : Option ℕ) (extent : Extent) (spelling : Option Spelling) → ArePlain (input_told form place extent spelling)
input-told form place extent spelling = told-plain form _ (plain-fields (input_told forms.NamedLines place extent spelling) refl (number_shown place, (tt, (tt, (tt, (number_shown extent.length, (spelled-if spelling, tt)))))))

pub input-refused : (form : Form) (line : Option ℕ) (layers : List Layer) (fault : InputFault) (place : Option ℕ) (extent : Extent) (spelling : Option Spelling)
    → IsPlain (with_origin (message_origin line layers) (input_refused_record form fault place extent spelling))
input-refused form line layers fault place extent spelling =
    let by = λ (f : Form). all-plain (input_member f fault) (input_told f place extent spelling) (input-member f fault) (input-told f place extent spelling) in
    of-told (message_origin line layers) _ _ _ _ (from-message line layers) (input-kind forms.NamedLines fault) (by forms.NamedLines) (input-kind form fault) (by form)

-- ---- names of files
name-field : (name : List ℕ) (of : List ℕ) → AreOctets name → list_all is_printable of ≡ true → IsPlainField (the of (FileName name))
name-field name of h e = plain-field (the of (FileName name)) e h

pub file-name : (form : Form) (name : List ℕ) → AreOctets name → IsPlain (with_origin (file_origin form name) (file_record name))
file-name form name h = of-fields (file_origin form name) (codes "file") _ (by (base_of form)) (word (codes "file") refl).all (name-field name (codes "name") h refl, tt)
  where
    by : (base : Option Base) → ArePlain (unless_some base (the (codes "file") (FileName name) ∷ []))
    by (Some base) = tt
    by None = (name-field name (codes "file") h refl, tt)

pub labels : (form : Form) (file : Option (List ℕ)) (r : Printed) → IfSome file AreOctets → IsPlain r → IsPlain (with_file_if form file r)
labels form None r h plain = plain
labels form (Some name) r h plain = by (base_of form)
  where
    file : IsPlainField (file_field name)
    file = name-field name (codes "file") h refl

    last : IsPlain (with_last (r.last ++ file_field name ∷ []) r)
    last = record { kind = plain.kind; origin = plain.origin; fields = plain.fields; inside = plain.inside; last = all-plain r.last (file_field name ∷ []) plain.last (file, tt); aside = plain.aside }

    first : IsPlain (with_first (file_field name) r)
    first = record { kind = plain.kind; origin = (file, plain.origin); fields = plain.fields; inside = plain.inside; last = plain.last; aside = plain.aside }

    by : (base : Option Base) → IsPlain (on_json base (with_last (r.last ++ file_field name ∷ []) r) (with_first (file_field name) r))
    by (Some bases.Lines) = first
    by (Some bases.NamedLines) = first
    by (Some bases.Json) = last
    by None = first
