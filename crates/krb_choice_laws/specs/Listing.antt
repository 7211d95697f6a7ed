-- The listing that a choice makes of records.
use Rattle.std.specs.Prelude.{ℕ, ◌≡◌, ◌&&◌, Bool, true, false, not, List, [], ◌∷◌, ◌++◌, Option, bytes_eq, codes}
use Rattle.std.specs.List.{AllByRecursion, flat_map, list_any}
use Rattle.krb_der.specs.declared.verdict.Refusal.{Refusal}
use Rattle.krb_der.specs.declared.why.Why.{Why}
use Rattle.krb_source.specs.declared.file_why.FileWhy.{FileWhy}
use Rattle.krb_source.specs.declared.spelling.Spelling.{Spelling}
use Rattle.krb_record.specs.Captures.{capture_end_record, capture_refused_record}
use Rattle.krb_record.specs.Forms.{form_of, kept_form, record_line}
use Rattle.krb_record.specs.Inputs.{input_refused_record}
use Rattle.krb_record.specs.Labels.{with_file_if}
use Rattle.krb_record.specs.Refusals.{file_refused_record, message_refused_record}
use Rattle.krb_record.specs.Streams.{counted_end_record, refused_record}
use Rattle.krb_record.specs.Values.{Field, Printed, with_origin}
use Rattle.krb_record.specs.declared.capture.CaptureCounts.{CaptureCounts}
use Rattle.krb_record.specs.declared.extent.Extent.{Extent}
use Rattle.krb_record.specs.declared.form.Base.{Base}
use Rattle.krb_record.specs.declared.form.Form.{Form}
use Rattle.krb_record.specs.declared.input.InputFault.{InputFault}
use Rattle.krb_record.specs.declared.told.ToldCounts.{ToldCounts}
use Rattle.krb_choice.specs.Choices.{Choice, Whole, chosen_text, is_there, kind_alone, told_text}
use Rattle.krb_choice.specs.Wanted.{choice_form}
use Rattle.krb_choosing.specs.Listings.{chosen_listing, told_listing}
use Rattle.krb_choice_laws.specs.Plain.{IsPlain}

-- a record may be the last one if a line tells of it, unless it is a refusal after which the listing goes on
abbrev pub may_be_last : (goes_on : Bool) → Printed → Bool
may_be_last goes_on r = is_there r.aside && not (goes_on && bytes_eq (kind_alone r.kind) (codes "refused"))

-- Of a listing is written what the choice has of each record, in order.
abbrev pub ListingsAreChosen : Type 0
ListingsAreChosen = (c : Choice) (goes_on : Bool) (records : List Printed) → AllByRecursion IsPlain records → chosen_listing c goes_on (flat_map (record_line (choice_form c)) records) ≡ flat_map (λ r. chosen_text c (may_be_last goes_on r) r) records

-- With all kinds it is the listing itself.
abbrev pub AllKindsAreListed : Type 0
AllKindsAreListed =
    (kinds : List (List ℕ)) (base : Base) (goes_on : Bool) (records : List Printed) → AllByRecursion IsPlain records → AllByRecursion (λ (r : Printed). list_any (bytes_eq (kind_alone r.kind)) kinds ≡ true) records
    → chosen_listing (record { by_kind = true; kinds = kinds; print = Whole base }) goes_on (flat_map (record_line (kept_form base)) records) ≡ flat_map (record_line (form_of base)) records

-- ---- nothing is lost in silence
-- What is told of a listing is the line that tells of its last record, unless that is kept.
abbrev pub ListingsAreTold : Type 0
ListingsAreTold =
    (c : Choice) (goes_on : Bool) (before : List Printed) (last : Printed) → AllByRecursion IsPlain before → IsPlain last → may_be_last goes_on last ≡ true
    → told_listing c goes_on (flat_map (record_line (choice_form c)) (before ++ last ∷ [])) ≡ told_text c last

-- with the name of its file, and from an origin, too
abbrev pub MayEnd : (goes_on : Bool) → Form → Printed → Type 0
MayEnd goes_on form r = (file : Option (List ℕ)) (origin : List Field) → may_be_last goes_on (with_file_if form file (with_origin origin r)) ≡ true

-- Such a last one is each that ends a listing of which something was refused, lost or left unread: a refusal, the end of a capture, and that of a listing that goes on after refusals.
pub record EndsAreTold : Type 0 where
  pub file : (form : Form) (place : ℕ) (reason : FileWhy) (path : Option (List ℕ)) (extent : Extent) → MayEnd false form (file_refused_record form place reason path extent)
  pub message : (form : Form) (refusal : Refusal) (path : Option (List ℕ)) (extent : Extent) (spelling : Spelling) → MayEnd false form (message_refused_record form refusal path extent spelling)
  pub input : (form : Form) (fault : InputFault) (place : Option ℕ) (extent : Extent) (spelling : Option Spelling) → MayEnd false form (input_refused_record form fault place extent spelling)
  pub stream : (form : Form) (messages place : ℕ) (reason : Why) (path : Option (List ℕ)) (extent : Extent) → MayEnd false form (refused_record form messages place reason path extent)
  pub capture : (form : Form) (counts : CaptureCounts) (told : ToldCounts) → MayEnd false form (capture_end_record form counts told)
  pub refused_capture : (form : Form) (counts : CaptureCounts) (told : ToldCounts) (place : ℕ) (reason : FileWhy) (path : Option (List ℕ)) (extent : Extent) → MayEnd false form (capture_refused_record form counts told place reason path extent)
  pub counted : (form : Form) (messages refused : ℕ) → MayEnd true form (counted_end_record messages refused)
