-- What ends a listing may be its last record: it has a line that tells of it.
use Rattle.std.proofs.Common.{◌≡◌, ℕ, true, false, Bool, List, ◌∷◌, [], ◌++◌, Option, Some, None, refl}
use Rattle.krb_record.specs.Forms.{base_of}
use Rattle.krb_record.specs.Labels.{file_field, on_json, with_file_if}
use Rattle.krb_record.specs.Values.{Printed, with_first, with_last}
use Rattle.krb_record.specs.declared.form.Base.{Base}
use Rattle.krb_record.specs.declared.form.Base.TheVariants as bases
use Rattle.krb_record.specs.declared.form.Form.{Form}
use Rattle.krb_choice_laws.specs.Listing.{EndsAreTold, may_be_last}

-- the name of a file changes nothing of that
with-name : (goes_on : Bool) (base : Option Base) (name : List ℕ) (r : Printed) → may_be_last goes_on r ≡ true → may_be_last goes_on (on_json base (with_last (r.last ++ file_field name ∷ []) r) (with_first (file_field name) r)) ≡ true
with-name goes_on None name r h = h
with-name goes_on (Some bases.Lines) name r h = h
with-name goes_on (Some bases.NamedLines) name r h = h
with-name goes_on (Some bases.Json) name r h = h

with-file : (goes_on : Bool) (form : Form) (file : Option (List ℕ)) (r : Printed) → may_be_last goes_on r ≡ true → may_be_last goes_on (with_file_if form file r) ≡ true
with-file goes_on form None r h = h
with-file goes_on form (Some name) r h = with-name goes_on (base_of form) name r h

pub ends-told : EndsAreTold
ends-told = record {
  file = λ form place reason path extent file origin. with-file false form file _ refl;
  message = λ form refusal path extent spelling file origin. with-file false form file _ refl;
  input = λ form fault place extent spelling file origin. with-file false form file _ refl;
  stream = λ form messages place reason path extent file origin. with-file false form file _ refl;
  capture = λ form counts told file origin. with-file false form file _ refl;
  refused_capture = λ form counts told place reason path extent file origin. with-file false form file _ refl;
  counted = λ form messages refused file origin. with-file true form file _ refl;
}
