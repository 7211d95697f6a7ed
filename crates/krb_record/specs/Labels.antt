-- Records that name their file, which tells them from those of other files.
use Rattle.std.specs.Prelude.{ℕ, ◌≡◌, List, [], ◌∷◌, ◌++◌, Option, Some, None, codes}
use Rattle.krb_record.specs.declared.form.Form.{Form}
use Rattle.krb_record.specs.declared.form.Base.{Base}
use Rattle.krb_record.specs.declared.form.Base.TheVariants as bases
use Rattle.krb_record.specs.Forms.{base_of, labelled, match_base, record_line}
use Rattle.krb_record.specs.Values.{FileName, Field, Printed, the, with_first, with_last}

-- in which form records are written, and the name of their file, if each of them has it
pub record Label : Type 0 where
  pub form : Form
  pub file : Option (List ℕ)

abbrev pub no_label : Form → Label
no_label form = record { form = form; file = None }

abbrev pub file_field : List ℕ → Field
file_field name = the (codes "file") (FileName name)

-- a line and a row have the name first, and an object last
abbrev pub on_json : {A : Type 0} → Option Base → (json other : A) → A
on_json (Some bases.Lines) json other = other
on_json (Some bases.NamedLines) json other = other
on_json (Some bases.Json) json other = json
on_json None json other = other

abbrev pub with_file : Form → List ℕ → Printed → Printed
with_file f name r = on_json (base_of f) (with_last (r.last ++ file_field name ∷ []) r) (with_first (file_field name) r)

abbrev pub with_file_if : Form → Option (List ℕ) → Printed → Printed
with_file_if form None r = r
with_file_if form (Some name) r = with_file form name r

-- a record with its label
abbrev pub with_label : Label → Printed → Printed
with_label label r = with_file_if label.form label.file r

-- the line or the object of a record with its label
abbrev pub line_of : Label → Printed → List ℕ
line_of label r = record_line label.form (with_label label r)

-- ---- how a label is written
abbrev pub label_end : Form → List ℕ
label_end f = match_base (base_of f) (codes " ") []

-- `file=NAME ` or `,"file":"NAME"`
unfoldable pub label_text : Form → List ℕ → List ℕ
label_text form name = labelled form (codes "file=") (codes ",\"file") (FileName name) ++ label_end form

abbrev pub begin_text_of : Form → Option (List ℕ) → List ℕ
begin_text_of form None = []
begin_text_of f (Some name) = on_json (base_of f) [] (label_text f name)

-- what a line has before its record
abbrev pub begin_text : Label → List ℕ
begin_text label = begin_text_of label.form label.file

-- members were added at the end of the object that ends a text
abbrev pub AddsMembers : (members old new : List ℕ) → Type 0
AddsMembers members old new = (object : List ℕ) → old ≡ object ++ codes "}\n" → new ≡ object ++ members ++ codes "}\n"

-- The record that ends a text, after what its line has before it, is one with its label now.
abbrev pub EndsRecord : Label → (old new : List ℕ) → Type 0
EndsRecord label old new = (before : List ℕ) (r : Printed) → old ≡ (before ++ begin_text label) ++ record_line label.form r → new ≡ before ++ line_of label r
