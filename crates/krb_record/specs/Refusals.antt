-- A refused file, and octets that are no message.
use Rattle.std.specs.Prelude.{ℕ, pos, List, [], ◌∷◌, ◌++◌, Option, None, Some, codes, if◌then◌else◌}
use Rattle.krb_der.specs.Reasons.{reason_number, reason_name}
use Rattle.krb_der.specs.declared.verdict.Refusal.{Refusal}
use Rattle.krb_source.specs.FileReasons.{file_reason_number, file_reason_name}
use Rattle.krb_source.specs.declared.file_why.FileWhy.{FileWhy}
use Rattle.krb_source.specs.Spellings.{spelling_name}
use Rattle.krb_source.specs.declared.spelling.Spelling.{Spelling}
use Rattle.krb_record.specs.declared.extent.Extent.{Extent}
use Rattle.krb_record.specs.declared.form.Form.{Form}
use Rattle.krb_record.specs.declared.form.Form.TheVariants.{NamedLines}
use Rattle.krb_record.specs.Forms.{is_plain_form, is_unmarked_plain, record_line}
use Rattle.krb_record.specs.Values.{Number, Reason, String, Word, Field, Printed, the, printed, told_by, with_origin, if_there}

-- ---- fields that are told: lines have them only with names
abbrev pub told : Form → List Field → List Field
told form fields = if is_plain_form form then [] else fields

-- the path of the field at fault, if there is one
abbrev pub path_in : Form → Option (List ℕ) → List Field
path_in form path = told form (the (codes "in") (if_there String path) ∷ [])

-- the path that records of a form show, if only in a line with names that tells of the last one
abbrev pub known_path : Form → Option (List ℕ) → Option (List ℕ)
known_path form path = if is_unmarked_plain form then None else path

-- where the octets lie that are refused, and how many they are, if that is known
abbrev pub at_field : Extent → Field
at_field extent = the (codes "at") (Number (pos extent.at))

abbrev pub length_field : Extent → Field
length_field extent = the (codes "length") (if_there (λ n. Number (pos n)) extent.length)

abbrev pub extent_in : Form → Extent → List Field
extent_in form extent = told form (at_field extent ∷ length_field extent ∷ [])

-- how the octets are spelled, if they are
abbrev pub form_field : Option Spelling → Field
form_field spelling = the (codes "form") (if_there (λ s. Word (spelling_name s)) spelling)

abbrev pub spelling_in : Form → Spelling → List Field
spelling_in form spelling = told form (form_field (Some spelling) ∷ [])

-- ---- records
-- a place, the number and the name of a reason, and what is told of these
abbrev pub fault_record : ℕ → ℕ → List ℕ → List Field → Printed
fault_record place number name fields = printed (codes "refused") (the (codes "place") (Number (pos place)) ∷ the (codes "why") (Reason number name) ∷ fields)

-- a refused file
abbrev pub refused_file : Form → ℕ → FileWhy → Option (List ℕ) → Extent → Printed
refused_file form place reason path extent = fault_record place (file_reason_number reason) (file_reason_name reason) (path_in form path ++ extent_in form extent)

abbrev pub file_refused : Form → ℕ → FileWhy → Option (List ℕ) → Extent → Printed
file_refused form place reason path extent = told_by (refused_file NamedLines place reason path extent) (refused_file form place reason path extent)

abbrev pub file_refused_record : Form → ℕ → FileWhy → Option (List ℕ) → Extent → Printed
file_refused_record form place reason path extent = file_refused form place reason (known_path form path) extent

abbrev pub file_refused_line : Form → ℕ → FileWhy → Option (List ℕ) → Extent → List ℕ
file_refused_line form place reason path extent = record_line form (file_refused_record form place reason path extent)

-- refused octets, with what is told of these
abbrev pub refusal_record : Refusal → List Field → Printed
refusal_record refusal fields = fault_record refusal.place (reason_number refusal.why) (reason_name refusal.why) fields

-- octets of an origin that are no message, and how they are spelled
abbrev pub refused_message : Form → Refusal → Option (List ℕ) → Extent → Spelling → Printed
refused_message form refusal path extent spelling = refusal_record refusal (path_in form path ++ extent_in form extent ++ spelling_in form spelling)

abbrev pub message_refused : Form → Refusal → Option (List ℕ) → Extent → Spelling → Printed
message_refused form refusal path extent spelling = told_by (refused_message NamedLines refusal path extent spelling) (refused_message form refusal path extent spelling)

abbrev pub message_refused_record : Form → Refusal → Option (List ℕ) → Extent → Spelling → Printed
message_refused_record form refusal path extent spelling = message_refused form refusal (known_path form path) extent spelling

abbrev pub message_refused_line : Form → List Field → Refusal → Option (List ℕ) → Extent → Spelling → List ℕ
message_refused_line form origin refusal path extent spelling = record_line form (with_origin origin (message_refused_record form refusal path extent spelling))

-- the same without an origin, with the path alone
abbrev pub untold_message_refused_line : Form → Refusal → Option (List ℕ) → List ℕ
untold_message_refused_line form refusal path = record_line form (refusal_record refusal (path_in form path))
