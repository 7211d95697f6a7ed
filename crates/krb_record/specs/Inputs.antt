-- Input that is refused before it is looked at as a message.
use Rattle.std.specs.Prelude.{ℕ, pos, List, [], ◌∷◌, ◌++◌, Option, codes}
use Rattle.krb_source.specs.Spellings.{spelling_name}
use Rattle.krb_source.specs.declared.spelling.Spelling.{Spelling}
use Rattle.krb_record.specs.declared.extent.Extent.{Extent}
use Rattle.krb_record.specs.declared.form.Form.{Form}
use Rattle.krb_record.specs.declared.form.Form.TheVariants.{NamedLines}
use Rattle.krb_record.specs.declared.input.InputFault.{InputFault}
use Rattle.krb_record.specs.declared.input.InputFault.TheVariants as faults
use Rattle.krb_record.specs.Forms.{base_of, match_base, record_line}
use Rattle.krb_record.specs.Refusals.{at_field, length_field, form_field, told}
use Rattle.krb_record.specs.Values.{Absent, NoReason, Number, Word, Field, Printed, the, printed, told_by, with_origin, if_there}

abbrev pub input_word : InputFault → List ℕ
input_word faults.Length = codes "length"
input_word (faults.Misspelled spelling) = spelling_name spelling
input_word faults.Ntlm = codes "ntlm"

-- a line has the word in its kind, and an object and a row have it in a member
abbrev pub input_kind : Form → InputFault → List ℕ
input_kind form fault = match_base (base_of form) (codes "refused " ++ input_word fault) (codes "refused")

abbrev pub input_member : Form → InputFault → List Field
input_member form fault = match_base (base_of form) [] (the (codes "input") (Word (input_word fault)) ∷ [])

-- all else is told: the place, if there is one, no reason, no path, where the input lies, and how its octets are spelled, if it has any
abbrev pub input_told : Form → Option ℕ → Extent → Option Spelling → List Field
input_told form place extent spelling =
    told form (the (codes "place") (if_there (λ n. Number (pos n)) place)
    ∷ the (codes "why") NoReason
    ∷ the (codes "in") Absent
    ∷ at_field extent
    ∷ length_field extent
    ∷ form_field spelling
    ∷ [])

abbrev pub refused_input : Form → InputFault → Option ℕ → Extent → Option Spelling → Printed
refused_input form fault place extent spelling = printed (input_kind form fault) (input_member form fault ++ input_told form place extent spelling)

abbrev pub input_refused_record : Form → InputFault → Option ℕ → Extent → Option Spelling → Printed
input_refused_record form fault place extent spelling = told_by (refused_input NamedLines fault place extent spelling) (refused_input form fault place extent spelling)

abbrev pub input_refused_line : Form → List Field → InputFault → Option ℕ → Extent → Option Spelling → List ℕ
input_refused_line form origin fault place extent spelling = record_line form (with_origin origin (input_refused_record form fault place extent spelling))
