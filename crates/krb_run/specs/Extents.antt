-- What records of refusals tell of where these are.
use Rattle.std.specs.Prelude.{ℕ, List, Option}
use Rattle.krb_file.specs.Fields.{Fault}
use Rattle.krb_source.specs.FileReasons.{file_reason_length}
use Rattle.krb_record.specs.declared.extent.Extent.{Extent}
use Rattle.krb_record.specs.Labels.{Label, line_of}
use Rattle.krb_record.specs.Refusals.{file_refused_record}

-- of a file: where the part begins that the field at fault is in, and the length that was read, if that is wrong
abbrev pub extent_of : Fault → Extent
extent_of fault = record { at = fault.begin; length = file_reason_length fault.why }

-- the line of a refused file, with the path of the field at fault, if it has one
abbrev pub fault_line : Label → Fault → Option (List ℕ) → List ℕ
fault_line label fault path = line_of label (file_refused_record label.form fault.place fault.why path (extent_of fault))
