-- The text of a fault of reading a file, and the field that is at fault.
use Rattle.std.specs.Prelude.{ℕ, List, ◌++◌, codes, Option, None}
use Rattle.std.specs.Fmt.{decimal}
use Rattle.krb_file.specs.declared.fault.FileFault.{FileFault}
use Rattle.krb_file.specs.declared.fault.FileFault.TheVariants.{Refused, Read, Memory}
use Rattle.krb_file.specs.declared.field_name.FileField.{FileField}
use Rattle.krb_source.specs.FileReasons.{file_reason_name}

abbrev pub file_fault_text : FileFault → List ℕ
file_fault_text (Refused fault) = codes "refused at " ++ decimal fault.place ++ codes ": " ++ file_reason_name fault.why
file_fault_text Read = codes "a read failed"
file_fault_text Memory = codes "out of memory"

abbrev pub fault_field : FileFault → Option FileField
fault_field (Refused fault) = fault.field
fault_field Read = None
fault_field Memory = None
