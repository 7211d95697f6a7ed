-- The numbers, the names and the lengths of the reasons for which a file is refused.
use Rattle.std.specs.Prelude.{ℕ, List, codes, Option, Some, None}
use Rattle.krb_source.specs.declared.file_why.FileWhy.{FileWhy}
use Rattle.krb_source.specs.declared.file_why.FileWhy.TheVariants.{Magic, Version, Truncated, Overrun, WrongLength, TooLong}

abbrev pub file_reason_number : FileWhy → ℕ
file_reason_number Magic = 1
file_reason_number Version = 2
file_reason_number Truncated = 3
file_reason_number Overrun = 4
file_reason_number (WrongLength length) = 4
file_reason_number (TooLong length) = 5

abbrev pub file_reason_name : FileWhy → List ℕ
file_reason_name Magic = codes "Magic"
file_reason_name Version = codes "Version"
file_reason_name Truncated = codes "Truncated"
file_reason_name Overrun = codes "Overrun"
file_reason_name (WrongLength length) = codes "Overrun"
file_reason_name (TooLong length) = codes "TooLong"

-- the length that was read, if it is what is wrong
abbrev pub file_reason_length : FileWhy → Option ℕ
file_reason_length (WrongLength length) = Some length
file_reason_length (TooLong length) = Some length
file_reason_length other = None
