-- The numbers and the names of the reasons for a refusal, and what a refusal prints.
use Rattle.std.specs.Prelude.{ℕ, List, ◌++◌, codes}
use Rattle.std.specs.Fmt.{decimal}
use Rattle.krb_der.specs.declared.verdict.Refusal.{Refusal}
use Rattle.krb_der.specs.declared.why.Why.{Why}
use Rattle.krb_der.specs.declared.why.Why.TheVariants.{HighBit, TooLong, Empty, Tag, Overrun, Indefinite, LengthWide, LengthNotMinimal, Loose, Size, IntegerNotMinimal, Range, Time, Bits, Missing, Truncated, Charset}

abbrev pub reason_number : Why → ℕ
reason_number HighBit = 1
reason_number TooLong = 2
reason_number Empty = 3
reason_number Tag = 4
reason_number Overrun = 5
reason_number Indefinite = 6
reason_number LengthWide = 7
reason_number LengthNotMinimal = 8
reason_number Loose = 9
reason_number Size = 10
reason_number IntegerNotMinimal = 11
reason_number Range = 12
reason_number Time = 13
reason_number Bits = 14
reason_number Missing = 15
reason_number Truncated = 16
reason_number Charset = 17

abbrev pub reason_name : Why → List ℕ
reason_name HighBit = codes "HighBit"
reason_name TooLong = codes "TooLong"
reason_name Empty = codes "Empty"
reason_name Tag = codes "Tag"
reason_name Overrun = codes "Overrun"
reason_name Indefinite = codes "Indefinite"
reason_name LengthWide = codes "LengthWide"
reason_name LengthNotMinimal = codes "LengthNotMinimal"
reason_name Loose = codes "Loose"
reason_name Size = codes "Size"
reason_name IntegerNotMinimal = codes "IntegerNotMinimal"
reason_name Range = codes "Range"
reason_name Time = codes "Time"
reason_name Bits = codes "Bits"
reason_name Missing = codes "Missing"
reason_name Truncated = codes "Truncated"
reason_name Charset = codes "Charset"

abbrev pub refusal_text : Refusal → List ℕ
refusal_text refusal = codes "refused at " ++ decimal refusal.place ++ codes ": " ++ reason_name refusal.why
