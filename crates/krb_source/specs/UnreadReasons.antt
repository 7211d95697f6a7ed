-- The numbers and the names of the reasons for which octets of a capture are in no message.
use Rattle.std.specs.Prelude.{ℕ, List, codes}
use Rattle.krb_source.specs.declared.unread_why.UnreadWhy.{UnreadWhy}
use Rattle.krb_source.specs.declared.unread_why.UnreadWhy.TheVariants.{Surplus, Reset, Before, Ahead, Old, Differs}

abbrev pub unread_reason_number : UnreadWhy → ℕ
unread_reason_number Surplus = 1
unread_reason_number Reset = 2
unread_reason_number Before = 3
unread_reason_number Ahead = 4
unread_reason_number Old = 5
unread_reason_number Differs = 6

abbrev pub unread_reason_name : UnreadWhy → List ℕ
unread_reason_name Surplus = codes "Surplus"
unread_reason_name Reset = codes "Reset"
unread_reason_name Before = codes "Before"
unread_reason_name Ahead = codes "Ahead"
unread_reason_name Old = codes "Old"
unread_reason_name Differs = codes "Differs"
