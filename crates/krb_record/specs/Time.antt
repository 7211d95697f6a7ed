-- Times of files and of packets: seconds since 1970-01-01, and nanoseconds.
use Rattle.std.specs.Prelude.{ℕ, zero, suc, pos, ◌+◌, ◌-◌, ◌*◌, ◌/◌, ◌%◌, ◌^◌, ◌==◌, nat_lt, List, [], ◌∷◌, ◌++◌, codes, if◌then◌else◌}
use Rattle.jiff_core.specs.Calendar.{days_in_year, days_in_month}
use Rattle.krb_der.specs.Octets.{when}
use Rattle.krb_record.specs.Values.{Value, Absent, Word}

-- a day of the calendar
pub record CivilDate : Type 0 where
  pub year : ℕ
  pub month : ℕ
  pub day : ℕ

abbrev pub the_date : ℕ → ℕ → ℕ → CivilDate
the_date year month day = record { year = year; month = month; day = day }

-- The date n days after the first of this month, found month by month. The first argument bounds the recursion.
unfoldable pub date_in_year : ℕ → ℕ → ℕ → ℕ → CivilDate
date_in_year zero year month days = the_date year month (days + 1)
date_in_year (suc fuel) year month days =
    when (nat_lt days (days_in_month (pos year) month))
    (λ _. the_date year month (days + 1))
    (λ _. date_in_year fuel year (month + 1) (days - days_in_month (pos year) month))

-- The date n days after the first of January of this year, found year by year. The first argument bounds the recursion.
unfoldable pub date_from : ℕ → ℕ → ℕ → CivilDate
date_from zero year days = date_in_year 12 year 1 days
date_from (suc fuel) year days =
    when (nat_lt days (days_in_year (pos year)))
    (λ _. date_in_year 12 year 1 days)
    (λ _. date_from fuel (year + 1) (days - days_in_year (pos year)))

-- the date n days after 1970-01-01, with no more years between than days
unfoldable pub civil_date : ℕ → CivilDate
civil_date days = date_from days 1970 days

unfoldable pub two_digits : ℕ → List ℕ
two_digits n = (48 + n / 10) ∷ (48 + n % 10) ∷ []

unfoldable pub date_text : CivilDate → List ℕ
date_text date = two_digits (date.year / 100) ++ two_digits (date.year % 100) ++ codes "-" ++ two_digits date.month ++ codes "-" ++ two_digits date.day

-- the hours, minutes and seconds of a day's seconds
unfoldable pub clock_text : ℕ → List ℕ
clock_text seconds = two_digits (seconds / 3600) ++ codes ":" ++ two_digits (seconds / 60 % 60) ++ codes ":" ++ two_digits (seconds % 60)

-- the date and the clock n seconds after the beginning of 1970
abbrev pub second_text : ℕ → List ℕ
second_text seconds = date_text (civil_date (seconds / 86400)) ++ codes "T" ++ clock_text (seconds % 86400)

abbrev pub moment_text : ℕ → List ℕ
moment_text seconds = second_text seconds ++ codes "Z"

-- the moment n seconds after the beginning of 1970, or `-` at 0
abbrev pub time_text : ℕ → List ℕ
time_text seconds = if seconds == 0 then codes "-" else moment_text seconds

-- the same as a value
abbrev pub file_time : ℕ → Value
file_time seconds = if seconds == 0 then Absent else Word (moment_text seconds)

-- the last k decimal digits of a number
abbrev pub last_digits : ℕ → ℕ → List ℕ
last_digits zero n = []
last_digits (suc k) n = (48 + n / 10 ^ k % 10) ∷ last_digits k n

-- the moment of a packet, with nine digits of nanoseconds
unfoldable pub timestamp_text : ℕ → ℕ → List ℕ
timestamp_text seconds nanoseconds = second_text seconds ++ codes "." ++ last_digits 9 nanoseconds ++ codes "Z"

-- the microseconds from the beginning of 1970 to the same moment, rounded down
abbrev pub microseconds : ℕ → ℕ → ℕ
microseconds seconds nanoseconds = (seconds * 1000000000 + nanoseconds % 1000000000) / 1000
