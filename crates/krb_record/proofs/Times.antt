-- The texts of times are printable.
use Rattle.std.proofs.Common.{ℕ, zero, suc, pos, ◌+◌, ◌-◌, ◌/◌, ◌%◌, ◌^◌, ◌<◌, ◌≤◌, inl, inr, refl, sym, subst, arith, codes}
use Rattle.std.proofs.lemmas.Bool.{cases_lt}
use Rattle.jiff_core.specs.Calendar.{days_in_year, days_in_month}
use Rattle.jiff_core.proofs.CalendarLemmas.{days_in_year_bounds}
use Rattle.krb_record.specs.Text.{IsPrintable}
use Rattle.krb_record.specs.Time.{CivilDate, date_in_year, date_from, civil_date, two_digits, date_text, clock_text, second_text, moment_text, last_digits, timestamp_text}
use Rattle.krb_record.proofs.Dates.{in_year-here, in_year-next, from-zero, from-here, from-next}
use Rattle.krb_record.proofs.Printable.{Prints, word, join}

-- ---- times
-- small enough that each digit is below 79
abbrev IsNear : CivilDate → Type 0
IsNear date = (date.year < 79000) × (date.month ≤ 13) × (date.day ≤ 367)

near_in_year : (fuel year month days : ℕ) → year < 79000 → month + fuel ≤ 13 → days ≤ 366 → IsNear (date_in_year fuel year month days)
unfolding date_in_year
near_in_year zero year month days y m d = (y, omega arith, omega arith)
near_in_year (suc fuel) year month days y m d =
    elim (cases_lt days (days_in_month (pos year) month)) [
      | inl few ↦ subst IsNear (sym (in_year-here fuel year month days few)) (y, omega arith, omega arith)
      | inr many ↦ subst IsNear (sym (in_year-next fuel year month days many)) (near_in_year fuel year (month + 1) (days - days_in_month (pos year) month) y (omega arith) (omega arith))
    ]

near_from : (fuel year days : ℕ) → year + fuel < 79000 → days ≤ fuel → IsNear (date_from fuel year days)
near_from zero year days y d = subst IsNear (sym (from-zero year days)) (near_in_year 12 year 1 days (omega arith) (omega arith) (omega arith))
near_from (suc fuel) year days y d =
    elim (cases_lt days (days_in_year (pos year))) [
      | inl few ↦ subst IsNear (sym (from-here fuel year days few)) (near_in_year 12 year 1 days (omega arith) (omega arith) (omega (arith, days_in_year_bounds (pos year))))
      | inr many ↦ subst IsNear (sym (from-next fuel year days many)) (near_from fuel (year + 1) (days - days_in_year (pos year)) (omega arith) (omega (arith, days_in_year_bounds (pos year))))
    ]

near : (days : ℕ) → days < 50000 → IsNear (civil_date days)
unfolding civil_date
near days h = near_from days 1970 days (omega arith) (omega arith)

two : (n : ℕ) → n < 790 → Prints (two_digits n)
unfolding two_digits
two n h = record { all = ((omega arith, omega arith), ((omega arith, omega arith), tt)) }

date : (d : CivilDate) → IsNear d → Prints (date_text d)
unfolding date_text
date d (y, m, day) =
    join (join (join (join (join (two (d.year / 100) (omega arith)) (two (d.year % 100) (omega arith))) (word (codes "-") refl)) (two d.month (omega arith))) (word (codes "-") refl)) (two d.day (omega arith))

clock : (seconds : ℕ) → seconds < 86400 → Prints (clock_text seconds)
unfolding clock_text
clock seconds h =
    join (join (join (join (two (seconds / 3600) (omega arith)) (word (codes ":") refl)) (two (seconds / 60 % 60) (omega arith))) (word (codes ":") refl)) (two (seconds % 60) (omega arith))

second : (seconds : ℕ) → seconds < 2 ^ 32 → Prints (second_text seconds)
second seconds h =
    join (join (date (civil_date (seconds / 86400)) (near (seconds / 86400) (omega arith))) (word (codes "T") refl)) (clock (seconds % 86400) (omega arith))

pub moment : (seconds : ℕ) → seconds < 2 ^ 32 → Prints (moment_text seconds)
moment seconds h = join (second seconds h) (word (codes "Z") refl)

pub all-digits : (k n : ℕ) → IsPrintable (last_digits k n)
all-digits zero n = tt
all-digits (suc k) n = ((omega arith, omega arith), all-digits k n)

pub timestamp : (seconds nanoseconds : ℕ) → seconds < 2 ^ 32 → Prints (timestamp_text seconds nanoseconds)
unfolding timestamp_text
timestamp seconds nanoseconds h =
    join (join (join (second seconds h) (word (codes ".") refl)) (record { all = all-digits 9 nanoseconds })) (word (codes "Z") refl)
