-- The texts of times are words: each octet is near a digit.
use Rattle.std.proofs.Common.{◌≡◌, ◌∙◌, ℕ, zero, suc, pos, ◌+◌, ◌-◌, ◌*◌, ◌/◌, ◌%◌, ◌^◌, ◌<◌, ◌≤◌, ◌&&◌, inl, inr, true, false, List, [], ◌∷◌, ◌++◌, sym, refl, ap₂, subst, arith, codes}
use Rattle.std.proofs.lemmas.Bool.{and_from, cases_lt}
use Rattle.std.proofs.lemmas.Bool.Decides.{nat_tests}
use Rattle.std.proofs.lemmas.List.Folds.{list_all-append}
use Rattle.std.specs.List.{list_all}
use Rattle.jiff_core.specs.Calendar.{days_in_month, days_in_year}
use Rattle.jiff_core.proofs.CalendarLemmas.{days_in_year_bounds}
use Rattle.krb_record.specs.Time.{CivilDate, civil_date, clock_text, date_from, date_in_year, date_text, last_digits, moment_text, second_text, timestamp_text, two_digits}
use Rattle.krb_record.proofs.Dates.{from-here, from-next, from-zero, in_year-here, in_year-next}
use Rattle.krb_choice_laws.specs.Cells.{IsWord}
use Rattle.krb_choice_laws.proofs.Texts.{begun-word, is_mark, is_plain}

-- ---- dates of numbers of 32 bits
abbrev IsNear : (most : ℕ) → CivilDate → Type 0
IsNear most date = (date.year ≤ most) × (date.month ≤ 13) × (date.day ≤ 367)

near-in-year : (most fuel year month days : ℕ) → year ≤ most → month + fuel ≤ 13 → days ≤ 366 → IsNear most (date_in_year fuel year month days)
unfolding date_in_year
near-in-year most zero year month days y m d = (y, omega arith, omega arith)
near-in-year most (suc fuel) year month days y m d =
    elim (cases_lt days (days_in_month (pos year) month)) [
      | inl few ↦ subst (IsNear most) (sym (in_year-here fuel year month days few)) (y, omega arith, omega arith)
      | inr many ↦ subst (IsNear most) (sym (in_year-next fuel year month days many)) (near-in-year most fuel year (month + 1) (days - days_in_month (pos year) month) y (omega arith) (omega arith))
    ]

-- each year has 365 days at least
near-from : (most fuel year days : ℕ) → year * 365 + days ≤ most * 365 → days ≤ fuel → IsNear most (date_from fuel year days)
near-from most zero year days y d = subst (IsNear most) (sym (from-zero year days)) (near-in-year most 12 year 1 days (omega arith) (omega arith) (omega arith))
near-from most (suc fuel) year days y d =
    elim (cases_lt days (days_in_year (pos year))) [
      | inl few ↦ subst (IsNear most) (sym (from-here fuel year days few)) (near-in-year most 12 year 1 days (omega arith) (omega arith) (omega (arith, days_in_year_bounds (pos year))))
      | inr many ↦ subst (IsNear most) (sym (from-next fuel year days many)) (near-from most fuel (year + 1) (days - days_in_year (pos year)) (omega (arith, days_in_year_bounds (pos year))) (omega (arith, days_in_year_bounds (pos year))))
    ]

near : (days : ℕ) → days < 50000 → IsNear 2107 (civil_date days)
unfolding civil_date
near days h = near-from 2107 days 1970 days (omega arith) (omega arith)

-- ---- plain texts
record Plainly (text : List ℕ) : Type 0 where
  is : list_all is_plain text ≡ true

join : {xs ys : List ℕ} → Plainly xs → Plainly ys → Plainly (xs ++ ys)
join {xs} {ys} h k = record { is = list_all-append is_plain xs ys ∙ ap₂ (λ a b. a && b) h.is k.is }

near-digit : (c : ℕ) → 48 ≤ c → c < 92 → is_plain c ≡ true
near-digit c h k = grind (arith, nat_tests)

two : (n : ℕ) → n < 440 → Plainly (two_digits n)
unfolding two_digits
two n h = record { is = and_from (is_plain (48 + n / 10)) (list_all is_plain ((48 + n % 10) ∷ [])) (near-digit (48 + n / 10) (omega arith) (omega arith)) (and_from (is_plain (48 + n % 10)) true (near-digit (48 + n % 10) (omega arith) (omega arith)) refl) }

sign : (text : List ℕ) → list_all is_plain text ≡ true → Plainly text
sign text e = record { is = e }

date : (d : CivilDate) → IsNear 2107 d → Plainly (date_text d)
unfolding date_text
date d (y, m, day) = join (join (join (join (join (two (d.year / 100) (omega arith)) (two (d.year % 100) (omega arith))) (sign (codes "-") refl)) (two d.month (omega arith))) (sign (codes "-") refl)) (two d.day (omega arith))

clock : (seconds : ℕ) → seconds < 86400 → Plainly (clock_text seconds)
unfolding clock_text
clock seconds h = join (join (join (join (two (seconds / 3600) (omega arith)) (sign (codes ":") refl)) (two (seconds / 60 % 60) (omega arith))) (sign (codes ":") refl)) (two (seconds % 60) (omega arith))

second : (seconds : ℕ) → seconds < 2 ^ 32 → Plainly (second_text seconds)
second seconds h = join (join (date (civil_date (seconds / 86400)) (near (seconds / 86400) (omega arith))) (sign (codes "T") refl)) (clock (seconds % 86400) (omega arith))

all-digits : (k n : ℕ) → list_all is_plain (last_digits k n) ≡ true
all-digits zero n = refl
all-digits (suc k) n = and_from (is_plain (48 + n / 10 ^ k % 10)) (list_all is_plain (last_digits k n)) (near-digit (48 + n / 10 ^ k % 10) (omega arith) (omega arith)) (all-digits k n)

plain-timestamp : (seconds nanoseconds : ℕ) → seconds < 2 ^ 32 → Plainly (timestamp_text seconds nanoseconds)
unfolding timestamp_text
plain-timestamp seconds nanoseconds h = join (join (join (second seconds h) (sign (codes ".") refl)) (record { is = all-digits 9 nanoseconds })) (sign (codes "Z") refl)

digit-mark : (c : ℕ) → 48 ≤ c → c ≤ 57 → is_mark c ≡ false
digit-mark c h k = grind (arith, nat_tests)

pub timestamp : (seconds nanoseconds : ℕ) → seconds < 2 ^ 32 → IsWord (timestamp_text seconds nanoseconds)
unfolding timestamp_text date_text two_digits
timestamp seconds nanoseconds h =
    let year = (civil_date (seconds / 86400)).year in
    let is = near (seconds / 86400) (omega arith) in
    begun-word (timestamp_text seconds nanoseconds) (plain-timestamp seconds nanoseconds h).is (tt, digit-mark (48 + year / 100 / 10) (omega arith) (omega (arith, is.0)))

pub moment : (seconds : ℕ) → seconds < 2 ^ 32 → IsWord (moment_text seconds)
unfolding date_text two_digits
moment seconds h =
    let year = (civil_date (seconds / 86400)).year in
    let is = near (seconds / 86400) (omega arith) in
    begun-word (moment_text seconds) (join (second seconds h) (sign (codes "Z") refl)).is (tt, digit-mark (48 + year / 100 / 10) (omega arith) (omega (arith, is.0)))
