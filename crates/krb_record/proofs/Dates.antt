-- The date found by counting is the one date of its day number.
use Rattle.std.proofs.Common.{◌≡◌, ℕ, zero, suc, ◌+◌, ◌-◌, ◌<◌, ◌≤◌, inl, inr, ℤ, pos, negsuc, ◌≤ℤ◌, refl, ◌∙◌, arith, lt-ltb, le-ltb}
use Rattle.std.proofs.lemmas.Bool.{cases_lt}
use Rattle.std.proofs.lemmas.Int.{by_lt_z}
use Rattle.std.specs.Prelude.{unsigned_abs}
use Rattle.jiff_core.specs.Date.{epoch_day}
use Rattle.jiff_core.specs.declared.civil.date.Date.{Date}
use Rattle.jiff_core.specs.Calendar.{days_in_year, days_in_month, days_of_months, day_count, days_from_civil, IsCivilDate, IsYear}
use Rattle.jiff_core.proofs.CalendarLemmas.{days_of_months-zero, days_of_months_more, days_of_months_all, days_of_months_mono, day_of_year_before, day_count-day_of_year, day_count-next_year, day_count-lt_year, day_count-year_is, days_in_year_bounds, day_count-epoch, days_from_civil-day_count}
use Rattle.jiff_core.proofs.SignedLemmas.{signed_arith}
use Rattle.krb_der.specs.inner.Numbers.{when-true, when-false}
use Rattle.krb_record.specs.Time.{the_date, date_in_year, date_from, civil_date}

same_day : (year month other day next : ℕ) → month ≡ other → day ≡ next → the_date year month day ≡ the_date year other next
same_day year month other day next e f = rw (e, f)

pub in_year-here : (fuel year month days : ℕ) → days < days_in_month (pos year) month → date_in_year (suc fuel) year month days ≡ the_date year month (days + 1)
unfolding date_in_year
in_year-here fuel year month days h = when-true _ _ _ (lt-ltb _ _ h)

pub in_year-next : (fuel year month days : ℕ) → days_in_month (pos year) month ≤ days → date_in_year (suc fuel) year month days ≡ date_in_year fuel year (month + 1) (days - days_in_month (pos year) month)
unfolding date_in_year
in_year-next fuel year month days h = when-false _ _ _ (le-ltb _ _ h)

pub from-here : (fuel year days : ℕ) → days < days_in_year (pos year) → date_from (suc fuel) year days ≡ date_in_year 12 year 1 days
unfolding date_from
from-here fuel year days h = when-true _ _ _ (lt-ltb _ _ h)

pub from-next : (fuel year days : ℕ) → days_in_year (pos year) ≤ days → date_from (suc fuel) year days ≡ date_from fuel (year + 1) (days - days_in_year (pos year))
unfolding date_from
from-next fuel year days h = when-false _ _ _ (le-ltb _ _ h)

pub from-zero : (year days : ℕ) → date_from 0 year days ≡ date_in_year 12 year 1 days
unfolding date_from
from-zero year days = refl

-- two days of a year with one place in it are in one month
same_month : (y : ℤ) (m d month days : ℕ) → 1 ≤ m → 1 ≤ d → d ≤ days_in_month y m → 1 ≤ month → days < days_in_month y month → days_of_months y (m - 1) + d ≡ days_of_months y (month - 1) + days + 1 → month ≡ m
same_month y m d month days m1 d1 dm month1 h e =
    elim (cases_lt m month) [
      | inl before ↦ absurd (omega (arith, day_of_year_before y m d (month - 1) m1 dm (omega arith)))
      | inr rest ↦ elim (cases_lt month m) [
        | inl after ↦ absurd (omega (arith, days_of_months_more y month month1, days_of_months_mono y month (m - 1) (omega arith)))
        | inr same ↦ omega arith
      ]
    ]

in_year-is : (fuel year month days m d : ℕ) → month + fuel ≡ 13 → 1 ≤ month → days_of_months (pos year) (month - 1) + days < days_in_year (pos year) → 1 ≤ m → 1 ≤ d → d ≤ days_in_month (pos year) m → days_of_months (pos year) (m - 1) + d ≡ days_of_months (pos year) (month - 1) + days + 1 → date_in_year fuel year month days ≡ the_date year m d
in_year-is zero year month days m d f month1 few m1 d1 dm e =
    let last : month - 1 ≡ 12 = omega arith in
    absurd (omega (arith, rw last at few, days_of_months_all (pos year)))
in_year-is (suc fuel) year month days m d f month1 few m1 d1 dm e =
    elim (cases_lt days (days_in_month (pos year) month)) [
      | inl h ↦
          let same = same_month (pos year) m d month days m1 d1 dm month1 h e in
          in_year-here fuel year month days h ∙ same_day year month m (days + 1) d same (omega (arith, rw same at e))
      | inr h ↦
          let back : month + 1 - 1 ≡ month = omega arith in
          let more = days_of_months_more (pos year) month month1 in
          in_year-next fuel year month days h ∙ in_year-is fuel year (month + 1) (days - days_in_month (pos year) month) m d (omega arith) (omega arith) (rw back (omega (arith, more))) m1 d1 dm (rw back (omega (arith, more)))
    ]

-- the date is in the year if its count leads
year_here : (year later m d days : ℕ) → IsCivilDate (pos later) m d → day_count (pos later) m d ≡ day_count (pos year) 1 1 + days → days < days_in_year (pos year) → later ≡ year
year_here year later m d days h e few =
    let bound : IsYear (pos year) = by_lt_z (pos later) (pos year)
    (λ lt. absurd (omega (arith, day_count-lt_year (pos later) m d (pos year) 1 1 h (omega arith) lt)))
    (λ le. omega (arith, signed_arith, h.0)) in
    let same = day_count-year_is (pos year) (pos later) m d bound h (omega arith) (omega arith) in
    omega (arith, signed_arith)

in_year : (year m d days : ℕ) → IsCivilDate (pos year) m d → day_count (pos year) m d ≡ day_count (pos year) 1 1 + days → days < days_in_year (pos year) → date_in_year 12 year 1 days ≡ the_date year m d
in_year year m d days h e few =
    let none : days_of_months (pos year) (1 - 1) ≡ 0 = days_of_months-zero (pos year) in
    in_year-is 12 year 1 days m d refl (omega arith) (omega (arith, none)) h.1.0 h.2.0 h.2.1 (omega (arith, none, day_count-day_of_year (pos year) m d h.2.0))

from-here-is : (year days later m d : ℕ) → IsCivilDate (pos later) m d → day_count (pos later) m d ≡ day_count (pos year) 1 1 + days → days < days_in_year (pos year) → date_in_year 12 year 1 days ≡ the_date later m d
from-here-is year days later m d h e few =
    let same = year_here year later m d days h e few in
    rw same (in_year year m d days (rw same at h) (rw same at e) few)

from-is : (fuel year days later m d : ℕ) → days ≤ fuel → IsCivilDate (pos later) m d → day_count (pos later) m d ≡ day_count (pos year) 1 1 + days → date_from fuel year days ≡ the_date later m d
from-is zero year days later m d small h e = from-zero year days ∙ from-here-is year days later m d h e (omega (arith, days_in_year_bounds (pos year)))
from-is (suc fuel) year days later m d small h e =
    elim (cases_lt days (days_in_year (pos year))) [
      | inl few ↦ from-here fuel year days few ∙ from-here-is year days later m d h e few
      | inr many ↦ from-next fuel year days many ∙ from-is fuel (year + 1) (days - days_in_year (pos year)) later m d (omega (arith, days_in_year_bounds (pos year))) h (omega (arith, day_count-next_year (pos year) (pos (year + 1)) (omega (arith, signed_arith)) (omega (arith, signed_arith))))
    ]

-- the date of a day number is the date found by counting
pub civil_date-is : (year m d days : ℕ) → IsCivilDate (pos year) m d → days_from_civil (pos year) m d ≡ pos days → civil_date days ≡ the_date year m d
unfolding civil_date
civil_date-is year m d days h e =
    from-is days 1970 days year m d (omega arith) h (omega (arith, signed_arith, days_from_civil-day_count (pos year) m d, day_count-epoch))

-- no day from then on is in an earlier year
year-ge : (d : Date) (days : ℕ) → epoch_day d ≡ pos days → pos 1970 ≤ℤ d.year
year-ge d days e =
    by_lt_z d.year (pos 1970)
    (λ lt. absurd (omega (arith, signed_arith, day_count-lt_year d.year d.month d.day (pos 1970) 1 1 (d.year_in, d.month_in, d.day_in) (omega arith) lt, days_from_civil-day_count d.year d.month d.day, day_count-epoch)))
    (λ le. le)

same_abs : (z : ℤ) → pos 1970 ≤ℤ z → z ≡ pos (unsigned_abs z)
same_abs (pos n) h = refl
same_abs (negsuc n) h = absurd (omega (arith, signed_arith))

pub year-is : (d : Date) (days : ℕ) → epoch_day d ≡ pos days → d.year ≡ pos (unsigned_abs d.year)
year-is d days e = same_abs d.year (year-ge d days e)

pub civil_date-of : (d : Date) (days : ℕ) → epoch_day d ≡ pos days → civil_date days ≡ the_date (unsigned_abs d.year) d.month d.day
civil_date-of d days e =
    let same = year-is d days e in
    let in_year : IsCivilDate d.year d.month d.day = (d.year_in, d.month_in, d.day_in) in
    civil_date-is (unsigned_abs d.year) d.month d.day days (rw same at in_year) (rw same at e)
