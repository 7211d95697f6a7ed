-- The times of `--now`.
use Rattle.std.specs.Prelude.{ℕ, pos, ◌≡◌, ◌+◌, ◌-◌, ◌*◌, ◌^◌, ◌≤◌, ◌<◌, ◌⊎◌, min, Bool, true, ◌==◌, ◌&&◌, nat_le, Option, Some, None, Ok, codes, unwrap_or, unsigned_abs, if◌then◌else◌}
use Rattle.std.specs.Cmp.Lexicographic.{pointwise}
use Rattle.std.specs.List.{slice_get}
use Rattle.std.specs.Str.Parse.{ParsesUnsigned}
use Rattle.clap.specs.Words.{Text}
use Rattle.jiff_core.specs.Calendar.{IsDate, days_from_civil}
use Rattle.krb_words.specs.declared.when.When.{When}
use Rattle.krb_words.specs.declared.when.When.TheVariants as when

-- a text is a number of 32 bits, as `u32` reads it
abbrev pub Spells : Text → ℕ → Type 0
Spells text number = ParsesUnsigned {E = ℕ} 32 10 text (Ok number)

-- ---- a date and a time, as krbls prints them
-- an octet is the one of the form, in which `0` stands for any digit
abbrev pub fits : ℕ → ℕ → Bool
fits form octet = if form == 0x30 then nat_le 0x30 octet && nat_le octet 0x39 else octet == form

abbrev pub has_form : Text → Text → Bool
has_form form text = pointwise fits form text

-- the digit at a place, and the number of two digits from there on
abbrev pub digit : Text → ℕ → ℕ
digit text place = min (unwrap_or (slice_get text place) 0 - 0x30) 9

abbrev pub two : Text → ℕ → ℕ
two text place = 10 * digit text place + digit text (place + 1)

abbrev pub year : Text → ℕ
year text = 100 * two text 0 + two text 2

-- a day of the calendar, from 1970 on
pub record IsDay (text : Text) : Type 0 where
  pub since : 1970 ≤ year text
  pub date : IsDate (pos (year text)) (pos (two text 5)) (pos (two text 8))

-- a second of a day
pub record IsClock (text : Text) : Type 0 where
  pub hour : two text 11 < 24
  pub minute : two text 14 < 60
  pub second : two text 17 < 60

pub record IsDateTime (text : Text) : Type 0 where
  pub form : has_form (codes "0000-00-00T00:00:00Z") text ≡ true
  pub day : IsDay text
  pub clock : IsClock text

-- days after the beginning of 1970
abbrev pub days_since : Text → ℕ
days_since text = unsigned_abs (days_from_civil (pos (year text)) (two text 5) (two text 8))

abbrev pub seconds_of_day : Text → ℕ
seconds_of_day text = 3600 * two text 11 + 60 * two text 14 + two text 17

-- in the calendar in which each day has 86400 seconds
abbrev pub seconds_since : Text → ℕ
seconds_since text = 86400 * days_since text + seconds_of_day text

-- the last second that a date and a time can say: 9999-12-31T23:59:59Z
abbrev pub last_second : ℕ
last_second = 253402300799

-- a text is a number of seconds, up to the last one of dates
abbrev pub CountsSeconds : Text → ℕ → Type 0
CountsSeconds text seconds = ParsesUnsigned {E = ℕ} 64 10 text (Ok seconds) × (seconds ≤ last_second)

-- the last second of 32 bits stands for each later one
abbrev pub soonest : ℕ → ℕ
soonest seconds = min seconds (2 ^ 32 - 1)

-- ---- the time that a text says: the clock's, a number of seconds, or a date and a time
abbrev pub IsWhen : Text → When → Type 0
IsWhen text when.Clock = text ≡ codes "now"
IsWhen text (when.Seconds seconds) =
    ((counted : ℕ) × CountsSeconds text counted × (seconds ≡ soonest counted)) ⊎ (IsDateTime text × (seconds ≡ soonest (seconds_since text)))

abbrev pub IsWhenIf : Option Text → Option When → Type 0
IsWhenIf None when = when ≡ None
IsWhenIf (Some text) None = ⊥
IsWhenIf (Some text) (Some when) = IsWhen text when

-- a text that says no time
pub record IsNoTime (text : Text) : Type 0 where
  pub clock : text ≡ codes "now" → ⊥
  pub number : (seconds : ℕ) → CountsSeconds text seconds → ⊥
  pub date : IsDateTime text → ⊥

abbrev pub IsNoWhen : Option Text → Type 0
IsNoWhen None = ⊥
IsNoWhen (Some text) = IsNoTime text
