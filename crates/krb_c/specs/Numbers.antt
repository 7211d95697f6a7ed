-- What the numbers mean with which C chooses, each of which is a choice, and the version that it is told.
use Rattle.std.specs.Prelude.{ℕ, Bool, not, ◌+◌, ◌*◌, ◌==◌, ◌&&◌, nat_lt, if◌then◌else◌, ◌^◌, Option, Some, None}
use Rattle.krb_der.specs.declared.profile.Profile.{Profile}
use Rattle.krb_der.specs.declared.profile.Profile.TheVariants as profiles
use Rattle.krb_record.specs.declared.form.Form.{Form}
use Rattle.krb_record.specs.declared.form.Form.TheVariants as forms

-- 0 is the lenient profile, and any other number the strict one
abbrev pub profile_of : ℕ → Profile
profile_of number = if number == 0 then profiles.Lenient else profiles.Strict

-- 0 is lines, 1 lines with names, and any other number JSON
abbrev pub form_of : ℕ → Form
form_of number = if number == 0 then forms.Lines else if number == 1 then forms.NamedLines else forms.Json

-- the greatest number of octets of a frame; a number that is none is 16777216
abbrev pub limit_of : ℕ → ℕ
limit_of number = if nat_lt 0 number && nat_lt number (2 ^ 31) then number else 16777216

-- 0 is to end at the first refusal, and any other number to go on after it
abbrev pub goes_on : ℕ → Bool
goes_on number = not (number == 0)

-- seconds since 1970-01-01; 0 is no time
abbrev pub now_of : ℕ → Option ℕ
now_of seconds = if seconds == 0 then None else Some seconds

-- the port of KDCs; 0 is 88
abbrev pub port_of : ℕ → ℕ
port_of number = if number == 0 then 88 else number

-- the version 1.0.0 as one number
abbrev pub version : ℕ
version = 65536 * 1 + 256 * 0 + 0
