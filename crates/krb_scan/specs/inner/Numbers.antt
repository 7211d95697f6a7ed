-- The outcome of an octet from numbers alone, since those are what is kept of a partly read header or leaf.
use Rattle.std.specs.Prelude.{ℕ, zero, suc, ℤ, pos, negsuc, ◌+◌, ◌-◌, ◌*◌, ◌%◌, ◌^◌, ◌+ℤ◌, ◌*ℤ◌, Bool, ◌&&◌, ◌||◌, ◌==◌, nat_lt, nat_le, if◌then◌else◌}
use Rattle.krb_der.specs.declared.why.Why.{Why}
use Rattle.krb_der.specs.declared.why.Why.TheVariants as why
pub use Rattle.krb_msg.specs.ValueOfDer.{first_or_zero}
use Rattle.krb_msg.specs.Term.{Term, Integer, Text, Time, Bits}
use Rattle.krb_msg.specs.Judgement.{Outcome, Open, Bad, Done, Head, Partial, Refused, fitting, int_le, text_octet, time_octet}

-- the first length octet
abbrev pub first_head : ℕ → ℕ → Head
first_head room octet =
    if nat_lt octet 0x80 then fitting room 2 octet
    else if octet == 0x80 then Refused 1 why.Indefinite
    else if nat_lt 0x84 octet then Refused 1 why.LengthWide
    else if nat_lt room (2 + (octet - 0x80)) then Refused 1 why.Overrun
    else Partial

-- the next of the k octets of a long length, after some that spell a value
abbrev pub next_head : ℕ → ℕ → ℕ → ℕ → ℕ → Head
next_head room k seen value octet =
    if (seen == 0) && ((octet == 0) || ((k == 1) && nat_lt octet 128)) then Refused 2 why.LengthNotMinimal
    else if nat_lt (seen + 1) k then Partial
    else fitting room (2 + k) (value * 256 + octet)

-- the value of an INTEGER with an octet more, the first or one after others
abbrev pub extended : ℕ → ℤ → ℕ → ℤ
extended zero value octet = if nat_lt octet 128 then pos octet else negsuc (255 - octet)
extended (suc seen) value octet = value *ℤ pos 256 +ℤ pos octet

-- a second octet repeats the sign of the first
abbrev pub pads : ℤ → ℕ → Bool
pads (pos n) octet = (n == 0) && nat_lt octet 128
pads (negsuc n) octet = (n == 0) && nat_le 128 octet

abbrev pub in_range : ℤ → ℤ → ℤ → Bool
in_range low high value = int_le low value && int_le value high

-- the next octet of an INTEGER, by whether the value with it is in the range
abbrev pub integer_with : Bool → ℕ → ℕ → ℤ → ℕ → Outcome
integer_with within count seen value octet =
    if (seen == 1) && pads value octet then Bad 1 why.IntegerNotMinimal
    else if nat_lt (seen + 1) count then Open
    else if within then Done count
    else Bad (count - 1) why.Range

abbrev pub integer_next : ℤ → ℤ → ℕ → ℕ → ℤ → ℕ → Outcome
integer_next low high count seen value octet = integer_with (in_range low high (extended seen value octet)) count seen value octet

-- an octet at an index, which is refused unless it passes a test at that index
abbrev pub each_next : (ℕ → ℕ → Bool) → Why → ℕ → ℕ → ℕ → Outcome
each_next passes reason count place octet = if passes place octet then (if nat_lt (place + 1) count then Open else Done count) else Bad place reason

abbrev pub bits_next : ℕ → ℕ → ℕ → ℕ → ℕ → Outcome
bits_next least count zero unused octet = if nat_lt 7 octet || nat_lt (8 * (count - 1)) (least + octet) then Bad 0 why.Bits else if nat_lt 1 count then Open else Done count
bits_next least count (suc seen) unused octet = if nat_lt (suc seen + 1) count then Open else if octet % 2 ^ unused == 0 then Done count else Bad (count - 1) why.Bits

abbrev pub any_next : ℕ → ℕ → Outcome
any_next count seen = if nat_lt (seen + 1) count then Open else Done count

-- the next octet of a leaf, after a number of octets, with the value of an INTEGER so far and the number of unused bits of a BIT STRING
abbrev pub leaf_next : Term → ℕ → ℕ → ℤ → ℕ → ℕ → Outcome
leaf_next (Integer low high) count seen value unused octet = integer_next low high count seen value octet
leaf_next (Text greatest) count seen value unused octet = each_next (text_octet greatest) why.Charset count seen octet
leaf_next Time count seen value unused octet = each_next time_octet why.Time count seen octet
leaf_next (Bits least) count seen value unused octet = bits_next least count seen unused octet
leaf_next term count seen value unused octet = any_next count seen
