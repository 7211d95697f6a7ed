-- Hexadecimal digits.
use Rattle.std.proofs.Common.{◌≡◌, ℕ, ◌/◌, ◌%◌, ◌<◌, ◌^◌, refl, ap, arith, w32}
use Rattle.std.specs.Int.{to_be_bytes}
use Rattle.krb_record.specs.Text.{hex}
use Rattle.krb_record.specs.Forms.{four_octets}
use Rattle.krb_record.specs.TicketFlags.{eight_hex}

-- the octets of a number of 32 bits
pub four_octets_are : (n : ℕ) → n < 2 ^ 32 → to_be_bytes w32 n ≡ four_octets n
four_octets_are n h =
    let high : n / 16777216 % 256 ≡ n / 16777216 = omega arith in
    rw high refl

-- are eight digits
pub eight_hex_is : (n : ℕ) → n < 2 ^ 32 → hex (to_be_bytes w32 n) ≡ eight_hex n
unfolding eight_hex
eight_hex_is n h = ap hex (four_octets_are n h)
