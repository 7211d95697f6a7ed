-- Numbers of nanoseconds.
use Rattle.std.proofs.Common.{◌≡◌, ℕ, ◌-◌, ◌*◌, ◌^◌, ◌<◌, ◌≤◌, Bool, true, false, ltb, arith}
use Rattle.std.proofs.lemmas.Nat.{div_below}
use Rattle.std.proofs.Math.Nat.{one-le-pow, div-le_self}
use Rattle.krb_der.specs.Octets.{when}
use Rattle.krb_packet.specs.Interfaces.{units_in_second, nanoseconds}

pub second_positive : (octet : ℕ) → 0 < units_in_second octet
second_positive octet = by_cases (ltb octet 128)
  where
    by_cases : (test : Bool) → 0 < when test (λ _. 10 ^ octet) (λ _. 2 ^ (octet - 128))
    by_cases true = omega (arith, one-le-pow octet 10 (omega arith))
    by_cases false = omega (arith, one-le-pow (octet - 128) 2 (omega arith))

-- units of which a second has too many for a number of 128 bits
pub none : (octet units : ℕ) → units < 2 ^ 64 → 2 ^ 128 ≤ units_in_second octet → nanoseconds octet units ≡ 0
none octet units lt many =
    let small : units * 10 ^ 9 < 1 * units_in_second octet = omega (arith, lt, many) in
    let below : nanoseconds octet units < 1 = div_below (units * 10 ^ 9) (units_in_second octet) 1 (second_positive octet) small in
    omega (arith, below)

pub no_more : (octet units : ℕ) → nanoseconds octet units ≤ units * 10 ^ 9
no_more octet units = div-le_self (units * 10 ^ 9) (units_in_second octet)
