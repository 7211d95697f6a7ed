-- Numbers of few hexadecimal digits.
use Rattle.std.proofs.Common.{ℕ, zero, suc, ◌+◌, ◌-◌, ◌*◌, ◌<◌, ◌≤◌, ◌≡◌, subst, arith}
use Rattle.std.proofs.Math.Nat.{mul-le-mul_left}

-- how many numbers have so many hexadecimal digits
abbrev pub room : ℕ → ℕ
room zero = 1
room (suc digits) = 16 * room digits

pub room_positive : (digits : ℕ) → 0 < room digits
room_positive zero = omega arith
room_positive (suc digits) = omega (arith, room_positive digits)

room_more : (more digits : ℕ) → room digits ≤ room (more + digits)
room_more zero digits = let same : digits ≡ 0 + digits = omega arith in subst (λ n. room digits ≤ room n) same (omega arith)
room_more (suc more) digits = let same : suc (more + digits) ≡ suc more + digits = omega arith in subst (λ n. room digits ≤ room n) same (omega (arith, room_more more digits))

pub room_step : (base number value digits : ℕ) → number < room digits → base ≤ 16 → value < base → number * base + value < room (suc digits)
room_step base number value digits small few below = omega (arith, mul-le-mul_left number few)

pub room_fits : (digits : ℕ) → digits ≤ 16 → room digits ≤ 18446744073709551616
room_fits digits few = let same : (16 - digits) + digits ≡ 16 = omega arith in subst (λ n. room digits ≤ room n) same (room_more (16 - digits) digits)

pub small_step : (base number value before after : ℕ) → number < room (16 - before) → base ≤ 16 → value < base → before ≡ suc after → before ≤ 16 → number * base + value < room (16 - after)
small_step base number value before after small few below less within =
    let same : suc (16 - before) ≡ 16 - after = omega arith in subst (λ n. number * base + value < room n) same (room_step base number value (16 - before) small few below)
