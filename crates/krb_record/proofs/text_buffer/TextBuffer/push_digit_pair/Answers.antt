use Rattle.std.proofs.Common.{◌≡◌, ℕ, ◌+◌, ◌*◌, ◌/◌, ◌%◌, ◌<◌, [], ◌∷◌, get_or, arith}
use Rattle.std.proofs.lemmas.Str.Ascii.{IsAscii-cons, IsAscii-nil}
use Rattle.itoa.proofs.Decimal.{PAIRS_at}
use Rattle.krb_record.specs.declared.text_buffer.TheConstants.{PAIRS}
use Rattle.krb_record.proofs.text_buffer.TextBuffer.push_digit_pair.Goals as goal

-- the table is that of itoa
two : (n : ℕ) → n < 100 → (get_or PAIRS (n * 2) 0 ≡ 48 + n / 10) × (get_or PAIRS (n * 2 + 1) 0 ≡ 48 + n % 10)
two n h = PAIRS_at n h

pub push_ascii-requires : goal.push_ascii-requires
push_ascii-requires c =
    let n = c.from-place.result in
    let few : n < 100 = omega (arith, c.from-place.ensures, c.requires) in
    let pair = two n few in
    IsAscii-cons (get_or PAIRS (n * 2) 0) (get_or PAIRS (n * 2 + 1) 0 ∷ []) (omega (arith, pair.0, few)) (IsAscii-cons (get_or PAIRS (n * 2 + 1) 0) [] (omega (arith, pair.1)) IsAscii-nil)

pub returns : goal.returns
returns c =
    let pair = two c.from-place.result (omega (arith, c.from-place.ensures, c.requires)) in
    rw (pair.0, pair.1, c.from-place.ensures) at c.push_ascii.ensures
