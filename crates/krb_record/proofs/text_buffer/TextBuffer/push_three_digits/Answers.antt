use Rattle.std.proofs.Common.{[], ◌∷◌, ◌+◌, ◌/◌, ◌%◌, append_assoc, arith}
use Rattle.std.proofs.lemmas.Fmt.{decimal_digit}
use Rattle.itoa.proofs.Decimal.{decimal_pair}
use Rattle.krb_record.proofs.text_buffer.TextBuffer.push_three_digits.Goals as goal

pub returns : goal.returns
returns c =
    let n = c.args.number in
    rw (decimal_pair n c.requires.0 (omega arith), decimal_digit (n / 100) (omega (arith, c.requires.1)))
    (rw (c.in_ok-push_octet.ensures, append_assoc c.args.self.now ((48 + n / 100) ∷ []) ((48 + n % 100 / 10) ∷ (48 + n % 100 % 10) ∷ [])) at c.push_digit_pair.ensures)
