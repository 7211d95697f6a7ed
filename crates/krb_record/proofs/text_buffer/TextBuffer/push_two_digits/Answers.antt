use Rattle.itoa.proofs.Decimal.{decimal_two}
use Rattle.krb_record.proofs.text_buffer.TextBuffer.push_two_digits.Goals as goal

pub returns : goal.returns
returns c = rw (decimal_two c.args.number c.requires.0 c.requires.1) c.push_digit_pair.ensures
