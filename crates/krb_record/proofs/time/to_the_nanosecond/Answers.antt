use Rattle.std.proofs.Common.{refl, arith}
use Rattle.krb_record.specs.Time.{timestamp_text, date_text, clock_text, two_digits}
use Rattle.krb_record.proofs.Ascii.{ascii_same}
use Rattle.krb_record.proofs.Moments.{timestamp_ascii}
use Rattle.krb_record.proofs.time.to_the_nanosecond.Goals as goal

pub returns-clause-text : goal.returns-clause-text
unfolding timestamp_text date_text clock_text two_digits
returns-clause-text c = rw (c.date_text.ensures, c.clock_text.ensures, c.nine_digits.ensures) refl

pub returns-clause-ascii : goal.returns-clause-ascii
returns-clause-ascii c = ascii_same (returns-clause-text c) (timestamp_ascii c.args.time.seconds c.args.time.nanoseconds (omega arith))
