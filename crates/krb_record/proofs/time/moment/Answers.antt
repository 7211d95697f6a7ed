use Rattle.std.proofs.Common.{refl}
use Rattle.krb_record.specs.Time.{date_text, clock_text, two_digits}
use Rattle.krb_record.proofs.Ascii.{ascii_same}
use Rattle.krb_record.proofs.Moments.{moment_ascii}
use Rattle.krb_record.proofs.time.moment.Goals as goal

pub returns-clause-text : goal.returns-clause-text
unfolding date_text clock_text two_digits
returns-clause-text c = rw (c.date_text.ensures, c.clock_text.ensures) refl

pub returns-clause-ascii : goal.returns-clause-ascii
returns-clause-ascii c = ascii_same (returns-clause-text c) (moment_ascii c.args.seconds c.ranges.seconds.fits)
