-- What is written at the end of a capture: the requests and SYNs that nothing answered.
use Rattle.std.specs.Prelude.{◌≡◌, ◌++◌, Option, Some, None}
use Rattle.krb_exchange.specs.declared.sending.Moment.{Moment}
use Rattle.krb_record.specs.declared.told.ToldCounts.{ToldCounts}
use Rattle.krb_capture.specs.Found.{Written}
use Rattle.krb_capture.specs.Happened.{end_counts, end_lines, no_counts_told}
use Rattle.krb_capture.specs.declared.happened.Happened.{Happened}

-- how much was told
abbrev pub told_in : Option Happened → ToldCounts
told_in None = no_counts_told
told_in (Some happened) = happened.counts

pub record IsEnded (now : Moment) (old new : Written) : Type 0 where
  pub same : new ≡ record old { text = old.text ++ end_lines old.label now old.happened; happened = new.happened }
  pub told : told_in new.happened ≡ end_counts old.happened
