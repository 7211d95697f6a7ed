use Rattle.krb_capture.proofs.Noted.{none-noted}
use Rattle.krb_capture.proofs.numbers.Numbers.new.Goals as goal

pub invariant_of-result : goal.invariant_of-result
invariant_of-result c = none-noted _ _ c.no_recent-recent.ensures
