use Rattle.krb_capture_laws.proofs.Counting.{counts_are_of_events}
use Rattle.krb_capture_laws.proofs.exchange.counts_are_of_events.Goals as goal

pub returns : goal.returns
returns c = counts_are_of_events
