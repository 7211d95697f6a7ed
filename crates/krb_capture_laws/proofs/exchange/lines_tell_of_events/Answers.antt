use Rattle.krb_capture_laws.proofs.Telling.{end_tells_of_events, lines_tell_of_events}
use Rattle.krb_capture_laws.proofs.exchange.lines_tell_of_events.Goals as goal

pub returns-clause-lines : goal.returns-clause-lines
returns-clause-lines c = lines_tell_of_events

pub returns-clause-end : goal.returns-clause-end
returns-clause-end c = end_tells_of_events
