use Rattle.krb_message_laws.proofs.MessagePaths.{paths-lead, paths-last, paths-end}
use Rattle.krb_message_laws.proofs.judge.paths_lead_to_refusals.Goals as goal

pub returns-clause-lies : goal.returns-clause-lies
returns-clause-lies c = paths-lead

pub returns-clause-last : goal.returns-clause-last
returns-clause-last c = paths-last

pub returns-clause-cut : goal.returns-clause-cut
returns-clause-cut c = paths-end
