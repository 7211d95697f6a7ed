use Rattle.krb_choice_laws.proofs.CapturesPlain.{capture-refused, end-plain, joined-plain, lost-plain, password-plain, refusal-plain, unanswered-plain, unreachable-plain, unread-plain}
use Rattle.krb_choice_laws.proofs.FilesPlain.{cache-end, cache-plain, credential-plain, keytab-end, record-plain, ticket-plain}
use Rattle.krb_choice_laws.proofs.RecordsPlain.{counted-end, file-name, file-refused, input-refused, labels, message-refused, stream-end}
use Rattle.krb_choice_laws.proofs.chosen.records_are_plain.Goals as goal

pub returns-clause-ticket : goal.returns-clause-ticket
returns-clause-ticket c = ticket-plain

pub returns-clause-end : goal.returns-clause-end
returns-clause-end c = record { file = file-refused; message = message-refused; input = input-refused; stream = stream-end; counted = counted-end; name = file-name }

pub returns-clause-capture : goal.returns-clause-capture
returns-clause-capture c = record {
  refusal = refusal-plain;
  joined = joined-plain;
  lost = lost-plain;
  unread = unread-plain;
  password = password-plain;
  unanswered = unanswered-plain;
  unreachable = unreachable-plain;
  end = end-plain;
  file = capture-refused;
}

pub returns-clause-file : goal.returns-clause-file
returns-clause-file c = record { record_is = record-plain; keytab = keytab-end; cache = cache-plain; credential = credential-plain; credentials = cache-end }

pub returns-clause-label : goal.returns-clause-label
returns-clause-label c = labels
