use Rattle.krb_text_laws.proofs.TextMasks.{record-same, line-same, line_from-same, ticket_line-same, captured-same}
use Rattle.krb_text_laws.proofs.text.ciphers_are_not_shown.Goals as goal

pub returns-clause-record : goal.returns-clause-record
returns-clause-record c = record-same

pub returns-clause-line : goal.returns-clause-line
returns-clause-line c = line-same

pub returns-clause-from : goal.returns-clause-from
returns-clause-from c = line_from-same

pub returns-clause-ticket : goal.returns-clause-ticket
returns-clause-ticket c = ticket_line-same

pub returns-clause-capture : goal.returns-clause-capture
returns-clause-capture c = captured-same
