use Rattle.krb_record.proofs.Labels.{before_closing}
use Rattle.krb_record.proofs.label.insert_members.Goals as goal

pub insert-requires-clause-before : goal.insert-requires-clause-before
insert-requires-clause-before c = before_closing _ _ _ c.size-size.ensures.text c.octets.ensures c.size-size.ensures.many c.in-Some.ensures.cases.0
