use Rattle.std.proofs.Common.{[], refl, subst, sym}
use Rattle.krb_record.specs.Forms.{form_of, record_line}
use Rattle.krb_record.specs.Laws.{IsOneLine}
use Rattle.krb_record.specs.Origins.{message_origin}
use Rattle.krb_record.specs.Values.{Printed, with_origin}
use Rattle.krb_text.specs.Messages.{message_line, message_record, ticket_record}
use Rattle.krb_text_laws.proofs.EndOneLine.{line_from, message_line_from}
use Rattle.krb_text_laws.proofs.FieldsOneLine.{of_ticket}
use Rattle.krb_text_laws.proofs.MessageOneLine.{record_is_plain, shown_whole}
use Rattle.krb_text_laws.proofs.Tuples.{◌&◌}
use Rattle.krb_text_laws.proofs.text.message_is_one_line.Goals as goal

pub returns-clause-message : goal.returns-clause-message
unfolding message_line message_record
returns-clause-message c = λ base m good.
    let h = record_is_plain m good in
    subst (λ (r : Printed). IsOneLine (record_line (form_of base) r)) (sym (shown_whole base m)) (line_from base [] (message_record m) refl tt h.kind h.names h.fields h.inside)

pub returns-clause-from : goal.returns-clause-from
unfolding message_record
returns-clause-from c = λ base line layers m good.
    let h = record_is_plain m good in
    subst (λ (r : Printed). IsOneLine (record_line (form_of base) (with_origin (message_origin line layers) r))) (sym (shown_whole base m)) (message_line_from base line layers (message_record m) h.kind h.names h.fields h.inside)

-- a Ticket
pub returns-clause-ticket : goal.returns-clause-ticket
unfolding ticket_record
returns-clause-ticket c = λ base line layers t fit. message_line_from base line layers (ticket_record t) refl refl (of_ticket t fit & tt & tt & tt) tt
