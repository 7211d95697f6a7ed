use Rattle.std.proofs.lemmas.Result.{on_ok_weaker}
use Rattle.krb_record.specs.Forms.{record_text}
use Rattle.krb_text.specs.Messages.{ticket_record}
use Rattle.krb_text.proofs.Records.{three_fields_alone}
use Rattle.krb_text.proofs.ticket.put_ticket.Goals as goal

pub returns : goal.returns
unfolding record_text ticket_record
returns c =
    on_ok_weaker
    c.put_end.result
    (three_fields_alone _ _ _ _ _ _ _ c.in_ok-put_message_opening.ensures (rw c.principal_of.ensures at c.in_ok-put_field.ensures) (rw c.encrypted_of.ensures at c.in_ok-put_field-2.ensures) (rw c.notes_of_ticket.ensures at c.in_ok-put_field-3.ensures))
    c.put_end.ensures
