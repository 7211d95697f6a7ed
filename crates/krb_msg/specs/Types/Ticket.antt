-- Ticket (RFC 4120, 5.3): values of the type and of views of it, as values of its term, and back. asn1/generate wrote this from asn1/krb5.asn1
use Rattle.std.specs.Prelude.{pos}
use Rattle.krb_msg.specs.Term.{Value}
use Rattle.krb_msg.specs.Grammar.{ticket}
use Rattle.krb_msg.specs.declared.ticket.Ticket.{Ticket}
use Rattle.krb_msg.specs.declared.ticket.TicketView.{TicketView}
use Rattle.krb_msg.specs.Types.PrincipalName.{principal_name_value, principal_name_of, principal_name_view_value, IsValidPrincipalName}
use Rattle.krb_msg.specs.Types.EncryptedData.{encrypted_data_value, encrypted_data_of, encrypted_data_view_value, IsValidEncryptedData}

abbrev pub ticket_value : Ticket → Value ticket
ticket_value t = (pos 5, (t.realm, (principal_name_value t.sname, (encrypted_data_value t.enc_part, tt))))

abbrev pub ticket_of : Value ticket → Ticket
ticket_of v = record { realm = v.1.0; sname = principal_name_of v.1.1.0; enc_part = encrypted_data_of v.1.1.1.0 }

-- ---- a view of it: as a value of its term, as a value of the type, and what is known of it
abbrev pub ticket_view_value : TicketView → Value ticket
ticket_view_value t = (pos 5, (t.realm.now, (principal_name_view_value t.sname, (encrypted_data_view_value t.enc_part, tt))))

abbrev pub ticket_of_view : TicketView → Ticket
ticket_of_view t = ticket_of (ticket_view_value t)

abbrev pub IsValidTicket : TicketView → Type 0
IsValidTicket t = IsValidPrincipalName t.sname × IsValidEncryptedData t.enc_part
