-- AP-REQ (RFC 4120, 5.5): values of the type and of views of it, as values of its term, and back. asn1/generate wrote this from asn1/krb5.asn1
use Rattle.std.specs.Prelude.{pos}
use Rattle.krb_msg.specs.Term.{Value}
use Rattle.krb_msg.specs.Basic.{flags_of_view}
use Rattle.krb_msg.specs.Grammar.{ap_req}
use Rattle.krb_msg.specs.declared.ap_req.ApReq.{ApReq}
use Rattle.krb_msg.specs.declared.ap_req.ApReqView.{ApReqView}
use Rattle.krb_msg.specs.Types.Ticket.{ticket_value, ticket_of, ticket_view_value, IsValidTicket}
use Rattle.krb_msg.specs.Types.EncryptedData.{encrypted_data_value, encrypted_data_of, encrypted_data_view_value, IsValidEncryptedData}

abbrev pub ap_req_value : ApReq → Value ap_req
ap_req_value m = (pos 5, (pos 14, (m.ap_options, (ticket_value m.ticket, (encrypted_data_value m.authenticator, tt)))))

abbrev pub ap_req_of : Value ap_req → ApReq
ap_req_of v = record { ap_options = v.1.1.0; ticket = ticket_of v.1.1.1.0; authenticator = encrypted_data_of v.1.1.1.1.0 }

-- ---- a view of it: as a value of its term, as a value of the type, and what is known of it
abbrev pub ap_req_view_value : ApReqView → Value ap_req
ap_req_view_value m = (pos 5, (pos 14, (flags_of_view m.ap_options, (ticket_view_value m.ticket, (encrypted_data_view_value m.authenticator, tt)))))

abbrev pub ap_req_of_view : ApReqView → ApReq
ap_req_of_view m = ap_req_of (ap_req_view_value m)

abbrev pub IsValidApReq : ApReqView → Type 0
IsValidApReq m = IsValidTicket m.ticket × IsValidEncryptedData m.authenticator
