-- KDC-REP (RFC 4120, 5.4.2): values of the type and of views of it, as values of its term, and back. asn1/generate wrote this from asn1/krb5.asn1
use Rattle.std.specs.Prelude.{ℕ, pos, map}
use Rattle.std.specs.Option.{option_map}
use Rattle.krb_msg.specs.Term.{Value, IfPresent}
use Rattle.krb_msg.specs.Viewed.{AreViewed, items_of}
use Rattle.krb_msg.specs.Grammar.{as_rep, pa_data}
use Rattle.krb_msg.specs.declared.kdc_rep.KdcRep.{KdcRep}
use Rattle.krb_msg.specs.declared.kdc_rep.KdcRepView.{KdcRepView}
use Rattle.krb_msg.specs.Types.PaData.{pa_data_value, pa_data_of}
use Rattle.krb_msg.specs.Types.PrincipalName.{principal_name_value, principal_name_of, principal_name_view_value, IsValidPrincipalName}
use Rattle.krb_msg.specs.Types.Ticket.{ticket_value, ticket_of, ticket_view_value, IsValidTicket}
use Rattle.krb_msg.specs.Types.EncryptedData.{encrypted_data_value, encrypted_data_of, encrypted_data_view_value, IsValidEncryptedData}

-- the values of AS-REP and of TGS-REP, which differ in their message type alone
abbrev pub KdcRepValue : Type 0
KdcRepValue = Value as_rep

abbrev pub kdc_rep_value : ℕ → KdcRep → KdcRepValue
kdc_rep_value message_type m =
    (pos 5, (pos message_type, (option_map (map pa_data_value) m.padata, (m.crealm, (principal_name_value m.cname, (ticket_value m.ticket, (encrypted_data_value m.enc_part, tt)))))))

abbrev pub kdc_rep_of : KdcRepValue → KdcRep
kdc_rep_of v = record {
  padata = option_map (map pa_data_of) v.1.1.0;
  crealm = v.1.1.1.0;
  cname = principal_name_of v.1.1.1.1.0;
  ticket = ticket_of v.1.1.1.1.1.0;
  enc_part = encrypted_data_of v.1.1.1.1.1.1.0;
}

-- ---- a view of it: as a value of its term, as a value of the type, and what is known of it
abbrev pub kdc_rep_view_value : ℕ → KdcRepView → KdcRepValue
kdc_rep_view_value message_type m = (
  pos 5,
  (
    pos message_type,
    (
      option_map (λ items. items_of pa_data items.octets.now) m.padata,
      (m.crealm.now, (principal_name_view_value m.cname, (ticket_view_value m.ticket, (encrypted_data_view_value m.enc_part, tt)))),
    ),
  ),
)

abbrev pub kdc_rep_of_view : KdcRepView → KdcRep
kdc_rep_of_view m = kdc_rep_of (kdc_rep_view_value 11 m)

pub record IsValidKdcRep (m : KdcRepView) : Type 0 where
  pub padata : IfPresent (λ items. AreViewed pa_data items.octets.now) m.padata
  pub cname : IsValidPrincipalName m.cname
  pub ticket : IsValidTicket m.ticket
  pub enc_part : IsValidEncryptedData m.enc_part
