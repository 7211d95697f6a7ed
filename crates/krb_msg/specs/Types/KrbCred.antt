-- KRB-CRED (RFC 4120, 5.8.1): values of the type and of views of it, as values of its term, and back. asn1/generate wrote this from asn1/krb5.asn1
use Rattle.std.specs.Prelude.{pos, map}
use Rattle.krb_msg.specs.Term.{Value}
use Rattle.krb_msg.specs.Viewed.{AreViewed, items_of}
use Rattle.krb_msg.specs.Grammar.{krb_cred, ticket}
use Rattle.krb_msg.specs.declared.krb_cred.KrbCred.{KrbCred}
use Rattle.krb_msg.specs.declared.krb_cred.KrbCredView.{KrbCredView}
use Rattle.krb_msg.specs.Types.Ticket.{ticket_value, ticket_of}
use Rattle.krb_msg.specs.Types.EncryptedData.{encrypted_data_value, encrypted_data_of, encrypted_data_view_value, IsValidEncryptedData}

abbrev pub krb_cred_value : KrbCred → Value krb_cred
krb_cred_value m = (pos 5, (pos 22, (map ticket_value m.tickets, (encrypted_data_value m.enc_part, tt))))

abbrev pub krb_cred_of : Value krb_cred → KrbCred
krb_cred_of v = record { tickets = map ticket_of v.1.1.0; enc_part = encrypted_data_of v.1.1.1.0 }

-- ---- a view of it: as a value of its term, as a value of the type, and what is known of it
abbrev pub krb_cred_view_value : KrbCredView → Value krb_cred
krb_cred_view_value m = (pos 5, (pos 22, (items_of ticket m.tickets.octets.now, (encrypted_data_view_value m.enc_part, tt))))

abbrev pub krb_cred_of_view : KrbCredView → KrbCred
krb_cred_of_view m = krb_cred_of (krb_cred_view_value m)

abbrev pub IsValidKrbCred : KrbCredView → Type 0
IsValidKrbCred m = AreViewed ticket m.tickets.octets.now × IsValidEncryptedData m.enc_part
