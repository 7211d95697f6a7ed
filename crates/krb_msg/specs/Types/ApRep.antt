-- AP-REP (RFC 4120, 5.5): values of the type and of views of it, as values of its term, and back. asn1/generate wrote this from asn1/krb5.asn1
use Rattle.std.specs.Prelude.{pos}
use Rattle.krb_msg.specs.Term.{Value}
use Rattle.krb_msg.specs.Grammar.{ap_rep}
use Rattle.krb_msg.specs.declared.ap_rep.ApRep.{ApRep}
use Rattle.krb_msg.specs.declared.ap_rep.ApRepView.{ApRepView}
use Rattle.krb_msg.specs.Types.EncryptedData.{encrypted_data_value, encrypted_data_of, encrypted_data_view_value, IsValidEncryptedData}

abbrev pub ap_rep_value : ApRep → Value ap_rep
ap_rep_value m = (pos 5, (pos 15, (encrypted_data_value m.enc_part, tt)))

abbrev pub ap_rep_of : Value ap_rep → ApRep
ap_rep_of v = record { enc_part = encrypted_data_of v.1.1.0 }

-- ---- a view of it: as a value of its term, as a value of the type, and what is known of it
abbrev pub ap_rep_view_value : ApRepView → Value ap_rep
ap_rep_view_value m = (pos 5, (pos 15, (encrypted_data_view_value m.enc_part, tt)))

abbrev pub ap_rep_of_view : ApRepView → ApRep
ap_rep_of_view m = ap_rep_of (ap_rep_view_value m)

abbrev pub IsValidApRep : ApRepView → Type 0
IsValidApRep m = IsValidEncryptedData m.enc_part
