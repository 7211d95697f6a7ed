-- KRB-PRIV (RFC 4120, 5.7.1): values of the type and of views of it, as values of its term, and back. asn1/generate wrote this from asn1/krb5.asn1
use Rattle.std.specs.Prelude.{pos}
use Rattle.krb_msg.specs.Term.{Value}
use Rattle.krb_msg.specs.Grammar.{krb_priv}
use Rattle.krb_msg.specs.declared.krb_priv.KrbPriv.{KrbPriv}
use Rattle.krb_msg.specs.declared.krb_priv.KrbPrivView.{KrbPrivView}
use Rattle.krb_msg.specs.Types.EncryptedData.{encrypted_data_value, encrypted_data_of, encrypted_data_view_value, IsValidEncryptedData}

abbrev pub krb_priv_value : KrbPriv → Value krb_priv
krb_priv_value m = (pos 5, (pos 21, (encrypted_data_value m.enc_part, tt)))

abbrev pub krb_priv_of : Value krb_priv → KrbPriv
krb_priv_of v = record { enc_part = encrypted_data_of v.1.1.0 }

-- ---- a view of it: as a value of its term, as a value of the type, and what is known of it
abbrev pub krb_priv_view_value : KrbPrivView → Value krb_priv
krb_priv_view_value m = (pos 5, (pos 21, (encrypted_data_view_value m.enc_part, tt)))

abbrev pub krb_priv_of_view : KrbPrivView → KrbPriv
krb_priv_of_view m = krb_priv_of (krb_priv_view_value m)

abbrev pub IsValidKrbPriv : KrbPrivView → Type 0
IsValidKrbPriv m = IsValidEncryptedData m.enc_part
