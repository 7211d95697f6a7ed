-- KrbFastArmoredRep (RFC 6113, 5.4.3): values of the type and of views of it, as values of its term, and back. asn1/generate wrote this from asn1/padata.asn1
use Rattle.krb_msg.specs.Term.{Value}
use Rattle.krb_padata.specs.Grammar.{krb_fast_armored_rep}
use Rattle.krb_padata.specs.declared.krb_fast_armored_rep.KrbFastArmoredRep.{KrbFastArmoredRep}
use Rattle.krb_padata.specs.declared.krb_fast_armored_rep.KrbFastArmoredRepView.{KrbFastArmoredRepView}
use Rattle.krb_msg.specs.Types.EncryptedData.{encrypted_data_value, encrypted_data_of, encrypted_data_view_value, IsValidEncryptedData}

abbrev pub krb_fast_armored_rep_value : KrbFastArmoredRep → Value krb_fast_armored_rep
krb_fast_armored_rep_value r = (encrypted_data_value r.enc_fast_rep, tt)

abbrev pub krb_fast_armored_rep_of : Value krb_fast_armored_rep → KrbFastArmoredRep
krb_fast_armored_rep_of v = record { enc_fast_rep = encrypted_data_of v.0 }

-- ---- a view of it: as a value of its term, as a value of the type, and what is known of it
abbrev pub krb_fast_armored_rep_view_value : KrbFastArmoredRepView → Value krb_fast_armored_rep
krb_fast_armored_rep_view_value r = (encrypted_data_view_value r.enc_fast_rep, tt)

abbrev pub krb_fast_armored_rep_of_view : KrbFastArmoredRepView → KrbFastArmoredRep
krb_fast_armored_rep_of_view r = krb_fast_armored_rep_of (krb_fast_armored_rep_view_value r)

abbrev pub IsValidKrbFastArmoredRep : KrbFastArmoredRepView → Type 0
IsValidKrbFastArmoredRep r = IsValidEncryptedData r.enc_fast_rep
