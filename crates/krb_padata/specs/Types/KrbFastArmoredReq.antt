-- KrbFastArmoredReq (RFC 6113, 5.4.2): values of the type and of views of it, as values of its term, and back. asn1/generate wrote this from asn1/padata.asn1
use Rattle.std.specs.Option.{option_map}
use Rattle.krb_msg.specs.Term.{Value, IfPresent}
use Rattle.krb_padata.specs.Grammar.{krb_fast_armored_req}
use Rattle.krb_padata.specs.declared.krb_fast_armored_req.KrbFastArmoredReq.{KrbFastArmoredReq}
use Rattle.krb_padata.specs.declared.krb_fast_armored_req.KrbFastArmoredReqView.{KrbFastArmoredReqView}
use Rattle.krb_padata.specs.Types.KrbFastArmor.{krb_fast_armor_value, krb_fast_armor_of, krb_fast_armor_view_value, IsValidKrbFastArmor}
use Rattle.krb_msg.specs.Types.Checksum.{checksum_value, checksum_of, checksum_view_value, IsValidChecksum}
use Rattle.krb_msg.specs.Types.EncryptedData.{encrypted_data_value, encrypted_data_of, encrypted_data_view_value, IsValidEncryptedData}

abbrev pub krb_fast_armored_req_value : KrbFastArmoredReq → Value krb_fast_armored_req
krb_fast_armored_req_value r = (option_map krb_fast_armor_value r.armor, (checksum_value r.req_checksum, (encrypted_data_value r.enc_fast_req, tt)))

abbrev pub krb_fast_armored_req_of : Value krb_fast_armored_req → KrbFastArmoredReq
krb_fast_armored_req_of v = record {
  armor = option_map krb_fast_armor_of v.0;
  req_checksum = checksum_of v.1.0;
  enc_fast_req = encrypted_data_of v.1.1.0;
}

-- ---- a view of it: as a value of its term, as a value of the type, and what is known of it
abbrev pub krb_fast_armored_req_view_value : KrbFastArmoredReqView → Value krb_fast_armored_req
krb_fast_armored_req_view_value r =
    (option_map krb_fast_armor_view_value r.armor, (checksum_view_value r.req_checksum, (encrypted_data_view_value r.enc_fast_req, tt)))

abbrev pub krb_fast_armored_req_of_view : KrbFastArmoredReqView → KrbFastArmoredReq
krb_fast_armored_req_of_view r = krb_fast_armored_req_of (krb_fast_armored_req_view_value r)

pub record IsValidKrbFastArmoredReq (r : KrbFastArmoredReqView) : Type 0 where
  pub armor : IfPresent IsValidKrbFastArmor r.armor
  pub req_checksum : IsValidChecksum r.req_checksum
  pub enc_fast_req : IsValidEncryptedData r.enc_fast_req
