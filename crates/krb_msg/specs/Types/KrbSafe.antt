-- KRB-SAFE (RFC 4120, 5.6.1): values of the type and of views of it, as values of its term, and back. asn1/generate wrote this from asn1/krb5.asn1
use Rattle.std.specs.Prelude.{pos}
use Rattle.krb_msg.specs.Term.{Value}
use Rattle.krb_msg.specs.Grammar.{krb_safe}
use Rattle.krb_msg.specs.declared.krb_safe.KrbSafe.{KrbSafe}
use Rattle.krb_msg.specs.declared.krb_safe.KrbSafeView.{KrbSafeView}
use Rattle.krb_msg.specs.Types.KrbSafeBody.{krb_safe_body_value, krb_safe_body_of, krb_safe_body_view_value, IsValidKrbSafeBody}
use Rattle.krb_msg.specs.Types.Checksum.{checksum_value, checksum_of, checksum_view_value, IsValidChecksum}

abbrev pub krb_safe_value : KrbSafe → Value krb_safe
krb_safe_value m = (pos 5, (pos 20, (krb_safe_body_value m.body, (checksum_value m.cksum, tt))))

abbrev pub krb_safe_of : Value krb_safe → KrbSafe
krb_safe_of v = record { body = krb_safe_body_of v.1.1.0; cksum = checksum_of v.1.1.1.0 }

-- ---- a view of it: as a value of its term, as a value of the type, and what is known of it
abbrev pub krb_safe_view_value : KrbSafeView → Value krb_safe
krb_safe_view_value m = (pos 5, (pos 20, (krb_safe_body_view_value m.body, (checksum_view_value m.cksum, tt))))

abbrev pub krb_safe_of_view : KrbSafeView → KrbSafe
krb_safe_of_view m = krb_safe_of (krb_safe_view_value m)

abbrev pub IsValidKrbSafe : KrbSafeView → Type 0
IsValidKrbSafe m = IsValidKrbSafeBody m.body × IsValidChecksum m.cksum
