-- PA-FOR-USER (MS-SFU, 2.2.1): values of the type and of views of it, as values of its term, and back. asn1/generate wrote this from asn1/padata.asn1
use Rattle.krb_msg.specs.Term.{Value}
use Rattle.krb_padata.specs.Grammar.{pa_for_user}
use Rattle.krb_padata.specs.declared.pa_for_user.PaForUser.{PaForUser}
use Rattle.krb_padata.specs.declared.pa_for_user.PaForUserView.{PaForUserView}
use Rattle.krb_msg.specs.Types.PrincipalName.{principal_name_value, principal_name_of, principal_name_view_value, IsValidPrincipalName}
use Rattle.krb_msg.specs.Types.Checksum.{checksum_value, checksum_of, checksum_view_value, IsValidChecksum}

abbrev pub pa_for_user_value : PaForUser → Value pa_for_user
pa_for_user_value p = (principal_name_value p.user_name, (p.user_realm, (checksum_value p.cksum, (p.auth_package, tt))))

abbrev pub pa_for_user_of : Value pa_for_user → PaForUser
pa_for_user_of v = record { user_name = principal_name_of v.0; user_realm = v.1.0; cksum = checksum_of v.1.1.0; auth_package = v.1.1.1.0 }

-- ---- a view of it: as a value of its term, as a value of the type, and what is known of it
abbrev pub pa_for_user_view_value : PaForUserView → Value pa_for_user
pa_for_user_view_value p = (principal_name_view_value p.user_name, (p.user_realm.now, (checksum_view_value p.cksum, (p.auth_package.now, tt))))

abbrev pub pa_for_user_of_view : PaForUserView → PaForUser
pa_for_user_of_view p = pa_for_user_of (pa_for_user_view_value p)

abbrev pub IsValidPaForUser : PaForUserView → Type 0
IsValidPaForUser p = IsValidPrincipalName p.user_name × IsValidChecksum p.cksum
