-- PrincipalName (RFC 4120, 5.2): values of the type and of views of it, as values of its term, and back. asn1/generate wrote this from asn1/krb5.asn1
use Rattle.krb_msg.specs.Term.{Value}
use Rattle.krb_msg.specs.Viewed.{AreViewed, items_of}
use Rattle.krb_msg.specs.Grammar.{principal_name, kerberos_string}
use Rattle.krb_msg.specs.declared.principal_name.PrincipalName.{PrincipalName}
use Rattle.krb_msg.specs.declared.principal_name.PrincipalNameView.{PrincipalNameView}

abbrev pub principal_name_value : PrincipalName → Value principal_name
principal_name_value p = (p.name_type, (p.name, tt))

abbrev pub principal_name_of : Value principal_name → PrincipalName
principal_name_of v = record { name_type = v.0; name = v.1.0 }

-- ---- a view of it: as a value of its term, as a value of the type, and what is known of it
abbrev pub principal_name_view_value : PrincipalNameView → Value principal_name
principal_name_view_value p = (p.name_type, (items_of kerberos_string p.name.octets.now, tt))

abbrev pub principal_name_of_view : PrincipalNameView → PrincipalName
principal_name_of_view p = principal_name_of (principal_name_view_value p)

abbrev pub IsValidPrincipalName : PrincipalNameView → Type 0
IsValidPrincipalName p = AreViewed kerberos_string p.name.octets.now
