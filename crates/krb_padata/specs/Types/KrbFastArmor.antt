-- KrbFastArmor (RFC 6113, 5.4.1): values of the type and of views of it, as values of its term, and back. asn1/generate wrote this from asn1/padata.asn1
use Rattle.std.specs.Prelude.{◌^◌, ◌<◌, length}
use Rattle.krb_msg.specs.Term.{Value}
use Rattle.krb_padata.specs.Grammar.{krb_fast_armor}
use Rattle.krb_padata.specs.declared.krb_fast_armor.KrbFastArmor.{KrbFastArmor}
use Rattle.krb_padata.specs.declared.krb_fast_armor.KrbFastArmorView.{KrbFastArmorView}

abbrev pub krb_fast_armor_value : KrbFastArmor → Value krb_fast_armor
krb_fast_armor_value a = (a.armor_type, (a.armor_value, tt))

abbrev pub krb_fast_armor_of : Value krb_fast_armor → KrbFastArmor
krb_fast_armor_of v = record { armor_type = v.0; armor_value = v.1.0 }

-- ---- a view of it: as a value of its term, as a value of the type, and what is known of it
abbrev pub krb_fast_armor_view_value : KrbFastArmorView → Value krb_fast_armor
krb_fast_armor_view_value a = (a.armor_type, (a.armor_value.now, tt))

abbrev pub krb_fast_armor_of_view : KrbFastArmorView → KrbFastArmor
krb_fast_armor_of_view a = krb_fast_armor_of (krb_fast_armor_view_value a)

abbrev pub IsValidKrbFastArmor : KrbFastArmorView → Type 0
IsValidKrbFastArmor a = length a.armor_value.now < 2 ^ 31
