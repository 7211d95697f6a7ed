-- ETYPE-INFO-ENTRY (RFC 4120, 5.2.7.4): values of the type and of views of it, as values of its term, and back. asn1/generate wrote this from asn1/padata.asn1
use Rattle.std.specs.Prelude.{◌^◌, ◌<◌, length}
use Rattle.std.specs.Option.{option_map}
use Rattle.krb_msg.specs.Term.{Value, IfPresent}
use Rattle.krb_padata.specs.Grammar.{etype_info_entry}
use Rattle.krb_padata.specs.declared.etype_info_entry.EtypeInfoEntry.{EtypeInfoEntry}
use Rattle.krb_padata.specs.declared.etype_info_entry.EtypeInfoEntryView.{EtypeInfoEntryView}

abbrev pub etype_info_entry_value : EtypeInfoEntry → Value etype_info_entry
etype_info_entry_value e = (e.etype, (e.salt, tt))

abbrev pub etype_info_entry_of : Value etype_info_entry → EtypeInfoEntry
etype_info_entry_of v = record { etype = v.0; salt = v.1.0 }

-- ---- a view of it: as a value of its term, as a value of the type, and what is known of it
abbrev pub etype_info_entry_view_value : EtypeInfoEntryView → Value etype_info_entry
etype_info_entry_view_value e = (e.etype, (option_map (λ octets. octets.now) e.salt, tt))

abbrev pub etype_info_entry_of_view : EtypeInfoEntryView → EtypeInfoEntry
etype_info_entry_of_view e = etype_info_entry_of (etype_info_entry_view_value e)

abbrev pub IsValidEtypeInfoEntry : EtypeInfoEntryView → Type 0
IsValidEtypeInfoEntry e = IfPresent (λ octets. length octets.now < 2 ^ 31) e.salt
