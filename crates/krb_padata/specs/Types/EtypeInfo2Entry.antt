-- ETYPE-INFO2-ENTRY (RFC 4120, 5.2.7.5): values of the type and of views of it, as values of its term, and back. asn1/generate wrote this from asn1/padata.asn1
use Rattle.std.specs.Prelude.{◌^◌, ◌<◌, length}
use Rattle.std.specs.Option.{option_map}
use Rattle.krb_msg.specs.Term.{Value, IfPresent}
use Rattle.krb_padata.specs.Grammar.{etype_info2_entry}
use Rattle.krb_padata.specs.declared.etype_info2_entry.EtypeInfo2Entry.{EtypeInfo2Entry}
use Rattle.krb_padata.specs.declared.etype_info2_entry.EtypeInfo2EntryView.{EtypeInfo2EntryView}

abbrev pub etype_info2_entry_value : EtypeInfo2Entry → Value etype_info2_entry
etype_info2_entry_value e = (e.etype, (e.salt, (e.s2kparams, tt)))

abbrev pub etype_info2_entry_of : Value etype_info2_entry → EtypeInfo2Entry
etype_info2_entry_of v = record { etype = v.0; salt = v.1.0; s2kparams = v.1.1.0 }

-- ---- a view of it: as a value of its term, as a value of the type, and what is known of it
abbrev pub etype_info2_entry_view_value : EtypeInfo2EntryView → Value etype_info2_entry
etype_info2_entry_view_value e = (e.etype, (option_map (λ octets. octets.now) e.salt, (option_map (λ octets. octets.now) e.s2kparams, tt)))

abbrev pub etype_info2_entry_of_view : EtypeInfo2EntryView → EtypeInfo2Entry
etype_info2_entry_of_view e = etype_info2_entry_of (etype_info2_entry_view_value e)

abbrev pub IsValidEtypeInfo2Entry : EtypeInfo2EntryView → Type 0
IsValidEtypeInfo2Entry e = IfPresent (λ octets. length octets.now < 2 ^ 31) e.s2kparams
