-- KERB-ERROR-DATA (MS-KILE, 2.2.2): values of the type and of views of it, as values of its term, and back. asn1/generate wrote this from asn1/padata.asn1
use Rattle.std.specs.Prelude.{◌^◌, ◌<◌, length}
use Rattle.std.specs.Option.{option_map}
use Rattle.krb_msg.specs.Term.{Value, IfPresent}
use Rattle.krb_padata.specs.Grammar.{kerb_error_data}
use Rattle.krb_padata.specs.declared.kerb_error_data.KerbErrorData.{KerbErrorData}
use Rattle.krb_padata.specs.declared.kerb_error_data.KerbErrorDataView.{KerbErrorDataView}

abbrev pub kerb_error_data_value : KerbErrorData → Value kerb_error_data
kerb_error_data_value d = (d.data_type, (d.data_value, tt))

abbrev pub kerb_error_data_of : Value kerb_error_data → KerbErrorData
kerb_error_data_of v = record { data_type = v.0; data_value = v.1.0 }

-- ---- a view of it: as a value of its term, as a value of the type, and what is known of it
abbrev pub kerb_error_data_view_value : KerbErrorDataView → Value kerb_error_data
kerb_error_data_view_value d = (d.data_type, (option_map (λ octets. octets.now) d.data_value, tt))

abbrev pub kerb_error_data_of_view : KerbErrorDataView → KerbErrorData
kerb_error_data_of_view d = kerb_error_data_of (kerb_error_data_view_value d)

abbrev pub IsValidKerbErrorData : KerbErrorDataView → Type 0
IsValidKerbErrorData d = IfPresent (λ octets. length octets.now < 2 ^ 31) d.data_value
