-- PA-DATA (RFC 4120, 5.2): values of the type and of views of it, as values of its term, and back. asn1/generate wrote this from asn1/krb5.asn1
use Rattle.std.specs.Prelude.{◌^◌, ◌<◌, length}
use Rattle.krb_msg.specs.Term.{Value}
use Rattle.krb_msg.specs.Grammar.{pa_data}
use Rattle.krb_msg.specs.declared.pa_data.PaData.{PaData}
use Rattle.krb_msg.specs.declared.pa_data.PaDataView.{PaDataView}

abbrev pub pa_data_value : PaData → Value pa_data
pa_data_value p = (p.padata_type, (p.padata_value, tt))

abbrev pub pa_data_of : Value pa_data → PaData
pa_data_of v = record { padata_type = v.0; padata_value = v.1.0 }

-- ---- a view of it: as a value of its term, as a value of the type, and what is known of it
abbrev pub pa_data_view_value : PaDataView → Value pa_data
pa_data_view_value p = (p.padata_type, (p.padata_value.now, tt))

abbrev pub pa_data_of_view : PaDataView → PaData
pa_data_of_view p = pa_data_of (pa_data_view_value p)

abbrev pub IsValidPaData : PaDataView → Type 0
IsValidPaData p = length p.padata_value.now < 2 ^ 31
