-- EncryptedData (RFC 4120, 5.2): values of the type and of views of it, as values of its term, and back. asn1/generate wrote this from asn1/krb5.asn1
use Rattle.std.specs.Prelude.{◌^◌, ◌<◌, length}
use Rattle.krb_msg.specs.Term.{Value}
use Rattle.krb_msg.specs.Grammar.{encrypted_data}
use Rattle.krb_msg.specs.declared.encrypted_data.EncryptedData.{EncryptedData}
use Rattle.krb_msg.specs.declared.encrypted_data.EncryptedDataView.{EncryptedDataView}

abbrev pub encrypted_data_value : EncryptedData → Value encrypted_data
encrypted_data_value e = (e.etype, (e.kvno, (e.cipher, tt)))

abbrev pub encrypted_data_of : Value encrypted_data → EncryptedData
encrypted_data_of v = record { etype = v.0; kvno = v.1.0; cipher = v.1.1.0 }

-- ---- a view of it: as a value of its term, as a value of the type, and what is known of it
abbrev pub encrypted_data_view_value : EncryptedDataView → Value encrypted_data
encrypted_data_view_value e = (e.etype, (e.kvno, (e.cipher.now, tt)))

abbrev pub encrypted_data_of_view : EncryptedDataView → EncryptedData
encrypted_data_of_view e = encrypted_data_of (encrypted_data_view_value e)

abbrev pub IsValidEncryptedData : EncryptedDataView → Type 0
IsValidEncryptedData e = length e.cipher.now < 2 ^ 31
