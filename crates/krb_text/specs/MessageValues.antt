-- The values of parts of messages.
use Rattle.std.specs.Prelude.{ℕ, List, length, Option, Some}
use Rattle.krb_msg.specs.declared.checksum.Checksum.{Checksum}
use Rattle.krb_msg.specs.declared.encrypted_data.EncryptedData.{EncryptedData}
use Rattle.krb_msg.specs.declared.host_address.HostAddress.{HostAddress}
use Rattle.krb_msg.specs.declared.principal_name.PrincipalName.{PrincipalName}
use Rattle.krb_record.specs.Values.{Value, Absent, Encrypted, Principal, Address, Digest}

abbrev pub encrypted : EncryptedData → Value
encrypted e = Encrypted e.etype e.kvno (length e.cipher)

abbrev pub principal : List ℕ → PrincipalName → Value
principal realm name = Principal name.name_type name.name realm

-- a client, if its name and its realm are both there
abbrev pub client : Option PrincipalName → Option (List ℕ) → Value
client (Some name) (Some realm) = principal realm name
client name realm = Absent

abbrev pub address : HostAddress → Value
address a = Address a.addr_type a.address

abbrev pub checksum : Checksum → Value
checksum c = Digest c.cksumtype (length c.checksum)
