-- Checksum (RFC 4120, 5.2): values of the type and of views of it, as values of its term, and back. asn1/generate wrote this from asn1/krb5.asn1
use Rattle.std.specs.Prelude.{◌^◌, ◌<◌, length}
use Rattle.krb_msg.specs.Term.{Value}
use Rattle.krb_msg.specs.Grammar.{checksum}
use Rattle.krb_msg.specs.declared.checksum.Checksum.{Checksum}
use Rattle.krb_msg.specs.declared.checksum.ChecksumView.{ChecksumView}

abbrev pub checksum_value : Checksum → Value checksum
checksum_value c = (c.cksumtype, (c.checksum, tt))

abbrev pub checksum_of : Value checksum → Checksum
checksum_of v = record { cksumtype = v.0; checksum = v.1.0 }

-- ---- a view of it: as a value of its term, as a value of the type, and what is known of it
abbrev pub checksum_view_value : ChecksumView → Value checksum
checksum_view_value c = (c.cksumtype, (c.checksum.now, tt))

abbrev pub checksum_of_view : ChecksumView → Checksum
checksum_of_view c = checksum_of (checksum_view_value c)

abbrev pub IsValidChecksum : ChecksumView → Type 0
IsValidChecksum c = length c.checksum.now < 2 ^ 31
