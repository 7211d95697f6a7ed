-- HostAddress (RFC 4120, 5.2): values of the type and of views of it, as values of its term, and back. asn1/generate wrote this from asn1/krb5.asn1
use Rattle.std.specs.Prelude.{◌^◌, ◌<◌, length}
use Rattle.krb_msg.specs.Term.{Value}
use Rattle.krb_msg.specs.Grammar.{host_address}
use Rattle.krb_msg.specs.declared.host_address.HostAddress.{HostAddress}
use Rattle.krb_msg.specs.declared.host_address.HostAddressView.{HostAddressView}

abbrev pub host_address_value : HostAddress → Value host_address
host_address_value a = (a.addr_type, (a.address, tt))

abbrev pub host_address_of : Value host_address → HostAddress
host_address_of v = record { addr_type = v.0; address = v.1.0 }

-- ---- a view of it: as a value of its term, as a value of the type, and what is known of it
abbrev pub host_address_view_value : HostAddressView → Value host_address
host_address_view_value a = (a.addr_type, (a.address.now, tt))

abbrev pub host_address_of_view : HostAddressView → HostAddress
host_address_of_view a = host_address_of (host_address_view_value a)

abbrev pub IsValidHostAddress : HostAddressView → Type 0
IsValidHostAddress a = length a.address.now < 2 ^ 31
