-- Why a cache cannot be written.
use Rattle.std.specs.Prelude.{Bool, ◌||◌, nat_lt, List, length}
use Rattle.std.specs.List.{list_any}
use Rattle.krb_files.specs.Parts.{is_long16, is_long32, greatest}
use Rattle.krb_ccache.specs.declared.value.Ccache.{Ccache}
use Rattle.krb_ccache.specs.declared.value.Credential.{Credential}
use Rattle.krb_ccache.specs.declared.value.FilePrincipal.{FilePrincipal}
use Rattle.krb_ccache.specs.declared.value.Header.{Header}
use Rattle.krb_ccache.specs.declared.value.HeaderField.{HeaderField}
use Rattle.krb_ccache.specs.declared.value.Typed.{Typed}
use Rattle.krb_ccache.specs.Spelling.{header_fields, ccache}

-- ---- parts of a cache that are too long for a length of 16 or 32 bits

abbrev pub is_long_principal : FilePrincipal → Bool
is_long_principal p = is_long32 p.components || is_long32 p.realm || list_any is_long32 p.components

abbrev pub is_long_typed : Typed → Bool
is_long_typed t = is_long32 t.octets

abbrev pub is_long_list : List Typed → Bool
is_long_list ts = is_long32 ts || list_any is_long_typed ts

abbrev pub is_long_credential : Credential → Bool
is_long_credential c =
    is_long_principal c.client
    || is_long_principal c.server
    || is_long32 c.key
    || is_long_list c.addresses
    || is_long_list c.authdata
    || is_long32 c.ticket
    || is_long32 c.second_ticket

abbrev pub is_long_field : HeaderField → Bool
is_long_field f = is_long16 f.value

abbrev pub is_long_header : Header → Bool
is_long_header h = list_any is_long_field h.fields || is_long16 (header_fields h.fields)

abbrev pub is_long_ccache : Ccache → Bool
is_long_ccache v = is_long_header v.header || is_long_principal v.principal || list_any is_long_credential v.credentials

-- ---- the file

-- whether a cache cannot be written: a part of it is too long, or it has more octets than a file may have
abbrev pub is_too_long : Ccache → Bool
is_too_long v = is_long_ccache v || nat_lt greatest (length (ccache v))
