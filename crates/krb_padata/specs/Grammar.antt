-- Pre-authentication data as terms. A line of a SEQUENCE is a line of its document: the index, the field's name, its type. asn1/generate wrote this from asn1/padata.asn1
use Rattle.krb_msg.specs.Term.{Term, Sequence, Tagged, End}
use Rattle.krb_msg.specs.Basic.{◌⨟◌, field, optional, sequence_of, int32, kerberos_string, octet_string, kerberos_flags}
use Rattle.krb_msg.specs.Grammar.{checksum, encrypted_data, principal_name}

-- ---- RFC 4120, 5.2.7.4
abbrev pub etype_info_entry : Term
etype_info_entry = Sequence (
    field 0 "etype" int32
    ⨟ optional 1 "salt" octet_string
    ⨟ End)

abbrev pub etype_info : Term
etype_info = sequence_of etype_info_entry

-- ---- RFC 4120, 5.2.7.5
abbrev pub etype_info2_entry : Term
etype_info2_entry = Sequence (
    field 0 "etype" int32
    ⨟ optional 1 "salt" kerberos_string
    ⨟ optional 2 "s2kparams" octet_string
    ⨟ End)

abbrev pub etype_info2 : Term
etype_info2 = sequence_of etype_info2_entry

-- ---- RFC 6113, 5.4.1
abbrev pub krb_fast_armor : Term
krb_fast_armor = Sequence (
    field 0 "armor-type" int32
    ⨟ field 1 "armor-value" octet_string
    ⨟ End)

-- ---- RFC 6113, 5.4.2
abbrev pub krb_fast_armored_req : Term
krb_fast_armored_req = Sequence (
    optional 0 "armor" krb_fast_armor
    ⨟ field 1 "req-checksum" checksum
    ⨟ field 2 "enc-fast-req" encrypted_data
    ⨟ End)

abbrev pub pa_fx_fast_request : Term
pa_fx_fast_request = Tagged 0 krb_fast_armored_req

-- ---- RFC 6113, 5.4.3
abbrev pub krb_fast_armored_rep : Term
krb_fast_armored_rep = Sequence (
    field 0 "enc-fast-rep" encrypted_data
    ⨟ End)

abbrev pub pa_fx_fast_reply : Term
pa_fx_fast_reply = Tagged 0 krb_fast_armored_rep

-- ---- MS-SFU, 2.2.1
abbrev pub pa_for_user : Term
pa_for_user = Sequence (
    field 0 "userName" principal_name
    ⨟ field 1 "userRealm" kerberos_string
    ⨟ field 2 "cksum" checksum
    ⨟ field 3 "auth-package" kerberos_string
    ⨟ End)

-- ---- MS-KILE, 2.2.10
abbrev pub pa_pac_options : Term
pa_pac_options = Sequence (
    field 0 "flags" kerberos_flags
    ⨟ End)

-- ---- RFC 4120, 5.9.1
abbrev pub typed_data_item : Term
typed_data_item = Sequence (
    field 0 "data-type" int32
    ⨟ optional 1 "data-value" octet_string
    ⨟ End)

abbrev pub typed_data : Term
typed_data = sequence_of typed_data_item

-- ---- MS-KILE, 2.2.2
abbrev pub kerb_error_data : Term
kerb_error_data = Sequence (
    field 1 "data-type" int32
    ⨟ optional 2 "data-value" octet_string
    ⨟ End)
