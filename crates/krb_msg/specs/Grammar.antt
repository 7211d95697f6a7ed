-- RFC 4120, appendix A, as terms. A line of a SEQUENCE is a line of the appendix: the index, the field's name, its type. asn1/generate wrote this from asn1/krb5.asn1
-- The terms are those of the lenient profile: a string has any octets, flags are of any number, a list may be empty.
use Rattle.std.specs.Prelude.{ℕ, false, List, [], ◌∷◌, map}
use Rattle.krb_der.specs.declared.profile.Profile.{Profile}
use Rattle.krb_msg.specs.Profiles.{profile_term}
use Rattle.krb_msg.specs.Term.{Term, Sequence, Application, End}
use Rattle.krb_msg.specs.Basic.{◌⨟◌, field, optional}
pub use Rattle.krb_msg.specs.Basic.{exactly, version, int32, wide32, microseconds, kerberos_string, octet_string, kerberos_time, kerberos_flags, sequence_of}

abbrev pub principal_name : Term
principal_name = Sequence (
    field 0 "name-type" int32
    ⨟ field 1 "name-string" (sequence_of kerberos_string)
    ⨟ End)

abbrev pub host_address : Term
host_address = Sequence (
    field 0 "addr-type" int32
    ⨟ field 1 "address" octet_string
    ⨟ End)

abbrev pub pa_data : Term
pa_data = Sequence (
    field 1 "padata-type" int32
    ⨟ field 2 "padata-value" octet_string
    ⨟ End)

abbrev pub encrypted_data : Term
encrypted_data = Sequence (
    field 0 "etype" int32
    ⨟ optional 1 "kvno" wide32
    ⨟ field 2 "cipher" octet_string
    ⨟ End)

abbrev pub checksum : Term
checksum = Sequence (
    field 0 "cksumtype" int32
    ⨟ field 1 "checksum" octet_string
    ⨟ End)

-- ---- 5.3
abbrev pub ticket : Term
ticket = Application 1 (Sequence (
    field 0 "tkt-vno" version
    ⨟ field 1 "realm" kerberos_string
    ⨟ field 2 "sname" principal_name
    ⨟ field 3 "enc-part" encrypted_data
    ⨟ End))

-- ---- 5.4.1: KDC-REQ and its two messages
abbrev pub kdc_req_body : Term
kdc_req_body = Sequence (
    field 0 "kdc-options" kerberos_flags
    ⨟ optional 1 "cname" principal_name
    ⨟ field 2 "realm" kerberos_string
    ⨟ optional 3 "sname" principal_name
    ⨟ optional 4 "from" kerberos_time
    ⨟ field 5 "till" kerberos_time
    ⨟ optional 6 "rtime" kerberos_time
    ⨟ field 7 "nonce" wide32
    ⨟ field 8 "etype" (sequence_of int32)
    ⨟ optional 9 "addresses" (sequence_of host_address)
    ⨟ optional 10 "enc-authorization-data" encrypted_data
    ⨟ optional 11 "additional-tickets" (sequence_of ticket)
    ⨟ End)

abbrev pub kdc_req : ℕ → Term
kdc_req message_type = Sequence (
    field 1 "pvno" version
    ⨟ field 2 "msg-type" (exactly message_type)
    ⨟ optional 3 "padata" (sequence_of pa_data)
    ⨟ field 4 "req-body" kdc_req_body
    ⨟ End)

abbrev pub as_req : Term
as_req = Application 10 (kdc_req 10)

abbrev pub tgs_req : Term
tgs_req = Application 12 (kdc_req 12)

-- ---- 5.4.2: KDC-REP and its two messages
abbrev pub kdc_rep : ℕ → Term
kdc_rep message_type = Sequence (
    field 0 "pvno" version
    ⨟ field 1 "msg-type" (exactly message_type)
    ⨟ optional 2 "padata" (sequence_of pa_data)
    ⨟ field 3 "crealm" kerberos_string
    ⨟ field 4 "cname" principal_name
    ⨟ field 5 "ticket" ticket
    ⨟ field 6 "enc-part" encrypted_data
    ⨟ End)

abbrev pub as_rep : Term
as_rep = Application 11 (kdc_rep 11)

abbrev pub tgs_rep : Term
tgs_rep = Application 13 (kdc_rep 13)

-- ---- 5.5
abbrev pub ap_req : Term
ap_req = Application 14 (Sequence (
    field 0 "pvno" version
    ⨟ field 1 "msg-type" (exactly 14)
    ⨟ field 2 "ap-options" kerberos_flags
    ⨟ field 3 "ticket" ticket
    ⨟ field 4 "authenticator" encrypted_data
    ⨟ End))

abbrev pub ap_rep : Term
ap_rep = Application 15 (Sequence (
    field 0 "pvno" version
    ⨟ field 1 "msg-type" (exactly 15)
    ⨟ field 2 "enc-part" encrypted_data
    ⨟ End))

-- ---- 5.6.1
abbrev pub krb_safe_body : Term
krb_safe_body = Sequence (
    field 0 "user-data" octet_string
    ⨟ optional 1 "timestamp" kerberos_time
    ⨟ optional 2 "usec" microseconds
    ⨟ optional 3 "seq-number" wide32
    ⨟ field 4 "s-address" host_address
    ⨟ optional 5 "r-address" host_address
    ⨟ End)

abbrev pub krb_safe : Term
krb_safe = Application 20 (Sequence (
    field 0 "pvno" version
    ⨟ field 1 "msg-type" (exactly 20)
    ⨟ field 2 "safe-body" krb_safe_body
    ⨟ field 3 "cksum" checksum
    ⨟ End))

-- ---- 5.7.1: there is no [2]
abbrev pub krb_priv : Term
krb_priv = Application 21 (Sequence (
    field 0 "pvno" version
    ⨟ field 1 "msg-type" (exactly 21)
    ⨟ field 3 "enc-part" encrypted_data
    ⨟ End))

-- ---- 5.8.1
abbrev pub krb_cred : Term
krb_cred = Application 22 (Sequence (
    field 0 "pvno" version
    ⨟ field 1 "msg-type" (exactly 22)
    ⨟ field 2 "tickets" (sequence_of ticket)
    ⨟ field 3 "enc-part" encrypted_data
    ⨟ End))

-- ---- 5.9.1
abbrev pub krb_error : Term
krb_error = Application 30 (Sequence (
    field 0 "pvno" version
    ⨟ field 1 "msg-type" (exactly 30)
    ⨟ optional 2 "ctime" kerberos_time
    ⨟ optional 3 "cusec" microseconds
    ⨟ field 4 "stime" kerberos_time
    ⨟ field 5 "susec" microseconds
    ⨟ field 6 "error-code" int32
    ⨟ optional 7 "crealm" kerberos_string
    ⨟ optional 8 "cname" principal_name
    ⨟ field 9 "realm" kerberos_string
    ⨟ field 10 "sname" principal_name
    ⨟ optional 11 "e-text" kerberos_string
    ⨟ optional 12 "e-data" octet_string
    ⨟ End))

abbrev pub method_data : Term
method_data = sequence_of pa_data

-- The messages of a profile, by their tags; any other first octet is refused.
abbrev pub messages : Profile → List Term
messages profile =
    map (profile_term profile false)
    (as_req ∷ as_rep ∷ tgs_req ∷ tgs_rep ∷ ap_req ∷ ap_rep ∷ krb_safe ∷ krb_priv ∷ krb_cred ∷ krb_error ∷ [])
