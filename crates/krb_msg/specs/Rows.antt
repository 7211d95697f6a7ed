-- The terms that have rows of their own in the table of the grammar, in the order of the rows. asn1/generate wrote this from asn1/krb5.asn1
use Rattle.std.specs.Prelude.{List, [], ◌∷◌}
use Rattle.krb_msg.specs.Term.{Term, Tagged}
use Rattle.krb_msg.specs.Grammar.{exactly, version, sequence_of, int32, wide32, microseconds, kerberos_string, octet_string, kerberos_time, kerberos_flags, principal_name, host_address, pa_data, encrypted_data, checksum, ticket, kdc_req_body, as_req, tgs_req, as_rep, tgs_rep, ap_req, ap_rep, krb_safe_body, krb_safe, krb_priv, krb_cred, krb_error}

-- basic types, numbers that are fixed, and lists of one type
abbrev pub basic_terms : List Term
basic_terms =
    int32 ∷ wide32 ∷ microseconds ∷ kerberos_string ∷ octet_string ∷ kerberos_time ∷ kerberos_flags ∷ version
    ∷ exactly 10 ∷ exactly 11 ∷ exactly 12 ∷ exactly 13 ∷ exactly 14 ∷ exactly 15 ∷ exactly 20 ∷ exactly 21 ∷ exactly 22
    ∷ exactly 30 ∷ sequence_of kerberos_string ∷ sequence_of int32 ∷ sequence_of ticket ∷ []

-- lists in fields that are OPTIONAL
abbrev pub optional_lists : List Term
optional_lists = sequence_of host_address ∷ sequence_of ticket ∷ sequence_of pa_data ∷ []

-- SEQUENCEs, and messages
abbrev pub sequence_terms : List Term
sequence_terms =
    principal_name ∷ host_address ∷ pa_data ∷ encrypted_data ∷ checksum ∷ ticket ∷ kdc_req_body ∷ as_req ∷ tgs_req
    ∷ as_rep ∷ tgs_rep ∷ ap_req ∷ ap_rep ∷ krb_safe_body ∷ krb_safe ∷ krb_priv ∷ krb_cred ∷ krb_error ∷ []

-- the types of fields in their tags, each once
abbrev pub tagged_terms : List Term
tagged_terms =
    Tagged 0 int32 ∷ Tagged 1 (sequence_of kerberos_string) ∷ Tagged 1 octet_string ∷ Tagged 1 int32
    ∷ Tagged 2 octet_string ∷ Tagged 1 wide32 ∷ Tagged 0 version ∷ Tagged 1 kerberos_string ∷ Tagged 2 principal_name
    ∷ Tagged 3 encrypted_data ∷ Tagged 0 kerberos_flags ∷ Tagged 1 principal_name ∷ Tagged 2 kerberos_string
    ∷ Tagged 3 principal_name ∷ Tagged 4 kerberos_time ∷ Tagged 5 kerberos_time ∷ Tagged 6 kerberos_time
    ∷ Tagged 7 wide32 ∷ Tagged 8 (sequence_of int32) ∷ Tagged 10 encrypted_data ∷ Tagged 1 version
    ∷ Tagged 2 (exactly 10) ∷ Tagged 4 kdc_req_body ∷ Tagged 2 (exactly 12) ∷ Tagged 1 (exactly 11)
    ∷ Tagged 3 kerberos_string ∷ Tagged 4 principal_name ∷ Tagged 5 ticket ∷ Tagged 6 encrypted_data
    ∷ Tagged 1 (exactly 13) ∷ Tagged 1 (exactly 14) ∷ Tagged 2 kerberos_flags ∷ Tagged 3 ticket
    ∷ Tagged 4 encrypted_data ∷ Tagged 1 (exactly 15) ∷ Tagged 2 encrypted_data ∷ Tagged 0 octet_string
    ∷ Tagged 1 kerberos_time ∷ Tagged 2 microseconds ∷ Tagged 3 wide32 ∷ Tagged 4 host_address ∷ Tagged 5 host_address
    ∷ Tagged 1 (exactly 20) ∷ Tagged 2 krb_safe_body ∷ Tagged 3 checksum ∷ Tagged 1 (exactly 21) ∷ Tagged 1 (exactly 22)
    ∷ Tagged 2 (sequence_of ticket) ∷ Tagged 1 (exactly 30) ∷ Tagged 2 kerberos_time ∷ Tagged 3 microseconds
    ∷ Tagged 5 microseconds ∷ Tagged 6 int32 ∷ Tagged 7 kerberos_string ∷ Tagged 8 principal_name
    ∷ Tagged 9 kerberos_string ∷ Tagged 10 principal_name ∷ Tagged 11 kerberos_string ∷ Tagged 12 octet_string ∷ []

-- lists in their tags, in fields that are OPTIONAL
abbrev pub optional_tagged_lists : List Term
optional_tagged_lists = Tagged 9 (sequence_of host_address) ∷ Tagged 11 (sequence_of ticket) ∷ Tagged 3 (sequence_of pa_data) ∷ Tagged 2 (sequence_of pa_data) ∷ []
