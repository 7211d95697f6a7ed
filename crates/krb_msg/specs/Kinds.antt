-- Messages by their kinds. asn1/generate wrote this from asn1/krb5.asn1
use Rattle.std.specs.Prelude.{ℕ, ◌+◌, ◌==◌, if◌then◌else◌, List, codes, Option, Some, None}
use Rattle.krb_msg.specs.Types.{kdc_req_value, kdc_req_of, kdc_req_view_value, kdc_req_of_view, IsValidKdcReq, kdc_rep_value, kdc_rep_of, kdc_rep_view_value, kdc_rep_of_view, IsValidKdcRep, ap_req_value, ap_req_of, ap_req_view_value, ap_req_of_view, IsValidApReq, ap_rep_value, ap_rep_of, ap_rep_view_value, ap_rep_of_view, IsValidApRep, krb_safe_value, krb_safe_of, krb_safe_view_value, krb_safe_of_view, IsValidKrbSafe, krb_priv_value, krb_priv_of, krb_priv_view_value, krb_priv_of_view, IsValidKrbPriv, krb_cred_value, krb_cred_of, krb_cred_view_value, krb_cred_of_view, IsValidKrbCred, krb_error_value, krb_error_of, krb_error_view_value, krb_error_of_view, IsValidKrbError}
use Rattle.krb_msg.specs.Grammar.{as_req, as_rep, tgs_req, tgs_rep, ap_req, ap_rep, krb_safe, krb_priv, krb_cred, krb_error}
use Rattle.krb_msg.specs.Term.{Term, Value}
use Rattle.krb_msg.specs.declared.message.Message.{Message}
use Rattle.krb_msg.specs.declared.message.Message.TheVariants as message
use Rattle.krb_msg.specs.declared.message.Kind.{Kind}
use Rattle.krb_msg.specs.declared.message.Kind.TheVariants as kind
use Rattle.krb_msg.specs.declared.message_view.MessageView.{MessageView}
use Rattle.krb_msg.specs.declared.message_view.MessageView.TheVariants as view

abbrev pub kind_of : Message → Kind
kind_of (message.AsReq m) = kind.AsReq
kind_of (message.AsRep m) = kind.AsRep
kind_of (message.TgsReq m) = kind.TgsReq
kind_of (message.TgsRep m) = kind.TgsRep
kind_of (message.ApReq m) = kind.ApReq
kind_of (message.ApRep m) = kind.ApRep
kind_of (message.KrbSafe m) = kind.KrbSafe
kind_of (message.KrbPriv m) = kind.KrbPriv
kind_of (message.KrbCred m) = kind.KrbCred
kind_of (message.KrbError m) = kind.KrbError

-- the number of a kind: its msg-type, and the APPLICATION tag of its messages (RFC 4120, 5.10)
abbrev pub kind_number : Kind → ℕ
kind_number kind.AsReq = 10
kind_number kind.AsRep = 11
kind_number kind.TgsReq = 12
kind_number kind.TgsRep = 13
kind_number kind.ApReq = 14
kind_number kind.ApRep = 15
kind_number kind.KrbSafe = 20
kind_number kind.KrbPriv = 21
kind_number kind.KrbCred = 22
kind_number kind.KrbError = 30

-- the octet with which its messages begin
abbrev pub kind_tag : Kind → ℕ
kind_tag kind = 0x60 + kind_number kind

abbrev pub kind_name : Kind → List ℕ
kind_name kind.AsReq = codes "AS-REQ"
kind_name kind.AsRep = codes "AS-REP"
kind_name kind.TgsReq = codes "TGS-REQ"
kind_name kind.TgsRep = codes "TGS-REP"
kind_name kind.ApReq = codes "AP-REQ"
kind_name kind.ApRep = codes "AP-REP"
kind_name kind.KrbSafe = codes "KRB-SAFE"
kind_name kind.KrbPriv = codes "KRB-PRIV"
kind_name kind.KrbCred = codes "KRB-CRED"
kind_name kind.KrbError = codes "KRB-ERROR"

-- the kind whose messages begin with a tag
abbrev pub kind_with_tag : ℕ → Option Kind
kind_with_tag tag =
    if tag == kind_tag kind.AsReq then Some kind.AsReq
    else if tag == kind_tag kind.AsRep then Some kind.AsRep
    else if tag == kind_tag kind.TgsReq then Some kind.TgsReq
    else if tag == kind_tag kind.TgsRep then Some kind.TgsRep
    else if tag == kind_tag kind.ApReq then Some kind.ApReq
    else if tag == kind_tag kind.ApRep then Some kind.ApRep
    else if tag == kind_tag kind.KrbSafe then Some kind.KrbSafe
    else if tag == kind_tag kind.KrbPriv then Some kind.KrbPriv
    else if tag == kind_tag kind.KrbCred then Some kind.KrbCred
    else if tag == kind_tag kind.KrbError then Some kind.KrbError
    else None

abbrev pub kind_term : Kind → Term
kind_term kind.AsReq = as_req
kind_term kind.AsRep = as_rep
kind_term kind.TgsReq = tgs_req
kind_term kind.TgsRep = tgs_rep
kind_term kind.ApReq = ap_req
kind_term kind.ApRep = ap_rep
kind_term kind.KrbSafe = krb_safe
kind_term kind.KrbPriv = krb_priv
kind_term kind.KrbCred = krb_cred
kind_term kind.KrbError = krb_error

-- ---- a message as a value of the term of its kind, and back
abbrev pub message_value : (m : Message) → Value (kind_term (kind_of m))
message_value (message.AsReq m) = kdc_req_value 10 m
message_value (message.AsRep m) = kdc_rep_value 11 m
message_value (message.TgsReq m) = kdc_req_value 12 m
message_value (message.TgsRep m) = kdc_rep_value 13 m
message_value (message.ApReq m) = ap_req_value m
message_value (message.ApRep m) = ap_rep_value m
message_value (message.KrbSafe m) = krb_safe_value m
message_value (message.KrbPriv m) = krb_priv_value m
message_value (message.KrbCred m) = krb_cred_value m
message_value (message.KrbError m) = krb_error_value m

abbrev pub message_of : (k : Kind) → Value (kind_term k) → Message
message_of kind.AsReq value = message.AsReq (kdc_req_of value)
message_of kind.AsRep value = message.AsRep (kdc_rep_of value)
message_of kind.TgsReq value = message.TgsReq (kdc_req_of value)
message_of kind.TgsRep value = message.TgsRep (kdc_rep_of value)
message_of kind.ApReq value = message.ApReq (ap_req_of value)
message_of kind.ApRep value = message.ApRep (ap_rep_of value)
message_of kind.KrbSafe value = message.KrbSafe (krb_safe_of value)
message_of kind.KrbPriv value = message.KrbPriv (krb_priv_of value)
message_of kind.KrbCred value = message.KrbCred (krb_cred_of value)
message_of kind.KrbError value = message.KrbError (krb_error_of value)

-- ---- a view of a message: the message, its value, and what is known of the view
abbrev pub message_of_view : MessageView → Message
message_of_view (view.AsReq m) = message.AsReq (kdc_req_of_view m)
message_of_view (view.AsRep m) = message.AsRep (kdc_rep_of_view m)
message_of_view (view.TgsReq m) = message.TgsReq (kdc_req_of_view m)
message_of_view (view.TgsRep m) = message.TgsRep (kdc_rep_of_view m)
message_of_view (view.ApReq m) = message.ApReq (ap_req_of_view m)
message_of_view (view.ApRep m) = message.ApRep (ap_rep_of_view m)
message_of_view (view.KrbSafe m) = message.KrbSafe (krb_safe_of_view m)
message_of_view (view.KrbPriv m) = message.KrbPriv (krb_priv_of_view m)
message_of_view (view.KrbCred m) = message.KrbCred (krb_cred_of_view m)
message_of_view (view.KrbError m) = message.KrbError (krb_error_of_view m)

abbrev pub message_view_value : (m : MessageView) → Value (kind_term (kind_of (message_of_view m)))
message_view_value (view.AsReq m) = kdc_req_view_value 10 m
message_view_value (view.AsRep m) = kdc_rep_view_value 11 m
message_view_value (view.TgsReq m) = kdc_req_view_value 12 m
message_view_value (view.TgsRep m) = kdc_rep_view_value 13 m
message_view_value (view.ApReq m) = ap_req_view_value m
message_view_value (view.ApRep m) = ap_rep_view_value m
message_view_value (view.KrbSafe m) = krb_safe_view_value m
message_view_value (view.KrbPriv m) = krb_priv_view_value m
message_view_value (view.KrbCred m) = krb_cred_view_value m
message_view_value (view.KrbError m) = krb_error_view_value m

abbrev pub IsValidMessage : MessageView → Type 0
IsValidMessage (view.AsReq m) = IsValidKdcReq m
IsValidMessage (view.AsRep m) = IsValidKdcRep m
IsValidMessage (view.TgsReq m) = IsValidKdcReq m
IsValidMessage (view.TgsRep m) = IsValidKdcRep m
IsValidMessage (view.ApReq m) = IsValidApReq m
IsValidMessage (view.ApRep m) = IsValidApRep m
IsValidMessage (view.KrbSafe m) = IsValidKrbSafe m
IsValidMessage (view.KrbPriv m) = IsValidKrbPriv m
IsValidMessage (view.KrbCred m) = IsValidKrbCred m
IsValidMessage (view.KrbError m) = IsValidKrbError m

-- the realm that a message is of (RFC 4120, 5.2.2), if it is of one
abbrev pub realm_of : Message → Option (List ℕ)
realm_of (message.AsReq m) = Some m.body.realm
realm_of (message.AsRep m) = Some m.crealm
realm_of (message.TgsReq m) = Some m.body.realm
realm_of (message.TgsRep m) = Some m.crealm
realm_of (message.ApReq m) = Some m.ticket.realm
realm_of (message.ApRep m) = None
realm_of (message.KrbSafe m) = None
realm_of (message.KrbPriv m) = None
realm_of (message.KrbCred m) = None
realm_of (message.KrbError m) = Some m.realm
