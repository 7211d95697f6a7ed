-- The fields of messages, as the table of lines in docs/FORMATS.md has them, but the notes.
use Rattle.std.specs.Prelude.{ℕ, ℤ, pos, List, [], ◌∷◌, map, Option, codes}
use Rattle.std.specs.List.{filter}
use Rattle.krb_msg.specs.Notes.{notes_have}
use Rattle.krb_msg.specs.declared.notes.Notes.{Notes}
use Rattle.krb_msg.specs.declared.pa_data.PaData.{PaData}
use Rattle.krb_msg.specs.declared.kdc_req.KdcReq.{KdcReq}
use Rattle.krb_msg.specs.declared.kdc_rep.KdcRep.{KdcRep}
use Rattle.krb_msg.specs.declared.ap_req.ApReq.{ApReq}
use Rattle.krb_msg.specs.declared.ap_rep.ApRep.{ApRep}
use Rattle.krb_msg.specs.declared.krb_safe.KrbSafe.{KrbSafe}
use Rattle.krb_msg.specs.declared.krb_priv.KrbPriv.{KrbPriv}
use Rattle.krb_msg.specs.declared.krb_cred.KrbCred.{KrbCred}
use Rattle.krb_msg.specs.declared.krb_error.KrbError.{KrbError}
use Rattle.krb_msg.specs.declared.message.Message.{Message}
use Rattle.krb_msg.specs.declared.message.Message.TheVariants as message
use Rattle.krb_msg.specs.Types.{pa_data_of}
use Rattle.krb_registry.specs.declared.registry.Registry.TheVariants as registries
use Rattle.krb_text.specs.Judged.{methods_in}
use Rattle.krb_text.specs.MessageValues.{encrypted, principal, client, address, checksum}
use Rattle.krb_record.specs.Values.{Value as Shown, Number, Numbers, ErrorCode, String, Quoted, Word, Flags, Field, the, if_there, count}

-- pre-authentication data is listed by its types
abbrev pub padata : List PaData → Shown
padata items = Numbers registries.PreAuthenticationData (map (λ item. item.padata_type) items)

-- the numbers of the notes that hold
abbrev pub notes : Notes → Shown
notes n = Numbers registries.Notes (map pos (filter (notes_have n) (1 ∷ 2 ∷ 3 ∷ 4 ∷ [])))

-- the METHOD-DATA of an error, by its types
abbrev pub methods : ℤ → Option (List ℕ) → Shown
methods code octets = if_there (λ items. padata (map pa_data_of items)) (methods_in code octets)

-- ---- messages
-- AS-REQ and TGS-REQ
abbrev pub kdc_req_fields : KdcReq → List Field
kdc_req_fields m =
    the (codes "realm") (String m.body.realm)
    ∷ the (codes "client") (if_there (principal m.body.realm) m.body.cname)
    ∷ the (codes "server") (if_there (principal m.body.realm) m.body.sname)
    ∷ the (codes "options") (Flags registries.KdcOptions m.body.kdc_options)
    ∷ the (codes "from") (if_there Word m.body.from)
    ∷ the (codes "till") (Word m.body.till)
    ∷ the (codes "rtime") (if_there Word m.body.rtime)
    ∷ the (codes "nonce") (Number m.body.nonce)
    ∷ the (codes "etypes") (Numbers registries.EncryptionTypes m.body.etype)
    ∷ the (codes "padata") (if_there padata m.padata)
    ∷ the (codes "addresses") (if_there count m.body.addresses)
    ∷ the (codes "authdata") (if_there encrypted m.body.enc_authorization_data)
    ∷ the (codes "tickets") (if_there count m.body.additional_tickets)
    ∷ []

-- AS-REP and TGS-REP
abbrev pub kdc_rep_fields : KdcRep → List Field
kdc_rep_fields m =
    the (codes "client") (principal m.crealm m.cname)
    ∷ the (codes "server") (principal m.ticket.realm m.ticket.sname)
    ∷ the (codes "padata") (if_there padata m.padata)
    ∷ the (codes "ticket") (encrypted m.ticket.enc_part)
    ∷ the (codes "enc") (encrypted m.enc_part)
    ∷ []

abbrev pub ap_req_fields : ApReq → List Field
ap_req_fields m =
    the (codes "server") (principal m.ticket.realm m.ticket.sname)
    ∷ the (codes "options") (Flags registries.ApOptions m.ap_options)
    ∷ the (codes "ticket") (encrypted m.ticket.enc_part)
    ∷ the (codes "auth") (encrypted m.authenticator)
    ∷ []

abbrev pub ap_rep_fields : ApRep → List Field
ap_rep_fields m = the (codes "enc") (encrypted m.enc_part) ∷ []

abbrev pub krb_safe_fields : KrbSafe → List Field
krb_safe_fields m =
    the (codes "size") (count m.body.user_data)
    ∷ the (codes "time") (if_there Word m.body.timestamp)
    ∷ the (codes "usec") (if_there (λ n. Number (pos n)) m.body.usec)
    ∷ the (codes "seq") (if_there Number m.body.seq_number)
    ∷ the (codes "sender") (address m.body.s_address)
    ∷ the (codes "receiver") (if_there address m.body.r_address)
    ∷ the (codes "cksum") (checksum m.cksum)
    ∷ []

abbrev pub krb_priv_fields : KrbPriv → List Field
krb_priv_fields m = the (codes "enc") (encrypted m.enc_part) ∷ []

abbrev pub krb_cred_fields : KrbCred → List Field
krb_cred_fields m = the (codes "tickets") (count m.tickets) ∷ the (codes "enc") (encrypted m.enc_part) ∷ []

abbrev pub krb_error_fields : KrbError → List Field
krb_error_fields m =
    the (codes "code") (ErrorCode m.error_code)
    ∷ the (codes "client") (client m.cname m.crealm)
    ∷ the (codes "server") (principal m.realm m.sname)
    ∷ the (codes "ctime") (if_there Word m.ctime)
    ∷ the (codes "cusec") (if_there (λ n. Number (pos n)) m.cusec)
    ∷ the (codes "stime") (Word m.stime)
    ∷ the (codes "susec") (Number (pos m.susec))
    ∷ the (codes "text") (if_there Quoted m.e_text)
    ∷ the (codes "data") (if_there count m.e_data)
    ∷ the (codes "methods") (methods m.error_code m.e_data)
    ∷ []

-- the fields of a message but the notes
abbrev pub fields_of : Message → List Field
fields_of (message.AsReq m) = kdc_req_fields m
fields_of (message.AsRep m) = kdc_rep_fields m
fields_of (message.TgsReq m) = kdc_req_fields m
fields_of (message.TgsRep m) = kdc_rep_fields m
fields_of (message.ApReq m) = ap_req_fields m
fields_of (message.ApRep m) = ap_rep_fields m
fields_of (message.KrbSafe m) = krb_safe_fields m
fields_of (message.KrbPriv m) = krb_priv_fields m
fields_of (message.KrbCred m) = krb_cred_fields m
fields_of (message.KrbError m) = krb_error_fields m
