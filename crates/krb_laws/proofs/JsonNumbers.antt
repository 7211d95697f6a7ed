-- The numbers and sizes in what is printed of messages are small.
use Rattle.std.proofs.Common.{◌≡◌, ℕ, suc, ℤ, pos, ◌^◌, ◌<◌, Bool, true, false, cond, List, [], ◌∷◌, length, map, Option, Some, None, IfSome, if◌then◌else◌, refl, ap, arith}
use Rattle.std.specs.List.{AllByRecursion, filter}
use Rattle.std.specs.Option.{option_map}
use Rattle.krb_msg.specs.Grammar.{checksum as checksum_term, encrypted_data, host_address, kdc_req_body, kerberos_flags, krb_cred, krb_error, krb_safe, method_data, octet_string, pa_data, principal_name, sequence_of, ticket}
use Rattle.krb_msg.specs.Notes.{notes_have}
use Rattle.krb_msg.specs.Shape.{is_unambiguous}
use Rattle.krb_msg.specs.Term.{Term, IfPresent, Value}
use Rattle.krb_msg.specs.Types.{checksum_value, encrypted_data_value, host_address_value, kdc_req_body_value, krb_cred_value, krb_error_value, krb_safe_value, pa_data_of, pa_data_value, principal_name_value, ticket_value}
use Rattle.krb_msg.specs.declared.ap_req.ApReq.{ApReq}
use Rattle.krb_msg.specs.declared.checksum.Checksum.{Checksum}
use Rattle.krb_msg.specs.declared.encrypted_data.EncryptedData.{EncryptedData}
use Rattle.krb_msg.specs.declared.host_address.HostAddress.{HostAddress}
use Rattle.krb_msg.specs.declared.kdc_rep.KdcRep.{KdcRep}
use Rattle.krb_msg.specs.declared.kdc_req.KdcReq.{KdcReq}
use Rattle.krb_msg.specs.declared.krb_cred.KrbCred.{KrbCred}
use Rattle.krb_msg.specs.declared.krb_error.KrbError.{KrbError}
use Rattle.krb_msg.specs.declared.krb_safe.KrbSafe.{KrbSafe}
use Rattle.krb_msg.specs.declared.notes.Notes.{Notes}
use Rattle.krb_msg.specs.declared.pa_data.PaData.{PaData}
use Rattle.krb_msg.specs.declared.principal_name.PrincipalName.{PrincipalName}
use Rattle.krb_text.specs.Judged.{asks_for_preauth, judged}
use Rattle.krb_text.specs.MessageFields.{ap_req_fields, kdc_rep_fields, kdc_req_fields, krb_cred_fields, krb_error_fields, krb_safe_fields, methods, notes, padata}
use Rattle.krb_text.specs.MessageValues.{address, checksum, client, principal, encrypted}
use Rattle.krb_record.specs.Values.{Value as Shown, Number, Quoted, Word, count, if_there}
use Rattle.krb_text.proofs.Judged.{IsJudged, is_judged}
use Rattle.krb_text_laws.proofs.Tuples.{◌&◌}
use Rattle.krb_laws.specs.JsonLaws.{IsSmall}
use Rattle.krb_laws.proofs.JsonShown.{AreCounted, IsCounted}
use Rattle.krb_laws.proofs.JsonSizes.{IsBrief, brief, is_narrow}

-- ---- what may be left out
always : {A : Type 0} (value : A → Shown) → ((a : A) → IsCounted (value a)) → (o : Option A) → IsCounted (if_there value o)
always value each None = tt
always value each (Some a) = each a

optional : {A B : Type 0} (value : A → Shown) (to : A → B) (P : B → Type 0) → ((a : A) → P (to a) → IsCounted (value a)) → (o : Option A) → IfPresent P (option_map to o) → IsCounted (if_there value o)
optional value to P each None h = tt
optional value to P each (Some a) h = each a h

optional_number : (o : Option ℤ) → IfPresent IsSmall o → IsCounted (if_there Number o)
optional_number None h = tt
optional_number (Some n) h = h

optional_small : (o : Option ℤ) → IfPresent IsSmall o → IfSome o IsSmall
optional_small None h = tt
optional_small (Some n) h = h

micros : (o : Option ℕ) → IfPresent IsSmall (option_map pos o) → IsCounted (if_there (λ n. Number (pos n)) o)
micros None h = tt
micros (Some n) h = h

octets_counted : (o : Option (List ℕ)) → IfPresent (IsBrief octet_string) o → IsCounted (if_there count o)
octets_counted None h = tt
octets_counted (Some octets) h = omega (arith, h)

-- ---- parts of messages
as_long : {A B : Type 0} (to : A → B) (values : List A) → length (map to values) ≡ length values
as_long to [] = refl
as_long to (a ∷ values) = ap (λ n. suc n) (as_long to values)

counted : {A B : Type 0} (to : A → B) (values : List A) → length (map to values) < 2 ^ 31 → IsCounted (count values)
counted to values h = omega (arith, as_long to values, h)

pub its_encrypted : (e : EncryptedData) → IsBrief encrypted_data (encrypted_data_value e) → IsCounted (encrypted e)
its_encrypted e h = (h.0, optional_small e.kvno h.1.0, omega (arith, h.1.1.0))

its_types : (items : List PaData) → AllByRecursion (IsBrief pa_data) (map pa_data_value items) → IsCounted (padata items)
its_types [] h = tt
its_types (item ∷ items) h = (h.0.0, its_types items h.1)

its_padata : (items : Option (List PaData)) → IfPresent (IsBrief (sequence_of pa_data)) (option_map (map pa_data_value) items) → IsCounted (if_there padata items)
its_padata None h = tt
its_padata (Some items) h = its_types items h.1

its_name : (realm : List ℕ) (name : Option PrincipalName) → IfPresent (IsBrief principal_name) (option_map principal_name_value name) → IsCounted (if_there (principal realm) name)
its_name realm None h = tt
its_name realm (Some name) h = h.0

its_client : (name : Option PrincipalName) (realm : Option (List ℕ)) → IfPresent (IsBrief principal_name) (option_map principal_name_value name) → IsCounted (client name realm)
its_client None None h = tt
its_client None (Some realm) h = tt
its_client (Some name) None h = tt
its_client (Some name) (Some realm) h = h.0

its_address : (a : HostAddress) → IsBrief host_address (host_address_value a) → IsCounted (address a)
its_address a h = h.0

pub its_checksum : (c : Checksum) → IsBrief checksum_term (checksum_value c) → IsCounted (checksum c)
its_checksum c h = (h.0, omega (arith, h.1.0))

-- ---- notes
kept : (keeps : Bool) (n : ℕ) (others : List ℕ) → n < 10 ^ 64 → AllByRecursion IsSmall (map pos others) → AllByRecursion IsSmall (map pos (cond keeps (n ∷ others) others))
kept true n others h k = (h, k)
kept false n others h k = k

filtered : (test : ℕ → Bool) (numbers : List ℕ) → AllByRecursion (λ n. n < 10 ^ 64) numbers → AllByRecursion IsSmall (map pos (filter test numbers))
filtered test [] h = tt
filtered test (n ∷ numbers) h = kept (test n) n (filter test numbers) h.0 (filtered test numbers h.1)

pub its_notes : (n : Notes) → IsCounted (notes n)
its_notes n = filtered (notes_have n) (1 ∷ 2 ∷ 3 ∷ 4 ∷ []) (omega arith, (omega arith, (omega arith, (omega arith, tt))))

-- ---- METHOD-DATA
pub types_of : (items : Value method_data) → AllByRecursion (IsBrief pa_data) items → IsCounted (padata (map pa_data_of items))
types_of [] h = tt
types_of (item ∷ items) h = (h.0.0, types_of items h.1)

-- octets that are judged to be an item of a term by themselves
pub judged_is_brief : (term : Term) (octets : List ℕ) (value : Value term) → is_unambiguous term ≡ true → is_narrow term ≡ true → judged term octets ≡ Some value → IsBrief term value
judged_is_brief term octets value u narrow e =
    let h : IsJudged term octets value = is_judged term octets value u e in
    brief term narrow value h.fits (omega (arith, ap length h.form, h.short))

items_counted : (octets : List ℕ) (found : Option (Value method_data)) → judged method_data octets ≡ found → IsCounted (if_there (λ items. padata (map pa_data_of items)) found)
items_counted octets None e = tt
items_counted octets (Some items) e = types_of items (judged_is_brief method_data octets items refl refl e).1

asked : (asks : Bool) (octets : List ℕ) → IsCounted (if_there (λ items. padata (map pa_data_of items)) (if asks then judged method_data octets else None))
asked true octets = items_counted octets (judged method_data octets) refl
asked false octets = tt

its_methods : (code : ℤ) (octets : Option (List ℕ)) → IsCounted (methods code octets)
its_methods code None = tt
its_methods code (Some octets) = asked (asks_for_preauth code) octets

-- ---- messages
pub kdc_req : (m : KdcReq) → IfPresent (IsBrief (sequence_of pa_data)) (option_map (map pa_data_value) m.padata) → IsBrief kdc_req_body (kdc_req_body_value m.body) → AreCounted (kdc_req_fields m)
kdc_req m items (options, (cname, (realm, (sname, (from, (till, (rtime, (nonce, (etype, (addresses, (authdata, (tickets, none)))))))))))) =
    tt & its_name m.body.realm m.body.cname cname & its_name m.body.realm m.body.sname sname & omega (arith, options)
    & always Word (λ time. tt) m.body.from & tt & always Word (λ time. tt) m.body.rtime & nonce & etype.1 & its_padata m.padata items
    & optional count (map host_address_value) (IsBrief (sequence_of host_address)) (λ values h. counted host_address_value values h.0) m.body.addresses addresses
    & optional encrypted encrypted_data_value (IsBrief encrypted_data) its_encrypted m.body.enc_authorization_data authdata
    & optional count (map ticket_value) (IsBrief (sequence_of ticket)) (λ values h. counted ticket_value values h.0) m.body.additional_tickets tickets
    & tt

pub kdc_rep : (m : KdcRep) → IfPresent (IsBrief (sequence_of pa_data)) (option_map (map pa_data_value) m.padata) → IsBrief principal_name (principal_name_value m.cname) → IsBrief ticket (ticket_value m.ticket) → IsBrief encrypted_data (encrypted_data_value m.enc_part) → AreCounted (kdc_rep_fields m)
kdc_rep m items cname its_ticket enc_part =
    (cname.0, (its_ticket.1.1.0.0, (its_padata m.padata items, (its_encrypted m.ticket.enc_part its_ticket.1.1.1.0, (its_encrypted m.enc_part enc_part, tt)))))

pub of_ap_req : (m : ApReq) → IsBrief kerberos_flags m.ap_options → IsBrief principal_name (principal_name_value m.ticket.sname) → IsBrief encrypted_data (encrypted_data_value m.ticket.enc_part) → IsBrief encrypted_data (encrypted_data_value m.authenticator) → AreCounted (ap_req_fields m)
of_ap_req m options sname enc_part authenticator = (sname.0, (omega (arith, options), (its_encrypted m.ticket.enc_part enc_part, (its_encrypted m.authenticator authenticator, tt))))

pub safe : (m : KrbSafe) → IsBrief krb_safe (krb_safe_value m) → AreCounted (krb_safe_fields m)
safe m (version, (type, ((user_data, (timestamp, (usec, (seq_number, (s_address, (r_address, no_more)))))), (cksum, rest)))) =
    omega (arith, user_data) & always Word (λ time. tt) m.body.timestamp & micros m.body.usec usec
    & optional_number m.body.seq_number seq_number & its_address m.body.s_address s_address
    & optional address host_address_value (IsBrief host_address) its_address m.body.r_address r_address & its_checksum m.cksum cksum
    & tt

pub cred : (m : KrbCred) → IsBrief krb_cred (krb_cred_value m) → AreCounted (krb_cred_fields m)
cred m (version, (type, (tickets, (enc_part, rest)))) = (counted ticket_value m.tickets tickets.0, (its_encrypted m.enc_part enc_part, tt))

pub error : (m : KrbError) → IsBrief krb_error (krb_error_value m) → AreCounted (krb_error_fields m)
error m (version, (type, (ctime, (cusec, (stime, (susec, (error_code, (crealm, (cname, (realm, (sname, (text, (e_data, rest))))))))))))) =
    error_code & its_client m.cname m.crealm cname & sname.0 & always Word (λ time. tt) m.ctime & micros m.cusec cusec & tt & susec
    & always Quoted (λ text. tt) m.e_text & octets_counted m.e_data e_data & its_methods m.error_code m.e_data & tt
