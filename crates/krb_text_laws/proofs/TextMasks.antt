-- What is encrypted, opaque or a checksum has no part in what is printed of a message.
use Rattle.std.proofs.Common.{◌≡◌, ℕ, ℤ, Bool, true, false, ◌||◌, Option, Some, None, List, [], ◌∷◌, ◌++◌, length, map, codes, refl, ap, ap₂, ◌∙◌}
use Rattle.std.proofs.lemmas.List.{length-map}
use Rattle.std.specs.List.{list_any}
use Rattle.std.specs.Option.{option_map}
use Rattle.krb_file.proofs.Zeros.{length-zeros}
use Rattle.krb_msg.specs.Term.{Term, Value}
use Rattle.krb_msg.specs.Grammar.{method_data, pa_data, ticket, kdc_req_body, kdc_req, kdc_rep, krb_cred, krb_error}
use Rattle.krb_msg.specs.Types.{pa_data_of, pa_data_value, ticket_value, kdc_req_body_value, kdc_req_value, kdc_rep_value, krb_cred_value, krb_error_value}
use Rattle.krb_msg.specs.Notes.{Note, HighOctet, FewFlags, Negative, EmptyList, list_has, has, message_has, notes_of}
use Rattle.krb_msg.specs.declared.ap_rep.ApRep.{ApRep}
use Rattle.krb_msg.specs.declared.ap_req.ApReq.{ApReq}
use Rattle.krb_msg.specs.declared.encrypted_data.EncryptedData.{EncryptedData}
use Rattle.krb_msg.specs.declared.kdc_rep.KdcRep.{KdcRep}
use Rattle.krb_msg.specs.declared.kdc_req.KdcReq.{KdcReq}
use Rattle.krb_msg.specs.declared.kdc_req_body.KdcReqBody.{KdcReqBody}
use Rattle.krb_msg.specs.declared.krb_cred.KrbCred.{KrbCred}
use Rattle.krb_msg.specs.declared.krb_error.KrbError.{KrbError}
use Rattle.krb_msg.specs.declared.krb_priv.KrbPriv.{KrbPriv}
use Rattle.krb_msg.specs.declared.krb_safe.KrbSafe.{KrbSafe}
use Rattle.krb_msg.specs.declared.message.Kind.{Kind}
use Rattle.krb_msg.specs.Views.{kind_name, kind_of}
use Rattle.krb_msg.specs.declared.message.Message.{Message}
use Rattle.krb_msg.specs.declared.message.Message.TheVariants as message
use Rattle.krb_msg.specs.declared.notes.Notes.{Notes}
use Rattle.krb_msg.specs.declared.pa_data.PaData.{PaData}
use Rattle.krb_msg.specs.declared.ticket.Ticket.{Ticket}
use Rattle.krb_record.specs.declared.form.Form.{Form}
use Rattle.krb_record.specs.declared.capture_origin.CaptureOrigin.{CaptureOrigin}
use Rattle.krb_record.specs.Captures.{captured_line}
use Rattle.krb_text.specs.Messages.{captured_message_line}
use Rattle.krb_record.specs.Forms.{record_line, shows_kind}
use Rattle.krb_text.specs.Inside.{data_parts_if, each_if, inside_of, kdc_req_parts, krb_error_parts, padata_parts, ticket_part}
use Rattle.krb_text.specs.Judged.{asks_for_preauth, judged}
use Rattle.krb_text.specs.declared.clear_type.Carrier.{Carrier}
use Rattle.krb_text.specs.declared.clear_type.Carrier.TheVariants as carriers
use Rattle.krb_text.specs.Messages.{padata, notes, methods, kdc_req_fields, kdc_rep_fields, ap_req_fields, ap_rep_fields, krb_safe_fields, krb_priv_fields, krb_cred_fields, krb_error_fields, message_record, message_line, message_line_from, shown_record, ticket_line, ticket_record, unless_hidden}
use Rattle.krb_text.specs.MessageValues.{encrypted}
use Rattle.krb_record.specs.Values.{Field, Part, Printed, the, printed, with_inside, with_origin, if_there, count}
use Rattle.krb_text.specs.Masks.{masked_encrypted, masked_item, masked_ticket, masked_req_body, masked_kdc_req, masked_kdc_rep, masked_ap_req, masked_ap_rep, masked_krb_safe, masked_krb_priv, masked_krb_cred, masked_krb_error, masked, masked_data}
use Rattle.krb_text_laws.proofs.DataMasks.{data_masked, shown_methods-same}
use Rattle.krb_text_laws.proofs.MaskedParts.{items_same}

-- ---- the values of fields
pub encrypted-same : (e : EncryptedData) → encrypted (masked_encrypted e) ≡ encrypted e
encrypted-same e = rw (length-zeros (length e.cipher)) refl

some_encrypted-same : (e : Option EncryptedData) → if_there encrypted (option_map masked_encrypted e) ≡ if_there encrypted e
some_encrypted-same None = refl
some_encrypted-same (Some e) = encrypted-same e

types-same : (carrier : Carrier) (items : List PaData) → map (λ item. item.padata_type) (map (masked_item carrier) items) ≡ map (λ item. item.padata_type) items
types-same carrier [] = refl
types-same carrier (item ∷ items) = ap (λ (types : List ℤ). item.padata_type ∷ types) (types-same carrier items)

padata-same : (carrier : Carrier) (items : Option (List PaData)) → if_there padata (option_map (map (masked_item carrier)) items) ≡ if_there padata items
padata-same carrier None = refl
padata-same carrier (Some items) = rw (types-same carrier items) refl

tickets-same : (tickets : List Ticket) → count (map masked_ticket tickets) ≡ count tickets
tickets-same tickets = rw (length-map tickets masked_ticket) refl

some_tickets-same : (tickets : Option (List Ticket)) → if_there count (option_map (map masked_ticket) tickets) ≡ if_there count tickets
some_tickets-same None = refl
some_tickets-same (Some tickets) = tickets-same tickets

-- ---- the fields of messages
kdc_req-same : (m : KdcReq) → kdc_req_fields (masked_kdc_req m) ≡ kdc_req_fields m
kdc_req-same m = rw (padata-same carriers.Request m.padata, some_encrypted-same m.body.enc_authorization_data, some_tickets-same m.body.additional_tickets) refl

kdc_rep-same : (m : KdcRep) → kdc_rep_fields (masked_kdc_rep m) ≡ kdc_rep_fields m
kdc_rep-same m = rw (padata-same carriers.Reply m.padata, length-zeros (length m.ticket.enc_part.cipher), length-zeros (length m.enc_part.cipher)) refl

ap_req-same : (m : ApReq) → ap_req_fields (masked_ap_req m) ≡ ap_req_fields m
ap_req-same m = rw (length-zeros (length m.ticket.enc_part.cipher), length-zeros (length m.authenticator.cipher)) refl

ap_rep-same : (m : ApRep) → ap_rep_fields (masked_ap_rep m) ≡ ap_rep_fields m
ap_rep-same m = rw (length-zeros (length m.enc_part.cipher)) refl

krb_priv-same : (m : KrbPriv) → krb_priv_fields (masked_krb_priv m) ≡ krb_priv_fields m
krb_priv-same m = rw (length-zeros (length m.enc_part.cipher)) refl

krb_safe-same : (m : KrbSafe) → krb_safe_fields (masked_krb_safe m) ≡ krb_safe_fields m
krb_safe-same m = rw (length-zeros (length m.body.user_data), length-zeros (length m.cksum.checksum)) refl

krb_cred-same : (m : KrbCred) → krb_cred_fields (masked_krb_cred m) ≡ krb_cred_fields m
krb_cred-same m = rw (length-map m.tickets masked_ticket, length-zeros (length m.enc_part.cipher)) refl

data-same : (octets : Option (List ℕ)) → if_there count (option_map masked_data octets) ≡ if_there count octets
data-same None = refl
data-same (Some octets) = rw ((data_masked octets).many) refl

methods_if-same : (asks : Bool) (code : ℤ) (octets : List ℕ) → asks_for_preauth code ≡ asks → methods code (Some (masked_data octets)) ≡ methods code (Some octets)
methods_if-same false code octets e = rw e refl
methods_if-same true code octets e = rw e (ap (if_there (λ items. padata (map pa_data_of items))) (data_masked octets).methods ∙ shown_methods-same (judged method_data octets))

methods-same : (code : ℤ) (octets : Option (List ℕ)) → methods code (option_map masked_data octets) ≡ methods code octets
methods-same code None = refl
methods-same code (Some octets) = methods_if-same (asks_for_preauth code) code octets refl

krb_error-same : (m : KrbError) → krb_error_fields (masked_krb_error m) ≡ krb_error_fields m
krb_error-same m = rw (data-same m.e_data, methods-same m.error_code m.e_data) refl

-- ---- the notes
any-same : {A B : Type 0} (test : B → Bool) (value : A → B) (mask : A → A) → ((x : A) → test (value (mask x)) ≡ test (value x)) → (xs : List A) → list_any test (map value (map mask xs)) ≡ list_any test (map value xs)
any-same test value mask same [] = refl
any-same test value mask same (x ∷ xs) = ap₂ (λ (a b : Bool). a || b) (same x) (any-same test value mask same xs)

empty-same : {A B : Type 0} (note : Note) (value : A → B) (mask : A → A) (xs : List A) → list_has note (map value (map mask xs)) ≡ list_has note (map value xs)
empty-same HighOctet value mask [] = refl
empty-same FewFlags value mask [] = refl
empty-same Negative value mask [] = refl
empty-same EmptyList value mask [] = refl
empty-same HighOctet value mask (x ∷ xs) = refl
empty-same FewFlags value mask (x ∷ xs) = refl
empty-same Negative value mask (x ∷ xs) = refl
empty-same EmptyList value mask (x ∷ xs) = refl

-- what a note says of a list and of its items, if it is the same of each item masked
items-same : {A : Type 0} (note : Note) (term : Term) (value : A → Value term) (mask : A → A) → ((x : A) → has note term (value (mask x)) ≡ has note term (value x)) → (xs : List A)
    → (list_has note (map value (map mask xs)) || list_any (has note term) (map value (map mask xs))) ≡ (list_has note (map value xs) || list_any (has note term) (map value xs))
items-same note term value mask same xs = ap₂ (λ (a b : Bool). a || b) (empty-same note value mask xs) (any-same (has note term) value mask same xs)

-- messages with other optional fields
abbrev body_with : KdcReqBody → Option EncryptedData → Option (List Ticket) → KdcReqBody
body_with b e tickets = record b { enc_authorization_data = e; additional_tickets = tickets }

abbrev req_with : KdcReq → Option (List PaData) → KdcReq
req_with m items = record m { padata = items }

abbrev rep_with : KdcRep → Option (List PaData) → KdcRep
rep_with m items = record m { padata = items }

abbrev error_with : KrbError → Option (List ℕ) → KrbError
error_with m octets = record m { e_data = octets }

ticket-same : (note : Note) (t : Ticket) → has note ticket (ticket_value (masked_ticket t)) ≡ has note ticket (ticket_value t)
ticket-same note t = refl

kdc_req_body-has : (note : Note) (b : KdcReqBody) → has note kdc_req_body (kdc_req_body_value (masked_req_body b)) ≡ has note kdc_req_body (kdc_req_body_value b)
kdc_req_body-has note b = go b.enc_authorization_data b.additional_tickets
  where
    go : (e : Option EncryptedData) (tickets : Option (List Ticket)) → has note kdc_req_body (kdc_req_body_value (masked_req_body (body_with b e tickets))) ≡ has note kdc_req_body (kdc_req_body_value (body_with b e tickets))
    go None (Some tickets) = rw (items-same note ticket ticket_value masked_ticket (ticket-same note) tickets) refl
    go (Some e) (Some tickets) = rw (items-same note ticket ticket_value masked_ticket (ticket-same note) tickets) refl
    go None None = refl
    go (Some e) None = refl

item-same : (note : Note) (carrier : Carrier) (item : PaData) → has note pa_data (pa_data_value (masked_item carrier item)) ≡ has note pa_data (pa_data_value item)
item-same note carrier item = refl

kdc_req-has : (note : Note) (number : ℕ) (m : KdcReq) → has note (kdc_req number) (kdc_req_value number (masked_kdc_req m)) ≡ has note (kdc_req number) (kdc_req_value number m)
kdc_req-has note number m = go m.padata
  where
    go : (items : Option (List PaData)) → has note (kdc_req number) (kdc_req_value number (masked_kdc_req (req_with m items))) ≡ has note (kdc_req number) (kdc_req_value number (req_with m items))
    go None = rw (kdc_req_body-has note m.body) refl
    go (Some items) = rw (items-same note pa_data pa_data_value (masked_item carriers.Request) (item-same note carriers.Request) items, kdc_req_body-has note m.body) refl

kdc_rep-has : (note : Note) (number : ℕ) (m : KdcRep) → has note (kdc_rep number) (kdc_rep_value number (masked_kdc_rep m)) ≡ has note (kdc_rep number) (kdc_rep_value number m)
kdc_rep-has note number m = go m.padata
  where
    go : (items : Option (List PaData)) → has note (kdc_rep number) (kdc_rep_value number (masked_kdc_rep (rep_with m items))) ≡ has note (kdc_rep number) (kdc_rep_value number (rep_with m items))
    go None = refl
    go (Some items) = rw (items-same note pa_data pa_data_value (masked_item carriers.Reply) (item-same note carriers.Reply) items) refl

krb_cred-has : (note : Note) (m : KrbCred) → has note krb_cred (krb_cred_value (masked_krb_cred m)) ≡ has note krb_cred (krb_cred_value m)
krb_cred-has note m = rw (any-same (has note ticket) ticket_value masked_ticket (ticket-same note) m.tickets) refl

krb_error-has : (note : Note) (m : KrbError) → has note krb_error (krb_error_value (masked_krb_error m)) ≡ has note krb_error (krb_error_value m)
krb_error-has note m = go m.e_data
  where
    go : (octets : Option (List ℕ)) → has note krb_error (krb_error_value (error_with m (option_map masked_data octets))) ≡ has note krb_error (krb_error_value (error_with m octets))
    go None = refl
    go (Some octets) = refl

message-has : (note : Note) (m : Message) → message_has note (masked m) ≡ message_has note m
message-has note (message.AsReq m) = kdc_req-has note 10 m
message-has note (message.AsRep m) = kdc_rep-has note 11 m
message-has note (message.TgsReq m) = kdc_req-has note 12 m
message-has note (message.TgsRep m) = kdc_rep-has note 13 m
message-has note (message.KrbCred m) = krb_cred-has note m
message-has note (message.KrbError m) = krb_error-has note m
message-has note other = refl

notes-same : (m : Message) → notes_of (masked m) ≡ notes_of m
notes-same m = rw (message-has HighOctet m, message-has FewFlags m, message-has Negative m, message-has EmptyList m) refl

-- ---- what is inside
padata-inside : (carrier : Carrier) (items : Option (List PaData)) → padata_parts carrier (option_map (map (masked_item carrier)) items) ≡ padata_parts carrier items
padata-inside carrier None = refl
padata-inside carrier (Some items) = items_same carrier items

ticket-inside : (t : Ticket) → ticket_part (masked_ticket t) ≡ ticket_part t
ticket-inside t = rw (length-zeros (length t.enc_part.cipher)) refl

tickets-inside : (tickets : List Ticket) → map ticket_part (map masked_ticket tickets) ≡ map ticket_part tickets
tickets-inside [] = refl
tickets-inside (t ∷ tickets) = ap₂ (λ (p : Part) (ps : List Part). p ∷ ps) (ticket-inside t) (tickets-inside tickets)

some_tickets-inside : (tickets : Option (List Ticket)) → each_if ticket_part (option_map (map masked_ticket) tickets) ≡ each_if ticket_part tickets
some_tickets-inside None = refl
some_tickets-inside (Some tickets) = tickets-inside tickets

kdc_req-inside : (m : KdcReq) → kdc_req_parts (masked_kdc_req m) ≡ kdc_req_parts m
kdc_req-inside m = ap₂ (λ (a b : List Part). a ++ b) (padata-inside carriers.Request m.padata) (some_tickets-inside m.body.additional_tickets)

data-inside : (asks : Bool) (octets : Option (List ℕ)) → data_parts_if asks (option_map masked_data octets) ≡ data_parts_if asks octets
data-inside asks None = refl
data-inside asks (Some octets) = (data_masked octets).parts asks

krb_error-inside : (m : KrbError) → krb_error_parts (masked_krb_error m) ≡ krb_error_parts m
krb_error-inside m = data-inside (asks_for_preauth m.error_code) m.e_data

inside-same : (m : Message) → inside_of (masked m) ≡ inside_of m
inside-same (message.AsReq m) = ap Some (kdc_req-inside m)
inside-same (message.AsRep m) = ap Some (padata-inside carriers.Reply m.padata)
inside-same (message.TgsReq m) = ap Some (kdc_req-inside m)
inside-same (message.TgsRep m) = ap Some (padata-inside carriers.Reply m.padata)
inside-same (message.KrbCred m) = ap Some (tickets-inside m.tickets)
inside-same (message.KrbError m) = ap Some (krb_error-inside m)
inside-same other = refl

-- ---- records
made : (kind : List ℕ) (fields others : List Field) (m : Message) → fields ≡ others
    → with_inside (inside_of (masked m)) (printed kind (fields ++ the (codes "notes") (notes (notes_of (masked m))) ∷ [])) ≡ with_inside (inside_of m) (printed kind (others ++ the (codes "notes") (notes (notes_of m)) ∷ []))
made kind fields others m same =
    ap₂ (λ (f : List Field) (n : Notes). with_inside (inside_of (masked m)) (printed kind (f ++ the (codes "notes") (notes n) ∷ []))) same (notes-same m)
    ∙ ap (λ (inside : Option (List Part)). with_inside inside (printed kind (others ++ the (codes "notes") (notes (notes_of m)) ∷ []))) (inside-same m)

pub record-same : (m : Message) → message_record (masked m) ≡ message_record m
unfolding message_record
record-same (message.AsReq m) = made _ _ _ (message.AsReq m) (kdc_req-same m)
record-same (message.AsRep m) = made _ _ _ (message.AsRep m) (kdc_rep-same m)
record-same (message.TgsReq m) = made _ _ _ (message.TgsReq m) (kdc_req-same m)
record-same (message.TgsRep m) = made _ _ _ (message.TgsRep m) (kdc_rep-same m)
record-same (message.ApReq m) = made _ _ _ (message.ApReq m) (ap_req-same m)
record-same (message.ApRep m) = made _ _ _ (message.ApRep m) (ap_rep-same m)
record-same (message.KrbSafe m) = made _ _ _ (message.KrbSafe m) (krb_safe-same m)
record-same (message.KrbPriv m) = made _ _ _ (message.KrbPriv m) (krb_priv-same m)
record-same (message.KrbCred m) = made _ _ _ (message.KrbCred m) (krb_cred-same m)
record-same (message.KrbError m) = made _ _ _ (message.KrbError m) (krb_error-same m)

kind-same : (m : Message) → kind_of (masked m) ≡ kind_of m
kind-same (message.AsReq m) = refl
kind-same (message.AsRep m) = refl
kind-same (message.TgsReq m) = refl
kind-same (message.TgsRep m) = refl
kind-same (message.ApReq m) = refl
kind-same (message.ApRep m) = refl
kind-same (message.KrbSafe m) = refl
kind-same (message.KrbPriv m) = refl
kind-same (message.KrbCred m) = refl
kind-same (message.KrbError m) = refl

shown-same : (form : Form) (m : Message) → shown_record form (masked m) ≡ shown_record form m
shown-same form m = ap₂ (λ (kind : Kind) (r : Printed). unless_hidden (shows_kind form (kind_name kind)) r) (kind-same m) (record-same m)

pub line-same : (form : Form) (m : Message) → message_line form (masked m) ≡ message_line form m
unfolding message_line
line-same form m = ap (record_line form) (shown-same form m)

pub line_from-same : (form : Form) (origin : List Field) (m : Message) → message_line_from form origin (masked m) ≡ message_line_from form origin m
line_from-same form origin m = ap (λ (r : Printed). record_line form (with_origin origin r)) (shown-same form m)

pub ticket_line-same : (form : Form) (origin : List Field) (t : Ticket) → ticket_line form origin (masked_ticket t) ≡ ticket_line form origin t
unfolding ticket_record
ticket_line-same form origin t = rw (length-zeros (length t.enc_part.cipher)) refl

pub captured-same : (form : Form) (origin : CaptureOrigin) (m : Message) → captured_message_line form origin (masked m) ≡ captured_message_line form origin m
captured-same form origin m = ap (captured_line form origin) (shown-same form m)
