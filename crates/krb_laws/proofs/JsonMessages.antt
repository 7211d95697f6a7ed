-- What is printed of messages and of Tickets is JSON.
use Rattle.std.proofs.Common.{◌≡◌, ℕ, ◌^◌, ◌<◌, true, false, List, [], ◌∷◌, ◌++◌, length, Option, Some, None, IfSome, codes, refl}
use Rattle.std.specs.List.{AllByRecursion}
use Rattle.krb_der.specs.declared.profile.Profile.TheVariants as profiles
use Rattle.krb_msg.specs.Grammar.{ticket}
use Rattle.krb_msg.specs.Notes.{notes_of, notes_of_ticket}
use Rattle.krb_msg.specs.Term.{Fits, der}
use Rattle.krb_msg.specs.Types.{ticket_value}
use Rattle.krb_msg.specs.Views.{IsInProfile, kind_name, kind_of, kind_term, message_value}
use Rattle.krb_msg.specs.declared.message.Message.{Message}
use Rattle.krb_msg.specs.declared.message.Message.TheVariants as message
use Rattle.krb_msg.specs.declared.ticket.Ticket.{Ticket}
use Rattle.krb_text.specs.Inside.{inside_of}
use Rattle.krb_record.specs.Origins.{message_origin}
use Rattle.krb_text.specs.Messages.{fields_of, message_record, notes, ticket_record}
use Rattle.krb_record.specs.Values.{Field, the, with_last, with_origin}
use Rattle.krb_text.specs.declared.clear_type.Carrier.TheVariants as carriers
use Rattle.krb_text_laws.proofs.MessageOneLine.{record_is_plain}
use Rattle.krb_source.specs.declared.layer.Layer.{Layer}
use Rattle.krb_laws.specs.JsonLaws.{IsLine, MessagesAreJson, PartFits, PrintsJson}
use Rattle.krb_laws.proofs.JsonInside.{error_inside, kdc_req_inside, padata_inside, tickets_inside}
use Rattle.krb_laws.proofs.JsonNumbers.{cred, error, its_notes, its_encrypted, kdc_rep, kdc_req, of_ap_req, safe}
use Rattle.krb_laws.proofs.JsonRecords.{ValuesFit}
use Rattle.krb_laws.proofs.JsonShown.{AreCounted, FitsFrom, IsLast, IsOrigin, fields_fit, from_origin, no_last, no_origin, record_is_json}
use Rattle.krb_laws.proofs.JsonSizes.{IsBrief, brief, is_narrow}

-- ---- where messages come from
pub its_origin : (line : Option ℕ) (layers : List Layer) → IsLine line → IsOrigin (message_origin line layers)
its_origin None [] h = no_origin
its_origin None (first ∷ others) h = record { plain = refl; keeps = false ∷ true ∷ false ∷ false ∷ false ∷ []; among = λ rest. refl; values = (tt, tt) }
its_origin (Some line) [] h = record { plain = refl; keeps = true ∷ false ∷ false ∷ false ∷ false ∷ []; among = λ rest. refl; values = (h, tt) }
its_origin (Some line) (first ∷ others) h = record { plain = refl; keeps = true ∷ true ∷ false ∷ false ∷ false ∷ []; among = λ rest. refl; values = (h, (tt, tt)) }

-- ---- messages
with_notes : (fields : List Field) (m : Message) → AreCounted fields → AreCounted (fields ++ (the (codes "notes") (notes (notes_of m)) ∷ []))
with_notes [] m h = (its_notes (notes_of m), tt)
with_notes (first ∷ fields) m h = (h.0, with_notes fields m h.1)

-- each number of a message of the profile
its_value : (m : Message) → is_narrow (kind_term (kind_of m)) ≡ true → IsInProfile profiles.Lenient m → IsBrief (kind_term (kind_of m)) (message_value m)
its_value m narrow good = brief (kind_term (kind_of m)) narrow (message_value m) good.fits good.short

counted : (m : Message) → IsInProfile profiles.Lenient m → AreCounted (fields_of m)
counted (message.AsReq m) good = let h = its_value (message.AsReq m) refl good in kdc_req m h.1.1.0 h.1.1.1.0
counted (message.AsRep m) good = let h = its_value (message.AsRep m) refl good in kdc_rep m h.1.1.0 h.1.1.1.1.0 h.1.1.1.1.1.0 h.1.1.1.1.1.1.0
counted (message.TgsReq m) good = let h = its_value (message.TgsReq m) refl good in kdc_req m h.1.1.0 h.1.1.1.0
counted (message.TgsRep m) good = let h = its_value (message.TgsRep m) refl good in kdc_rep m h.1.1.0 h.1.1.1.1.0 h.1.1.1.1.1.0 h.1.1.1.1.1.1.0
counted (message.ApReq m) good = let h = its_value (message.ApReq m) refl good in of_ap_req m h.1.1.0 h.1.1.1.0.1.1.0 h.1.1.1.0.1.1.1.0 h.1.1.1.1.0
counted (message.ApRep m) good = (its_encrypted m.enc_part (its_value (message.ApRep m) refl good).1.1.0, tt)
counted (message.KrbSafe m) good = safe m (its_value (message.KrbSafe m) refl good)
counted (message.KrbPriv m) good = (its_encrypted m.enc_part (its_value (message.KrbPriv m) refl good).1.1.0, tt)
counted (message.KrbCred m) good = cred m (its_value (message.KrbCred m) refl good)
counted (message.KrbError m) good = error m (its_value (message.KrbError m) refl good)

its_parts : (m : Message) → IsInProfile profiles.Lenient m → IfSome (inside_of m) (AllByRecursion PartFits)
its_parts (message.AsReq m) good = kdc_req_inside m good.fits.1.1.0 (its_value (message.AsReq m) refl good).1.1.1.0
its_parts (message.AsRep m) good = padata_inside carriers.Reply m.padata good.fits.1.1.0
its_parts (message.TgsReq m) good = kdc_req_inside m good.fits.1.1.0 (its_value (message.TgsReq m) refl good).1.1.1.0
its_parts (message.TgsRep m) good = padata_inside carriers.Reply m.padata good.fits.1.1.0
its_parts (message.KrbCred m) good = tickets_inside m.tickets (its_value (message.KrbCred m) refl good).1.1.0.1
its_parts (message.KrbError m) good = error_inside m
its_parts other good = tt

abbrev its_fields : Message → List Field
its_fields m = fields_of m ++ the (codes "notes") (notes (notes_of m)) ∷ []

values : (m : Message) → IsInProfile profiles.Lenient m → ValuesFit (its_fields m)
unfolding message_record
values m good = fields_fit (its_fields m) (record_is_plain m good).fields (with_notes (fields_of m) m (counted m good))

fits : (m : Message) → IsInProfile profiles.Lenient m → FitsFrom (kind_name (kind_of m)) (its_fields m) (inside_of m)
fits (message.AsReq m) good = record { kind_plain = refl; plain = refl; apart = refl; values = values (message.AsReq m) good; parts = its_parts (message.AsReq m) good }
fits other good = record { kind_plain = refl; plain = refl; apart = refl; values = values other good; parts = its_parts other good }

-- a message from an origin, and with what is last
pub message_with : (origin last : List Field) (m : Message) → IsOrigin origin → IsLast last → IsInProfile profiles.Lenient m → PrintsJson (with_last last (with_origin origin (message_record m)))
unfolding message_record
message_with origin last m o l good = record_is_json _ (from_origin origin (kind_name (kind_of m)) (its_fields m) (inside_of m) last o l (fits m good))

message_from : (origin : List Field) (m : Message) → IsOrigin origin → IsInProfile profiles.Lenient m → PrintsJson (with_origin origin (message_record m))
unfolding message_record
message_from origin m o good = message_with origin [] m o no_last good

message_alone : (m : Message) → IsInProfile profiles.Lenient m → PrintsJson (message_record m)
unfolding message_record
message_alone m good = message_from [] m no_origin good

-- ---- Tickets
ticket_fits : (t : Ticket) → Fits ticket (ticket_value t) → length (der ticket (ticket_value t)) < 2 ^ 31 → FitsFrom (codes "Ticket") (ticket_record t).fields None
unfolding ticket_record
ticket_fits t fit short =
    let h = brief ticket refl (ticket_value t) fit short in
    record { kind_plain = refl; plain = refl; apart = refl; values = (h.1.1.0.0, (its_encrypted t.enc_part h.1.1.1.0, (its_notes (notes_of_ticket t), tt))); parts = tt }

ticket_from : (origin : List Field) (t : Ticket) → IsOrigin origin → Fits ticket (ticket_value t) → length (der ticket (ticket_value t)) < 2 ^ 31 → PrintsJson (with_origin origin (ticket_record t))
unfolding ticket_record
ticket_from origin t o fit short = record_is_json _ (from_origin origin (codes "Ticket") (ticket_record t).fields None [] o no_last (ticket_fits t fit short))

pub messages_are_json : MessagesAreJson
messages_are_json = record {
  message = message_alone;
  from = λ line layers m l good. message_from (message_origin line layers) m (its_origin line layers l) good;
  ticket = λ line layers t l fit short. ticket_from (message_origin line layers) t (its_origin line layers l) fit short;
}
