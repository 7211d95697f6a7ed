-- What is decoded of an input, or of a ticket field, is lines.
use Rattle.std.proofs.Common.{◌≡◌, ℕ, pos, ◌+◌, ◌^◌, ◌<◌, ◌≤◌, nat_lt, Bool, true, false, if◌then◌else◌, List, [], ◌∷◌, ◌++◌, length, length-append, map, Option, Some, None, Ok, Err, codes, refl, sym, ◌∙◌, subst, append-nil, append_assoc, arith}
use Rattle.std.specs.List.{AllByRecursion, flat_map}
use Rattle.std.proofs.lemmas.Bool.{cond_both}
use Rattle.json.specs.Json.{Json, document}
use Rattle.json.specs.Print.{print}
use Rattle.json.specs.Strict.{HasUniqueKeys}
use Rattle.json.specs.Tree.{json_tokens}
use Rattle.krb_der.specs.Octets.{AreOctets, item}
use Rattle.krb_der.specs.declared.profile.Profile.{Profile}
use Rattle.krb_der.specs.declared.profile.Profile.TheVariants.{Lenient}
use Rattle.krb_der.specs.declared.verdict.Refusal.{Refusal}
use Rattle.krb_source.specs.declared.layer.Layer.{Layer}
use Rattle.krb_input.specs.Inputs.{Spells, spelled}
use Rattle.krb_json.specs.Laws.{IsText, TextsAreJson}
use Rattle.krb_json.specs.Objects.{message_json}
use Rattle.krb_json.specs.Tickets.{ticket_json}
use Rattle.krb_json.specs.Unencrypted.{unencrypted_in}
use Rattle.krb_json.proofs.Back.{item-longer}
use Rattle.krb_judge.specs.Parses.{refusal_of, ticket_refusal}
use Rattle.krb_judge.specs.Paths.{element_path}
use Rattle.krb_msg.specs.Grammar.{encrypted_data, exactly, ticket, version}
use Rattle.krb_msg.specs.Laws.{MessageOfDerIsMessage, ValueOfDerIsValue}
use Rattle.krb_msg.specs.Term.{Fits, Tagged, der}
use Rattle.krb_msg.specs.Types.{encrypted_data_value, ticket_value}
use Rattle.krb_msg.specs.Views.{IsInProfile, message_der, message_of_der}
use Rattle.krb_msg.specs.declared.krb_cred.KrbCred.{KrbCred}
use Rattle.krb_msg.specs.declared.message.Message.{Message}
use Rattle.krb_msg.specs.declared.message.Message.TheVariants as message
use Rattle.krb_msg.specs.declared.ticket.Ticket.{Ticket}
use Rattle.krb_record.specs.Forms.{ending, opening_from, origin_text as origin_fields_text, record_line, record_text}
use Rattle.krb_record.specs.Labels.{no_label}
use Rattle.krb_record.specs.Laws.{IsOneLine}
use Rattle.krb_record.specs.Origins.{message_origin}
use Rattle.krb_record.specs.Text.{IsPrintable, line_feed}
use Rattle.krb_record.specs.Values.{Printed, printed as printed_record, with_last, with_origin}
use Rattle.krb_record.specs.declared.form.Base.TheVariants as bases
use Rattle.krb_record.specs.declared.form.Form.TheVariants.{Json as JsonForm, NamedLines}
use Rattle.krb_record.proofs.Printable.{Prints, join, word}
use Rattle.krb_run.specs.declared.run.RunEnd.{RunEnd}
use Rattle.krb_run.specs.declared.run.RunEnd.TheVariants as run
use Rattle.krb_text_laws.proofs.EachForm.{begins}
use Rattle.krb_text_laws.proofs.EndOneLine.{message_line_from}
use Rattle.krb_token.specs.Opened.{Found, Message as IsMessage, Ntlm, Refused, Ticket as IsTicket}
use Rattle.krb_token.specs.Tokens.{opened}
use Rattle.krb_tool.specs.Messages.{message_listing, octets_listing, ticket_of_der}
use Rattle.krb_tool_laws.specs.Listings.{AreLinesOf, AreRead, MessagesAreLines}
use Rattle.krb_tool_laws.proofs.Labelled.{before}
use Rattle.krb_tool_laws.proofs.Lines.{and_lines, no_lines}
use Rattle.krb_tool_laws.proofs.ListedMessages.{its_message}
use Rattle.krb_tool_laws.proofs.OpenedParts.{IsFound, opened_is}
use Rattle.krb_tool_laws.proofs.SpelledOctets.{IsSpelled, input_spelled}
use Rattle.krb_decode.specs.Decoded.{Added, both, decoded_by, decoded_credentials, decoded_found, decoded_input, decoded_message, decoded_octets, decoded_spelled, decoded_ticket, decoded_tickets, decoded_under, is_sealed, judged, message_by, not_encrypted, nothing, origin_text, printed, said, ticket_line}
use Rattle.krb_decode.specs.Given.{decoded_given}
use Rattle.krb_decode_laws.specs.Inputs.{InputsAreLines, PrintsLines}
use Rattle.krb_decode_laws.specs.Messages.{IsTicketText}
use Rattle.krb_decode_laws.proofs.FoundLines.{element-path, front, parted, unencrypted-path}
use Rattle.krb_decode_laws.proofs.TicketTexts.{ticket-of, value-text}

-- ---- lines
pub record AddsLines (added : Added) : Type 0 where
  pub lines : AreLinesOf JsonForm added.lines
  pub said : AreLinesOf NamedLines added.said

pub adds-nothing : AddsLines nothing
adds-nothing = record { lines = no_lines JsonForm; said = no_lines NamedLines }

pub adds-both : (one other : Added) → AddsLines one → AddsLines other → AddsLines (both one other)
adds-both one other a b = record { lines = and_lines JsonForm one.lines other.lines a.lines b.lines; said = and_lines NamedLines one.said other.said a.said b.said }

json-line : (value : Json) → document (print (json_tokens value)) ≡ Some value → HasUniqueKeys value → IsPrintable (print (json_tokens value)) → AddsLines (printed (print (json_tokens value) ++ line_feed))
json-line value is unique printable = record {
  lines = (
    print (json_tokens value) ∷ [],
    (record { printable = printable; json = λ e. (value, record { document_is = is; printed = refl; unique = unique }) }, tt),
    sym (append-nil (print (json_tokens value) ++ line_feed)),
  );
  said = no_lines NamedLines;
}

pub said-line : (line : List ℕ) → IsOneLine line → AddsLines (said line)
said-line line one = record { lines = no_lines JsonForm; said = (one.0 ∷ [], (record { printable = one.1; json = λ e. absurd cc }, tt), one.2 ∙ sym (append-nil (one.0 ++ line_feed))) }

unencrypted-line : (origin path : List ℕ) → Prints origin → Prints path → AddsLines (said (not_encrypted origin path))
unencrypted-line origin path a b = said-line (not_encrypted origin path) (
  origin ++ path ++ codes ": not encrypted, and so not printed",
  (join (join a b) (word (codes ": not encrypted, and so not printed") refl)).all,
  sym (append_assoc (origin ++ path) (codes ": not encrypted, and so not printed") line_feed),
)

-- ---- Tickets and messages
pub ticket-lines : (origin path : List ℕ) → Prints origin → Prints path → (t : Ticket) → IsTicketText (ticket_value t) → AddsLines (decoded_ticket origin path t)
ticket-lines origin path a b t text = by (is_sealed t.enc_part.etype)
  where
    by : (sealed : Bool) → AddsLines (if sealed then printed (ticket_line (ticket_value t)) else said (not_encrypted origin path))
    by true = json-line (ticket_json (ticket_value t)) text.document_is text.unique text.printable
    by false = unencrypted-line origin path a b

tickets-lines : (origin : List ℕ) → Prints origin → (index : ℕ) (all : List Ticket) → AllByRecursion (λ t. IsTicketText (ticket_value t)) all → AddsLines (decoded_tickets origin index all)
tickets-lines origin a index [] each = adds-nothing
tickets-lines origin a index (t ∷ all) each =
    let path : List ℕ = element_path (codes "KRB-CRED.tickets") index ++ codes ".enc-part" in
    adds-both (decoded_ticket origin path t) (decoded_tickets origin (index + 1) all)
    (ticket-lines origin path a (join (element-path (codes "KRB-CRED.tickets") index (word (codes "KRB-CRED.tickets") refl)) (word (codes ".enc-part") refl)) t each.0)
    (tickets-lines origin a (index + 1) all each.1)

ticket-texts : (all : List Ticket) → AllByRecursion (Fits ticket) (map ticket_value all) → length (flat_map (der ticket) (map ticket_value all)) < 2 ^ 31 → AllByRecursion (λ t. IsTicketText (ticket_value t)) all
ticket-texts [] fit short = tt
ticket-texts (t ∷ all) fit short =
    let parts = length-append (der ticket (ticket_value t)) (flat_map (der ticket) (map ticket_value all)) in
    (value-text (ticket_value t) fit.0 (omega (arith, parts, short)), ticket-texts all fit.1 (omega (arith, parts, short)))

third : (a b c d : List ℕ) → length c ≤ length (a ++ (b ++ (c ++ d)))
third a b c d = omega (arith, length-append a (b ++ (c ++ d)), length-append b (c ++ d), length-append c d)

-- the tickets of a KRB-CRED
pub its-tickets : (m : KrbCred) → IsInProfile Lenient (message.KrbCred m) → AllByRecursion (λ t. IsTicketText (ticket_value t)) m.tickets
its-tickets m its = ticket-texts m.tickets its.fits.1.1.0.1 short
  where
    short : length (flat_map (der ticket) (map ticket_value m.tickets)) < 2 ^ 31
    short =
        let pvno : List ℕ = der (Tagged 0 version) (pos 5) in
        let msg_type : List ℕ = der (Tagged 1 (exactly 22)) (pos 22) in
        let list : List ℕ = flat_map (der ticket) (map ticket_value m.tickets) in
        let all : List ℕ = item 0xA2 (item 0x30 list) in
        let part : List ℕ = der (Tagged 3 encrypted_data) (encrypted_data_value m.enc_part) ++ [] in
        let contents : List ℕ = pvno ++ (msg_type ++ (all ++ part)) in
        let whole : length (item 0x30 contents) < length (message_der (message.KrbCred m)) = item-longer 0x76 (item 0x30 contents) in
        omega (arith, its.short, item-longer 0x30 list, item-longer 0xA2 (item 0x30 list), third pvno msg_type all part, item-longer 0x30 contents, whole)

module _ (json : TextsAreJson) (origin : List ℕ) (a : Prints origin) where
  message-lines : (m : Message) → IsInProfile Lenient m → AddsLines (decoded_message origin m)
  message-lines m its = by (unencrypted_in m) refl
    where
      by : (unencrypted : Option (List ℕ)) → unencrypted_in m ≡ unencrypted → AddsLines (message_by unencrypted origin m)
      by None e = let text : IsText m = json Lenient m its in json-line (message_json m) text.document_is text.unique text.printable
      by (Some path) e = unencrypted-line origin path a (unencrypted-path m path e)

  credentials-lines : (m : KrbCred) → IsInProfile Lenient (message.KrbCred m) → AddsLines (decoded_credentials origin m)
  credentials-lines m its = by (is_sealed m.enc_part.etype)
    where
      by : (sealed : Bool) → AddsLines (if sealed then decoded_message origin (message.KrbCred m) else both (decoded_tickets origin 0 m.tickets) (said (not_encrypted origin (codes "KRB-CRED.enc-part"))))
      by true = message-lines (message.KrbCred m) its
      by false =
          adds-both (decoded_tickets origin 0 m.tickets) (said (not_encrypted origin (codes "KRB-CRED.enc-part")))
          (tickets-lines origin a 0 m.tickets (its-tickets m its)) (unencrypted-line origin (codes "KRB-CRED.enc-part") a (word (codes "KRB-CRED.enc-part") refl))

  found-lines : (m : Message) → IsInProfile Lenient m → AddsLines (decoded_found origin m)
  found-lines (message.KrbCred m) its = credentials-lines m its
  found-lines other its = message-lines other its

-- ---- octets in layers
origin-prints : (layers : List Layer) → Prints (origin_text layers)
unfolding record_text opening_from
origin-prints [] = begins bases.NamedLines [] refl
origin-prints (first ∷ others) =
    let its : Printed = with_last [] (with_origin (message_origin None (first ∷ others)) (printed_record (codes "x") [])) in
    let one : IsOneLine (record_line NamedLines its) = message_line_from bases.NamedLines None (first ∷ others) (printed_record (codes "x") []) refl refl tt tt in
    let text : one.0 ≡ record_text NamedLines its = before line_feed one.0 (record_text NamedLines its) (sym one.2) in
    let begin : List ℕ = origin_fields_text NamedLines (message_origin None (first ∷ others)) in
    join (join (front begin _ (subst IsPrintable (text ∙ parted begin (codes " ") (codes "x") [] [] (ending NamedLines None [])) one.1)) (word (codes " ") refl)) (word [] refl)

judged-lines : (refusal : Option Refusal) (added : Added) → (refusal ≡ None → AddsLines added) → AddsLines (judged refusal added)
judged-lines None added its = its refl
judged-lines (Some refusal) added its = adds-nothing

pub record Premises : Type 0 where
  pub message_of_der : MessageOfDerIsMessage
  pub value_of_der : ValueOfDerIsValue
  pub json : TextsAreJson
  pub listed : MessagesAreLines

module _ (p : Premises) (profile : Profile) where
  under-lines : (octets : List ℕ) (layers : List Layer) (found : Found) → AreOctets octets → IsFound (length octets) found → AddsLines (decoded_under profile octets layers found)
  under-lines octets layers (IsMessage part) are is =
      judged-lines (refusal_of profile part.octets) (decoded_found (origin_text layers) (message_of_der part.octets))
      (λ none. found-lines p.json (origin_text layers) (origin-prints layers) (message_of_der part.octets) (its_message p.message_of_der profile part.octets is.octets none))
  under-lines octets layers IsTicket are is =
      judged-lines (ticket_refusal profile octets) (decoded_ticket [] (codes "Ticket.enc-part") (ticket_of_der octets))
      (λ none. ticket-lines [] (codes "Ticket.enc-part") (word [] refl) (word (codes "Ticket.enc-part") refl) (ticket_of_der octets) (ticket-of p.value_of_der profile octets are none).text)
  under-lines octets layers (Ntlm place) are is = adds-nothing
  under-lines octets layers (Refused fault) are is = adds-nothing

  octets-lines : (octets : List ℕ) → AreOctets octets → AddsLines (decoded_octets profile octets)
  unfolding decoded_octets
  octets-lines octets are =
      cond_both {A = Added} (nat_lt 2147483647 (length octets)) _ _ (λ added. AddsLines added) (λ t. adds-nothing)
      (λ t. under-lines octets (opened octets).layers (opened octets).found are (opened_is (length octets) octets are (omega arith)))

  spelled-lines : (size : ℕ) (spells : Spells) → IsSpelled size spells → AddsLines (decoded_spelled profile spells)
  spelled-lines size (Ok made) is = octets-lines made.1 is.0
  spelled-lines size (Err fault) is = adds-nothing

  -- ---- an input
  by-end : (end : RunEnd) (listed : List ℕ) (added : Added) → AreLinesOf NamedLines listed → AddsLines added → PrintsLines (decoded_by end listed added)
  by-end run.Clean listed added a b = record { lines = b.lines; said = b.said }
  by-end run.Refused listed added a b = record { lines = no_lines JsonForm; said = a }
  by-end run.RefusedAtOnce listed added a b = record { lines = no_lines JsonForm; said = a }

  input-lines : (input : List ℕ) → AreRead input → PrintsLines (decoded_input profile input)
  unfolding decoded_input
  input-lines input are =
      let listing = message_listing (no_label NamedLines) profile input in
      by-end listing.end listing.text (decoded_spelled profile (spelled input)) (p.listed.of_input (no_label NamedLines) profile input (refl, tt) are) (spelled-lines (length input) (spelled input) (input_spelled input are.0))

  given-lines : (octets : List ℕ) → AreRead octets → PrintsLines (decoded_given profile octets)
  unfolding decoded_given
  given-lines octets are =
      let listing = octets_listing NamedLines profile octets in
      by-end listing.end listing.text (decoded_octets profile octets) (p.listed.of_octets bases.NamedLines profile octets are) (octets-lines octets are.0)

pub inputs_are_lines : Premises → InputsAreLines
inputs_are_lines p = record { of_input = λ profile input are. input-lines p profile input are; of_octets = λ profile octets are. given-lines p profile octets are }
