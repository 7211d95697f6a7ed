-- What is decoded of inputs comes back.
use Rattle.std.proofs.Common.{◌≡◌, cond, append-nil, ℕ, ◌+◌, ◌++◌, ◌≤◌, nat_lt, Bool, true, false, if◌then◌else◌, List, [], ◌∷◌, length, Option, Some, None, codes, refl, sym, ◌∙◌, ap, subst, arith, le-ltb}
use Rattle.std.specs.List.{filter, flat_map}
use Rattle.json.specs.Print.{print_from}
use Rattle.krb_convert.specs.Encoding.{All, encoded}
use Rattle.krb_convert.proofs.DecodedFrames.{of_message}
use Rattle.krb_der.specs.Octets.{AreOctets}
use Rattle.krb_der.specs.declared.profile.Profile.{Profile}
use Rattle.krb_der.specs.declared.profile.Profile.TheVariants.{Lenient}
use Rattle.krb_der.specs.declared.verdict.Refusal.{Refusal}
use Rattle.krb_input.specs.Inputs.{spelled}
use Rattle.krb_json.specs.Laws.{LinesSpellOctets, TextsAreJson, TextsAreShort, TextsComeBack}
use Rattle.krb_json.specs.Lines.{line_of, message_text}
use Rattle.krb_json.specs.Unencrypted.{unencrypted_in}
use Rattle.krb_judge.specs.Parses.{refusal_of, ticket_refusal}
use Rattle.krb_judge.specs.Paths.{element_path}
use Rattle.krb_judge.proofs.Slices.{message_in}
use Rattle.krb_msg.specs.Laws.{MessageOfDerIsMessage, ValueOfDerIsValue}
use Rattle.krb_msg.specs.Types.{ticket_value}
use Rattle.krb_msg.specs.Views.{IsInProfile, message_der, message_of_der}
use Rattle.krb_msg.specs.declared.krb_cred.KrbCred.{KrbCred}
use Rattle.krb_msg.specs.declared.ticket.Ticket.{Ticket}
use Rattle.krb_msg.specs.declared.message.Message.{Message}
use Rattle.krb_msg.specs.declared.message.Message.TheVariants as message
use Rattle.krb_record.specs.Labels.{no_label}
use Rattle.krb_record.specs.declared.form.Form.TheVariants.{NamedLines}
use Rattle.krb_run.specs.TextLines.{is_blank_line}
use Rattle.krb_run.specs.declared.run.RunEnd.{RunEnd}
use Rattle.krb_run.specs.declared.run.RunEnd.TheVariants as run
use Rattle.krb_source.specs.declared.spelling.Spelling.{Spelling}
use Rattle.krb_source.specs.declared.spelling.Spelling.TheVariants.{Octets}
use Rattle.krb_token.specs.Opened.{Found, Message as IsMessage, Ntlm, Refused, Ticket as IsTicket}
use Rattle.krb_token.specs.Tokens.{opened}
use Rattle.krb_tool.specs.Messages.{Layered, found_listing, input_limit, input_octets_listing, judged_listing, message_listing, octets_listing, opened_listing, spelled_in, spelled_listing, ticket_listing, ticket_of_der, too_long_listing, unread_listing, whole_input}
use Rattle.krb_record.specs.declared.input.InputFault.TheVariants as faults
use Rattle.krb_tool_laws.proofs.ListedMessages.{its_message}
use Rattle.krb_tool_laws.proofs.OpenedParts.{IsFound, opened_is}
use Rattle.krb_tool_laws.proofs.SpelledOctets.{IsSpelled as IsMade, input_spelled}
use Rattle.krb_decode.specs.Decoded.{Added, both, decoded_by, decoded_credentials, decoded_found, decoded_input, decoded_message, decoded_octets, decoded_spelled, decoded_ticket, decoded_tickets, decoded_under, is_sealed, judged, message_by, not_encrypted, nothing, origin_text, printed, said, ticket_line}
use Rattle.krb_decode.specs.Given.{decoded_given}
use Rattle.krb_decode_laws.specs.Inputs.{ComesBack, InputsComeBack, IsSpelled, octets_of}
use Rattle.krb_decode_laws.proofs.CacheTickets.{both-empty, silent-end}
use Rattle.krb_decode_laws.proofs.InputLines.{its-tickets}
use Rattle.krb_decode_laws.proofs.TicketTexts.{IsTicketOf, alone-back, ticket-of}

pub record Premises : Type 0 where
  pub message_of_der : MessageOfDerIsMessage
  pub value_of_der : ValueOfDerIsValue
  pub json : TextsAreJson
  pub short : TextsAreShort
  pub back : TextsComeBack
  pub spell : LinesSpellOctets

-- a line alone is encoded to octets, if they are no more than a limit
abbrev IsOf : (octets line : List ℕ) → Type 0
IsOf octets line = (limit : ℕ) → length octets ≤ limit → encoded false Lenient limit line ≡ record { text = octets; end = All }

-- ---- of what nothing is said has its line
some-said : (origin path : List ℕ) → not_encrypted origin path ≡ [] → ⊥
some-said [] [] e = absurd cc
some-said [] (octet ∷ path) e = absurd cc
some-said (octet ∷ origin) path e = absurd cc

message-line : (origin : List ℕ) (m : Message) → (decoded_message origin m).said ≡ [] → (decoded_message origin m).lines ≡ line_of m
message-line origin m = by (unencrypted_in m)
  where
    by : (unencrypted : Option (List ℕ)) → (message_by unencrypted origin m).said ≡ [] → (message_by unencrypted origin m).lines ≡ line_of m
    by None e = refl
    by (Some path) e = absurd (some-said origin path e)

abbrev cred_by : (origin : List ℕ) → KrbCred → (sealed : Bool) → Added
cred_by origin m sealed = if sealed then decoded_message origin (message.KrbCred m) else both (decoded_tickets origin 0 m.tickets) (said (not_encrypted origin (codes "KRB-CRED.enc-part")))

cred-line : (origin : List ℕ) (m : KrbCred) → (decoded_credentials origin m).said ≡ [] → (decoded_credentials origin m).lines ≡ line_of (message.KrbCred m)
cred-line origin m = by (is_sealed m.enc_part.etype)
  where
    by : (sealed : Bool) → (cred_by origin m sealed).said ≡ [] → (cred_by origin m sealed).lines ≡ line_of (message.KrbCred m)
    by true e = message-line origin (message.KrbCred m) e
    by false e = absurd (some-said origin (codes "KRB-CRED.enc-part") (both-empty (decoded_tickets origin 0 m.tickets).said (not_encrypted origin (codes "KRB-CRED.enc-part")) e).1)

found-line : (origin : List ℕ) (m : Message) → (decoded_found origin m).said ≡ [] → (decoded_found origin m).lines ≡ line_of m
found-line origin (message.KrbCred m) e = cred-line origin m e
found-line origin other e = message-line origin other e

abbrev lone_by : (octets : List ℕ) → (sealed : Bool) → Added
lone_by octets sealed = if sealed then printed (ticket_line (ticket_value (ticket_of_der octets))) else said (not_encrypted [] (codes "Ticket.enc-part"))

-- a text is an object, which begins with a brace
not-blank : (m : Message) → is_blank_line (message_text m) ≡ false
unfolding print_from
not-blank m = refl

module _ (p : Premises) (profile : Profile) where
  message-back : (octets : List ℕ) → AreOctets octets → refusal_of profile octets ≡ None → IsOf octets (line_of (message_of_der octets))
  message-back octets are none limit few =
      let m : Message = message_of_der octets in
      let its : IsInProfile Lenient m = its_message p.message_of_der profile octets are none in
      let form : message_der m ≡ octets = (of_message profile octets (message_in profile octets are none)).form in
      let within : length (message_der m) ≤ limit = omega (arith, few, ap length form) in
      alone-back limit (message_text m) (message_der m) (p.json Lenient m its).printable (not-blank m) (omega (arith, p.short Lenient m its, within)) (p.spell.messages Lenient limit (message_text m) m (p.back Lenient limit m its within))
      ∙ ap (λ text. record { text = text; end = All }) form

  part-back : (origin octets : List ℕ) → AreOctets octets → (refusal : Option Refusal) → refusal_of profile octets ≡ refusal → refusal ≡ None → (judged refusal (decoded_found origin (message_of_der octets))).said ≡ [] → IsOf octets (judged refusal (decoded_found origin (message_of_der octets))).lines
  part-back origin octets are None e none silent = subst (IsOf octets) (sym (found-line origin (message_of_der octets) silent)) (message-back octets are e)
  part-back origin octets are (Some refusal) e none silent = absurd cc

  lone-back : (octets : List ℕ) → AreOctets octets → (refusal : Option Refusal) → ticket_refusal profile octets ≡ refusal → refusal ≡ None → (judged refusal (decoded_ticket [] (codes "Ticket.enc-part") (ticket_of_der octets))).said ≡ [] → IsOf octets (judged refusal (decoded_ticket [] (codes "Ticket.enc-part") (ticket_of_der octets))).lines
  lone-back octets are None e none silent = by (is_sealed (ticket_of_der octets).enc_part.etype) silent
    where
      its : IsTicketOf octets
      its = ticket-of p.value_of_der profile octets are e

      by : (sealed : Bool) → (lone_by octets sealed).said ≡ [] → IsOf octets (lone_by octets sealed).lines
      by true quiet = λ limit few. its.text.back limit (omega (arith, few, ap length its.form)) ∙ ap (λ text. record { text = text; end = All }) its.form
      by false quiet = absurd cc
  lone-back octets are (Some refusal) e none silent = absurd cc

  -- ---- octets that are listed to the end
  judged-none : (layered : Layered) (place : ℕ) (octets : List ℕ) (refusal : Option Refusal) → (judged_listing (whole_input NamedLines profile) layered place octets refusal).end ≡ run.Clean → refusal ≡ None
  judged-none layered place octets None e = refl
  judged-none layered place octets (Some refusal) e = absurd cc

  lone-none : (layered : Layered) (refusal : Option Refusal) → (ticket_listing (whole_input NamedLines profile) layered refusal).end ≡ run.Clean → refusal ≡ None
  lone-none layered None e = refl
  lone-none layered (Some refusal) e = absurd cc

  found-back : (layered : Layered) (found : Found) → AreOctets layered.all → IsFound (length layered.all) found → (found_listing (whole_input NamedLines profile) layered found).end ≡ run.Clean → (decoded_under profile layered.all layered.layers found).said ≡ [] → IsOf (octets_of layered.all found) (decoded_under profile layered.all layered.layers found).lines
  found-back layered (IsMessage part) are is clean silent = part-back (origin_text layered.layers) part.octets is.octets (refusal_of profile part.octets) refl (judged-none layered part.place part.octets (refusal_of profile part.octets) clean) silent
  found-back layered IsTicket are is clean silent = lone-back layered.all are (ticket_refusal profile layered.all) refl (lone-none layered (ticket_refusal profile layered.all) clean) silent
  found-back layered (Ntlm place) are is clean silent = absurd cc
  found-back layered (Refused fault) are is clean silent = absurd cc

  octets-back : (spelling : Spelling) (octets : List ℕ) → AreOctets octets → (input_octets_listing (whole_input NamedLines profile) spelling octets).end ≡ run.Clean → (decoded_octets profile octets).said ≡ [] → IsOf (octets_of octets (opened octets).found) (decoded_octets profile octets).lines
  unfolding input_octets_listing decoded_octets
  octets-back spelling octets are = by (nat_lt 2147483647 (length octets))
    where
      by : (long : Bool) → (if long then too_long_listing (whole_input NamedLines profile) spelling octets else opened_listing (whole_input NamedLines profile) spelling octets (opened octets)).end ≡ run.Clean
          → (if long then nothing else decoded_under profile octets (opened octets).layers (opened octets).found).said ≡ [] → IsOf (octets_of octets (opened octets).found) (if long then nothing else decoded_under profile octets (opened octets).layers (opened octets).found).lines
      by true clean silent = absurd cc
      by false clean silent = found-back (record { all = octets; spelling = spelling; layers = (opened octets).layers }) (opened octets).found are (opened_is (length octets) octets are (omega arith)) clean silent

  by-end : (octets : List ℕ) (end : RunEnd) (listed : List ℕ) (added : Added) → (end ≡ run.Clean → added.said ≡ [] → IsOf octets added.lines) → ComesBack octets (decoded_by end listed added)
  by-end octets run.Clean listed added its limit clean few = its refl (silent-end added.said clean) limit few
  by-end octets run.Refused listed added its limit clean few = absurd cc
  by-end octets run.RefusedAtOnce listed added its limit clean few = absurd cc

  given-back : (octets : List ℕ) → AreOctets octets → ComesBack (octets_of octets (opened octets).found) (decoded_given profile octets)
  unfolding decoded_given
  given-back octets are =
      let listing = octets_listing NamedLines profile octets in
      by-end (octets_of octets (opened octets).found) listing.end listing.text (decoded_octets profile octets) (octets-back Octets octets are)

  input-clean : (input made : List ℕ) (is : IsSpelled input made) → (message_listing (no_label NamedLines) profile input).end ≡ (input_octets_listing (whole_input NamedLines profile) is.spelling made).end
  unfolding message_listing spelled_in
  input-clean input made is =
      ap (λ long. (if long then unread_listing (whole_input NamedLines profile) faults.Length None else spelled_listing (whole_input NamedLines profile) (spelled input)).end) (le-ltb input_limit (length input) is.short)
      ∙ ap (λ spells. (spelled_listing (whole_input NamedLines profile) spells).end) is.spells

  input-back : (input made : List ℕ) → AreOctets input → IsSpelled input made → ComesBack (octets_of made (opened made).found) (decoded_input profile input)
  unfolding decoded_input
  input-back input made are is =
      let listing = message_listing (no_label NamedLines) profile input in
      let octets : AreOctets made = (subst (IsMade (length input)) is.spells (input_spelled input are)).0 in
      by-end (octets_of made (opened made).found) listing.end listing.text (decoded_spelled profile (spelled input))
      (λ clean silent. subst (λ spells. (decoded_spelled profile spells).said ≡ [] → IsOf (octets_of made (opened made).found) (decoded_spelled profile spells).lines) (sym is.spells) (octets-back is.spelling made octets (sym (input-clean input made is) ∙ clean)) silent)

-- ---- the tickets of a KRB-CRED
sealed-lines : (origin : List ℕ) (index : ℕ) (all : List Ticket) → (decoded_tickets origin index all).lines ≡ flat_map (λ t. ticket_line (ticket_value t)) (filter (λ t. is_sealed t.enc_part.etype) all)
sealed-lines origin index [] = refl
sealed-lines origin index (t ∷ all) = by (is_sealed t.enc_part.etype) (sealed-lines origin (index + 1) all)
  where
    by : (sealed : Bool) → (decoded_tickets origin (index + 1) all).lines ≡ flat_map (λ t. ticket_line (ticket_value t)) (filter (λ t. is_sealed t.enc_part.etype) all)
        → (if sealed then printed (ticket_line (ticket_value t)) else said (not_encrypted origin (element_path (codes "KRB-CRED.tickets") index ++ codes ".enc-part"))).lines ++ (decoded_tickets origin (index + 1) all).lines
        ≡ flat_map (λ t. ticket_line (ticket_value t)) (cond sealed (t ∷ filter (λ t. is_sealed t.enc_part.etype) all) (filter (λ t. is_sealed t.enc_part.etype) all))
    by true e = ap (λ l. ticket_line (ticket_value t) ++ l) e
    by false e = e

cred-lines : (origin : List ℕ) (m : KrbCred) → is_sealed m.enc_part.etype ≡ false → (decoded_credentials origin m).lines ≡ flat_map (λ t. ticket_line (ticket_value t)) (filter (λ t. is_sealed t.enc_part.etype) m.tickets)
cred-lines origin m e = ap (λ sealed. (cred_by origin m sealed).lines) e ∙ append-nil (decoded_tickets origin 0 m.tickets).lines ∙ sealed-lines origin 0 m.tickets

pub inputs_come_back : Premises → InputsComeBack
inputs_come_back p = record { of_input = λ profile input octets are is. input-back p profile input octets are is; of_octets = λ profile octets are. given-back p profile octets are; of_credentials = λ origin m its e. (cred-lines origin m e, its-tickets m its) }
