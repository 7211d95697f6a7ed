-- Inputs that differ in what is not encrypted alone are decoded alike.
use Rattle.std.proofs.Common.{◌≡◌, ℕ, ℤ, pos, ◌+◌, ◌^◌, ◌<◌, not, Bool, true, false, if◌then◌else◌, List, [], ◌∷◌, ◌++◌, length, map, Option, Some, None, codes, refl, sym, ◌∙◌, ap, ap₂, arith, le-ltb}
use Rattle.std.specs.Prelude.{option_map}
use Rattle.krb_der.specs.declared.profile.Profile.{Profile}
use Rattle.krb_input.specs.Inputs.{spelled}
use Rattle.krb_json.specs.Laws.{UnencryptedChangesNothing}
use Rattle.krb_json.specs.Masked.{masked, masked_fields, masked_in, zeroed_fields}
use Rattle.krb_json.specs.Unencrypted.{is_zero_number, unencrypted_in}
use Rattle.krb_judge.specs.Parses.{refusal_of, ticket_refusal}
use Rattle.krb_judge.specs.Paths.{element_path}
use Rattle.krb_judge.specs.declared.locating.names.Names.TheVariants as names
use Rattle.krb_msg.specs.Grammar.{encrypted_data, int32, kerberos_string, octet_string, ticket, wide32}
use Rattle.krb_msg.specs.Term.{End, Fields, Optional, Required, Tagged, Value}
use Rattle.krb_msg.specs.Types.{encrypted_data_value, ticket_value}
use Rattle.krb_msg.specs.Views.{kind_of, kind_term, message_of_der}
use Rattle.krb_msg.specs.declared.krb_cred.KrbCred.{KrbCred}
use Rattle.krb_msg.specs.declared.message.Kind.{Kind}
use Rattle.krb_msg.specs.declared.message.Kind.TheVariants as kind
use Rattle.krb_msg.specs.declared.message.Message.{Message}
use Rattle.krb_msg.specs.declared.message.Message.TheVariants as message
use Rattle.krb_msg.specs.declared.ticket.Ticket.{Ticket}
use Rattle.krb_record.specs.Labels.{no_label}
use Rattle.krb_record.specs.declared.input.InputFault.TheVariants as faults
use Rattle.krb_record.specs.declared.form.Form.TheVariants.{NamedLines}
use Rattle.krb_run.specs.declared.run.RunEnd.{RunEnd}
use Rattle.krb_run.specs.declared.run.RunEnd.TheVariants as run
use Rattle.krb_source.specs.declared.layer.Layer.{Layer}
use Rattle.krb_source.specs.declared.spelling.Spelling.{Spelling}
use Rattle.krb_source.specs.declared.spelling.Spelling.TheVariants.{Octets}
use Rattle.krb_token.specs.Opened.{Found, Message as IsMessage, Ticket as IsTicket}
use Rattle.krb_token.specs.Tokens.{opened}
use Rattle.krb_tool.specs.Messages.{Layered, found_listing, input_limit, input_octets_listing, judged_listing, message_listing, octets_listing, opened_listing, spelled_in, spelled_listing, ticket_listing, ticket_of_der, too_long_listing, unread_listing, whole_input}
use Rattle.krb_decode.specs.Decoded.{Added, accepted, both, decoded_by, decoded_credentials, decoded_found, decoded_input, decoded_message, decoded_octets, decoded_spelled, decoded_ticket, decoded_tickets, decoded_under, is_sealed, judged, message_by, not_encrypted, nothing, origin_text, printed, said, ticket_line}
use Rattle.krb_decode.specs.Given.{decoded_given}
use Rattle.krb_decode_laws.specs.Inputs.{AreAlike, AreFoundAlike, InputsAreDecodedAlike, IsSpelled}

-- ---- Tickets
-- the fields of an EncryptedData
abbrev parts : Fields
parts = Required (Tagged 0 int32) (Optional (Tagged 1 wide32) (Required (Tagged 2 octet_string) End))

-- whose number is not masked
etype-kept : (value : Value encrypted_data) → (masked encrypted_data names.EncryptedData value).0 ≡ value.0
etype-kept value = by (is_zero_number value.0)
  where
    by : (zero : Bool) → (if zero then zeroed_fields parts value else masked_fields parts names.EncryptedData 0 value).0 ≡ value.0
    by true = refl
    by false = refl

texts-kept : (all : List (List ℕ)) → map (masked kerberos_string names.Basic) all ≡ all
texts-kept [] = refl
texts-kept (text ∷ all) = ap (λ l. text ∷ l) (texts-kept all)

number-kept : (kvno : Option ℤ) → option_map (λ n. n) kvno ≡ kvno
number-kept None = refl
number-kept (Some n) = refl

-- what is sealed is not masked
part-kept : (value : Value encrypted_data) → is_sealed value.0 ≡ true → masked encrypted_data names.EncryptedData value ≡ value
part-kept value sealed = by (is_zero_number value.0) sealed
  where
    by : (zero : Bool) → not zero ≡ true → (if zero then zeroed_fields parts value else masked_fields parts names.EncryptedData 0 value) ≡ value
    by true e = absurd cc
    by false e = ap (λ kvno. (value.0, (kvno, value.1.1))) (number-kept value.1.0)

ticket-kept : (value : Value ticket) → is_sealed value.1.1.1.0.0 ≡ true → masked ticket names.Ticket value ≡ value
ticket-kept value sealed = ap₂ (λ all part. (value.0, (value.1.0, ((value.1.1.0.0, (all, value.1.1.0.1.1)), (part, value.1.1.1.1))))) (texts-kept value.1.1.0.1.0) (part-kept value.1.1.1.0 sealed)

abbrev ticket_by : (sealed : Bool) → (origin path : List ℕ) → Value ticket → Added
ticket_by sealed origin path value = if sealed then printed (ticket_line value) else said (not_encrypted origin path)

pub tickets-alike : (origin path : List ℕ) (t u : Ticket) → masked ticket names.Ticket (ticket_value t) ≡ masked ticket names.Ticket (ticket_value u) → decoded_ticket origin path t ≡ decoded_ticket origin path u
tickets-alike origin path t u e = by (is_sealed t.enc_part.etype) refl ∙ ap (λ sealed. ticket_by sealed origin path (ticket_value u)) same
  where
    same : is_sealed t.enc_part.etype ≡ is_sealed u.enc_part.etype
    same = ap is_sealed (sym (etype-kept (encrypted_data_value t.enc_part)) ∙ ap (λ (v : Value ticket). v.1.1.1.0.0) e ∙ etype-kept (encrypted_data_value u.enc_part))

    by : (sealed : Bool) → is_sealed t.enc_part.etype ≡ sealed → ticket_by sealed origin path (ticket_value t) ≡ ticket_by sealed origin path (ticket_value u)
    by true is = ap (λ v. printed (ticket_line v)) (sym (ticket-kept (ticket_value t) is) ∙ e ∙ ticket-kept (ticket_value u) (sym same ∙ is))
    by false is = refl

list-alike : (origin : List ℕ) (index : ℕ) (all others : List Ticket) → map (masked ticket names.Ticket) (map ticket_value all) ≡ map (masked ticket names.Ticket) (map ticket_value others) → decoded_tickets origin index all ≡ decoded_tickets origin index others
list-alike origin index [] [] e = refl
list-alike origin index [] (u ∷ others) e = absurd cc
list-alike origin index (t ∷ all) [] e = absurd cc
list-alike origin index (t ∷ all) (u ∷ others) e =
    let same : (masked ticket names.Ticket (ticket_value t) ≡ masked ticket names.Ticket (ticket_value u)) × (map (masked ticket names.Ticket) (map ticket_value all) ≡ map (masked ticket names.Ticket) (map ticket_value others)) = (cc, cc) in
    ap₂ both (tickets-alike origin (element_path (codes "KRB-CRED.tickets") index ++ codes ".enc-part") t u same.0) (list-alike origin (index + 1) all others same.1)

-- ---- messages
abbrev OfKind : Type 0
OfKind = (kind : Kind) × Value (kind_term kind)

-- what is read of the value of a KRB-CRED
abbrev tickets_of : OfKind → List (Value ticket)
tickets_of (kind.KrbCred, value) = value.1.1.0
tickets_of (other, value) = []

abbrev etype_of : OfKind → ℤ
etype_of (kind.KrbCred, value) = value.1.1.1.0.0
etype_of (other, value) = pos 0

module _ (law : UnencryptedChangesNothing) (origin : List ℕ) where
  message-alike : (m n : Message) → masked_in m ≡ masked_in n → decoded_message origin m ≡ decoded_message origin n
  message-alike m n e = by (unencrypted_in m) refl ∙ ap (λ unencrypted. message_by unencrypted origin n) (law.paths m n e)
    where
      by : (unencrypted : Option (List ℕ)) → unencrypted_in m ≡ unencrypted → message_by unencrypted origin m ≡ message_by unencrypted origin n
      by None none = ap (λ text. printed (text ++ 10 ∷ [])) (law.texts m n e none)
      by (Some path) some = refl

  abbrev cred_by : (sealed : Bool) → KrbCred → Added
  cred_by sealed m = if sealed then decoded_message origin (message.KrbCred m) else both (decoded_tickets origin 0 m.tickets) (said (not_encrypted origin (codes "KRB-CRED.enc-part")))

  cred-alike : (m n : KrbCred) → masked_in (message.KrbCred m) ≡ masked_in (message.KrbCred n) → decoded_credentials origin m ≡ decoded_credentials origin n
  cred-alike m n e = by (is_sealed m.enc_part.etype) ∙ ap (λ sealed. cred_by sealed n) same
    where
      same : is_sealed m.enc_part.etype ≡ is_sealed n.enc_part.etype
      same = ap is_sealed (sym (etype-kept (encrypted_data_value m.enc_part)) ∙ ap etype_of e ∙ etype-kept (encrypted_data_value n.enc_part))

      by : (sealed : Bool) → cred_by sealed m ≡ cred_by sealed n
      by true = message-alike (message.KrbCred m) (message.KrbCred n) e
      by false = ap (λ added. both added (said (not_encrypted origin (codes "KRB-CRED.enc-part")))) (list-alike origin 0 m.tickets n.tickets (ap tickets_of e))

  found-alike : (m n : Message) → masked_in m ≡ masked_in n → decoded_found origin m ≡ decoded_found origin n
  found-alike (message.KrbCred m) (message.KrbCred n) e = cred-alike m n e
  found-alike (message.KrbCred m) other e = let same : kind.KrbCred ≡ kind_of other = ap (λ (one : OfKind). one.0) e in absurd cc
  found-alike other (message.KrbCred n) e = let same : kind_of other ≡ kind.KrbCred = ap (λ (one : OfKind). one.0) e in absurd cc
  found-alike m n e = message-alike m n e

-- ---- octets
clean-by : (end : RunEnd) (listed : List ℕ) (added : Added) → end ≡ run.Clean → decoded_by end listed added ≡ accepted added
clean-by end listed added e = ap (λ r. decoded_by r listed added) e

module _ (profile : Profile) where
  -- what is found is not refused
  abbrev IsAccepted : (octets : List ℕ) → Found → Type 0
  IsAccepted octets (IsMessage part) = refusal_of profile part.octets ≡ None
  IsAccepted octets IsTicket = ticket_refusal profile octets ≡ None
  IsAccepted octets other = ⊥

  both-accepted : (one other : List ℕ) (f g : Found) → AreFoundAlike profile one other f g → IsAccepted one f × IsAccepted other g
  both-accepted one other (IsMessage part) (IsMessage second) a = (a.first, a.second)
  both-accepted one other IsTicket IsTicket a = (a.first, a.second)
  both-accepted one other f g a = absurd a

  found-clean : (layered : Layered) (f : Found) → IsAccepted layered.all f → (found_listing (whole_input NamedLines profile) layered f).end ≡ run.Clean
  found-clean layered (IsMessage part) none = ap (λ refusal. (judged_listing (whole_input NamedLines profile) layered part.place part.octets refusal).end) none
  found-clean layered IsTicket none = ap (λ refusal. (ticket_listing (whole_input NamedLines profile) layered refusal).end) none
  found-clean layered other none = absurd none

  octets-clean : (spelling : Spelling) (octets : List ℕ) → length octets < 2 ^ 31 → IsAccepted octets (opened octets).found → (input_octets_listing (whole_input NamedLines profile) spelling octets).end ≡ run.Clean
  unfolding input_octets_listing
  octets-clean spelling octets short none =
      ap (λ long. (if long then too_long_listing (whole_input NamedLines profile) spelling octets else opened_listing (whole_input NamedLines profile) spelling octets (opened octets)).end) (le-ltb 2147483647 (length octets) (omega (arith, short)))
      ∙ found-clean (record { all = octets; spelling = spelling; layers = (opened octets).layers }) (opened octets).found none

  added-found : (octets : List ℕ) → length octets < 2 ^ 31 → decoded_octets profile octets ≡ decoded_under profile octets (opened octets).layers (opened octets).found
  unfolding decoded_octets
  added-found octets short = ap (λ long. if long then nothing else decoded_under profile octets (opened octets).layers (opened octets).found) (le-ltb 2147483647 (length octets) (omega (arith, short)))

  input-clean : (octets made : List ℕ) (is : IsSpelled octets made) → (input_octets_listing (whole_input NamedLines profile) is.spelling made).end ≡ run.Clean → (message_listing (no_label NamedLines) profile octets).end ≡ run.Clean
  unfolding message_listing spelled_in
  input-clean octets made is clean =
      ap (λ long. (if long then unread_listing (whole_input NamedLines profile) faults.Length None else spelled_listing (whole_input NamedLines profile) (spelled octets)).end) (le-ltb input_limit (length octets) is.short)
      ∙ ap (λ spells. (spelled_listing (whole_input NamedLines profile) spells).end) is.spells ∙ clean

  input-decoded : (octets made : List ℕ) → IsSpelled octets made → length made < 2 ^ 31 → IsAccepted made (opened made).found → decoded_input profile octets ≡ accepted (decoded_octets profile made)
  unfolding decoded_input
  input-decoded octets made is short none =
      clean-by (message_listing (no_label NamedLines) profile octets).end (message_listing (no_label NamedLines) profile octets).text (decoded_spelled profile (spelled octets)) (input-clean octets made is (octets-clean is.spelling made short none))
      ∙ ap (λ spells. accepted (decoded_spelled profile spells)) is.spells

  given-decoded : (octets : List ℕ) → length octets < 2 ^ 31 → IsAccepted octets (opened octets).found → decoded_given profile octets ≡ accepted (decoded_octets profile octets)
  unfolding decoded_given
  given-decoded octets short none =
      clean-by (octets_listing NamedLines profile octets).end (octets_listing NamedLines profile octets).text (decoded_octets profile octets) (octets-clean Octets octets short none)

module _ (law : UnencryptedChangesNothing) (profile : Profile) where
  under-alike : (one other : List ℕ) (layers : List Layer) (f g : Found) → AreFoundAlike profile one other f g → decoded_under profile one layers f ≡ decoded_under profile other layers g
  under-alike one other layers (IsMessage part) (IsMessage second) a =
      ap (λ refusal. judged refusal (decoded_found (origin_text layers) (message_of_der part.octets))) a.first
      ∙ found-alike law (origin_text layers) (message_of_der part.octets) (message_of_der second.octets) a.alike
      ∙ ap (λ refusal. judged refusal (decoded_found (origin_text layers) (message_of_der second.octets))) (sym a.second)
  under-alike one other layers IsTicket IsTicket a =
      ap (λ refusal. judged refusal (decoded_ticket [] (codes "Ticket.enc-part") (ticket_of_der one))) a.first
      ∙ tickets-alike [] (codes "Ticket.enc-part") (ticket_of_der one) (ticket_of_der other) a.alike
      ∙ ap (λ refusal. judged refusal (decoded_ticket [] (codes "Ticket.enc-part") (ticket_of_der other))) (sym a.second)
  under-alike one other layers f g a = absurd a

  octets-alike : (one other : List ℕ) → AreAlike profile one other → decoded_octets profile one ≡ decoded_octets profile other
  octets-alike one other a =
      added-found profile one a.first_short
      ∙ under-alike one other (opened one).layers (opened one).found (opened other).found a.found
      ∙ ap (λ layers. decoded_under profile other layers (opened other).found) a.layers
      ∙ sym (added-found profile other a.second_short)

  given-alike : (one other : List ℕ) → AreAlike profile one other → decoded_given profile one ≡ decoded_given profile other
  given-alike one other a =
      let none = both-accepted profile one other (opened one).found (opened other).found a.found in
      given-decoded profile one a.first_short none.0 ∙ ap accepted (octets-alike one other a) ∙ sym (given-decoded profile other a.second_short none.1)

  input-alike : (one other first second : List ℕ) → AreAlike profile one other → IsSpelled first one → IsSpelled second other → decoded_input profile first ≡ decoded_input profile second
  input-alike one other first second a is also =
      let none = both-accepted profile one other (opened one).found (opened other).found a.found in
      input-decoded profile first one is a.first_short none.0 ∙ ap accepted (octets-alike one other a) ∙ sym (input-decoded profile second other also a.second_short none.1)

pub inputs_are_decoded_alike : UnencryptedChangesNothing → InputsAreDecodedAlike
inputs_are_decoded_alike law = record {
  of_input = λ profile one other input second a is also. input-alike law profile one other input second a is also;
  of_octets = λ profile one other a. given-alike law profile one other a;
}
