-- What is decoded of a message, a Ticket or a token that an input spells: the lines that are written, and those that are said.
use Rattle.std.specs.Prelude.{ℕ, ℤ, ◌+◌, not, nat_lt, if◌then◌else◌, Bool, List, [], ◌∷◌, ◌++◌, length, codes, Option, Some, None, Result, Ok, Err}
use Rattle.krb_der.specs.declared.profile.Profile.{Profile}
use Rattle.krb_der.specs.declared.verdict.Refusal.{Refusal}
use Rattle.krb_input.specs.Inputs.{spelled}
use Rattle.krb_source.specs.declared.layer.Layer.{Layer}
use Rattle.krb_source.specs.declared.spelling.Spelling.{Spelling}
use Rattle.krb_msg.specs.Grammar.{ticket}
use Rattle.krb_msg.specs.Term.{Value}
use Rattle.krb_msg.specs.Types.{ticket_value}
use Rattle.krb_msg.specs.Views.{message_of_der}
use Rattle.krb_msg.specs.declared.krb_cred.KrbCred.{KrbCred}
use Rattle.krb_msg.specs.declared.message.Message.{Message}
use Rattle.krb_msg.specs.declared.message.Message.TheVariants as message
use Rattle.krb_msg.specs.declared.ticket.Ticket.{Ticket}
use Rattle.krb_judge.specs.Parses.{refusal_of, ticket_refusal}
use Rattle.krb_judge.specs.Paths.{element_path}
use Rattle.krb_json.specs.Lines.{line_of}
use Rattle.krb_json.specs.Tickets.{ticket_text}
use Rattle.krb_json.specs.Unencrypted.{is_zero_number, unencrypted_in}
use Rattle.krb_record.specs.Forms.{heading}
use Rattle.krb_record.specs.Labels.{no_label}
use Rattle.krb_record.specs.Origins.{message_origin}
use Rattle.krb_record.specs.declared.form.Form.TheVariants as form
use Rattle.krb_run.specs.declared.run.RunEnd.{RunEnd}
use Rattle.krb_run.specs.declared.run.RunEnd.TheVariants as run
use Rattle.krb_token.specs.Opened.{Found, Message as IsMessage, Ticket as IsTicket, Ntlm, Refused}
use Rattle.krb_token.specs.Tokens.{opened}
use Rattle.krb_tool.specs.Messages.{message_listing, ticket_of_der}

-- lines of messages, lines of what is left out, and how the run ends
pub record Decoded : Type 0 where
  pub lines : List ℕ
  pub said : List ℕ
  pub end : RunEnd

-- ---- lines
pub record Added : Type 0 where
  pub lines : List ℕ
  pub said : List ℕ

abbrev pub nothing : Added
nothing = record { lines = []; said = [] }

abbrev pub printed : List ℕ → Added
printed line = record { lines = line; said = [] }

abbrev pub said : List ℕ → Added
said line = record { lines = []; said = line }

-- one, and then another
abbrev pub both : Added → Added → Added
both one other = record { lines = one.lines ++ other.lines; said = one.said ++ other.said }

-- an EncryptedData of encryption type 0 is not encrypted
abbrev pub is_sealed : ℤ → Bool
is_sealed etype = not (is_zero_number etype)

abbrev pub not_encrypted : (origin path : List ℕ) → List ℕ
not_encrypted origin path = origin ++ path ++ codes ": not encrypted, and so not printed\n"

-- ---- messages and Tickets
-- a message, or the path of the first EncryptedData in it that is not encrypted
abbrev pub message_by : (unencrypted : Option (List ℕ)) → (origin : List ℕ) → Message → Added
message_by None origin m = printed (line_of m)
message_by (Some path) origin m = said (not_encrypted origin path)

abbrev pub decoded_message : (origin : List ℕ) → Message → Added
decoded_message origin m = message_by (unencrypted_in m) origin m

abbrev pub ticket_line : Value ticket → List ℕ
ticket_line value = ticket_text value ++ 10 ∷ []

-- a Ticket, by the path of its EncryptedData
abbrev pub decoded_ticket : (origin path : List ℕ) → Ticket → Added
decoded_ticket origin path t = if is_sealed t.enc_part.etype then printed (ticket_line (ticket_value t)) else said (not_encrypted origin path)

-- the tickets of a KRB-CRED, of which the first has an index
abbrev pub decoded_tickets : (origin : List ℕ) → (index : ℕ) → List Ticket → Added
decoded_tickets origin index [] = nothing
decoded_tickets origin index (t ∷ tickets) =
    both (decoded_ticket origin (element_path (codes "KRB-CRED.tickets") index ++ codes ".enc-part") t) (decoded_tickets origin (index + 1) tickets)

-- a KRB-CRED whose EncryptedData is not encrypted is taken apart: that has session keys, and is left out
abbrev pub decoded_credentials : (origin : List ℕ) → KrbCred → Added
decoded_credentials origin m =
    if is_sealed m.enc_part.etype then decoded_message origin (message.KrbCred m)
    else both (decoded_tickets origin 0 m.tickets) (said (not_encrypted origin (codes "KRB-CRED.enc-part")))

abbrev pub decoded_found : (origin : List ℕ) → Message → Added
decoded_found origin (message.KrbCred m) = decoded_credentials origin m
decoded_found origin m = decoded_message origin m

-- ---- what octets are
-- what a line has before the rest that says what a message lies in: `via=GSS `
abbrev pub origin_text : List Layer → List ℕ
origin_text layers = heading form.NamedLines (message_origin None layers) []

-- nothing is decoded of what is refused
abbrev pub judged : Option Refusal → Added → Added
judged None added = added
judged (Some refusal) added = nothing

-- octets that are judged as a message, in layers, and those that are judged as a Ticket
abbrev pub decoded_part : Profile → List Layer → List ℕ → Added
decoded_part profile layers octets = judged (refusal_of profile octets) (decoded_found (origin_text layers) (message_of_der octets))

abbrev pub decoded_lone : Profile → List ℕ → Added
decoded_lone profile octets = judged (ticket_refusal profile octets) (decoded_ticket [] (codes "Ticket.enc-part") (ticket_of_der octets))

-- what is found in octets, under layers
abbrev pub decoded_under : Profile → List ℕ → List Layer → Found → Added
decoded_under profile octets layers (IsMessage part) = decoded_part profile layers part.octets
decoded_under profile octets layers IsTicket = decoded_lone profile octets
decoded_under profile octets layers (Ntlm place) = nothing
decoded_under profile octets layers (Refused fault) = nothing

-- the message or the Ticket that octets are, or that lies in the layers of a token
unfoldable pub decoded_octets : Profile → List ℕ → Added
decoded_octets profile octets = if nat_lt 2147483647 (length octets) then nothing else decoded_under profile octets (opened octets).layers (opened octets).found

-- ---- an input
abbrev pub decoded_spelled : Profile → Result (Spelling × List ℕ) (Spelling × ℕ) → Added
decoded_spelled profile (Ok made) = decoded_octets profile made.1
decoded_spelled profile (Err fault) = nothing

-- a run is clean if nothing is said
abbrev pub end_of : (said : List ℕ) → RunEnd
end_of [] = run.Clean
end_of (octet ∷ said) = run.Refused

abbrev pub accepted : Added → Decoded
accepted added = record { lines = added.lines; said = added.said; end = end_of added.said }

abbrev pub refused : (listed : List ℕ) → Decoded
refused listed = record { lines = []; said = listed; end = run.RefusedAtOnce }

-- What is refused is said as it is listed, and what is not is decoded.
abbrev pub decoded_by : RunEnd → (listed : List ℕ) → Added → Decoded
decoded_by run.Clean listed added = accepted added
decoded_by run.Refused listed added = refused listed
decoded_by run.RefusedAtOnce listed added = refused listed

unfoldable pub decoded_input : Profile → List ℕ → Decoded
decoded_input profile input =
    let listing = message_listing (no_label form.NamedLines) profile input in decoded_by listing.end listing.text (decoded_spelled profile (spelled input))
