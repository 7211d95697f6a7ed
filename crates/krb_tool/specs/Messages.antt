-- The record of one message, by the input that spells its octets.
use Rattle.std.specs.Prelude.{ℕ, ◌+◌, ◌≡◌, nat_lt, if◌then◌else◌, List, [], ◌++◌, length, Option, Some, None, Result, Ok, Err}
use Rattle.krb_der.specs.declared.profile.Profile.{Profile}
use Rattle.krb_der.specs.declared.verdict.Refusal.{Refusal}
use Rattle.krb_der.specs.declared.why.Why.TheVariants.{TooLong}
use Rattle.krb_input.specs.Inputs.{line_spelled, spelled}
use Rattle.krb_source.specs.declared.spelling.Spelling.{Spelling}
use Rattle.krb_source.specs.declared.spelling.Spelling.TheVariants.{Octets}
use Rattle.krb_msg.specs.Grammar.{ticket}
use Rattle.krb_msg.specs.Types.{ticket_of}
use Rattle.krb_msg.specs.ValueOfDer.{value_of_der}
use Rattle.krb_msg.specs.Views.{message_of_der}
use Rattle.krb_msg.specs.declared.ticket.Ticket.{Ticket}
use Rattle.krb_judge.specs.Parses.{refusal_of, ticket_refusal}
use Rattle.krb_record.specs.Origins.{message_origin}
use Rattle.krb_text.specs.Messages.{shown_record, ticket_record}
use Rattle.krb_record.specs.Inputs.{input_refused_record}
use Rattle.krb_record.specs.Labels.{Label, line_of, no_label}
use Rattle.krb_record.specs.Forms.{record_line}
use Rattle.krb_record.specs.Refusals.{message_refused_record}
use Rattle.krb_record.specs.Values.{Field, Printed, with_origin}
use Rattle.krb_record.specs.declared.extent.Extent.{Extent}
use Rattle.krb_record.specs.declared.form.Form.{Form}
use Rattle.krb_record.specs.declared.input.InputFault.{InputFault}
use Rattle.krb_record.specs.declared.input.InputFault.TheVariants as faults
use Rattle.krb_token.specs.Opened.{Found, Message, Ticket as IsTicket, Ntlm, Refused, Opened}
use Rattle.krb_token.specs.Tokens.{opened}
use Rattle.krb_source.specs.declared.layer.Layer.{Layer}
use Rattle.krb_run.specs.Files.{FileListing}
use Rattle.krb_tool.specs.Paths.{refused_path, ticket_refused_path}
use Rattle.krb_tool.specs.declared.message_input.Layered.{Layered as LayeredOctets}
use Rattle.krb_tool.specs.declared.message_input.MessageInput.{MessageInput}
use Rattle.krb_run.specs.declared.run.RunEnd.{RunEnd}
use Rattle.krb_run.specs.declared.run.RunEnd.TheVariants as run

-- one record, and how the run ends that lists it: a refusal has none before it
pub record OneRecord : Type 0 where
  pub shown : Printed
  pub end : RunEnd

abbrev pub clean_with : List Field → Printed → OneRecord
clean_with origin r = record { shown = with_origin origin r; end = run.Clean }

abbrev pub refused_with : List Field → Printed → OneRecord
refused_with origin r = record { shown = with_origin origin r; end = run.RefusedAtOnce }

-- what is written of it with a label
abbrev pub listing_with : Label → OneRecord → FileListing
listing_with label one = record { text = line_of label one.shown; end = one.end }

-- ---- the octets that an input spells, with the layers of them that are opened
pub record Layered : Type 0 where
  pub all : List ℕ
  pub spelling : Spelling
  pub layers : List Layer

abbrev pub layered_of : LayeredOctets → Layered
layered_of octets = record { all = octets.all.now; spelling = octets.spelling; layers = octets.layers.now }

-- octets lie in their input, and are so many
abbrev pub extent_of : MessageInput → List ℕ → Extent
extent_of input octets = record { at = input.at; length = Some (length octets) }

-- an octet is at fault
abbrev pub refused_listing : MessageInput → Layered → Refusal → (path : Option (List ℕ)) → OneRecord
refused_listing input layered refusal path =
    refused_with (message_origin input.line layered.layers) (message_refused_record input.form refusal path (extent_of input layered.all) layered.spelling)

-- octets that are judged as a message, of which the first is at a place
abbrev pub judged_listing : MessageInput → Layered → (place : ℕ) → List ℕ → Option Refusal → OneRecord
judged_listing input layered place octets None = clean_with (message_origin input.line layered.layers) (shown_record input.form (message_of_der octets))
judged_listing input layered place octets (Some refusal) =
    refused_listing input layered (record { place = place + refusal.place; why = refusal.why }) (refused_path input.profile octets refusal)

-- the Ticket whose DER octets are
abbrev pub ticket_of_der : List ℕ → Ticket
ticket_of_der octets = ticket_of (value_of_der ticket octets)

-- octets that are judged as a Ticket
abbrev pub ticket_listing : MessageInput → Layered → Option Refusal → OneRecord
ticket_listing input layered None = clean_with (message_origin input.line layered.layers) (ticket_record (ticket_of_der layered.all))
ticket_listing input layered (Some refusal) = refused_listing input layered refusal (ticket_refused_path input.profile layered.all refusal)

-- a message of NTLM, whose first octet is at a place
abbrev pub ntlm_listing : MessageInput → Layered → (place : ℕ) → OneRecord
ntlm_listing input layered place =
    refused_with (message_origin input.line layered.layers) (input_refused_record input.form faults.Ntlm (Some place) (extent_of input layered.all) (Some layered.spelling))

-- what is found in the last layer
abbrev pub found_listing : MessageInput → Layered → Found → OneRecord
found_listing input layered (Message part) = judged_listing input layered part.place part.octets (refusal_of input.profile part.octets)
found_listing input layered IsTicket = ticket_listing input layered (ticket_refusal input.profile layered.all)
found_listing input layered (Ntlm place) = ntlm_listing input layered place
found_listing input layered (Refused fault) = refused_listing input layered (record { place = fault.place; why = fault.why }) fault.path

-- octets that no layer of is opened
abbrev pub by_itself : Spelling → List ℕ → Layered
by_itself spelling octets = record { all = octets; spelling = spelling; layers = [] }

-- more octets than a frame may have are not opened
abbrev pub too_long_listing : MessageInput → Spelling → List ℕ → OneRecord
too_long_listing input spelling octets = refused_listing input (by_itself spelling octets) (record { place = 0; why = TooLong }) None

abbrev pub opened_listing : MessageInput → Spelling → List ℕ → Opened → OneRecord
opened_listing input spelling octets o = found_listing input (record { all = octets; spelling = spelling; layers = o.layers }) o.found

-- the record of the message that octets are, or that lies in the layers of a token, or of why there is none
unfoldable pub input_octets_listing : MessageInput → Spelling → List ℕ → OneRecord
input_octets_listing input spelling octets =
    if nat_lt 2147483647 (length octets) then too_long_listing input spelling octets else opened_listing input spelling octets (opened octets)

-- ---- the input

-- no octets are made of it
abbrev pub unread_listing : MessageInput → InputFault → (place : Option ℕ) → OneRecord
unread_listing input fault place = refused_with (message_origin input.line []) (input_refused_record input.form fault place (record { at = input.at; length = None }) None)

abbrev pub spelled_listing : MessageInput → Result (Spelling × List ℕ) (Spelling × ℕ) → OneRecord
spelled_listing input (Ok made) = input_octets_listing input made.0 made.1
spelled_listing input (Err fault) = unread_listing input (faults.Misspelled fault.0) (Some fault.1)

-- how many octets an input may have
abbrev pub input_limit : ℕ
input_limit = 16777216

-- what it spells: one line of several is read as a line
unfoldable pub spelled_in : (line : Option ℕ) → List ℕ → Result (Spelling × List ℕ) (Spelling × ℕ)
spelled_in None octets = spelled octets
spelled_in (Some line) octets = line_spelled octets

-- its length decides first, then what it spells, and then what these octets are
abbrev pub input_listing : MessageInput → List ℕ → OneRecord
input_listing input octets =
    if nat_lt input_limit (length octets) then unread_listing input faults.Length None else spelled_listing input (spelled_in input.line octets)

-- an input that is all of a source
abbrev pub whole_input : Form → Profile → MessageInput
whole_input form profile = record { form = form; profile = profile; line = None; at = 0 }

-- octets that are not read as text
abbrev pub octets_listing : Form → Profile → List ℕ → FileListing
octets_listing form profile octets = listing_with (no_label form) (input_octets_listing (whole_input form profile) Octets octets)

unfoldable pub message_listing : Label → Profile → List ℕ → FileListing
message_listing label profile input = listing_with label (input_listing (whole_input label.form profile) input)

abbrev pub IsMessageListing : Label → Profile → List ℕ → FileListing → Type 0
IsMessageListing label profile input listing = listing ≡ message_listing label profile input

-- ---- what is appended to a text in a form, and how a run of it ends
abbrev pub Puts : Form → List ℕ → List ℕ → OneRecord → RunEnd → Type 0
Puts form old new one ended = (new ≡ old ++ record_line form one.shown) × (ended ≡ one.end)
