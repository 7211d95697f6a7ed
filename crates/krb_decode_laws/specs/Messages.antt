-- Messages, which are sealed if nothing in them is of encryption type 0, how streams of them are listed, and the law of the text of a Ticket by itself, which is the contract of a function of the module `tickets`.
use Rattle.std.specs.Prelude.{ℕ, Bool, true, false, List, Option, Some, None, ◌≡◌, ◌≤◌, ◌<◌, ◌^◌, ◌++◌, length}
use Rattle.std.specs.List.{flat_map}
use Rattle.json.specs.Json.{document}
use Rattle.json.specs.Strict.{HasUniqueKeys}
use Rattle.krb_convert.specs.Encoding.{All, encoded}
use Rattle.krb_der.specs.Octets.{AreOctets}
use Rattle.krb_der.specs.declared.profile.Profile.{Profile}
use Rattle.krb_der.specs.declared.profile.Profile.TheVariants.{Lenient}
use Rattle.krb_frame.specs.Frame.{framed}
use Rattle.krb_json.specs.Tickets.{ticket_json, ticket_text}
use Rattle.krb_json.specs.Unencrypted.{unencrypted_in}
use Rattle.krb_judge.specs.Parses.{ticket_refusal}
use Rattle.krb_msg.specs.Grammar.{ticket}
use Rattle.krb_msg.specs.Term.{Fits, Value, der}
use Rattle.krb_msg.specs.Types.{ticket_value}
use Rattle.krb_msg.specs.Views.{message_der}
use Rattle.krb_msg.specs.declared.message.Message.{Message}
use Rattle.krb_msg.specs.Stream.{Boundary}
use Rattle.krb_record.specs.Labels.{Label, line_of}
use Rattle.krb_record.specs.Streams.{stream_end_record}
use Rattle.krb_record.specs.Text.{IsPrintable}
use Rattle.krb_tool.specs.GoingOn.{IsCountedListing, counted_end_line, refused_in}
use Rattle.krb_tool.specs.Listing.{IsListing, end_of, message_line}
use Rattle.krb_tool.specs.Messages.{ticket_of_der}
use Rattle.krb_decode.specs.Decoded.{ticket_line}

-- ---- messages
abbrev pub is_sealed_by : (unencrypted : Option (List ℕ)) → Bool
is_sealed_by None = true
is_sealed_by (Some path) = false

abbrev pub is_sealed : Message → Bool
is_sealed m = is_sealed_by (unencrypted_in m)

-- a stream of them: each in a frame
abbrev pub frames_of : List Message → List ℕ
frames_of all = flat_map (λ m. framed (message_der m)) all

-- Octets are listed as these messages alone: by the record of each, in order, and that of the end, with how many they are. Nothing is refused, whether the listing goes on after refusals or not.
pub record AreListedAs (profile : Profile) (limit : ℕ) (all : List Message) (octets : List ℕ) : Type 0 where
  pub end : end_of profile limit octets ≡ Boundary
  pub listed : (label : Label) (text : List ℕ) → IsListing label profile limit octets text → text ≡ flat_map (message_line label) all ++ line_of label (stream_end_record (length all))
  pub goes_on : (label : Label) (text : List ℕ) (listing : IsCountedListing label profile limit octets text) → (text ≡ flat_map (message_line label) all ++ counted_end_line label (length all) 0) × (refused_in listing.found ≡ 0)

-- ---- Tickets
-- The text of a Ticket is its JSON: printable ASCII, and no object of it has a name twice. Its line is encoded to its octets.
pub record IsTicketText (value : Value ticket) : Type 0 where
  pub document_is : document (ticket_text value) ≡ Some (ticket_json value)
  pub unique : HasUniqueKeys (ticket_json value)
  pub printable : IsPrintable (ticket_text value)
  pub back : (limit : ℕ) → length (der ticket value) ≤ limit → encoded false Lenient limit (ticket_line value) ≡ record { text = der ticket value; end = All }

-- the value of the Ticket whose DER octets are
abbrev pub value_in : List ℕ → Value ticket
value_in octets = ticket_value (ticket_of_der octets)

-- Each Ticket has such a text, and octets that are one are those of its value.
pub record TicketsComeBack : Type 0 where
  pub values : (value : Value ticket) → Fits ticket value → length (der ticket value) < 2 ^ 31 → IsTicketText value
  pub octets : (profile : Profile) (octets : List ℕ) → AreOctets octets → ticket_refusal profile octets ≡ None → (der ticket (value_in octets) ≡ octets) × IsTicketText (value_in octets)
