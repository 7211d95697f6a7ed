-- The laws of what is decoded of a stream that goes on after what is refused. Each is the contract of a function of the module `streams`.
use Rattle.std.specs.Prelude.{ℕ, ◌+◌, ◌≡◌, true, List, [], ◌∷◌, ◌++◌, length, Some}
use Rattle.std.specs.List.{AllByRecursion, Contains, filter, flat_map}
use Rattle.krb_convert.specs.Decoding.{All, decoded}
use Rattle.krb_convert.specs.Encoding as encoding
use Rattle.krb_convert.specs.Encoding.{encoded}
use Rattle.krb_convert.specs.Laws.{AreAlike}
use Rattle.krb_der.specs.declared.profile.Profile.{Profile}
use Rattle.krb_frame.specs.Frame.{framed}
use Rattle.krb_frame.specs.GoingOn.{entry_size}
use Rattle.krb_json.specs.Lines.{line_of}
use Rattle.krb_json.specs.Unencrypted.{unencrypted_in}
use Rattle.krb_msg.specs.Views.{message_der}
use Rattle.krb_msg.specs.declared.message.Message.{Message}
use Rattle.krb_run.specs.declared.run.RunEnd.TheVariants as run
use Rattle.krb_tool.specs.GoingOn.{Faulty, Listed, Whole, counted_run_end, entry_of, is_refused_at_once, messages_in, refused_in, refused_line}
use Rattle.krb_tool.specs.Paths.{frame_extent, frame_path}
use Rattle.krb_tool_laws.specs.Listings.{AreRead}
use Rattle.krb_decode.specs.Decoded.{not_encrypted}
use Rattle.krb_decode.specs.Sorted.{is_any, lines_after, message_lines, sorted_end, told_lines}
use Rattle.krb_decode.specs.Streams.{IsDecoded, message_opening, named}
use Rattle.krb_decode_laws.specs.Captures.{AreDecodedLines}
use Rattle.krb_decode_laws.specs.Messages.{AreListedAs, frames_of, is_sealed}

-- ---- what is decoded is the listing
-- the messages of frames, in order
abbrev pub whole_in : List Listed → List Message
whole_in [] = []
whole_in (Whole m ∷ others) = m ∷ whole_in others
whole_in (Faulty place reason prefix ∷ others) = whole_in others

-- Of frames, after so many messages and octets, each refused one has a line that is told, and so has each message that is not sealed.
abbrev pub OthersAreTold : Profile → (text : List ℕ) → (before offset : ℕ) → List Listed → Type 0
OthersAreTold profile text before offset [] = Unit {0}
OthersAreTold profile text before offset (Whole m ∷ others) =
    ((path : List ℕ) → unencrypted_in m ≡ Some path → Contains (told_lines text) (not_encrypted (message_opening (before + 1)) path)) × OthersAreTold profile text (before + 1) (offset + entry_size (entry_of (Whole m))) others
OthersAreTold profile text before offset (Faulty place reason prefix ∷ others) =
    Contains (told_lines text) (refused_line named before place reason (frame_path profile prefix) (frame_extent offset prefix)) × OthersAreTold profile text before (offset + entry_size (entry_of (Faulty place reason prefix))) others

-- Each sealed message has its line, in order, and each other frame one that is told.
pub record IsTheListing (profile : Profile) (limit : ℕ) (stream text : List ℕ) (decoding : IsDecoded profile limit stream text) : Type 0 where
  pub messages : message_lines text ≡ flat_map line_of (filter is_sealed (whole_in decoding.found))
  pub others : OthersAreTold profile text 0 0 decoding.found

abbrev pub DecodedIsTheListing : Type 0
DecodedIsTheListing = (profile : Profile) (limit : ℕ) (stream text : List ℕ) → AreRead stream → (decoding : IsDecoded profile limit stream text) → IsTheListing profile limit stream text decoding

-- ---- back again
-- Its lines are encoded to a stream of the sealed messages, by the same profile and limit.
abbrev pub StreamsComeBack : Type 0
StreamsComeBack =
    (profile : Profile) (limit : ℕ) (stream text : List ℕ) → AreRead stream → (decoding : IsDecoded profile limit stream text)
    → encoded true profile limit (message_lines text) ≡ record { text = frames_of (filter is_sealed (whole_in decoding.found)); end = encoding.All }

-- What is encoded of them is listed as these messages.
abbrev pub StreamsAreListedAgain : Type 0
StreamsAreListedAgain =
    (profile : Profile) (limit : ℕ) (stream text : List ℕ) → AreRead stream → (decoding : IsDecoded profile limit stream text)
    → AreListedAs profile limit (filter is_sealed (whole_in decoding.found)) (encoded true profile limit (message_lines text)).text

-- ---- how it ends
-- A run ends clean if nothing is told, and only then; and then there are as many lines as messages.
pub record EndsAsTold (profile : Profile) (limit : ℕ) (stream text : List ℕ) (decoding : IsDecoded profile limit stream text) : Type 0 where
  pub clean : told_lines text ≡ [] → sorted_end (counted_run_end (is_refused_at_once decoding.found) (refused_in decoding.found)) (is_any (told_lines text)) ≡ run.Clean
  pub silent : sorted_end (counted_run_end (is_refused_at_once decoding.found) (refused_in decoding.found)) (is_any (told_lines text)) ≡ run.Clean → told_lines text ≡ []
  pub counted : told_lines text ≡ [] → messages_in decoding.found ≡ length (lines_after [] (message_lines text))

abbrev pub StreamsEndAsTold : Type 0
StreamsEndAsTold = (profile : Profile) (limit : ℕ) (stream text : List ℕ) → AreRead stream → (decoding : IsDecoded profile limit stream text) → EndsAsTold profile limit stream text decoding

-- If nothing is told of a stream that goes on, all of it is decoded, to the same text, where a refusal ends it.
abbrev pub GoingOnChangesNothing : Type 0
GoingOnChangesNothing = (profile : Profile) (limit : ℕ) (stream text : List ℕ) → AreRead stream → IsDecoded profile limit stream text → told_lines text ≡ [] → decoded profile limit stream ≡ record { text = text; end = All }

-- ---- lines
abbrev pub DecodedIsLines : Type 0
DecodedIsLines = (profile : Profile) (limit : ℕ) (stream text : List ℕ) → AreRead stream → IsDecoded profile limit stream text → AreDecodedLines text

-- ---- what is not encrypted is not decoded
-- Streams whose first frames are messages that differ in nothing else, and that go on alike, are decoded alike.
abbrev pub StreamsAreDecodedAlike : Type 0
StreamsAreDecodedAlike =
    (profile : Profile) (limit : ℕ) (pairs : List (Message × Message)) (rest text other : List ℕ) → AllByRecursion (AreAlike profile limit) pairs
    → IsDecoded profile limit (flat_map (λ p. framed (message_der p.0)) pairs ++ rest) text → IsDecoded profile limit (flat_map (λ p. framed (message_der p.1)) pairs ++ rest) other → text ≡ other
