-- The lines of the messages of a stream, up to its end, to what is refused, or to a message with something that is not encrypted.
use Rattle.std.specs.Prelude.{ℕ, ◌+◌, ◌≡◌, ◌≤◌, ◌<◌, nat_lt, List, [], ◌∷◌, length, Option, Some, None, string_bytes}
use Rattle.std.specs.Io.KnownBytes.{Consumes, IsAtEnd}
use Rattle.std.specs.Option.{option_map}
use Rattle.krb_der.specs.Octets.{when}
use Rattle.krb_der.specs.declared.profile.Profile.{Profile}
use Rattle.krb_der.specs.declared.verdict.Refusal.{Refusal}
use Rattle.krb_der.specs.declared.why.Why.TheVariants.{Truncated, TooLong}
use Rattle.krb_msg.specs.Grammar.{messages}
use Rattle.krb_msg.specs.Stream.{End, Boundary, Within, Refused, Frames, frames}
use Rattle.krb_msg.specs.Views.{message_of_der}
use Rattle.krb_judge.specs.Parses.{refusal_of}
use Rattle.krb_json.specs.Lines.{line_of}
use Rattle.krb_json.specs.Unencrypted.{unencrypted_in}
use Rattle.krb_run.specs.Conversions.{Converted, after_text, Converts, FailsToConvert}
use Rattle.krb_run.specs.Files.{WritesNothing}
use Rattle.krb_run.specs.Runs.{WritesPrefix}
use Rattle.krb_run.specs.declared.run.RunFault.{RunFault}
use Rattle.krb_run.specs.declared.run.RunFault.TheVariants as fault
use Rattle.krb_tool.specs.Listing.{IsNotRefused}
use Rattle.krb_tool.specs.Paths.{found_path, refused_path}
use Rattle.krb_convert.specs.declared.decode_run.DecodeEnd.{DecodeEnd}
use Rattle.krb_convert.specs.declared.decode_run.DecodeEnd.TheVariants as ends

-- How a decoding ends: all is decoded; something is refused after a number of messages, with the path of the field at fault; or a message, by its number from 1, is not encrypted at a path.
pub data Ending : Type 0 where
  All : Ending
  Refusing : (messages : ℕ) → Refusal → (path : Option (List ℕ)) → Ending
  Unencrypted : (message : ℕ) → (path : List ℕ) → Ending

abbrev pub ending_of : DecodeEnd → Ending
ending_of ends.Clean = All
ending_of (ends.Refused messages refusal path) = Refusing messages refusal (option_map string_bytes path)
ending_of (ends.Unencrypted message path) = Unencrypted message (string_bytes path)

-- by the end of a stream, after a number of messages
abbrev pub ending_at : (messages : ℕ) → End → (path : Option (List ℕ)) → Ending
ending_at count Boundary path = All
ending_at count (Within present) path = Refusing count (record { place = present; why = Truncated }) path
ending_at count (Refused place why) path = Refusing count (record { place = place; why = why }) path

-- ---- the lines
-- before others, the line of the message that octets are, or, if it is not encrypted at a path, no line more
abbrev pub line_and : (number : ℕ) → List ℕ → (unencrypted : Option (List ℕ)) → Converted Ending → Converted Ending
line_and number octets None others = after_text (line_of (message_of_der octets)) others
line_and number octets (Some path) others = record { text = []; end = Unencrypted number path }

-- of the contents of frames, after a number of messages, and of how the stream ends
abbrev pub lines_after : (before : ℕ) → (contents : List (List ℕ)) → Ending → Converted Ending
lines_after before [] end = record { text = []; end = end }
lines_after before (octets ∷ contents) end = line_and (before + 1) octets (unencrypted_in (message_of_der octets)) (lines_after (before + 1) contents end)

abbrev pub frames_decoded : Profile → Frames → (stream : List ℕ) → Converted Ending
frames_decoded profile found stream = lines_after 0 found.contents (ending_at (length found.contents) found.end (found_path profile found stream))

-- of a stream by a profile, with frames of at most n octets
unfoldable pub decoded : Profile → (limit : ℕ) → (stream : List ℕ) → Converted Ending
decoded profile limit stream = frames_decoded profile (frames (messages profile) limit stream) stream

-- ---- all of a source is one message
abbrev pub message_decoded : Profile → List ℕ → Option Refusal → Converted Ending
message_decoded profile octets None = line_and 1 octets (unencrypted_in (message_of_der octets)) (record { text = []; end = All })
message_decoded profile octets (Some refusal) = record { text = []; end = Refusing 0 refusal (refused_path profile octets refusal) }

-- of octets that are at most n
unfoldable pub decoded_whole : Profile → (limit : ℕ) → List ℕ → Converted Ending
decoded_whole profile limit octets =
    when (nat_lt limit (length octets)) (λ _. record { text = []; end = Refusing 0 (record { place = 0; why = TooLong }) None })
    (λ _. message_decoded profile octets (refusal_of profile octets))

-- ---- what a run does
-- all octets that a reader had were read, or so many if it had more
pub record ReadsMost (had left : Option (List ℕ)) (most : ℕ) (octets : List ℕ) : Type 0 where
  pub taken : Consumes had left octets
  pub few : length octets ≤ most
  pub ended : length octets < most → IsAtEnd left

abbrev pub AllAreEncrypted : (contents : List (List ℕ)) → Type 0
AllAreEncrypted [] = Unit {0}
AllAreEncrypted (octets ∷ contents) = (unencrypted_in (message_of_der octets) ≡ None) × AllAreEncrypted contents

-- nothing is refused, and no message is unencrypted
pub record GoesOn (profile : Profile) (limit : ℕ) (stream : List ℕ) : Type 0 where
  pub accepted : IsNotRefused (frames (messages profile) limit stream).end
  pub encrypted : AllAreEncrypted (frames (messages profile) limit stream).contents

abbrev pub Decodes : Profile → ℕ → (had left written_before written_after : Option (List ℕ)) → DecodeEnd → Type 0
Decodes profile limit had left written_before written_after ended = Converts (decoded profile limit) (GoesOn profile limit) had left written_before written_after (ending_of ended)

-- If a read fails, the lines are written of all messages in what was read.
abbrev pub FailsToDecode : Profile → ℕ → (had left written_before written_after : Option (List ℕ)) → RunFault → Type 0
FailsToDecode profile limit had left written_before written_after failed = FailsToConvert (λ read. (decoded profile limit read).text) (λ read. (decoded profile limit read).text) had left written_before written_after failed

-- all is read, or one octet more than a message may have
pub record DecodesWhole (profile : Profile) (limit : ℕ) (had left written_before written_after : Option (List ℕ)) (ended : DecodeEnd) : Type 0 where
  pub converts : Converts (decoded_whole profile limit) (λ read. length read ≤ limit) had left written_before written_after (ending_of ended)
  pub few : length converts.read ≤ limit + 1

-- If it fails by a write, a prefix of the line is written, and else nothing.
abbrev pub FailsToDecodeWhole : Profile → ℕ → (had left written_before written_after : Option (List ℕ)) → RunFault → Type 0
FailsToDecodeWhole profile limit had left written_before written_after (fault.Write error) = WritesPrefix (λ read text. text ≡ (decoded_whole profile limit read).text) had left written_before written_after
FailsToDecodeWhole profile limit had left written_before written_after (fault.Read error) = WritesNothing had left written_before written_after
FailsToDecodeWhole profile limit had left written_before written_after fault.Memory = WritesNothing had left written_before written_after
