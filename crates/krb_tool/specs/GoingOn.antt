-- The listing of a stream that goes on after refusals, and what a run does to its reader and its writer.
use Rattle.std.specs.Prelude.{ℕ, zero, suc, Bool, true, false, ◌+◌, ◌≡◌, ◌⊎◌, List, [], ◌∷◌, ◌++◌, map, Option}
use Rattle.std.specs.Io.KnownBytes.{Consumes, Appends, IsAtEnd}
use Rattle.krb_der.specs.declared.profile.Profile.{Profile}
use Rattle.krb_der.specs.declared.why.Why.{Why}
use Rattle.krb_der.specs.declared.why.Why.TheVariants.{HighBit}
use Rattle.krb_msg.specs.declared.message.Message.{Message}
use Rattle.krb_msg.specs.Grammar.{messages}
use Rattle.krb_msg.specs.Views.{message_der}
use Rattle.krb_msg.specs.Stream.{frames}
use Rattle.krb_frame.specs.GoingOn.{Entry, Contents, Fault, entries, entry_size, last_entry}
use Rattle.krb_record.specs.Labels.{Label, line_of}
use Rattle.krb_tool.specs.Paths.{frame_extent, frame_path}
use Rattle.krb_record.specs.Streams.{refused_record, counted_end_record}
use Rattle.krb_record.specs.declared.extent.Extent.{Extent}
use Rattle.krb_run.specs.declared.run.RunEnd.{RunEnd}
use Rattle.krb_run.specs.declared.run.RunEnd.TheVariants as run
use Rattle.krb_run.specs.declared.run.RunFault.{RunFault}
use Rattle.krb_run.specs.declared.run.RunFault.TheVariants as fault
use Rattle.krb_tool.specs.Listing.{Fails, IsNotRefused, Lists, message_line}
use Rattle.krb_run.specs.Runs.{StopsInPiece, WritesPrefix, WritesText}

-- what is listed of a frame: its message, or what it is refused for, with its octets up to the refused one
pub data Listed : Type 0 where
  Whole : (message : Message) → Listed
  Faulty : (place : ℕ) → (reason : Why) → (prefix : List ℕ) → Listed

abbrev pub entry_of : Listed → Entry
entry_of (Whole message) = Contents (message_der message)
entry_of (Faulty place reason prefix) = Fault place reason prefix

-- how many of them are messages
abbrev pub messages_in : List Listed → ℕ
messages_in [] = 0
messages_in (Whole message ∷ others) = 1 + messages_in others
messages_in (Faulty place reason prefix ∷ others) = messages_in others

-- how many are refused
abbrev pub refused_in : List Listed → ℕ
refused_in [] = 0
refused_in (Whole message ∷ others) = refused_in others
refused_in (Faulty place reason prefix ∷ others) = 1 + refused_in others

-- how many octets their frames have
abbrev pub octets_in : List Listed → ℕ
octets_in [] = 0
octets_in (listed ∷ others) = entry_size (entry_of listed) + octets_in others

-- the line of a frame that is refused after n messages, and that of the end
abbrev pub refused_line : Label → ℕ → ℕ → Why → Option (List ℕ) → Extent → List ℕ
refused_line label messages place reason path extent = line_of label (refused_record label.form messages place reason path extent)

abbrev pub counted_end_line : Label → ℕ → ℕ → List ℕ
counted_end_line label messages refused = line_of label (counted_end_record messages refused)

-- their lines, after n messages and so many octets: each refusal has the number of the messages before it, and where its frame begins
abbrev pub lines_after : Label → Profile → ℕ → ℕ → List Listed → List ℕ
lines_after label profile n offset [] = []
lines_after label profile n offset (Whole message ∷ others) = message_line label message ++ lines_after label profile (n + 1) (offset + entry_size (entry_of (Whole message))) others
lines_after label profile n offset (Faulty place reason prefix ∷ others) = refused_line label n place reason (frame_path profile prefix) (frame_extent offset prefix) ++ lines_after label profile n (offset + entry_size (entry_of (Faulty place reason prefix))) others

-- The text is the listing of the stream: the line of each frame, in order, and then the line that counts them.
pub record IsCountedListing (label : Label) (profile : Profile) (limit : ℕ) (stream text : List ℕ) : Type 0 where
  pub found : List Listed
  pub in_frames : map entry_of found ≡ entries (messages profile) limit stream
  pub lines : text ≡ lines_after label profile 0 0 found ++ counted_end_line label (messages_in found) (refused_in found)

-- the first of them is refused
abbrev pub is_refused_at_once : List Listed → Bool
is_refused_at_once [] = false
is_refused_at_once (Whole message ∷ others) = false
is_refused_at_once (Faulty place reason prefix ∷ others) = true

abbrev pub refused_end : (at_once : Bool) → RunEnd
refused_end true = run.RefusedAtOnce
refused_end false = run.Refused

-- a run is clean if nothing is refused
abbrev pub counted_run_end : (at_once : Bool) → (refused : ℕ) → RunEnd
counted_run_end at_once zero = run.Clean
counted_run_end at_once (suc refused) = refused_end at_once

-- the last frame is one whose length is not known
pub record EndsUnknown (found : List Entry) : Type 0 where
  pub before : List Entry
  pub length_octets : List ℕ
  pub parts : found ≡ before ++ Fault 3 HighBit length_octets ∷ []

-- A run read octets that its reader had, and appended their listing to what is written. It left none, unless the length of the last frame is not known.
pub record ListsAll (label : Label) (profile : Profile) (limit : ℕ) (had left written_before written_after : Option (List ℕ)) (ended : RunEnd) : Type 0 where
  pub read : List ℕ
  pub written : List ℕ
  pub taken : Consumes had left read
  pub added : Appends written_before written_after written
  pub listed : IsCountedListing label profile limit read written
  pub ended_so : ended ≡ counted_run_end (is_refused_at_once listed.found) (refused_in listed.found)
  pub all_read : IsAtEnd left ⊎ EndsUnknown (entries (messages profile) limit read)
  -- no more than octets whose last frame has a known length, and then one piece
  pub stops : StopsInPiece (λ prefix. EndsUnknown (entries (messages profile) limit prefix) → ⊥) read

-- The text is the lines of the first frames of the stream, in order.
pub record AreCountedLines (label : Label) (profile : Profile) (limit : ℕ) (stream text : List ℕ) : Type 0 where
  pub found : List Listed
  pub others : List Entry
  pub in_frames : entries (messages profile) limit stream ≡ map entry_of found ++ others
  pub lines : text ≡ lines_after label profile 0 0 found

-- these are no frame, or one that is cut: what these octets begin, none of which is refused
pub record IsCut (profile : Profile) (limit : ℕ) (entries : List Entry) : Type 0 where
  pub octets : List ℕ
  pub none : (frames (messages profile) limit octets).contents ≡ []
  pub accepted : IsNotRefused (frames (messages profile) limit octets).end
  pub is : entries ≡ last_entry (frames (messages profile) limit octets).end octets

-- And it is those of all frames but one that is cut.
pub record AreAllCountedLines (label : Label) (profile : Profile) (limit : ℕ) (stream text : List ℕ) : Type 0 where
  pub lines : AreCountedLines label profile limit stream text
  pub all : IsCut profile limit lines.others

-- If a run fails by a write, a prefix of the listing of what was read is written. If a read fails, the lines are written of all frames in what was read, but of one that is cut, and no last line; and if memory runs out, a prefix of lines of frames.
abbrev pub FailsAll : Label → Profile → ℕ → Option (List ℕ) → Option (List ℕ) → Option (List ℕ) → Option (List ℕ) → RunFault → Type 0
FailsAll label profile limit had left written_before written_after (fault.Write error) = WritesPrefix (IsCountedListing label profile limit) had left written_before written_after
FailsAll label profile limit had left written_before written_after (fault.Read error) = WritesText (AreAllCountedLines label profile limit) had left written_before written_after
FailsAll label profile limit had left written_before written_after fault.Memory = WritesPrefix (AreCountedLines label profile limit) had left written_before written_after

-- what a run does that goes on after refusals if it is asked to
abbrev pub ListsStream : (keep_going : Bool) → Label → Profile → (limit : ℕ) → (had left written_before written_after : Option (List ℕ)) → RunEnd → Type 0
ListsStream true label profile limit had left written_before written_after ended = ListsAll label profile limit had left written_before written_after ended
ListsStream false label profile limit had left written_before written_after ended = Lists label profile limit had left written_before written_after ended

abbrev pub FailsStream : (keep_going : Bool) → Label → Profile → (limit : ℕ) → (had left written_before written_after : Option (List ℕ)) → RunFault → Type 0
FailsStream true label profile limit had left written_before written_after fault = FailsAll label profile limit had left written_before written_after fault
FailsStream false label profile limit had left written_before written_after fault = Fails label profile limit had left written_before written_after fault
