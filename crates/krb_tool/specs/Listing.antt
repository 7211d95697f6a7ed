-- The listing of a stream, and what a run does to its reader and its writer.
use Rattle.std.specs.Prelude.{ℕ, zero, suc, ◌≡◌, List, [], ◌++◌, length, map, Option}
use Rattle.std.specs.List.{flat_map}
use Rattle.std.specs.Io.KnownBytes.{Consumes, Appends, IsAtEnd}
use Rattle.krb_der.specs.declared.profile.Profile.{Profile}
use Rattle.krb_msg.specs.declared.message.Message.{Message}
use Rattle.krb_msg.specs.Grammar.{messages}
use Rattle.krb_msg.specs.Views.{message_der}
use Rattle.krb_msg.specs.Stream.{End, Boundary, Within, Refused, frames}
use Rattle.krb_record.specs.Labels.{Label, line_of}
use Rattle.krb_text.specs.Messages.{shown_record}
use Rattle.krb_text.specs.StreamEnds.{end_record}
use Rattle.krb_record.specs.declared.extent.Extent.{Extent}
use Rattle.krb_tool.specs.Paths.{end_extent, end_path}
use Rattle.krb_run.specs.declared.run.RunEnd.{RunEnd}
use Rattle.krb_run.specs.declared.run.RunEnd.TheVariants as run
use Rattle.krb_run.specs.declared.run.RunFault.{RunFault}
use Rattle.krb_run.specs.declared.run.RunFault.TheVariants as fault
use Rattle.krb_run.specs.Runs.{StopsInPiece, WritesPrefix, WritesText}

-- the end of a stream by a profile, with frames of at most n octets
abbrev pub end_of : Profile → ℕ → List ℕ → End
end_of profile limit stream = (frames (messages profile) limit stream).end

-- the line of a message, and the line of the end after n messages
unfoldable pub message_line : Label → Message → List ℕ
message_line label m = line_of label (shown_record label.form m)

abbrev pub end_line : Label → ℕ → End → Option (List ℕ) → Extent → List ℕ
end_line label messages end path extent = line_of label (end_record label.form messages end path extent)

-- The text is the listing of the stream: the line of each message whose DER fills a frame, in order, and then the line of the end.
pub record IsListing (label : Label) (profile : Profile) (limit : ℕ) (stream text : List ℕ) : Type 0 where
  pub found : List Message
  pub in_frames : map message_der found ≡ (frames (messages profile) limit stream).contents
  pub lines : text ≡ flat_map (message_line label) found ++ end_line label (length found) (end_of profile limit stream) (end_path profile limit stream) (end_extent profile limit stream)

-- how a run ends that is refused after n messages: at once, if there is none
abbrev pub refused_after : ℕ → RunEnd
refused_after zero = run.RefusedAtOnce
refused_after (suc messages) = run.Refused

-- a run is clean if the stream ends between frames
abbrev pub run_end : ℕ → End → RunEnd
run_end messages Boundary = run.Clean
run_end messages (Within present) = refused_after messages
run_end messages (Refused place reason) = refused_after messages

-- unless the stream is refused, nothing of it is left unread
abbrev pub AllIsRead : End → Option (List ℕ) → Type 0
AllIsRead Boundary left = IsAtEnd left
AllIsRead (Within present) left = IsAtEnd left
AllIsRead (Refused place reason) left = Unit {0}

abbrev pub IsNotRefused : End → Type 0
IsNotRefused Boundary = Unit {0}
IsNotRefused (Within present) = Unit {0}
IsNotRefused (Refused place reason) = ⊥

-- A run read octets that its reader had, and appended their listing to what is written; the reader has the rest.
pub record Lists (label : Label) (profile : Profile) (limit : ℕ) (had left written_before written_after : Option (List ℕ)) (ended : RunEnd) : Type 0 where
  pub read : List ℕ
  pub written : List ℕ
  pub taken : Consumes had left read
  pub added : Appends written_before written_after written
  pub listed : IsListing label profile limit read written
  pub ended_so : ended ≡ run_end (length listed.found) (end_of profile limit read)
  pub all_read : AllIsRead (end_of profile limit read) left
  -- no more than octets that are not refused, and then one piece
  pub stops : StopsInPiece (λ prefix. IsNotRefused (end_of profile limit prefix)) read

-- The text is the lines of messages whose DER fill the first frames of the stream, in order.
pub record AreLines (label : Label) (profile : Profile) (limit : ℕ) (stream text : List ℕ) : Type 0 where
  pub found : List Message
  pub others : List (List ℕ)
  pub in_frames : (frames (messages profile) limit stream).contents ≡ map message_der found ++ others
  pub lines : text ≡ flat_map (message_line label) found

-- And it is those of all messages whose DER fill a frame.
pub record AreAllLines (label : Label) (profile : Profile) (limit : ℕ) (stream text : List ℕ) : Type 0 where
  pub lines : AreLines label profile limit stream text
  pub all : lines.others ≡ []

-- If a run fails by a write, a prefix of the listing of what was read is written. If a read fails, the lines are written of all messages in what was read, and no last line; and if memory runs out, a prefix of lines of messages.
abbrev pub Fails : Label → Profile → ℕ → Option (List ℕ) → Option (List ℕ) → Option (List ℕ) → Option (List ℕ) → RunFault → Type 0
Fails label profile limit had left written_before written_after (fault.Write error) = WritesPrefix (IsListing label profile limit) had left written_before written_after
Fails label profile limit had left written_before written_after (fault.Read error) = WritesText (AreAllLines label profile limit) had left written_before written_after
Fails label profile limit had left written_before written_after fault.Memory = WritesPrefix (AreLines label profile limit) had left written_before written_after
