-- What is decoded of a stream that goes on after what is refused, and what a run does to its reader and its writer.
use Rattle.std.specs.Prelude.{ℕ, zero, suc, ◌+◌, ◌≡◌, ◌⊎◌, List, [], ◌∷◌, ◌++◌, map, codes, decimal, Option, Some, None}
use Rattle.std.specs.Io.KnownBytes.{Consumes, Appends, IsAtEnd}
use Rattle.krb_der.specs.declared.profile.Profile.{Profile}
use Rattle.krb_msg.specs.Grammar.{messages}
use Rattle.krb_msg.specs.declared.message.Message.{Message}
use Rattle.krb_frame.specs.GoingOn.{Entry, entries, entry_size}
use Rattle.krb_json.specs.Lines.{line_of}
use Rattle.krb_json.specs.Unencrypted.{unencrypted_in}
use Rattle.krb_record.specs.Labels.{Label, no_label}
use Rattle.krb_record.specs.declared.form.Form.TheVariants.{NamedLines}
use Rattle.krb_run.specs.Runs.{StopsInPiece, WritesPrefix, WritesText}
use Rattle.krb_run.specs.declared.run.RunEnd.{RunEnd}
use Rattle.krb_run.specs.declared.run.RunFault.{RunFault}
use Rattle.krb_run.specs.declared.run.RunFault.TheVariants as fault
use Rattle.krb_tool.specs.GoingOn.{EndsUnknown, Faulty, IsCut, Listed, Whole, counted_end_line, counted_run_end, entry_of, is_refused_at_once, messages_in, refused_in, refused_line}
use Rattle.krb_tool.specs.Paths.{frame_extent, frame_path}
use Rattle.krb_decode.specs.Decoded.{not_encrypted}

-- ---- lines
-- a message is named by its number, from 1
abbrev pub message_opening : (number : ℕ) → List ℕ
message_opening number = codes "message " ++ decimal number ++ codes ": "

-- a message, and the path of the first EncryptedData in it that is not encrypted
abbrev pub part_by : (unencrypted : Option (List ℕ)) → (number : ℕ) → Message → List ℕ
part_by None number m = line_of m
part_by (Some path) number m = not_encrypted (message_opening number) path

abbrev pub part_of : (number : ℕ) → Message → List ℕ
part_of number m = part_by (unencrypted_in m) number m

-- what is said, is said by lines with names
abbrev pub named : Label
named = no_label NamedLines

-- of what is found in frames, after so many messages and octets
abbrev pub parts_after : Profile → (before offset : ℕ) → List Listed → List ℕ
parts_after profile n offset [] = []
parts_after profile n offset (Whole message ∷ others) = part_of (n + 1) message ++ parts_after profile (n + 1) (offset + entry_size (entry_of (Whole message))) others
parts_after profile n offset (Faulty place reason prefix ∷ others) = refused_line named n place reason (frame_path profile prefix) (frame_extent offset prefix) ++ parts_after profile n (offset + entry_size (entry_of (Faulty place reason prefix))) others

-- what was counted is said if a frame is refused
abbrev pub end_part : (messages refused : ℕ) → List ℕ
end_part messages zero = []
end_part messages (suc refused) = counted_end_line named messages (suc refused)

-- The text is what is decoded of the stream: the line of each frame, in order, and then what was counted.
pub record IsDecoded (profile : Profile) (limit : ℕ) (stream text : List ℕ) : Type 0 where
  pub found : List Listed
  pub in_frames : map entry_of found ≡ entries (messages profile) limit stream
  pub lines : text ≡ parts_after profile 0 0 found ++ end_part (messages_in found) (refused_in found)

-- The text is the lines of the first frames of the stream, in order.
pub record AreParts (profile : Profile) (limit : ℕ) (stream text : List ℕ) : Type 0 where
  pub found : List Listed
  pub others : List Entry
  pub in_frames : entries (messages profile) limit stream ≡ map entry_of found ++ others
  pub lines : text ≡ parts_after profile 0 0 found

-- And it is those of all frames but one that is cut.
pub record AreAllParts (profile : Profile) (limit : ℕ) (stream text : List ℕ) : Type 0 where
  pub lines : AreParts profile limit stream text
  pub all : IsCut profile limit lines.others

-- ---- what a run does
-- It read octets that its reader had, and appended what is decoded of them. It left none, unless the length of the last frame is not known.
pub record DecodesStream (profile : Profile) (limit : ℕ) (had left written_before written_after : Option (List ℕ)) (ended : RunEnd) : Type 0 where
  pub read : List ℕ
  pub written : List ℕ
  pub taken : Consumes had left read
  pub added : Appends written_before written_after written
  pub decoded : IsDecoded profile limit read written
  pub ended_so : ended ≡ counted_run_end (is_refused_at_once decoded.found) (refused_in decoded.found)
  pub all_read : IsAtEnd left ⊎ EndsUnknown (entries (messages profile) limit read)
  -- no more than octets whose last frame has a known length, and then one piece
  pub stops : StopsInPiece (λ prefix. EndsUnknown (entries (messages profile) limit prefix) → ⊥) read

-- If it fails by a write, a prefix of what is decoded of what was read is written. If a read fails, the lines are written of all frames in what was read, but of one that is cut, and nothing of the end; and if memory runs out, a prefix of lines of frames.
abbrev pub FailsToDecodeStream : Profile → ℕ → (had left written_before written_after : Option (List ℕ)) → RunFault → Type 0
FailsToDecodeStream profile limit had left written_before written_after (fault.Write error) = WritesPrefix (IsDecoded profile limit) had left written_before written_after
FailsToDecodeStream profile limit had left written_before written_after (fault.Read error) = WritesText (AreAllParts profile limit) had left written_before written_after
FailsToDecodeStream profile limit had left written_before written_after fault.Memory = WritesPrefix (AreParts profile limit) had left written_before written_after
