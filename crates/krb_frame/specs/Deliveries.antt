-- The frames of a stream that are delivered to a receiver, one after another, as its octets come.
use Rattle.std.specs.Prelude.{ℕ, ◌≡◌, ◌+◌, ◌^◌, ◌<◌, ◌≤◌, Bool, true, false, None, List, [], ◌∷◌, ◌++◌, length, take}
use Rattle.std.specs.List.{AllByRecursion}
use Rattle.krb_der.specs.Octets.{number}
use Rattle.krb_der.specs.declared.profile.Profile.{Profile}
use Rattle.krb_der.specs.declared.verdict.Refusal.{Refusal}
use Rattle.krb_der.specs.declared.verdict.Verdict.TheVariants.{Whole}
use Rattle.krb_msg.specs.Grammar.{messages}
use Rattle.krb_msg.specs.Judgement.{judgement}
use Rattle.krb_frame.specs.Decoding.{status_of}
use Rattle.krb_frame.specs.Decoded.{HasDecoded}
use Rattle.krb_frame.specs.GoingOn.{Entry, Contents, Fault, Skipping, GoesOn, entries_size, rest_to_come}
use Rattle.krb_frame.specs.declared.decoder.Status.{Status}
use Rattle.krb_frame.specs.declared.decoder.Status.TheVariants as status
use Rattle.krb_frame.specs.declared.delivery.Delivered.{Delivered}
use Rattle.krb_frame.specs.declared.delivery.Delivered.TheVariants as delivered

-- ---- receivers
-- frames led a receiver from one state to another, each by a step
abbrev pub Received : {R : Type 0} → (R → Entry → R → Type 0) → R → List Entry → R → Type 0
Received receives old [] new = new ≡ old
Received {R} receives old (entry ∷ entries) new = (between : R) × receives old entry between × Received receives between entries new

-- Contents were received, if they are a message of a profile, and else nothing.
abbrev pub IsReceived : {R : Type 0} → (R → Entry → R → Type 0) → Profile → List ℕ → R → R → Bool → Type 0
IsReceived receives profile contents old new true = (judgement profile (length contents) contents ≡ Whole) × receives old (Contents contents) new
IsReceived receives profile contents old new false = (judgement profile (length contents) contents ≡ Whole → ⊥) × (new ≡ old)

-- a frame is a message
abbrev pub IsMessage : Entry → Type 0
IsMessage (Contents contents) = Unit {0}
IsMessage (Fault place reason prefix) = ⊥

-- the contents of those that are
abbrev pub contents_in : List Entry → List (List ℕ)
contents_in [] = []
contents_in (Contents contents ∷ others) = contents ∷ contents_in others
contents_in (Fault place reason prefix ∷ others) = contents_in others

-- a frame may be followed by others: if it is refused, this is at the last of its octets that came, and its length is known
abbrev pub IsFollowed : Entry → Type 0
IsFollowed (Contents contents) = Unit {0}
IsFollowed (Fault place reason prefix) = (length prefix ≡ place + 1) × (number (take 4 prefix) < 2 ^ 31)

-- ---- the decoder
abbrev pub status_in : Skipping → Status
status_in s = status_of (messages s.current.profile) s.current

-- one frame is due that is ready or refused
abbrev pub due : Status → ℕ
due status.More = 0
due status.Ready = 1
due status.Memory = 1
due (status.Refused refusal) = 1

-- The octets of frames were used, but for those of the last one that are to be skipped.
pub record AreUsed (old : Skipping) (octets : List ℕ) (frames : List Entry) (new : Skipping) : Type 0 where
  pub size : entries_size frames + length new.current.octets + old.skipped ≤ length octets + length old.current.octets + new.skipped
  pub short : old.skipped < 2 ^ 32 → new.skipped < 2 ^ 32

-- Octets were used; the frames that are whole with them or refused were received, and cleared or skipped.
pub record Delivers {R : Type 0} (receives : R → Entry → R → Type 0) (old : Skipping) (octets : List ℕ) (new : Skipping) (before after : R) : Type 0 where
  pub frames : List Entry
  pub received : Received receives before frames after
  pub same_profile : new.current.profile ≡ old.current.profile
  pub same_limit : new.current.limit ≡ old.current.limit
  -- each frame has an octet at least
  pub few : length frames + due (status_in new) ≤ length octets + due (status_in old)
  pub followed : (stream : List ℕ) (first : List Entry) → GoesOn (messages old.current.profile) old stream first → AllByRecursion IsFollowed frames
  pub used : (stream : List ℕ) (first : List Entry) → GoesOn (messages old.current.profile) old stream first → AreUsed old octets frames new
  pub goes_on : (stream : List ℕ) (first : List Entry) → GoesOn (messages old.current.profile) old stream first → GoesOn (messages old.current.profile) new (stream ++ octets) (first ++ frames)
  -- as long as nothing is skipped
  pub decoded : AllByRecursion IsMessage frames → old.skipped ≡ 0 → (stream : List ℕ) (cleared : List (List ℕ)) → HasDecoded (messages old.current.profile) old.current stream cleared → (new.skipped ≡ 0) × HasDecoded (messages old.current.profile) new.current (stream ++ octets) (cleared ++ contents_in frames)

-- the same of the octets of a piece before the rest; if one does not keep going, no frame was skipped
pub record DeliversPrefix {R : Type 0} (receives : R → Entry → R → Type 0) (keeps_going : Bool) (old : Skipping) (piece rest : List ℕ) (new : Skipping) (before after : R) : Type 0 where
  pub used : List ℕ
  pub parts : piece ≡ used ++ rest
  pub delivers : Delivers receives old used new before after
  pub stops : keeps_going ≡ false → AllByRecursion IsMessage delivers.frames

-- and more octets are needed; or the receiver is full, if any are left
pub record DeliversUpTo {R : Type 0} (receives : R → Entry → R → Type 0) (IsFull : R → Type 0) (keeps_going : Bool) (old : Skipping) (piece rest : List ℕ) (new : Skipping) (before after : R) : Type 0 where
  pub prefix : DeliversPrefix receives keeps_going old piece rest new before after
  pub waits : status_in new ≡ status.More
  pub full : 0 < length rest → IsFull after

-- and the next frame is refused; if one keeps going, its length is not known
pub record DeliversBefore {R : Type 0} (receives : R → Entry → R → Type 0) (keeps_going : Bool) (old : Skipping) (piece : List ℕ) (refusal : Refusal) (new : Skipping) (before after : R) : Type 0 where
  pub rest : List ℕ
  pub prefix : DeliversPrefix receives keeps_going old piece rest new before after
  pub refused : status_in new ≡ status.Refused refusal
  pub unknown : keeps_going ≡ true → rest_to_come (messages new.current.profile) new.current ≡ None

-- what became of the frames of a piece
abbrev pub DeliversPiece : {R : Type 0} → (R → Entry → R → Type 0) → (R → Type 0) → Bool → Skipping → List ℕ → Skipping → R → R → Delivered → Type 0
DeliversPiece receives IsFull keeps_going old piece new before after (delivered.UpTo rest) = DeliversUpTo receives IsFull keeps_going old piece rest.now new before after
DeliversPiece receives IsFull keeps_going old piece new before after (delivered.Stopped refusal) = DeliversBefore receives keeps_going old piece refusal new before after
