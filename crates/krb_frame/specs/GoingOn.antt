-- The frames of a stream that is decoded further after a refusal, and the decoder that does this. The length of a frame says where the next one begins (RFC 4120, 7.2.2), even if its contents are refused.
use Rattle.std.specs.Prelude.{ℕ, zero, suc, ◌+◌, ◌-◌, ◌^◌, ◌≡◌, ◌≤◌, ◌⊎◌, nat_le, min, if◌then◌else◌, Bool, true, List, [], ◌∷◌, ◌++◌, length, map, take, drop, Option, Some, None, is_some}
use Rattle.krb_der.specs.Octets.{number}
use Rattle.krb_der.specs.declared.why.Why.{Why}
use Rattle.krb_der.specs.declared.why.Why.TheVariants as why
use Rattle.krb_msg.specs.Term.{Term}
use Rattle.krb_msg.specs.Stream.{Frames, End, Boundary, Within, Refused, frames}
use Rattle.krb_frame.specs.Decoding.{Decoding, IsAmple, status_of, borrowed, IsOfOneFrame}
use Rattle.krb_frame.specs.Feeds.{Feeds, Clears}
use Rattle.krb_frame.specs.Decoded.{frames_size}
use Rattle.krb_frame.specs.declared.decoder.Fed.{Fed}
use Rattle.krb_frame.specs.declared.decoder.Status.{Status}
use Rattle.krb_frame.specs.declared.decoder.Status.TheVariants as status

-- ---- the frames
-- A frame of a stream: its contents, which are a message; or the reason why it is refused, at a place in it, with its octets up to that place, or all that are present of one that is cut.
pub data Entry : Type 0 where
  Contents : (contents : List ℕ) → Entry
  Fault : (place : ℕ) → (reason : Why) → (prefix : List ℕ) → Entry

-- how many octets a frame has: those of its length, and as many as it announces
abbrev pub entry_size : Entry → ℕ
entry_size (Contents contents) = 4 + length contents
entry_size (Fault place reason prefix) = 4 + number (take 4 prefix)

abbrev pub entries_size : List Entry → ℕ
entries_size [] = 0
entries_size (entry ∷ others) = entry_size entry + entries_size others

-- the frame at the end, if it is refused or cut, with which these octets begin
abbrev pub last_entry : End → List ℕ → List Entry
last_entry Boundary octets = []
last_entry (Within present) octets = Fault present why.Truncated octets ∷ []
last_entry (Refused place reason) octets = Fault place reason (take (place + 1) octets) ∷ []

-- the octets after the whole frames of a stream
abbrev pub after_contents : Frames → List ℕ → List ℕ
after_contents found stream = drop (frames_size found.contents) stream

-- the frames after the one that these octets begin with: none if the high bit of its length is set, since its length is not known
abbrev pub next_entries : (List ℕ → List Entry) → List ℕ → List Entry
next_entries entries octets = if nat_le (2 ^ 31) (number (take 4 octets)) then [] else entries (drop (4 + number (take 4 octets)) octets)

-- the frames after the end: the next ones, if a frame is refused
abbrev pub entries_after : End → (List ℕ → List Entry) → List ℕ → List Entry
entries_after Boundary entries octets = []
entries_after (Within present) entries octets = []
entries_after (Refused place reason) entries octets = next_entries entries octets

-- the frames up to the first refusal, and then those after it
abbrev pub entries_of : Frames → (List ℕ → List Entry) → List ℕ → List Entry
entries_of found entries stream =
    map Contents found.contents ++ (last_entry found.end (after_contents found stream) ++ entries_after found.end entries (after_contents found stream))

-- the first number bounds how many frames are refused
abbrev pub entries_within : ℕ → List Term → ℕ → List ℕ → List Entry
entries_within zero messages limit stream = []
entries_within (suc bound) messages limit stream = entries_of (frames messages limit stream) (entries_within bound messages limit) stream

unfoldable pub entries : List Term → ℕ → List ℕ → List Entry
entries messages limit stream = entries_within (length stream) messages limit stream

-- ---- a decoder that is refused
-- how many octets of a frame of this size are to come after those that were used, if its length is known
abbrev pub rest_of : ℕ → ℕ → Option ℕ
rest_of size used = if nat_le (2 ^ 31) size then None else Some (4 + size - used)

abbrev pub rest_at : Status → List ℕ → Option ℕ
rest_at (status.Refused refusal) octets = rest_of (number (take 4 octets)) (length octets)
rest_at status.More octets = None
rest_at status.Ready octets = None
rest_at status.Memory octets = None

-- how many octets of the refused frame are to come
abbrev pub rest_to_come : List Term → Decoding → Option ℕ
rest_to_come messages d = rest_at (status_of messages d) d.octets

-- A decoder gave up the frame that is refused, if one is and its length is known.
pub record GivesUp (messages : List Term) (old new : Decoding) (answer : Option ℕ) : Type 0 where
  pub rest : answer ≡ rest_to_come messages old
  pub left : new ≡ (if is_some answer then record old { octets = []; capacity = new.capacity } else old)
  -- capacity for any frame stays
  pub ample : IsAmple old → IsAmple new

-- ---- a decoder that skips
-- the decoder of the frames that are not skipped, and how many octets of a skipped frame are to come
pub record Skipping : Type 0 where
  pub current : Decoding
  pub skipped : ℕ

-- no octets of a frame were used, and none are to be skipped
pub record IsClear (s : Skipping) : Type 0 where
  pub nothing : s.current.octets ≡ []
  pub none : s.skipped ≡ 0

-- A decoder that skips has decoded the octets of a stream, and these frames were cleared or skipped. Whatever octets come next, the frames of the stream are these and then those of the octets that the decoder has, without the octets that are to be skipped.
pub record GoesOn (messages : List Term) (s : Skipping) (stream : List ℕ) (before : List Entry) : Type 0 where
  pub goes_on : (more : List ℕ) → entries messages s.current.limit (stream ++ more) ≡ before ++ entries messages s.current.limit (s.current.octets ++ drop s.skipped more)
  pub one : IsOfOneFrame messages s.current
  -- if octets are to be skipped, none of the frame after them were used
  pub alone : (s.skipped ≡ 0) ⊎ (s.current.octets ≡ [])

-- a result without the octets that were skipped
abbrev pub without : ℕ → Fed → Fed
without skipped fed = record { used = fed.used - skipped; status = fed.status }

-- The first octets of a piece were used: first those that are to be skipped, which the decoder is not fed, and then those that it uses of the others.
pub record FeedsAfter (messages : List Term) (old : Skipping) (piece : List ℕ) (new : Skipping) (fed : Fed) : Type 0 where
  pub skipped : new.skipped ≡ old.skipped - length piece
  pub first : min old.skipped (length piece) ≤ fed.used
  pub others : Feeds messages old.current (drop old.skipped piece) new.current (without (min old.skipped (length piece)) fed)
  pub goes_on : (stream : List ℕ) (before : List Entry) → GoesOn messages old stream before → GoesOn messages new (stream ++ take fed.used piece) before

-- The frame that is ready was cleared, if one is.
pub record ClearsEntry (messages : List Term) (old new : Skipping) (answer : Bool) : Type 0 where
  pub skipped : new.skipped ≡ old.skipped
  pub clears : Clears messages old.current new.current answer
  pub goes_on : (stream contents : List ℕ) (before : List Entry) → GoesOn messages old stream before → borrowed messages old.current ≡ Some contents → GoesOn messages new stream (before ++ Contents contents ∷ [])

-- A refused frame was skipped, if there is one and its length is known.
pub record Skips (messages : List Term) (old new : Skipping) (answer : Bool) : Type 0 where
  pub is_known : answer ≡ is_some (rest_to_come messages old.current)
  pub gives_up : GivesUp messages old.current new.current (rest_to_come messages old.current)
  pub rest : (count : ℕ) → rest_to_come messages old.current ≡ Some count → new.skipped ≡ count
  pub none : rest_to_come messages old.current ≡ None → new ≡ old
  pub goes_on : (stream : List ℕ) (before : List Entry) (place : ℕ) (reason : Why) → GoesOn messages old stream before → status_of messages old.current ≡ status.Refused (record { place = place; why = reason }) → answer ≡ true → GoesOn messages new stream (before ++ Fault place reason old.current.octets ∷ [])
