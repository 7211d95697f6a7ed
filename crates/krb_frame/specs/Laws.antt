-- The laws of all decoders by any messages, and of all streams. Each is the contract of a function of the module `law`.
use Rattle.std.specs.Prelude.{ℕ, ◌+◌, ◌≡◌, ◌<◌, ◌↔◌, if◌then◌else◌, List, [], ◌++◌, length, map, take, Some, None, is_some, Err}
use Rattle.krb_der.specs.Octets.{AreOctets}
use Rattle.krb_der.specs.declared.profile.Profile.TheVariants.{Lenient}
use Rattle.krb_der.specs.declared.why.Why.{Why}
use Rattle.krb_der.specs.declared.why.Why.TheVariants.{Truncated, Charset}
use Rattle.krb_msg.specs.Grammar.{messages}
use Rattle.krb_msg.specs.Term.{Term}
use Rattle.krb_msg.specs.Stream.{Boundary, Within, Refused, ends, with_first, frames}
use Rattle.krb_frame.specs.Decoding.{Decoding, found, status_of, borrowed, kept_contents, finish_of}
use Rattle.krb_frame.specs.Feeds.{Feeds}
use Rattle.krb_frame.specs.GoingOn.{Entry, Contents, last_entry, after_contents, entries}
use Rattle.krb_frame.specs.Decoded.{EndsWith, after_frames, frames_size, HasDecoded}
use Rattle.krb_frame.specs.declared.decoder.Fed.{Fed}
use Rattle.krb_frame.specs.declared.decoder.Status.TheVariants as status

-- A decoder and its results match a stream.
pub record MatchesStream (messages : List Term) (d : Decoding) (stream : List ℕ) (cleared : List (List ℕ)) : Type 0 where
  -- the frames of the stream are those that were cleared, and one more exactly if one is ready
  pub found_all : frames messages d.limit stream ≡ after_frames cleared (found messages d)
  pub counted : length (frames messages d.limit stream).contents ≡ length cleared + (if is_some (borrowed messages d) then 1 else 0)
  -- the frame that is ready is the end of the stream
  pub ready : (contents : List ℕ) → borrowed messages d ≡ Some contents → (found messages d ≡ with_first contents (ends Boundary)) × (kept_contents d ≡ contents) × EndsWith contents stream
  -- the decoder is refused exactly if the stream is
  pub refused : (place : ℕ) (reason : Why) → ((frames messages d.limit stream).end ≡ Refused place reason) ↔ (status_of messages d ≡ status.Refused (record { place = place; why = reason }))
  -- between two frames it has no octet of a next one, and within one the octets of that one, with which the stream ends
  pub boundary : (frames messages d.limit stream).end ≡ Boundary → borrowed messages d ≡ None → d.octets ≡ []
  pub within : (present : ℕ) → (frames messages d.limit stream).end ≡ Within present → (length d.octets ≡ present) × EndsWith d.octets stream

abbrev pub DecoderMatchesStream : Type 0
DecoderMatchesStream = (messages : List Term) (d : Decoding) (stream : List ℕ) (cleared : List (List ℕ)) → HasDecoded messages d stream cleared → MatchesStream messages d stream cleared

-- Nothing after a refusal is looked at: a stream that is refused has the same frames and the same refusal, whatever follows.
abbrev pub RefusalEnds : Type 0
RefusalEnds = (messages : List Term) (d : Decoding) (stream more : List ℕ) (cleared : List (List ℕ)) (place : ℕ) (reason : Why) → HasDecoded messages d stream cleared → (frames messages d.limit stream).end ≡ Refused place reason → frames messages d.limit (stream ++ more) ≡ frames messages d.limit stream

-- a feed returns that an octet is refused, at a place and for a reason
abbrev pub RefusesFor : Why → ℕ → Fed → Type 0
RefusesFor reason place fed = fed.status ≡ status.Refused (record { place = place; why = reason })

-- The last frame of a stream is refused, at one of its octets.
pub record IsRefusedInside (messages : List Term) (limit : ℕ) (stream : List ℕ) (place : ℕ) (reason : Why) : Type 0 where
  pub frame : List ℕ
  pub last : EndsWith frame stream
  pub alone : frames messages limit frame ≡ ends (Refused place reason)
  pub inside : place < length frame

-- A frame is refused at one of its octets, one that was used.
pub record RefusalsAreInside : Type 0 where
  pub of_feed : (messages : List Term) (old new : Decoding) (piece : List ℕ) (fed : Fed) (place : ℕ) (reason : Why) → Feeds messages old piece new fed → RefusesFor reason place fed → place < length new.octets
  pub of_stream : (messages : List Term) (limit : ℕ) (stream : List ℕ) (place : ℕ) (reason : Why) → (frames messages limit stream).end ≡ Refused place reason → IsRefusedInside messages limit stream place reason

-- A stream is refused with the octet at an offset: up to it the stream is not refused, and what follows it changes nothing.
pub record IsRefusedWith (messages : List Term) (limit : ℕ) (stream : List ℕ) (offset : ℕ) : Type 0 where
  pub inside : offset < length stream
  pub before : (place : ℕ) (reason : Why) → (frames messages limit (take offset stream)).end ≡ Refused place reason → ⊥
  pub with_it : frames messages limit (take (offset + 1) stream) ≡ frames messages limit stream

-- The offset of the octet at fault is its place in the last frame, after the octets of the whole frames.
abbrev pub RefusalsAreAtOffsets : Type 0
RefusalsAreAtOffsets = (messages : List Term) (limit : ℕ) (stream : List ℕ) (place : ℕ) (reason : Why) → (frames messages limit stream).end ≡ Refused place reason → IsRefusedWith messages limit stream (frames_size (frames messages limit stream).contents + place)

-- No feed returns Truncated, for which a stream is refused that ends inside a frame.
abbrev pub FeedIsNotTruncated : Type 0
FeedIsNotTruncated = (messages : List Term) (old new : Decoding) (piece : List ℕ) (fed : Fed) (place : ℕ) → Feeds messages old piece new fed → RefusesFor Truncated place fed → ⊥

-- By the lenient profile nothing is refused as Charset.
pub record LenientHasNoCharset : Type 0 where
  pub of_feed : (old new : Decoding) (piece : List ℕ) (fed : Fed) (place : ℕ) → AreOctets new.octets → Feeds (messages Lenient) old piece new fed → RefusesFor Charset place fed → ⊥
  pub of_finish : (d : Decoding) (place : ℕ) → AreOctets d.octets → finish_of (messages Lenient) d ≡ Err (record { place = place; why = Charset }) → ⊥

-- Going on changes nothing up to the first refusal.
pub record GoingOnBegins (messages : List Term) (limit : ℕ) (stream : List ℕ) : Type 0 where
  -- the whole frames of the stream come first, and then the one that is refused or cut
  pub first : (rest : List Entry) × (entries messages limit stream ≡ (map Contents (frames messages limit stream).contents ++ last_entry (frames messages limit stream).end (after_contents (frames messages limit stream) stream)) ++ rest)
  -- after a stream that is not refused nothing comes
  pub alone : ((place : ℕ) (reason : Why) → (frames messages limit stream).end ≡ Refused place reason → ⊥) → entries messages limit stream ≡ map Contents (frames messages limit stream).contents ++ last_entry (frames messages limit stream).end (after_contents (frames messages limit stream) stream)

abbrev pub GoingOnChangesNothingBefore : Type 0
GoingOnChangesNothingBefore = (messages : List Term) (limit : ℕ) (stream : List ℕ) → GoingOnBegins messages limit stream
