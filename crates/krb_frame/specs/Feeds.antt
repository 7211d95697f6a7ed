-- The feeds and the clears of a decoder by any messages.
use Rattle.std.specs.Prelude.{ℕ, ◌+◌, ◌-◌, ◌≡◌, ◌≢◌, ◌<◌, ◌≤◌, ◌⊎◌, Bool, List, [], ◌∷◌, ◌++◌, length, take, Some, is_some}
use Rattle.krb_msg.specs.Term.{Term}
use Rattle.krb_frame.specs.Decoding.{Decoding, IsAmple, status_of, borrowed, after_next, kept_contents}
use Rattle.krb_frame.specs.Decoded.{HasDecoded}
use Rattle.krb_frame.specs.declared.decoder.Fed.{Fed}
use Rattle.krb_frame.specs.declared.decoder.Status.{Status}
use Rattle.krb_frame.specs.declared.decoder.Status.TheVariants as status

-- the status that a feed returns: that of the decoder, or out of memory if it needs more octets
abbrev pub IsAnswer : List Term → Decoding → Status → Type 0
IsAnswer messages d answer = (answer ≡ status_of messages d) ⊎ ((answer ≡ status.Memory) × (status_of messages d ≡ status.More))

-- A decoder used the first octets of a piece.
pub record Feeds (messages : List Term) (old : Decoding) (piece : List ℕ) (new : Decoding) (fed : Fed) : Type 0 where
  pub within : fed.used ≤ length piece
  pub same_profile : new.profile ≡ old.profile
  pub same_limit : new.limit ≡ old.limit
  pub octets : new.octets ≡ old.octets ++ take fed.used piece
  -- each octet of the contents that was used was looked at once, and no other
  pub looks : new.looks ≡ old.looks + (length (kept_contents new) - length (kept_contents old))
  pub answer : IsAnswer messages new fed.status
  -- the status is that more octets are needed only if the whole piece was used
  pub all : fed.status ≡ status.More → fed.used ≡ length piece
  -- a decoder that is ready or refused uses none and has the same status again
  pub again : status_of messages old ≢ status.More → (fed.used ≡ 0) × (fed.status ≡ status_of messages old)
  -- the octets of a length need no memory
  pub memory : fed.status ≡ status.Memory → (4 ≤ length new.octets) × (fed.used < length piece)
  -- nor does anything if there is capacity for any frame; and that capacity stays
  pub enough : IsAmple old → fed.status ≢ status.Memory
  pub ample : IsAmple old → IsAmple new
  -- the decoder has decoded the stream with the octets that were used
  pub decoded : (stream : List ℕ) (cleared : List (List ℕ)) → HasDecoded messages old stream cleared → HasDecoded messages new (stream ++ take fed.used piece) cleared

-- A decoder was asked to clear the frame that is ready.
pub record Clears (messages : List Term) (old new : Decoding) (answer : Bool) : Type 0 where
  pub is_ready : answer ≡ is_some (borrowed messages old)
  pub left : new ≡ after_next messages old new.capacity
  -- capacity for any frame stays
  pub ample : IsAmple old → IsAmple new
  -- one frame more is cleared
  pub decoded : (stream contents : List ℕ) (cleared : List (List ℕ)) → HasDecoded messages old stream cleared → borrowed messages old ≡ Some contents → HasDecoded messages new stream (cleared ++ contents ∷ [])
