-- Calls of a decoder, one after another.
use Rattle.std.specs.Prelude.{ℕ, ◌≡◌, true, List, [], ◌∷◌, ◌++◌, take, Some}
use Rattle.std.specs.List.{flat_map}
use Rattle.krb_msg.specs.Term.{Term}
use Rattle.krb_msg.specs.Stream.{frames}
use Rattle.krb_frame.specs.Decoding.{Decoding, found, borrowed}
use Rattle.krb_frame.specs.Feeds.{Feeds, Clears}
use Rattle.krb_frame.specs.Decoded.{HasDecoded, after_frames}
use Rattle.krb_frame.specs.declared.decoder.Fed.{Fed}

-- a feed of a piece, or a clearing of the frame with these contents
pub data Call : Type 0 where
  Feed : (piece : List ℕ) → (fed : Fed) → Call
  Next : (contents : List ℕ) → Call

-- the octets of the stream that a call used
abbrev pub used : Call → List ℕ
used (Feed piece fed) = take fed.used piece
used (Next contents) = []

-- the contents of the frames that a call delivered
abbrev pub delivered : Call → List (List ℕ)
delivered (Feed piece fed) = []
delivered (Next contents) = contents ∷ []

-- a call led from one decoder by any messages to another
abbrev pub IsCall : List Term → Decoding → Call → Decoding → Type 0
IsCall messages old (Feed piece fed) new = Feeds messages old piece new fed
IsCall messages old (Next contents) new = (borrowed messages old ≡ Some contents) × Clears messages old new true

-- several calls did, one after another
abbrev pub AreCalls : List Term → Decoding → List Call → Decoding → Type 0
AreCalls messages old [] new = new ≡ old
AreCalls messages old (call ∷ calls) new = (between : Decoding) × IsCall messages old call between × AreCalls messages between calls new

-- The decoder has decoded the octets that the calls used, and the frames of these are those that the calls delivered, in order, and then those of the octets that it has.
pub record DeliverFrames (messages : List Term) (new : Decoding) (stream : List ℕ) (cleared : List (List ℕ)) (calls : List Call) : Type 0 where
  pub decoded : HasDecoded messages new (stream ++ flat_map used calls) (cleared ++ flat_map delivered calls)
  pub frames_are : frames messages new.limit (stream ++ flat_map used calls) ≡ after_frames (cleared ++ flat_map delivered calls) (found messages new)

-- Calls deliver the frames of a stream, in order.
abbrev pub CallsDeliverFrames : Type 0
CallsDeliverFrames = (messages : List Term) (old new : Decoding) (calls : List Call) (stream : List ℕ) (cleared : List (List ℕ)) → AreCalls messages old calls new → HasDecoded messages old stream cleared → DeliverFrames messages new stream cleared calls
