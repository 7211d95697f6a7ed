-- The stream that a decoder by any messages has decoded.
use Rattle.std.specs.Prelude.{ℕ, ◌≡◌, ◌+◌, List, ◌++◌, length}
use Rattle.std.specs.List.{sum_by}
use Rattle.krb_msg.specs.Term.{Term}
use Rattle.krb_msg.specs.Stream.{Frames, frames}
use Rattle.krb_frame.specs.Decoding.{Decoding, IsOfOneFrame}

-- frames with these contents before others
abbrev pub after_frames : List (List ℕ) → Frames → Frames
after_frames cleared found = record { contents = cleared ++ found.contents; end = found.end }

-- how many octets frames with these contents have
abbrev pub frames_size : List (List ℕ) → ℕ
frames_size contents = sum_by (λ c. 4 + length c) contents

-- the last octets of a stream
pub record EndsWith (octets stream : List ℕ) : Type 0 where
  pub before : List ℕ
  pub parts : stream ≡ before ++ octets

-- A decoder has decoded the octets of a stream, and the frames with these contents were cleared. Whatever octets come next, the frames of the stream are these and then those of the octets that the decoder has.
pub record HasDecoded (messages : List Term) (d : Decoding) (stream : List ℕ) (cleared : List (List ℕ)) : Type 0 where
  pub goes_on : (more : List ℕ) → frames messages d.limit (stream ++ more) ≡ after_frames cleared (frames messages d.limit (d.octets ++ more))
  pub last : EndsWith d.octets stream
  -- before them are the octets of the frames that were cleared
  pub counted : length last.before ≡ frames_size cleared
  pub one : IsOfOneFrame messages d
