-- The frames of a stream (RFC 4120, 7.2.2).
use Rattle.std.specs.Prelude.{ℕ, zero, suc, ◌+◌, ◌^◌, nat_lt, nat_le, ◌==◌, if◌then◌else◌, List, [], ◌∷◌, length, take, drop}
use Rattle.krb_der.specs.Octets.{number}
use Rattle.krb_der.specs.declared.why.Why.{Why}
use Rattle.krb_der.specs.declared.why.Why.TheVariants as why
use Rattle.krb_msg.specs.Term.{Term}
use Rattle.krb_msg.specs.Judgement.{Outcome, Open, Bad, Done, message_outcome}

-- how a stream ends: between frames, within a frame of which a number of octets are present, or refused
pub data End : Type 0 where
  Boundary : End
  Within : (present : ℕ) → End
  Refused : (place : ℕ) → (reason : Why) → End

-- the contents of the whole frames, and the end
pub record Frames : Type 0 where
  pub contents : List (List ℕ)
  pub end : End

abbrev pub ends : End → Frames
ends end = record { contents = []; end = end }

abbrev pub with_first : List ℕ → Frames → Frames
with_first first frames = record { contents = first ∷ frames.contents; end = frames.end }

-- the frames that begin with a frame's contents, by their outcome, the octets present and the frames after them
abbrev pub frame_and : Outcome → List ℕ → Frames → Frames
frame_and Open present rest = ends (Within (4 + length present))
frame_and (Bad offset reason) present rest = ends (Refused (4 + offset) reason)
frame_and (Done count) present rest = with_first present rest

-- the frames that begin after a length that is accepted
abbrev pub frame_of : List Term → ℕ → List ℕ → (List ℕ → Frames) → Frames
frame_of messages n octets frames = frame_and (message_outcome messages n (take n octets)) (take n octets) (frames (drop n octets))

abbrev pub length_and : List Term → ℕ → ℕ → List ℕ → (List ℕ → Frames) → Frames
length_and messages limit n octets frames =
    if nat_le (2 ^ 31) n then ends (Refused 3 why.HighBit)
    else if nat_lt limit n then ends (Refused 3 why.TooLong)
    else if n == 0 then ends (Refused 3 why.Empty)
    else frame_of messages n octets frames

-- the first number is a bound on how many frames there are
abbrev pub frames_within : ℕ → List Term → ℕ → List ℕ → Frames
frames_within bound messages limit [] = ends Boundary
frames_within zero messages limit octets = ends (Within (length octets))
frames_within (suc bound) messages limit octets =
    if nat_lt (length octets) 4 then ends (Within (length octets))
    else length_and messages limit (number (take 4 octets)) (drop 4 octets) (frames_within bound messages limit)

unfoldable pub frames : List Term → ℕ → List ℕ → Frames
frames messages limit stream = frames_within (length stream) messages limit stream
