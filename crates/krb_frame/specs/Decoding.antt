-- A decoder as contracts see it, and the results of its calls, by any messages.
use Rattle.std.specs.Prelude.{ℕ, ◌+◌, ◌++◌, ◌≡◌, ◌<◌, ◌≤◌, ◌^◌, nat_lt, if◌then◌else◌, List, [], ◌∷◌, length, take, drop, Option, Some, None, is_some, Result, Ok, Err}
use Rattle.krb_der.specs.Octets.{number}
use Rattle.krb_der.specs.declared.profile.Profile.{Profile}
use Rattle.krb_der.specs.declared.verdict.Refusal.{Refusal}
use Rattle.krb_der.specs.declared.why.Why.TheVariants as why
use Rattle.krb_msg.specs.Term.{Term}
use Rattle.krb_msg.specs.Stream.{Frames, End, Boundary, Within, Refused, frames}
use Rattle.krb_scan.specs.Scanned.{open_count}
use Rattle.krb_frame.specs.declared.decoder.Phase.{Phase}
use Rattle.krb_frame.specs.declared.decoder.Phase.TheVariants as phase
use Rattle.krb_frame.specs.declared.decoder.Status.{Status}
use Rattle.krb_frame.specs.declared.decoder.Status.TheVariants as status

-- A decoder: the profile of the messages; the greatest length of a frame; the octets of the current frame that were used, its length first; how many octets of contents were looked at in all, which only contracts see; and for how many octets of contents memory is allocated.
pub record Decoding : Type 0 where
  pub profile : Profile
  pub limit : ℕ
  pub octets : List ℕ
  pub looks : ℕ
  pub capacity : ℕ

-- ---- the fields of a decoder, as a Decoding
-- the number of octets of a length that are present
abbrev pub length_present : Phase → ℕ
length_present (phase.Length count) = count
length_present (phase.Contents size) = 4
length_present phase.Ready = 4
length_present (phase.Refused refusal) = 4

-- the octets of the current frame: those of the length that are present, and then the contents
abbrev pub octets_of : Phase → List ℕ → List ℕ → List ℕ
octets_of phase announced contents = take (length_present phase) announced ++ contents

-- the fields of a decoder as a Decoding
abbrev pub decoding_of : Profile → ℕ → ℕ → ℕ → List ℕ → List ℕ → Phase → Decoding
decoding_of profile limit looks capacity announced contents phase = record { profile = profile; limit = limit; octets = octets_of phase announced contents; looks = looks; capacity = capacity }

-- there is capacity for any frame that the limit allows
pub record IsAmple (d : Decoding) : Type 0 where
  pub octets : d.limit ≤ d.capacity

-- the frames of these octets: the current one, if it is whole, and the end
unfoldable pub found : List Term → Decoding → Frames
found messages d = frames messages d.limit d.octets

-- ready if there is a frame, refused if the end is refused, and else more octets are needed
abbrev pub status_at : List (List ℕ) → End → Status
status_at (contents ∷ others) end = status.Ready
status_at [] Boundary = status.More
status_at [] (Within present) = status.More
status_at [] (Refused place reason) = status.Refused (record { place = place; why = reason })

abbrev pub status_of : List Term → Decoding → Status
status_of messages d = status_at (found messages d).contents (found messages d).end

abbrev pub first_of : List (List ℕ) → Option (List ℕ)
first_of [] = None
first_of (contents ∷ others) = Some contents

-- the contents of the frame that is ready
abbrev pub borrowed : List Term → Decoding → Option (List ℕ)
borrowed messages d = first_of (found messages d).contents

-- the decoder after the frame that is ready is cleared, if one is, with this capacity
abbrev pub after_next : List Term → Decoding → ℕ → Decoding
after_next messages d capacity = if is_some (borrowed messages d) then record d { octets = []; capacity = capacity } else d

-- why a stream with this end is refused, if it is
abbrev pub finish_at : End → Result (Unit {0}) Refusal
finish_at Boundary = Ok tt
finish_at (Within present) = Err (record { place = present; why = why.Truncated })
finish_at (Refused place reason) = Err (record { place = place; why = reason })

abbrev pub finish_of : List Term → Decoding → Result (Unit {0}) Refusal
finish_of messages d = finish_at (found messages d).end

-- the contents of the current frame that are kept
abbrev pub kept_contents : Decoding → List ℕ
kept_contents d = drop 4 d.octets

-- the length that a frame announces, if all of its four octets are among those that came
abbrev pub announced : List ℕ → Option ℕ
announced octets = if nat_lt (length octets) 4 then None else Some (number (take 4 octets))

-- The message of the current frame, as far as it came: its length, and the contents that are kept, which are no more than that.
pub record IsPartial (d : Decoding) (size : ℕ) (octets : List ℕ) : Type 0 where
  pub announced : size ≡ number (take 4 d.octets)
  pub kept : octets ≡ kept_contents d
  pub short : size < 2 ^ 31
  pub present : length octets ≤ size

-- how many lengths in the current frame are whole whose contents are not complete
abbrev pub open_lengths_of : Decoding → ℕ
open_lengths_of d = open_count d.profile (number (take 4 d.octets)) (kept_contents d)

-- the octets are of one frame alone: none is after a whole frame, nor after an octet that is refused
abbrev pub AreOfOne : List ℕ → List (List ℕ) → End → Type 0
AreOfOne octets [] Boundary = octets ≡ []
AreOfOne octets [] (Within present) = length octets ≡ present
AreOfOne octets [] (Refused place reason) = length octets ≡ place + 1
AreOfOne octets (contents ∷ []) Boundary = drop 4 octets ≡ contents
AreOfOne octets contents end = ⊥

abbrev pub IsOfOneFrame : List Term → Decoding → Type 0
IsOfOneFrame messages d = AreOfOne d.octets (found messages d).contents (found messages d).end
