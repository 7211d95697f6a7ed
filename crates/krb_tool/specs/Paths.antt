-- The field at fault of the frame with which a stream ends, and where that frame is; and the field at fault of a message.
use Rattle.std.specs.Prelude.{ℕ, ◌+◌, List, [], length, take, drop, nat_lt, if◌then◌else◌, Option, Some, None}
use Rattle.krb_der.specs.Octets.{number}
use Rattle.krb_der.specs.declared.profile.Profile.{Profile}
use Rattle.krb_der.specs.declared.verdict.Refusal.{Refusal}
use Rattle.krb_msg.specs.Grammar.{messages}
use Rattle.krb_msg.specs.Stream.{End, Boundary, Within, Refused, Frames, frames}
use Rattle.krb_judge.specs.Paths.{message_path, ticket_path}
use Rattle.krb_frame.specs.Decoded.{frames_size}
use Rattle.krb_frame.specs.Decoding.{announced}
use Rattle.krb_frame.specs.GoingOn.{after_contents}
use Rattle.krb_record.specs.declared.extent.Extent.{Extent}

-- The path in a frame, by its octets up to the refused one, or those that are there of one that is cut. There is none in its length.
unfoldable pub frame_path : Profile → List ℕ → Option (List ℕ)
frame_path profile octets = message_path profile (number (take 4 octets)) (drop 4 octets)

-- of the octets after the whole frames of a stream, those of the frame in which it ends, up to the refused one
abbrev pub last_octets : End → List ℕ → List ℕ
last_octets Boundary octets = []
last_octets (Within present) octets = octets
last_octets (Refused place reason) octets = take (place + 1) octets

abbrev pub found_path : Profile → Frames → List ℕ → Option (List ℕ)
found_path profile found stream = frame_path profile (last_octets found.end (after_contents found stream))

-- the path in the frame in which a stream ends, by a profile, with frames of at most n octets
abbrev pub end_path : Profile → ℕ → List ℕ → Option (List ℕ)
end_path profile limit stream = found_path profile (frames (messages profile) limit stream) stream

-- where a frame is that begins at an offset, and the length that it announces, by its octets that are there
abbrev pub frame_extent : ℕ → List ℕ → Extent
frame_extent offset octets = record { at = offset; length = announced octets }

-- the frame in which a stream ends begins after the octets of its whole frames
abbrev pub found_extent : Frames → List ℕ → Extent
found_extent found stream = frame_extent (frames_size found.contents) (last_octets found.end (after_contents found stream))

abbrev pub end_extent : Profile → ℕ → List ℕ → Extent
end_extent profile limit stream = found_extent (frames (messages profile) limit stream) stream

-- the path in octets that are refused as a message, if they are not too many for one
unfoldable pub refused_path : Profile → List ℕ → Refusal → Option (List ℕ)
refused_path profile octets refusal =
    if nat_lt 2147483647 (length octets) then None else message_path profile (length octets) (take (refusal.place + 1) octets)

-- the same in octets that are refused as a Ticket
unfoldable pub ticket_refused_path : Profile → List ℕ → Refusal → Option (List ℕ)
ticket_refused_path profile octets refusal =
    if nat_lt 2147483647 (length octets) then None else Some (ticket_path profile (length octets) (take (refusal.place + 1) octets))
