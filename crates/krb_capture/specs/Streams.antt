-- What is found in the octets that one end of a connection sends: frames (RFC 4120, 7.2.2), after each of which the next one begins, also after one that is refused.
use Rattle.std.specs.Prelude.{ℕ, zero, suc, ◌+◌, ◌^◌, nat_lt, nat_le, not, ◌&&◌, Bool, true, false, if◌then◌else◌, List, [], ◌∷◌, ◌++◌, length, take, drop, Option, Some, None, codes}
use Rattle.std.specs.List.{filter, list_any}
use Rattle.krb_der.specs.Octets.{number}
use Rattle.krb_der.specs.declared.profile.Profile.{Profile}
use Rattle.krb_der.specs.declared.verdict.Refusal.{Refusal}
use Rattle.krb_der.specs.declared.why.Why.{Why}
use Rattle.krb_der.specs.declared.why.Why.TheVariants as why
use Rattle.krb_msg.specs.Grammar.{messages}
use Rattle.krb_frame.specs.Decoding.{announced}
use Rattle.krb_frame.specs.Frame.{length_fault}
use Rattle.krb_frame.specs.GoingOn.{Entry, Contents, Fault, entries, entry_size}
use Rattle.krb_flow.specs.declared.stream.End.{End}
use Rattle.krb_flow.specs.declared.stream.End.TheVariants as ends
use Rattle.krb_record.specs.declared.extent.Extent.{Extent}
use Rattle.krb_capture.specs.Found.{Found, Whole, Faulty, Missing, and_more}
use Rattle.krb_capture.specs.Messages.{path_of}
use Rattle.krb_capture.specs.Passwords.{password_found}
use Rattle.krb_capture.specs.declared.flow.Service.{Service}
use Rattle.krb_capture.specs.declared.flow.Service.TheVariants as services

-- What is found in frames; the octets of the last one, if it is not whole yet, and the offset at which these begin; and whether its length is not known, so that nothing follows it.
pub record Framed : Type 0 where
  pub found : List Found
  pub partial : List ℕ
  pub offset : ℕ
  pub over : Bool

-- ---- where frames are

-- where a frame is that begins at an offset, and the length that it announces, by its octets that are there
abbrev pub extent_at : ℕ → List ℕ → Extent
extent_at offset octets = record { at = offset; length = announced octets }

-- the offset after a frame that begins at another; offsets stop at the greatest number of 64 bits, as counts do
abbrev pub after_entry : ℕ → Entry → ℕ
after_entry offset entry = and_more offset (entry_size entry)

-- the offset after frames
abbrev pub after_entries : ℕ → List Entry → ℕ
after_entries offset [] = offset
after_entries offset (entry ∷ others) = after_entries (after_entry offset entry) others

-- ---- messages of Kerberos

-- the path in a frame of which these octets are there: there is none in its length
abbrev pub frame_path : Profile → List ℕ → Option (List ℕ)
frame_path profile octets = path_of profile (number (take 4 octets)) (drop 4 octets)

-- A frame is refused at an octet of it; the octets that are there of one that is cut end before that place, and it is found at the end alone.
abbrev pub is_cut : Entry → Bool
is_cut (Contents contents) = false
is_cut (Fault place reason prefix) = nat_le (length prefix) place

-- a frame is refused whose length has its high bit set
abbrev pub is_unknown : Entry → Bool
is_unknown (Contents contents) = false
is_unknown (Fault place reason prefix) = nat_lt place (length prefix) && nat_le (2 ^ 31) (number (take 4 prefix))

-- what is found in a frame that begins at an offset
abbrev pub entry_found : Profile → ℕ → Entry → Found
entry_found profile offset (Contents contents) = Whole contents
entry_found profile offset (Fault place reason prefix) = Faulty (record { place = place; why = reason }) (frame_path profile prefix) (extent_at offset prefix)

-- in frames, the first of which does
abbrev pub entries_found : Profile → ℕ → List Entry → List Found
entries_found profile offset [] = []
entries_found profile offset (entry ∷ others) = entry_found profile offset entry ∷ entries_found profile (after_entry offset entry) others

-- the octets of the frame that is cut, if one is
abbrev pub cut_octets : List Entry → List ℕ
cut_octets [] = []
cut_octets (Contents contents ∷ others) = cut_octets others
cut_octets (Fault place reason prefix ∷ others) = if nat_le (length prefix) place then prefix else cut_octets others

abbrev pub not_cut : List Entry → List Entry
not_cut found = filter (λ entry. not (is_cut entry)) found

abbrev pub framed_entries : Profile → ℕ → List Entry → Framed
framed_entries profile offset found = record { found = entries_found profile offset (not_cut found); partial = cut_octets found; offset = after_entries offset (not_cut found); over = list_any is_unknown found }

unfoldable pub messages_framed : Profile → ℕ → List ℕ → Framed
messages_framed profile limit stream = framed_entries profile 0 (entries (messages profile) limit stream)

-- ---- messages that change passwords, each of which is looked at once it is whole

abbrev pub no_frames : ℕ → List ℕ → Framed
no_frames offset octets = record { found = []; partial = octets; offset = offset; over = false }

abbrev pub before_frames : List Found → Framed → Framed
before_frames found framed = record { found = found ++ framed.found; partial = framed.partial; offset = framed.offset; over = framed.over }

-- a frame at an offset that announces n octets
abbrev pub frame_of : ℕ → ℕ → Extent
frame_of offset n = record { at = offset; length = Some n }

-- the offset after it
abbrev pub after_frame : ℕ → ℕ → ℕ
after_frame offset n = and_more offset (4 + n)

-- it is refused for its length
abbrev pub length_found : Extent → Why → Found
length_found extent reason = Faulty (record { place = 3; why = reason }) None extent

-- what is found in it, by why its length is refused, and in those after it; after HighBit it is not known where the next one begins
abbrev pub password_frame_by : Profile → Option Why → ℕ → ℕ → List ℕ → Framed → Framed
password_frame_by profile (Some why.HighBit) offset n octets others = record { found = length_found (frame_of offset n) why.HighBit ∷ []; partial = []; offset = offset; over = true }
password_frame_by profile (Some reason) offset n octets others = before_frames (length_found (frame_of offset n) reason ∷ []) others
password_frame_by profile None offset n octets others = if nat_lt (length octets) (4 + n) then no_frames offset octets else before_frames (password_found profile (frame_of offset n) 4 (take n (drop 4 octets))) others

abbrev pub password_frame : Profile → ℕ → ℕ → ℕ → List ℕ → (ℕ → List ℕ → Framed) → Framed
password_frame profile limit offset n octets frames = password_frame_by profile (length_fault limit n) offset n octets (frames (after_frame offset n) (drop (4 + n) octets))

-- the first number bounds how many frames there are
abbrev pub password_frames : Profile → ℕ → ℕ → ℕ → List ℕ → Framed
password_frames profile zero limit offset octets = no_frames offset octets
password_frames profile (suc bound) limit offset octets =
    if nat_lt (length octets) 4 then no_frames offset octets
    else password_frame profile limit offset (number (take 4 octets)) octets (password_frames profile bound limit)

-- in octets that begin at an offset
unfoldable pub passwords_framed : Profile → ℕ → ℕ → List ℕ → Framed
passwords_framed profile limit offset octets = password_frames profile (length octets) limit offset octets

-- ---- by what the flow carries, with frames of at most n octets
abbrev pub framed : Service → ℕ → List ℕ → Framed
framed (services.Kerberos profile) limit stream = messages_framed profile limit stream
framed (services.Passwords profile) limit stream = passwords_framed profile limit 0 stream

abbrev pub open_path : Service → List ℕ → Option (List ℕ)
open_path (services.Kerberos profile) octets = frame_path profile octets
open_path (services.Passwords profile) octets = if nat_lt (length octets) 4 then None else Some (codes "KPASSWD")

-- what is found with more octets of a stream
unfoldable pub found_with : Service → ℕ → List ℕ → List ℕ → List Found
found_with service limit stream more = drop (length (framed service limit stream).found) (framed service limit (stream ++ more)).found

-- why a frame is refused that is not whole at the end, by its octets that are there
abbrev pub cut_refusal : List ℕ → Option Refusal
cut_refusal [] = None
cut_refusal (octet ∷ octets) = Some (record { place = length (octet ∷ octets); why = why.Truncated })

abbrev pub refusal_found : Service → ℕ → List ℕ → Option Refusal → List Found
refusal_found service offset octets None = []
refusal_found service offset octets (Some refusal) = Faulty refusal (open_path service octets) (extent_at offset octets) ∷ []

-- octets that are missing at the end, or else a frame that is not whole, which begins at an offset
abbrev pub known_end : Service → End → ℕ → List ℕ → List Found
known_end service (ends.Lost lost) offset octets = Missing lost.place lost.octets (open_path service octets) ∷ []
known_end service ends.Complete offset octets = refusal_found service offset octets (cut_refusal octets)

-- what is found at the end of a stream; nothing if its last frame has no known length
unfoldable pub end_found : Service → ℕ → List ℕ → End → List Found
end_found service limit stream end = if (framed service limit stream).over then [] else known_end service end (framed service limit stream).offset (framed service limit stream).partial
