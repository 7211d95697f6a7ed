-- Where the octets lie of the records of a stream, and of a message.
use Rattle.std.specs.Prelude.{ℕ, ◌+◌, ◌-◌, ◌==◌, ◌&&◌, nat_lt, min, suc, zero, if◌then◌else◌, Bool, true, false, List, [], ◌∷◌, ◌++◌, length, drop, Option, Some, None}
use Rattle.krb_der.specs.declared.profile.Profile.{Profile}
use Rattle.krb_der.specs.declared.verdict.Refusal.{Refusal}
use Rattle.krb_der.specs.declared.verdict.Verdict.{Verdict}
use Rattle.krb_der.specs.declared.verdict.Verdict.TheVariants as verdict
use Rattle.krb_judge.specs.Parses.{refusal_of, ticket_refusal}
use Rattle.krb_token.specs.Opened.{Found, Message, Ticket, Ntlm, Refused}
use Rattle.krb_token.specs.Tokens.{opened}
use Rattle.krb_c.specs.Judged.{frame_size, frame_verdict}

-- For each record the place of its first octet and how many there are, and whether nothing is refused.
pub record Spanned : Type 0 where
  pub numbers : List ℕ
  pub clean : Bool

abbrev pub nothing : Spanned
nothing = record { numbers = []; clean = true }

-- the octets from a place up to an end, and those that are refused
abbrev pub up_to : (begin end : ℕ) → Spanned
up_to begin end = record { numbers = begin ∷ (end - begin) ∷ []; clean = true }

abbrev pub refused_up_to : (begin end : ℕ) → Spanned
refused_up_to begin end = record { numbers = begin ∷ (end - begin) ∷ []; clean = false }

abbrev pub both : Spanned → Spanned → Spanned
both one other = record { numbers = one.numbers ++ other.numbers; clean = one.clean && other.clean }

-- ---- a stream, frame by frame, as krbls_frame has it
-- where a frame ends that is refused: at the end of all, if its length is not known, or says no less
abbrev pub refused_end : (begin size all : ℕ) → ℕ
refused_end begin size all = if size == 0 then all else min (begin + size) all

-- of what is no whole frame: the end of the stream; or what is refused, which ends it unless it goes on
abbrev pub other_and : (end : ℕ) → (is_end goes_on : Bool) → (begin all : ℕ) → (next : ℕ → Spanned) → Spanned
other_and end true goes_on begin all next = both (up_to begin begin) nothing
other_and end false false begin all next = both (refused_up_to begin all) nothing
other_and end false true begin all next = both (refused_up_to begin end) (next end)

-- a message is after the four octets of its length
abbrev pub frame_and : Verdict → (is_end goes_on : Bool) → (begin size all : ℕ) → (next : ℕ → Spanned) → Spanned
frame_and verdict.Whole is_end goes_on begin size all next = both (up_to (begin + 4) (min (begin + size) all)) (next (min (begin + size) all))
frame_and verdict.Open is_end goes_on begin size all next = other_and all is_end goes_on begin all next
frame_and (verdict.Refused refusal) is_end goes_on begin size all next = other_and (refused_end begin size all) is_end goes_on begin all next

abbrev pub frame_at : Profile → (limit : ℕ) → (goes_on : Bool) → (stream : List ℕ) → (begin : ℕ) → (next : ℕ → Spanned) → Spanned
frame_at profile limit goes_on stream begin next =
    let rest = drop begin stream in frame_and (frame_verdict profile limit rest) (length rest == 0) goes_on begin (frame_size rest) (length stream) next

-- the first number bounds how many frames there are
abbrev pub frames_from : (bound : ℕ) → Profile → (limit : ℕ) → (goes_on : Bool) → (stream : List ℕ) → (begin : ℕ) → Spanned
frames_from zero profile limit goes_on stream begin = nothing
frames_from (suc bound) profile limit goes_on stream begin = frame_at profile limit goes_on stream begin (frames_from bound profile limit goes_on stream)

unfoldable pub stream_spans : Profile → (limit : ℕ) → (goes_on : Bool) → (stream : List ℕ) → Spanned
stream_spans profile limit goes_on stream = frames_from (length stream + 1) profile limit goes_on stream 0

-- ---- a message
-- a refusal is of all octets
abbrev pub unless_refused : Option Refusal → (begin end all : ℕ) → Spanned
unless_refused None begin end all = up_to begin end
unless_refused (Some refusal) begin end all = refused_up_to 0 all

abbrev pub found_spans : Profile → (octets : List ℕ) → Found → Spanned
found_spans profile octets (Message part) = unless_refused (refusal_of profile part.octets) part.place (part.place + length part.octets) (length octets)
found_spans profile octets Ticket = unless_refused (ticket_refusal profile octets) 0 (length octets) (length octets)
found_spans profile octets (Ntlm place) = refused_up_to 0 (length octets)
found_spans profile octets (Refused fault) = refused_up_to 0 (length octets)

unfoldable pub message_spans : Profile → (octets : List ℕ) → Spanned
message_spans profile octets = if nat_lt 2147483647 (length octets) then refused_up_to 0 (length octets) else found_spans profile octets (opened octets).found
