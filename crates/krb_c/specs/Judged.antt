-- What C is told of octets that are judged.
use Rattle.std.specs.Prelude.{ℕ, ◌≡◌, ◌+◌, ◌^◌, ◌==◌, nat_lt, nat_le, if◌then◌else◌, List, [], ◌∷◌, length, take, Option, Some, None}
use Rattle.krb_der.specs.Octets.{number}
use Rattle.krb_der.specs.Reasons.{reason_number}
use Rattle.krb_der.specs.declared.profile.Profile.{Profile}
use Rattle.krb_der.specs.declared.verdict.Refusal.{Refusal}
use Rattle.krb_der.specs.declared.verdict.Verdict.{Verdict}
use Rattle.krb_der.specs.declared.verdict.Verdict.TheVariants as verdict
use Rattle.krb_der.specs.declared.why.Why.TheVariants as why
use Rattle.krb_msg.specs.Grammar.{messages}
use Rattle.krb_msg.specs.Judgement.{judgement}
use Rattle.krb_msg.specs.Stream.{End, Boundary, Within, Refused, Frames, frames}

-- The answer and the place: 0 of octets that are whole, 255 if nothing is decided yet, and then the place stays; and of a refusal the number of its reason, and its place.
abbrev pub Answers : Verdict → (before after answer : ℕ) → Type 0
Answers verdict.Whole before after answer = (after ≡ before) × (answer ≡ 0)
Answers verdict.Open before after answer = (after ≡ before) × (answer ≡ 255)
Answers (verdict.Refused refusal) before after answer = (after ≡ refusal.place) × (answer ≡ reason_number refusal.why)

-- octets that are all there are whole if they are not refused
abbrev pub whole_unless : Option Refusal → Verdict
whole_unless None = verdict.Whole
whole_unless (Some refusal) = verdict.Refused refusal

-- The verdict on a message of n octets by the first of them. Octets after these n are not looked at, and neither is any if n is 0 or 2147483648 or more.
abbrev pub front_verdict : Profile → ℕ → List ℕ → Verdict
front_verdict profile n octets =
    if nat_lt 2147483647 n then verdict.Refused (record { place = 0; why = why.TooLong })
    else if n == 0 then verdict.Refused (record { place = 0; why = why.Empty })
    else judgement profile n (take n octets)

-- the verdict on the first frame, by the end of the frames and the contents of those that are whole
abbrev pub first_of : End → List (List ℕ) → Verdict
first_of end (first ∷ others) = verdict.Whole
first_of Boundary [] = verdict.Open
first_of (Within present) [] = verdict.Open
first_of (Refused place reason) [] = verdict.Refused (record { place = place; why = reason })

abbrev pub first_verdict : Frames → Verdict
first_verdict found = first_of found.end found.contents

-- the verdict on the frame with which a stream begins
abbrev pub frame_verdict : Profile → (limit : ℕ) → List ℕ → Verdict
frame_verdict profile limit stream = first_verdict (frames (messages profile) limit stream)

-- How many octets the frame has with which a stream begins: four, and those that these four announce. It is 4 until these are there, and 0 if their high bit is set, since their meaning is not known then (RFC 4120, 7.2.2).
abbrev pub announced_size : ℕ → ℕ
announced_size n = if nat_le (2 ^ 31) n then 0 else 4 + n

abbrev pub frame_size : List ℕ → ℕ
frame_size stream = if nat_lt (length stream) 4 then 4 else announced_size (number (take 4 stream))
