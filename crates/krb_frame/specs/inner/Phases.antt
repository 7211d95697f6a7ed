-- The contracts of the parts of a decoder by any messages.
use Rattle.std.specs.Prelude.{ℕ, zero, suc, ◌≡◌, ◌≢◌, ◌+◌, ◌-◌, ◌<◌, ◌≤◌, ◌^◌, ◌⊎◌, List, [], ◌++◌, length, take, min}
use Rattle.krb_der.specs.Octets.{number}
use Rattle.krb_der.specs.declared.profile.Profile.{Profile}
use Rattle.krb_der.specs.declared.verdict.Refusal.{Refusal}
use Rattle.krb_der.specs.declared.verdict.Verdict.{Verdict}
use Rattle.krb_der.specs.declared.verdict.Verdict.TheVariants as verdict
use Rattle.krb_msg.specs.Term.{Term}
use Rattle.krb_msg.specs.Judgement.{judgement_by}
use Rattle.krb_msg.specs.Stream.{End, Boundary, Within, Refused, ends, frames}
use Rattle.krb_scan.specs.Machine.{HasScanned}
use Rattle.krb_scan.specs.declared.machine.Machine.{Machine}
use Rattle.krb_frame.specs.Decoding.{Decoding, length_present, status_of, kept_contents, IsOfOneFrame}
use Rattle.krb_frame.specs.declared.decoder.Fed.{Fed}
use Rattle.krb_frame.specs.declared.decoder.Status.{Status}
use Rattle.krb_frame.specs.declared.decoder.Status.TheVariants as status
use Rattle.krb_frame.specs.declared.decoder.Phase.{Phase}
use Rattle.krb_frame.specs.declared.decoder.Phase.TheVariants as phase

-- the last of the contents of a frame is refused
pub record IsRefusedIn (messages : List Term) (size : ℕ) (contents : List ℕ) (refusal : Refusal) : Type 0 where
  pub offset : ℕ
  pub place : refusal.place ≡ 4 + offset
  pub judged : judgement_by messages size contents ≡ verdict.Refused (record { place = offset; why = refusal.why })
  pub last : length contents ≡ offset + 1

-- the status of contents to which a count of octets of a piece was appended
abbrev pub IsDecided : List Term → ℕ → List ℕ → List ℕ → ℕ → Status → Type 0
IsDecided messages size contents piece count status.More = (judgement_by messages size contents ≡ verdict.Open) × (count ≡ length piece)
IsDecided messages size contents piece count status.Ready = (judgement_by messages size contents ≡ verdict.Whole) × (length contents ≡ size)
IsDecided messages size contents piece count (status.Refused refusal) = IsRefusedIn messages size contents refusal
IsDecided messages size contents piece count status.Memory = (judgement_by messages size contents ≡ verdict.Open) × (count < length piece)

-- octets of a piece were appended to the contents of a frame and judged
pub record IsFedContents (messages : List Term) (size : ℕ) (before piece after : List ℕ) (fed : Fed) : Type 0 where
  pub within : fed.used ≤ length piece
  pub contents : after ≡ before ++ take fed.used piece
  pub present : length after ≤ size
  pub decided : IsDecided messages size after piece fed.used fed.status

-- a refusal is of one of the octets that a frame may have
abbrev pub IsEarly : Verdict → Type 0
IsEarly (verdict.Refused refusal) = refusal.place < 2 ^ 31
IsEarly other = Unit {0}

-- the status by the verdict of a machine
abbrev pub status_by : Verdict → Status
status_by verdict.Open = status.More
status_by verdict.Whole = status.Ready
status_by (verdict.Refused refusal) = status.Refused (record { place = 4 + refusal.place; why = refusal.why })

-- the phase after them
abbrev pub phase_of : ℕ → Status → Phase
phase_of size status.More = phase.Contents size
phase_of size status.Memory = phase.Contents size
phase_of size status.Ready = phase.Ready
phase_of size (status.Refused refusal) = phase.Refused refusal

-- the end of a stream that has a number of octets of a frame
abbrev pub end_after : ℕ → End
end_after zero = Boundary
end_after (suc present) = Within (suc present)

-- ---- the fields of a decoder
-- a length that may be followed by contents
pub record IsAccepted (limit : ℕ) (announced : List ℕ) (size : ℕ) : Type 0 where
  pub four : length announced ≡ 4
  pub is : number announced ≡ size
  pub some : 0 < size
  pub short : size < 2 ^ 31
  pub within : size ≤ limit

-- the length is not complete
pub record HasPartOfLength (announced contents : List ℕ) (count : ℕ) : Type 0 where
  pub four : length announced ≡ 4
  pub part : count < 4
  pub none : contents ≡ []

-- the contents are not complete
pub record HasPart (messages : List Term) (limit : ℕ) (announced contents : List ℕ) (size : ℕ) : Type 0 where
  pub accepted : IsAccepted limit announced size
  pub present : length contents ≤ size
  pub undecided : judgement_by messages size contents ≡ verdict.Open

-- the frame is complete
pub record HasFrame (messages : List Term) (limit : ℕ) (announced contents : List ℕ) : Type 0 where
  pub accepted : IsAccepted limit announced (length contents)
  pub whole : judgement_by messages (length contents) contents ≡ verdict.Whole

-- the last octet is refused
pub record HasRefused (messages : List Term) (limit : ℕ) (announced contents : List ℕ) (refusal : Refusal) : Type 0 where
  pub four : length announced ≡ 4
  pub found : frames messages limit (announced ++ contents) ≡ ends (Refused refusal.place refusal.why)
  pub last : 4 + length contents ≡ refusal.place + 1
  pub few : length contents ≤ limit
  pub short : length contents < 2 ^ 31

abbrev pub IsPhaseOf : List Term → ℕ → List ℕ → List ℕ → Phase → Type 0
IsPhaseOf messages limit announced contents (phase.Length count) = HasPartOfLength announced contents count
IsPhaseOf messages limit announced contents (phase.Contents size) = HasPart messages limit announced contents size
IsPhaseOf messages limit announced contents phase.Ready = HasFrame messages limit announced contents
IsPhaseOf messages limit announced contents (phase.Refused refusal) = HasRefused messages limit announced contents refusal

-- if there are contents, the machine has scanned them
abbrev pub IsScanned : Profile → Machine → List ℕ → List ℕ → Phase → Type 0
IsScanned profile machine announced contents (phase.Length count) = Unit {0}
IsScanned profile machine announced contents (phase.Contents size) = HasScanned profile machine size contents
IsScanned profile machine announced contents phase.Ready = HasScanned profile machine (length contents) contents
IsScanned profile machine announced contents (phase.Refused refusal) = (contents ≡ []) ⊎ HasScanned profile machine (number announced) contents

-- the phase after the last octet of a length
pub record IsLengthJudged (messages : List Term) (limit : ℕ) (announced : List ℕ) (phase : Phase) : Type 0 where
  pub at : IsPhaseOf messages limit announced [] phase
  pub all : length_present phase ≡ 4

-- ---- the parts of a feed
-- octets of a length were put after those that are present
pub record IsPut (before : List ℕ) (present : ℕ) (piece after : List ℕ) (count : ℕ) : Type 0 where
  pub many : count ≡ min (4 - present) (length piece)
  pub prefix : take (present + count) after ≡ take present before ++ take count piece

-- octets of a length, if any is missing, were used
pub record FeedsLength (messages : List Term) (old : Decoding) (piece : List ℕ) (new : Decoding) (used : ℕ) : Type 0 where
  pub within : used ≤ length piece
  pub same_profile : new.profile ≡ old.profile
  pub same_limit : new.limit ≡ old.limit
  pub octets : new.octets ≡ old.octets ++ take used piece
  pub looks : new.looks ≡ old.looks
  pub contents : length (kept_contents new) ≡ length (kept_contents old)
  pub again : status_of messages old ≢ status.More → used ≡ 0
  pub capacity : old.capacity ≤ new.capacity
  pub on : (used ≡ length piece) ⊎ (4 ≤ length new.octets)
  pub one : IsOfOneFrame messages new

-- the status of a phase
abbrev pub phase_status : Phase → Status
phase_status (phase.Length count) = status.More
phase_status (phase.Contents size) = status.More
phase_status phase.Ready = status.Ready
phase_status (phase.Refused refusal) = status.Refused refusal
