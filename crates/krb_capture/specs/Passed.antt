-- What is listed of the frames of messages that change passwords, as their octets come.
use Rattle.std.specs.Prelude.{ℕ, ◌≡◌, ◌⊎◌, ◌+◌, ◌≤◌, nat_lt, if◌then◌else◌, Bool, true, false, List, [], ◌++◌, length, take, drop, Option, Some, None}
use Rattle.krb_der.specs.Octets.{number}
use Rattle.krb_der.specs.declared.profile.Profile.{Profile}
use Rattle.krb_record.specs.declared.capture_origin.CaptureOrigin.{CaptureOrigin}
use Rattle.krb_capture.specs.Found.{Found, Written, with_all}
use Rattle.krb_capture.specs.Passwords.{password_found}
use Rattle.krb_capture.specs.Streams.{after_frame, before_frames, found_with, frame_of, passwords_framed}
use Rattle.krb_capture.specs.Taken.{IsAllowed, KeepsUnless, TookPasswords, passwords}
use Rattle.krb_capture.specs.declared.flow.Service.TheVariants as services
use Rattle.krb_capture.specs.declared.password_frames.PasswordFrames.{PasswordFrames}

-- octets were taken, and the frames that are whole with them or refused were listed
pub record TakesPasswords (old new : PasswordFrames) (octets : List ℕ) (origin : CaptureOrigin) (before after : Written) : Type 0 where
  pub took : (profile : Profile) (limit : ℕ) (stream : List ℕ) → TookPasswords profile old limit stream → TookPasswords profile new limit (stream ++ octets)
  pub listed : (profile : Profile) (limit : ℕ) (stream : List ℕ) → TookPasswords profile old limit stream → after ≡ with_all origin (found_with (services.Passwords profile) limit stream octets) before
  pub same_profile : new.profile ≡ old.profile

-- octets of a frame: at most those of its length, or at most all of it
abbrev pub AreOfOne : ℕ → List ℕ → Type 0
AreOfOne limit octets = (length octets ≤ 4) ⊎ (IsAllowed limit (number (take 4 octets)) × (length octets ≤ 4 + number (take 4 octets)))

-- These octets of the next frame are there; what was found before it was listed.
pub record Holds (taker : PasswordFrames) (octets stream : List ℕ) : Type 0 where
  pub goes : taker.is_over ≡ false
  pub none_skipped : taker.skipped ≡ 0
  pub before : List Found
  pub goes_on : (more : List ℕ) → passwords taker.profile taker.limit (stream ++ more) ≡ before_frames before (passwords_framed taker.profile taker.limit taker.offset (octets ++ more))
  pub one : AreOfOne taker.limit octets

-- that frame was listed if it is whole or refused
pub record ListsNext (old new : PasswordFrames) (octets stream : List ℕ) (h : Holds old octets stream) (origin : CaptureOrigin) (before after : Written) : Type 0 where
  pub profile : new.profile ≡ old.profile
  pub limit : new.limit ≡ old.limit
  pub state : KeepsUnless new.is_over new stream
  pub listed : after ≡ with_all origin (drop (length h.before) (passwords old.profile old.limit stream).found) before

abbrev pub ListsWhole : PasswordFrames → PasswordFrames → CaptureOrigin → Written → Written → Type 0
ListsWhole old new origin before after = (stream : List ℕ) (h : Holds old old.octets.items stream) → ListsNext old new old.octets.items stream h origin before after

-- the length of a frame, if its octets are there
abbrev pub frame_length : List ℕ → Option ℕ
frame_length octets = if nat_lt (length octets) 4 then None else Some (number (take 4 octets))

-- the number of its octets, or of those of its length
abbrev pub frame_end : List ℕ → ℕ
frame_end octets = if nat_lt (length octets) 4 then 4 else 4 + number (take 4 octets)

-- nothing of the frame after one of n octets is kept, and octets before it are skipped
pub record PassesOver (old : PasswordFrames) (n count : ℕ) (new : PasswordFrames) : Type 0 where
  pub profile : new.profile ≡ old.profile
  pub limit : new.limit ≡ old.limit
  pub is_over : new.is_over ≡ old.is_over
  pub skipped : new.skipped ≡ count
  pub octets : new.octets.items ≡ []
  pub offset : new.offset ≡ after_frame old.offset n

-- the contents of a frame that is whole were listed
pub record ListsContentsOf (old : PasswordFrames) (n : ℕ) (contents : List ℕ) (new : PasswordFrames) (origin : CaptureOrigin) (before after : Written) : Type 0 where
  pub passes : PassesOver old n 0 new
  pub listed : after ≡ with_all origin (password_found old.profile (frame_of old.offset n) 4 contents) before

-- if it is not whole nothing changes
abbrev pub ListsContentsIf : Bool → PasswordFrames → ℕ → PasswordFrames → CaptureOrigin → Written → Written → Type 0
ListsContentsIf true old n new origin before after = (new ≡ old) × (after ≡ before)
ListsContentsIf false old n new origin before after = ListsContentsOf old n (drop 4 old.octets.items) new origin before after

abbrev pub ListsContents : PasswordFrames → ℕ → PasswordFrames → CaptureOrigin → Written → Written → Type 0
ListsContents old n new origin before after = ListsContentsIf (nat_lt (length old.octets.items) (4 + n)) old n new origin before after
