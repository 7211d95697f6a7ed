-- What the frames of a direction have to do with the octets that they took.
use Rattle.std.specs.Prelude.{ℕ, ◌≡◌, ◌⊎◌, ◌+◌, ◌^◌, ◌<◌, ◌≤◌, Bool, true, false, List, [], ◌++◌, length, take, drop}
use Rattle.std.specs.List.{AllByRecursion}
use Rattle.krb_der.specs.Octets.{number}
use Rattle.krb_der.specs.declared.profile.Profile.{Profile}
use Rattle.krb_msg.specs.Grammar.{messages}
use Rattle.krb_frame.specs.Decoding.{status_of}
use Rattle.krb_frame.specs.GoingOn.{Entry, Skipping, GoesOn}
use Rattle.krb_frame.specs.declared.decoder.Status.TheVariants as status
use Rattle.krb_capture.specs.Found.{Found}
use Rattle.krb_capture.specs.Streams.{Framed, after_entries, before_frames, framed, is_cut, is_unknown, passwords_framed}
use Rattle.krb_capture.specs.declared.flow.Service.{Service}
use Rattle.krb_capture.specs.declared.flow.Service.TheVariants as services
use Rattle.krb_capture.specs.declared.frames.Frames.{Frames}
use Rattle.krb_capture.specs.declared.frames.Frames.TheVariants as frames
use Rattle.krb_capture.specs.declared.message_frames.MessageFrames.{MessageFrames}
use Rattle.krb_capture.specs.declared.password_frames.PasswordFrames.{PasswordFrames}

-- a frame that is whole, or refused with a length that is known
abbrev pub IsDone : Entry → Type 0
IsDone entry = (is_cut entry ≡ false) × (is_unknown entry ≡ false)

-- The decoder waits for the octets after a stream, whose frames that are whole or refused were cleared or skipped.
pub record Waits (profile : Profile) (decoder : Skipping) (stream : List ℕ) : Type 0 where
  pub before : List Entry
  pub done : AllByRecursion IsDone before
  pub goes_on : GoesOn (messages profile) decoder stream before
  pub waits : status_of (messages profile) decoder.current ≡ status.More

-- whatever follows, nothing more is found
abbrev pub IsOver : Service → ℕ → List ℕ → Type 0
IsOver service limit stream =
    (more : List ℕ) → ((framed service limit (stream ++ more)).found ≡ (framed service limit stream).found) × ((framed service limit (stream ++ more)).over ≡ true)

-- and the frame that is not whole begins after these
pub record WaitsWith (profile : Profile) (taker : MessageFrames) (stream : List ℕ) : Type 0 where
  pub waits : Waits profile taker.decoder stream
  pub offset : taker.offset ≡ after_entries 0 waits.before

abbrev pub WaitsUnless : Bool → Profile → MessageFrames → ℕ → List ℕ → Type 0
WaitsUnless false profile taker limit stream = WaitsWith profile taker stream
WaitsUnless true profile taker limit stream = IsOver (services.Kerberos profile) limit stream

-- they took a stream, with frames of at most n octets
pub record TookMessages (profile : Profile) (taker : MessageFrames) (limit : ℕ) (stream : List ℕ) : Type 0 where
  pub profile_is : taker.decoder.current.profile ≡ profile
  pub limit_is : taker.decoder.current.limit ≡ limit
  pub state : WaitsUnless taker.is_over profile taker limit stream

-- ---- messages that change passwords

abbrev pub passwords : Profile → ℕ → List ℕ → Framed
passwords profile limit stream = passwords_framed profile limit 0 stream

-- a length that a frame can have
pub record IsAllowed (limit n : ℕ) : Type 0 where
  pub some : 0 < n
  pub within : n ≤ limit
  pub short : n < 2 ^ 31

-- the octets of a frame that is not whole: its length is not, or some of its contents are not there
abbrev pub IsPart : ℕ → List ℕ → Type 0
IsPart limit octets = (length octets < 4) ⊎ (IsAllowed limit (number (take 4 octets)) × (4 ≤ length octets) × (length octets < 4 + number (take 4 octets)))

-- The octets of a frame that is not whole are kept, and what was found before it was listed; whatever follows, what is found then is that, and what is found in the octets that are kept and those that follow the skipped ones.
pub record Keeps (taker : PasswordFrames) (stream : List ℕ) : Type 0 where
  pub before : List Found
  pub goes_on : (more : List ℕ) → passwords taker.profile taker.limit (stream ++ more) ≡ before_frames before (passwords_framed taker.profile taker.limit taker.offset (taker.octets.items ++ drop taker.skipped more))
  pub partial : IsPart taker.limit taker.octets.items
  -- if octets are to be skipped, none of the frame after them came
  pub alone : (taker.skipped ≡ 0) ⊎ (taker.octets.items ≡ [])

abbrev pub KeepsUnless : Bool → PasswordFrames → List ℕ → Type 0
KeepsUnless false taker stream = Keeps taker stream
KeepsUnless true taker stream = IsOver (services.Passwords taker.profile) taker.limit stream

pub record TookPasswords (profile : Profile) (taker : PasswordFrames) (limit : ℕ) (stream : List ℕ) : Type 0 where
  pub profile_is : taker.profile ≡ profile
  pub limit_is : taker.limit ≡ limit
  pub state : KeepsUnless taker.is_over taker stream

-- ---- either
abbrev pub Took : Frames → ℕ → List ℕ → Type 0
Took (frames.Messages taker) limit stream = TookMessages taker.decoder.current.profile taker limit stream
Took (frames.Passwords taker) limit stream = TookPasswords taker.profile taker limit stream

abbrev pub service_of : Frames → Service
service_of (frames.Messages taker) = services.Kerberos taker.decoder.current.profile
service_of (frames.Passwords taker) = services.Passwords taker.profile

-- whether all that follows is passed over
abbrev pub over_in : Frames → Bool
over_in (frames.Messages taker) = taker.is_over
over_in (frames.Passwords taker) = taker.is_over

-- the octets of the frame that is not whole
abbrev pub kept_in : Frames → List ℕ
kept_in (frames.Messages taker) = taker.decoder.current.octets
kept_in (frames.Passwords taker) = taker.octets.items

-- and the offset at which it begins
abbrev pub offset_in : Frames → ℕ
offset_in (frames.Messages taker) = taker.offset
offset_in (frames.Passwords taker) = taker.offset
