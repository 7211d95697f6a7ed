-- What the parts of a run that decodes a capture promise each other.
use Rattle.std.specs.Prelude.{ℕ, ◌≡◌, ◌+◌, ◌-◌, ◌==◌, Bool, true, false, List, [], ◌∷◌, ◌++◌, drop, length, Option, Some, None, Box}
use Rattle.std.specs.declared.alloc.Global.{Global}
use Rattle.krb_der.specs.declared.profile.Profile.{Profile}
use Rattle.krb_packet.specs.Captures.{packets}
use Rattle.krb_packet.specs.Streaming.{PacketsModel, Reads}
use Rattle.krb_record.specs.Labels.{Label}
use Rattle.krb_capture.specs.Captures.{Finding, Progress, happened_in, lines_of}
use Rattle.krb_capture.specs.Rests.{HasFollowedBut}
use Rattle.krb_capture.specs.declared.capture.Capture.{Capture}
use Rattle.krb_capture.specs.declared.directions.Rest.{Rest}
use Rattle.krb_run.specs.Records.{RecordListing, after_line}
use Rattle.krb_run.specs.declared.run.RunEnd.{RunEnd}
use Rattle.krb_run.specs.declared.run.RunEnd.TheVariants as run
use Rattle.krb_capture_run.specs.Decoded.{decoding, ending, followed, found_from, missing_text, with_missing}
use Rattle.krb_capture_run.specs.declared.decode_run.Wanted.{Wanted}

-- a capture, and how it is decoded
pub record DecodedSource : Type 0 where
  pub profile : Profile
  pub limit : ℕ
  pub port : ℕ
  pub packet : Option ℕ
  pub file : List ℕ

-- how many packets are still to come up to the one that is wanted
abbrev pub more_of : Option Wanted → Option ℕ
more_of None = None
more_of (Some wanted) = Some wanted.more

abbrev pub wanted_of : (packet : Option ℕ) → Option Wanted
wanted_of None = None
wanted_of (Some number) = Some (record { number = number; more = number })

abbrev pub has_come : Option Wanted → Bool
has_come None = false
has_come (Some wanted) = wanted.more == 0

abbrev pub after_packet : Option Wanted → Option Wanted
after_packet None = None
after_packet (Some wanted) = Some (record wanted { more = wanted.more - 1 })

-- so many came of those up to the one of a number
abbrev pub HaveCome : Option Wanted → (packet : Option ℕ) → (came : ℕ) → Type 0
HaveCome None packet came = packet ≡ None
HaveCome (Some wanted) packet came = (packet ≡ Some wanted.number) × (wanted.number ≡ wanted.more + came)

-- A reader returned the first packets of a file, they were followed, but for findings of the last one, and this is left of what is found.
pub record IsFoundLeft (model : PacketsModel) (capture : Capture) (rest : Option (Box Rest Global)) (label : Label) (wanted : Option Wanted) (source : DecodedSource) (left : RecordListing) : Type 0 where
  pub count : ℕ
  pub progress : Progress
  pub found : List Finding
  pub reads : Reads model source.file count
  pub came : HaveCome wanted source.packet count
  pub followed_is : HasFollowedBut capture (decoding source.profile source.limit source.port source.packet) progress rest found
  pub untold : happened_in capture.happened ≡ None
  pub form : label.form ≡ (decoding source.profile source.limit source.port source.packet).label.form
  pub is : left ≡ after_line (lines_of (decoding source.profile source.limit source.port source.packet).label None found) (found_from (decoding source.profile source.limit source.port source.packet) (followed (more_of wanted) (drop count (packets source.file).items)) (ending (more_of wanted) (drop count (packets source.file).items) (packets source.file).end) progress)

-- all packets came that are followed
abbrev pub AllCame : Option Wanted → DecodedSource → Type 0
AllCame wanted source = HaveCome wanted source.packet (length (followed source.packet (packets source.file).items))

-- whether there are lines
abbrev pub HasLines : Bool → List ℕ → Type 0
HasLines false lines = lines ≡ []
HasLines true [] = ⊥
HasLines true (octet ∷ lines) = Unit {0}

-- what is said if there is none
abbrev pub SaysMissing : Option Wanted → (has_line : Bool) → (end : RunEnd) → (old new : List ℕ) → (ended : RunEnd) → Type 0
SaysMissing (Some wanted) false end old new ended = (new ≡ old ++ missing_text wanted.number wanted.more) × (ended ≡ run.Refused)
SaysMissing (Some wanted) true end old new ended = (new ≡ old) × (ended ≡ end)
SaysMissing None has_line end old new ended = (new ≡ old) × (ended ≡ end)

-- and with it
pub record IsDecodedLeft (model : PacketsModel) (capture : Capture) (rest : Option (Box Rest Global)) (label : Label) (wanted : Option Wanted) (has_line : Bool) (source : DecodedSource) (left : RecordListing) : Type 0 where
  pub before : List ℕ
  pub base : RecordListing
  pub has : HasLines has_line before
  pub found_left : IsFoundLeft model capture rest label wanted source base
  pub is : left ≡ with_missing source.packet (length (followed source.packet (packets source.file).items)) before base
