-- Laws of records.
use Rattle.std.specs.Prelude.{ℕ, pos, ◌≡◌, ◌<◌, ◌≤◌, ◌^◌, unsigned_abs, Option, None, IfSome, List, [], ◌++◌}
use Rattle.std.specs.List.{AllByRecursion}
use Rattle.std.specs.Net.Addr.{IsIpv4Addr, IsIpv6Addr, MatchIp}
use Rattle.jiff_core.specs.Date.{epoch_day}
use Rattle.jiff_core.specs.declared.civil.date.Date.{Date}
use Rattle.krb_der.specs.Octets.{AreOctets}
use Rattle.krb_source.specs.declared.file_why.FileWhy.{FileWhy}
use Rattle.krb_der.specs.declared.verdict.Refusal.{Refusal}
use Rattle.krb_der.specs.declared.why.Why.{Why}
use Rattle.krb_source.specs.declared.spelling.Spelling.{Spelling}
use Rattle.krb_record.specs.declared.capture.CaptureCounts.{CaptureCounts}
use Rattle.krb_record.specs.declared.told.Answer.{Answer}
use Rattle.krb_record.specs.declared.told.Request.{Request}
use Rattle.krb_record.specs.declared.told.Told.TheVariants.{Nothing}
use Rattle.krb_record.specs.declared.told.ToldCounts.{ToldCounts}
use Rattle.krb_record.specs.declared.capture_origin.CaptureOrigin.{CaptureOrigin}
use Rattle.krb_record.specs.declared.form.Base.{Base}
use Rattle.krb_record.specs.declared.form.Form.TheVariants.{Lines, NamedLines}
use Rattle.krb_record.specs.Forms.{form_of, record_line}
use Rattle.krb_record.specs.Text.{AllAreOctets, IsPrintable, escape, line_feed, principal_text}
use Rattle.krb_record.specs.declared.extent.Extent.{Extent}
use Rattle.krb_record.specs.declared.input.InputFault.{InputFault}
use Rattle.krb_record.specs.Inputs.{input_refused_line}
use Rattle.krb_record.specs.Refusals.{file_refused_line, message_refused_line, untold_message_refused_line}
use Rattle.krb_record.specs.Streams.{counted_end_line, untold_refused_line}
use Rattle.krb_record.specs.Captures.{capture_end_line, capture_refused_line, captured_line, captured_refused_line, joined_line, lost_line, password_line, unanswered_line, unreachable_line}
use Rattle.krb_record.specs.Unreachables.{error_of}
use Rattle.krb_record.specs.declared.unreachable.How.{How}
use Rattle.krb_record.specs.Files.{file_line}
use Rattle.krb_record.specs.Origins.{message_origin}
use Rattle.krb_record.specs.Time.{civil_date, the_date}
use Rattle.krb_record.specs.Values.{Printed}
use Rattle.krb_source.specs.declared.layer.Layer.{Layer}

-- different components or realms have different texts
abbrev pub PrincipalTextIsInjective : Type 0
PrincipalTextIsInjective = (components others : List (List ℕ)) (realm other : List ℕ) → AllAreOctets components → AllAreOctets others → AreOctets realm → AreOctets other → principal_text components realm ≡ principal_text others other → (components ≡ others) × (realm ≡ other)

-- an escape prints only 21 to 7E
abbrev pub EscapeIsGraphic : Type 0
EscapeIsGraphic = (octets : List ℕ) → AreOctets octets → AllByRecursion (λ c. (33 ≤ c) × (c ≤ 126)) (escape octets)

-- The date that is found by counting is the one of the calendar that has this day number.
abbrev pub DatesAreTheCalendars : Type 0
DatesAreTheCalendars = (date : Date) (days : ℕ) → epoch_day date ≡ pos days → civil_date days ≡ the_date (unsigned_abs date.year) date.month date.day

-- ---- each record is one line, in each form that is printed
-- blanks and graphic characters of ASCII, and the line feed after them
abbrev pub IsOneLine : List ℕ → Type 0
IsOneLine line = (text : List ℕ) × IsPrintable text × (line ≡ text ++ line_feed)

-- that of a refused file
abbrev pub FileRefusalIsOneLine : Type 0
FileRefusalIsOneLine = (base : Base) (place : ℕ) (reason : FileWhy) (path : Option (List ℕ)) (extent : Extent) → IfSome path AreOctets → IsOneLine (file_refused_line (form_of base) place reason path extent)

-- that of octets that are no message
abbrev pub MessageRefusalIsOneLine : Type 0
MessageRefusalIsOneLine = (base : Base) (line : Option ℕ) (layers : List Layer) (refusal : Refusal) (path : Option (List ℕ)) (extent : Extent) (spelling : Spelling) → IfSome path AreOctets → IsOneLine (message_refused_line (form_of base) (message_origin line layers) refusal path extent spelling)

-- the same with the path alone
abbrev pub UntoldMessageRefusalIsOneLine : Type 0
UntoldMessageRefusalIsOneLine = (base : Base) (refusal : Refusal) (path : Option (List ℕ)) → IfSome path AreOctets → IsOneLine (untold_message_refused_line (form_of base) refusal path)

-- that of input that is not looked at as a message
abbrev pub InputRefusalIsOneLine : Type 0
InputRefusalIsOneLine = (base : Base) (line : Option ℕ) (layers : List Layer) (fault : InputFault) (place : Option ℕ) (extent : Extent) (spelling : Option Spelling) → IsOneLine (input_refused_line (form_of base) (message_origin line layers) fault place extent spelling)

-- that of a refused frame with the path alone
abbrev pub UntoldStreamRefusalIsOneLine : Type 0
UntoldStreamRefusalIsOneLine = (base : Base) (messages place : ℕ) (reason : Why) (path : Option (List ℕ)) → IfSome path AreOctets → IsOneLine (untold_refused_line (form_of base) messages place reason path)

-- the last of a stream that was gone on with after refusals
abbrev pub CountedStreamEndIsOneLine : Type 0
CountedStreamEndIsOneLine = (base : Base) (messages refused : ℕ) → IsOneLine (counted_end_line (form_of base) messages refused)

-- that of a file's name
abbrev pub FileNameIsOneLine : Type 0
FileNameIsOneLine = (base : Base) (name : List ℕ) → AreOctets name → IsOneLine (file_line (form_of base) name)

-- ---- those of captures, too
-- the seconds of its time and the addresses are as their types have them
pub record OriginIsInRange (origin : CaptureOrigin) : Type 0 where
  pub time : IfSome origin.time (λ time. time.seconds < 2 ^ 32)
  pub source : MatchIp origin.flow.source.address IsIpv4Addr IsIpv6Addr
  pub target : MatchIp origin.flow.target.address IsIpv4Addr IsIpv6Addr

-- that of a refused message of a capture
abbrev pub CapturedRefusalIsOneLine : Type 0
CapturedRefusalIsOneLine = (base : Base) (origin : CaptureOrigin) (refusal : Refusal) (path : Option (List ℕ)) (extent : Extent) → OriginIsInRange origin → IfSome path AreOctets → IsOneLine (captured_refused_line (form_of base) origin refusal path extent)

-- that of a direction whose first octets come without a SYN
abbrev pub JoinedIsOneLine : Type 0
JoinedIsOneLine = (base : Base) (origin : CaptureOrigin) → OriginIsInRange origin → IsOneLine (joined_line (form_of base) origin)

-- that of octets that are not in a capture
abbrev pub LostIsOneLine : Type 0
LostIsOneLine = (base : Base) (origin : CaptureOrigin) (place octets : ℕ) (path : Option (List ℕ)) → OriginIsInRange origin → IfSome path AreOctets → IsOneLine (lost_line (form_of base) origin place octets path)

-- that of a message that changes a password
abbrev pub PasswordIsOneLine : Type 0
PasswordIsOneLine = (base : Base) (origin : CaptureOrigin) (version ap rest : ℕ) → OriginIsInRange origin → IsOneLine (password_line (form_of base) origin version ap rest)

-- that of a request that no reply answered
abbrev pub UnansweredIsOneLine : Type 0
UnansweredIsOneLine = (base : Base) (origin : CaptureOrigin) (request : Request) (answer : Answer) → OriginIsInRange origin → IsOneLine (unanswered_line (form_of base) origin request answer)

-- that of somebody who could not be reached; the address of who said so is as its type has it
abbrev pub UnreachableIsOneLine : Type 0
UnreachableIsOneLine = (base : Base) (origin : CaptureOrigin) (how : How) (answer : Answer) → OriginIsInRange origin → IfSome (error_of how) (λ error. MatchIp error.by IsIpv4Addr IsIpv6Addr) → IsOneLine (unreachable_line (form_of base) origin how answer)

-- the last of a capture
abbrev pub CaptureEndIsOneLine : Type 0
CaptureEndIsOneLine = (base : Base) (counts : CaptureCounts) (told : ToldCounts) → IsOneLine (capture_end_line (form_of base) counts told)

-- the last of a capture that is refused
abbrev pub CaptureRefusalIsOneLine : Type 0
CaptureRefusalIsOneLine = (base : Base) (counts : CaptureCounts) (told : ToldCounts) (place : ℕ) (reason : FileWhy) (path : Option (List ℕ)) (extent : Extent) → IfSome path AreOctets → IsOneLine (capture_refused_line (form_of base) counts told place reason path extent)

-- ---- what lines leave out
-- one without names has nothing of what is inside
abbrev pub PlainLinesHaveNothingInside : Type 0
PlainLinesHaveNothingInside = (r : Printed) → record_line Lines r ≡ record_line Lines (record r { inside = None })

-- and none has what is last
pub record LinesHaveNothingLast : Type 0 where
  pub plain : (r : Printed) → record_line Lines r ≡ record_line Lines (record r { last = [] })
  pub named : (r : Printed) → record_line NamedLines r ≡ record_line NamedLines (record r { last = [] })

-- one without names has nothing of what is told of an exchange
pub record PlainLinesTellNothing : Type 0 where
  pub record_is : (origin : CaptureOrigin) (r : Printed) → captured_line Lines origin r ≡ captured_line Lines (record origin { told = Nothing }) r
  pub end : (counts : CaptureCounts) (told other : ToldCounts) → capture_end_line Lines counts told ≡ capture_end_line Lines counts other
  pub file : (counts : CaptureCounts) (told other : ToldCounts) (place : ℕ) (reason : FileWhy) (path : Option (List ℕ)) (extent : Extent) → capture_refused_line Lines counts told place reason path extent ≡ capture_refused_line Lines counts other place reason path extent
