-- Records of captures: what is found in a flow, with the packet, its time and the flow; and the last one.
use Rattle.std.specs.Prelude.{ℕ, pos, List, [], ◌∷◌, ◌++◌, Option, codes, if◌then◌else◌}
use Rattle.krb_der.specs.declared.verdict.Refusal.{Refusal}
use Rattle.krb_source.specs.UnreadReasons.{unread_reason_name, unread_reason_number}
use Rattle.krb_source.specs.declared.file_why.FileWhy.{FileWhy}
use Rattle.krb_source.specs.declared.unread_why.UnreadWhy.{UnreadWhy}
use Rattle.krb_source.specs.declared.timestamp.Timestamp.{Timestamp}
use Rattle.krb_record.specs.declared.capture.CaptureCounts.{CaptureCounts}
use Rattle.krb_record.specs.declared.told.Answer.{Answer}
use Rattle.krb_record.specs.declared.told.Request.{Request}
use Rattle.krb_record.specs.declared.told.Request.TheVariants as kinds
use Rattle.krb_record.specs.declared.told.Span.{Span as Time}
use Rattle.krb_record.specs.declared.told.Told.{Told}
use Rattle.krb_record.specs.declared.told.Told.TheVariants as tells
use Rattle.krb_record.specs.declared.told.ToldCounts.{ToldCounts}
use Rattle.krb_record.specs.declared.extent.Extent.{Extent}
use Rattle.krb_record.specs.declared.form.Form.{Form}
use Rattle.krb_record.specs.declared.form.Form.TheVariants as forms
use Rattle.krb_record.specs.declared.capture_origin.CaptureOrigin.{CaptureOrigin}
use Rattle.krb_record.specs.Forms.{is_plain_form, record_line}
use Rattle.krb_record.specs.Unreachables.{code_name, error_of, how_name, type_name}
use Rattle.krb_record.specs.declared.unreachable.How.{How}
use Rattle.krb_record.specs.declared.unreachable.IcmpError.{IcmpError}
use Rattle.krb_record.specs.Refusals.{extent_in, known_path, path_in, refusal_record, refused_file}
use Rattle.krb_record.specs.Time.{microseconds, timestamp_text}
use Rattle.krb_record.specs.Values.{Value, Called, Flow, Host, Number, Reason, Span, Word, Field, Printed, the, printed, told_by, with_last, with_origin, if_there}

-- ---- what is told of an exchange
-- of a request, the packet with which the same octets were sent first, if they were sent before
abbrev pub again_fields : Option ℕ → List Field
again_fields again = the (codes "again") (if_there (λ packet. Number (pos packet)) again) ∷ []

-- of a reply, the packet of the request that it answers, if it answers one, and how long after that it came, and how long after the first sending of the same octets
abbrev pub span_value : Option Time → Value
span_value = if_there (λ span. Span span.microseconds)

abbrev pub answer_fields : Answer → List Field
answer_fields answer =
    the (codes "of") (if_there (λ packet. Number (pos packet)) answer.of)
    ∷ the (codes "after") (span_value answer.after)
    ∷ the (codes "waited") (span_value answer.waited)
    ∷ []

-- a message that changes a password has both
unfoldable pub told_fields : Told → List Field
told_fields tells.Nothing = []
told_fields (tells.Request again) = again_fields again
told_fields (tells.Reply answer) = answer_fields answer
told_fields (tells.Either again answer) = again_fields again ++ answer_fields answer

-- lines with names have it after the flow
unfoldable pub told_in : Form → Told → List Field
told_in forms.Lines told = []
told_in forms.NamedLines told = told_fields told
told_in forms.Json told = []
told_in forms.KeptLines told = []
told_in forms.KeptNamedLines told = told_fields told
told_in forms.KeptJson told = []
told_in (forms.Rows wanted) told = []

-- ---- the packet, its time and the flow
abbrev pub origin_fields : Form → CaptureOrigin → List Field
origin_fields form origin =
    the (codes "packet") (Number (pos origin.packet))
    ∷ the (codes "t") (if_there (λ time. Word (timestamp_text time.seconds time.nanoseconds)) origin.time)
    ∷ the (codes "flow") (Flow origin.flow.transport origin.flow.source origin.flow.target)
    ∷ told_in form origin.told

-- the time as a number, and what is told, which objects alone have after all else
abbrev pub time_field : Option Timestamp → Field
time_field time = the (codes "t_us") (if_there (λ time. Number (pos (microseconds time.seconds time.nanoseconds))) time)

abbrev pub last_fields : CaptureOrigin → List Field
last_fields origin = time_field origin.time ∷ told_fields origin.told

-- a record of a capture
abbrev pub captured : Form → CaptureOrigin → Printed → Printed
captured form origin r = with_last (last_fields origin) (with_origin (origin_fields form origin) r)

abbrev pub captured_line : Form → CaptureOrigin → Printed → List ℕ
captured_line form origin r = record_line form (captured form origin r)

abbrev pub captured_refused_line : Form → CaptureOrigin → Refusal → Option (List ℕ) → Extent → List ℕ
captured_refused_line form origin refusal path extent = captured_line form origin (refusal_record refusal (path_in form path ++ extent_in form extent))

-- a direction whose first octets come without its SYN
abbrev pub joined_line : Form → CaptureOrigin → List ℕ
joined_line form origin = captured_line form origin (printed (codes "joined") [])

-- octets that are not in the capture: their place, how many they are, and the path of the field of the first one
abbrev pub lost_record : Form → ℕ → ℕ → Option (List ℕ) → Printed
lost_record form place octets path =
    printed (codes "lost") (the (codes "place") (Number (pos place)) ∷ the (codes "octets") (Number (pos octets)) ∷ path_in form path)

abbrev pub lost_line : Form → CaptureOrigin → ℕ → ℕ → Option (List ℕ) → List ℕ
lost_line form origin place octets path = captured_line form origin (lost_record form place octets path)

-- octets between ports of Kerberos that no message has: the place of the first one, if they have one, how many they are, and why
abbrev pub unread_record : Option ℕ → ℕ → UnreadWhy → Printed
unread_record place octets reason =
    printed (codes "unread")
    (the (codes "place") (if_there (λ place. Number (pos place)) place)
    ∷ the (codes "octets") (Number (pos octets))
    ∷ the (codes "why") (Reason (unread_reason_number reason) (unread_reason_name reason))
    ∷ [])

abbrev pub unread_line : Form → CaptureOrigin → Option ℕ → ℕ → UnreadWhy → List ℕ
unread_line form origin place octets reason = captured_line form origin (unread_record place octets reason)

-- a message that changes a password (RFC 3244, section 2): its version, the size of its AP-REQ or AP-REP, and that of the rest
abbrev pub password_record : ℕ → ℕ → ℕ → Printed
password_record version ap rest =
    printed (codes "KPASSWD") (the (codes "version") (Number (pos version)) ∷ the (codes "ap") (Number (pos ap)) ∷ the (codes "rest") (Number (pos rest)) ∷ [])

abbrev pub password_line : Form → CaptureOrigin → ℕ → ℕ → ℕ → List ℕ
password_line form origin version ap rest = captured_line form origin (password_record version ap rest)

-- a request that no reply answered, told with a later packet
abbrev pub request_name : Request → List ℕ
request_name kinds.AsReq = codes "AS-REQ"
request_name kinds.TgsReq = codes "TGS-REQ"
request_name kinds.Kpasswd = codes "KPASSWD"

abbrev pub unanswered_record : Request → Answer → Printed
unanswered_record request answer = printed (codes "unanswered") (the (codes "request") (Word (request_name request)) ∷ answer_fields answer)

abbrev pub unanswered_line : Form → CaptureOrigin → Request → Answer → List ℕ
unanswered_line form origin request answer = captured_line form origin (unanswered_record request answer)

-- somebody who could not be reached: how that is known, and of an ICMP error who sent it and its type and code; and the request or the SYN that it is about, if there is one
abbrev pub error_type : IcmpError → Value
error_type error = Called error.error_type (type_name error.version error.error_type)

abbrev pub error_code : IcmpError → Value
error_code error = Called error.code (code_name error.version error.error_type error.code)

abbrev pub how_fields : How → List Field
how_fields how =
    the (codes "how") (Word (how_name how))
    ∷ the (codes "by") (if_there (λ error. Host error.by) (error_of how))
    ∷ the (codes "type") (if_there error_type (error_of how))
    ∷ the (codes "code") (if_there error_code (error_of how))
    ∷ []

abbrev pub unreachable_record : How → Answer → Printed
unreachable_record how answer = printed (codes "unreachable") (how_fields how ++ answer_fields answer)

abbrev pub unreachable_line : Form → CaptureOrigin → How → Answer → List ℕ
unreachable_line form origin how answer = captured_line form origin (unreachable_record how answer)

-- ---- the last record
abbrev pub count_fields : CaptureCounts → List Field
count_fields counts =
    the (codes "packets") (Number (pos counts.packets))
    ∷ the (codes "messages") (Number (pos counts.messages))
    ∷ the (codes "refused") (Number (pos counts.refused))
    ∷ the (codes "lost") (Number (pos counts.lost))
    ∷ the (codes "unread") (Number (pos counts.unread))
    ∷ []

-- how many replies have the request that they answer, how many requests have none, how many were sent before, and how often somebody could not be reached: lines without names have nothing of it
abbrev pub four_counts : ToldCounts → List Field
four_counts told =
    the (codes "answered") (Number (pos told.answered))
    ∷ the (codes "unanswered") (Number (pos told.unanswered))
    ∷ the (codes "again") (Number (pos told.again))
    ∷ the (codes "unreachable") (Number (pos told.unreachable))
    ∷ []

unfoldable pub told_counts : Form → ToldCounts → List Field
told_counts form told = if is_plain_form form then [] else four_counts told

abbrev pub capture_end_record : Form → CaptureCounts → ToldCounts → Printed
capture_end_record form counts told = told_by (printed (codes "end") (count_fields counts)) (printed (codes "end") (count_fields counts ++ told_counts form told))

abbrev pub capture_end_line : Form → CaptureCounts → ToldCounts → List ℕ
capture_end_line form counts told = record_line form (capture_end_record form counts told)

-- a refused file, and what was counted before the fault
abbrev pub refused_capture : Form → CaptureCounts → ToldCounts → ℕ → FileWhy → Option (List ℕ) → Extent → Printed
refused_capture form counts told place reason path extent =
    told_by (printed (codes "refused") (count_fields counts ++ (refused_file forms.NamedLines place reason path extent).fields))
    (printed (codes "refused") (count_fields counts ++ ((refused_file form place reason path extent).fields ++ told_counts form told)))

abbrev pub capture_refused_record : Form → CaptureCounts → ToldCounts → ℕ → FileWhy → Option (List ℕ) → Extent → Printed
capture_refused_record form counts told place reason path extent = refused_capture form counts told place reason (known_path form path) extent

abbrev pub capture_refused_line : Form → CaptureCounts → ToldCounts → ℕ → FileWhy → Option (List ℕ) → Extent → List ℕ
capture_refused_line form counts told place reason path extent = record_line form (capture_refused_record form counts told place reason path extent)
