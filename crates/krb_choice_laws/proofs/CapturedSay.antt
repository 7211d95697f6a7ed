-- In rows of messages of a capture a cell is what the object says.
use Rattle.std.proofs.Common.{pos, ◌^◌, ◌<◌, Option, Some, None, IfSome, ◌∷◌, ◌++◌, refl, codes}
use Rattle.krb_der.specs.declared.profile.Profile.TheVariants as profiles
use Rattle.krb_msg.specs.Views.{IsInProfile}
use Rattle.krb_msg.specs.declared.message.Message.{Message}
use Rattle.krb_msg.specs.declared.message.Message.TheVariants as message
use Rattle.krb_source.specs.declared.timestamp.Timestamp.{Timestamp}
use Rattle.krb_record.specs.Captures.{answer_fields, captured, last_fields, origin_fields, time_field, told_fields, told_in}
use Rattle.krb_record.specs.Laws.{OriginIsInRange}
use Rattle.krb_record.specs.Time.{microseconds, timestamp_text}
use Rattle.krb_record.specs.Values.{Flow, Number, Span, Word, if_there, the, with_last, with_origin}
use Rattle.krb_record.specs.declared.capture_origin.CaptureOrigin.{CaptureOrigin}
use Rattle.krb_record.specs.declared.form.Form.TheVariants as forms
use Rattle.krb_record.specs.declared.told.Answer.{Answer}
use Rattle.krb_record.specs.declared.told.Told.{Told}
use Rattle.krb_record.specs.declared.told.Told.TheVariants as tells
use Rattle.krb_text.specs.Messages.{message_record}
use Rattle.krb_choice_laws.specs.Cells.{NamesDiffer}
use Rattle.krb_choice_laws.specs.Messages.{CapturedMessagesSayObjects}
use Rattle.krb_choice_laws.proofs.MessagesPlain.{shown-last, shown-origin}
use Rattle.krb_choice_laws.proofs.MessagesSay.{its-fields, one-speaks}
use Rattle.krb_choice_laws.proofs.Objects.{objects-say}
use Rattle.krb_choice_laws.proofs.TimeWords.{timestamp}
use Rattle.krb_choice_laws.proofs.Worded.{AreSpeaking, AreWorded, IsWorded, all-speaking, optional, speaking}

-- ---- words of an origin
time-worded : (time : Option Timestamp) → IfSome time (λ time. time.seconds < 2 ^ 32) → IsWorded (if_there (λ time. Word (timestamp_text time.seconds time.nanoseconds)) time)
time-worded None h = tt
time-worded (Some time) h = timestamp time.seconds time.nanoseconds h

pub answer-worded : (answer : Answer) → AreWorded (answer_fields answer)
answer-worded answer = (optional (λ packet. Number (pos packet)) (λ n. tt) answer.of, (optional (λ span. Span span.microseconds) (λ span. tt) answer.after, (optional (λ span. Span span.microseconds) (λ span. tt) answer.waited, tt)))

told-worded : (told : Told) → AreWorded (told_fields told)
unfolding told_fields
told-worded tells.Nothing = tt
told-worded (tells.Request again) = (optional (λ packet. Number (pos packet)) (λ n. tt) again, tt)
told-worded (tells.Reply answer) = answer-worded answer
told-worded (tells.Either again answer) = (optional (λ packet. Number (pos packet)) (λ n. tt) again, answer-worded answer)

origin-worded : (origin : CaptureOrigin) → OriginIsInRange origin → AreWorded (origin_fields forms.Json origin)
unfolding told_in
origin-worded origin range = (tt, (time-worded origin.time range.time, (tt, tt)))

last-worded : (origin : CaptureOrigin) → AreWorded (last_fields origin)
last-worded origin = (optional (λ time. Number (pos (microseconds time.seconds time.nanoseconds))) (λ time. tt) origin.time, told-worded origin.told)

-- ---- names of their members
names-differ : (origin : CaptureOrigin) (told : Told) (m : Message)
    → NamesDiffer (with_last (time_field origin.time ∷ told_fields told) (with_origin (the (codes "packet") (Number (pos origin.packet)) ∷ the (codes "t") (if_there (λ time. Word (timestamp_text time.seconds time.nanoseconds)) origin.time)
    ∷ the (codes "flow") (Flow origin.flow.transport origin.flow.source origin.flow.target) ∷ told_in forms.Json told) (message_record m)))
unfolding message_record told_fields told_in
names-differ origin tells.Nothing (message.AsReq m) = refl
names-differ origin tells.Nothing other = refl
names-differ origin (tells.Request again) (message.AsReq m) = refl
names-differ origin (tells.Request again) other = refl
names-differ origin (tells.Reply answer) (message.AsReq m) = refl
names-differ origin (tells.Reply answer) other = refl
names-differ origin (tells.Either again answer) (message.AsReq m) = refl
names-differ origin (tells.Either again answer) other = refl

-- ---- what they say
pub origin-speaks : (origin : CaptureOrigin) → OriginIsInRange origin → AreSpeaking (origin_fields forms.Json origin)
origin-speaks origin range = speaking (origin_fields forms.Json origin) (shown-origin forms.Json origin range) (origin-worded origin range)

pub last-speaks : (origin : CaptureOrigin) → AreSpeaking (last_fields origin)
last-speaks origin = speaking (last_fields origin) (shown-last origin) (last-worded origin)

all-speak : (origin : CaptureOrigin) (m : Message) → OriginIsInRange origin → IsInProfile profiles.Lenient m → AreSpeaking (origin_fields forms.Json origin ++ (message_record m).fields ++ last_fields origin)
all-speak origin m range good =
    all-speaking (origin_fields forms.Json origin ++ (message_record m).fields) (last_fields origin) (all-speaking (origin_fields forms.Json origin) (message_record m).fields (origin-speaks origin range) (its-fields m good)) (last-speaks origin)

pub captured-say : CapturedMessagesSayObjects
captured-say origin m range good path field i =
    let r = captured forms.Json origin (message_record m) in
    objects-say r (names-differ origin origin.told m) path field i (one-speaks (r.origin ++ r.fields ++ r.last) field (all-speak origin m range good) i)
