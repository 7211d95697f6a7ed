-- Records of messages are of printable texts.
use Rattle.std.proofs.Common.{◌≡◌, ℕ, pos, ◌<◌, ◌^◌, true, Option, Some, None, List, [], ◌∷◌, refl}
use Rattle.std.specs.List.{AllByRecursion}
use Rattle.std.specs.Prelude.{IfSome}
use Rattle.krb_der.specs.declared.profile.Profile.TheVariants as profiles
use Rattle.krb_msg.specs.Term.{IfPresent}
use Rattle.krb_msg.specs.Views.{IsInProfile}
use Rattle.krb_msg.specs.declared.message.Message.{Message}
use Rattle.krb_source.specs.declared.layer.Layer.{Layer}
use Rattle.krb_source.specs.declared.timestamp.Timestamp.{Timestamp}
use Rattle.krb_record.specs.Captures.{answer_fields, captured as captured_record, last_fields, origin_fields, span_value, told_fields, told_in}
use Rattle.krb_record.specs.Laws.{OriginIsInRange}
use Rattle.krb_record.specs.Origins.{message_origin}
use Rattle.krb_record.specs.Time.{microseconds, timestamp_text}
use Rattle.krb_record.specs.Values.{Field, Number, Part, Word, if_there, with_origin}
use Rattle.krb_record.specs.declared.capture_origin.CaptureOrigin.{CaptureOrigin}
use Rattle.krb_record.specs.declared.form.Form.{Form}
use Rattle.krb_record.specs.declared.form.Form.TheVariants as forms
use Rattle.krb_record.specs.declared.told.Answer.{Answer}
use Rattle.krb_record.specs.declared.told.Span.{Span}
use Rattle.krb_record.specs.declared.told.Told.{Told}
use Rattle.krb_record.specs.declared.told.Told.TheVariants as tells
use Rattle.krb_record.proofs.Printable.{word}
use Rattle.krb_record.proofs.Times.{timestamp}
use Rattle.krb_text.specs.Inside.{inside_of}
use Rattle.krb_text.specs.Messages.{message_record}
use Rattle.krb_text_laws.proofs.EachForm.{ArePlainParts, AreShown, IsShown, names_are_plain}
use Rattle.krb_text_laws.proofs.EndOneLine.{number_shown, origin_is_plain, origin_shown}
use Rattle.krb_text_laws.proofs.MessageOneLine.{record_is_plain}
use Rattle.krb_choice_laws.specs.Plain.{ArePlain, IsPlain, IsPlainPart}
use Rattle.krb_choice_laws.proofs.InsideWords.{AreWords, inside_words}
use Rattle.krb_choice_laws.proofs.Values.{plain-fields}

parts-plain : (parts : List Part) → ArePlainParts parts → AreWords parts → AllByRecursion IsPlainPart parts
parts-plain [] h k = tt
parts-plain (p ∷ others) h k = (record { kind = (word p.kind h.0.kind).all; word = k.0.word; is_inside = k.0.is_inside; fields = plain-fields p.fields h.0.names h.0.fields }, parts-plain others h.1 k.1)

inside-plain : (inside : Option (List Part)) → IfPresent ArePlainParts inside → IfSome inside AreWords → IfSome inside (λ parts. AllByRecursion IsPlainPart parts)
inside-plain None h k = tt
inside-plain (Some parts) h k = parts-plain parts h k

-- ---- of a message by itself, or from a line, or in layers
from-origin : (origin : List Field) (m : Message) → names_are_plain origin ≡ true → AreShown origin → IsInProfile profiles.Lenient m → IsPlain (with_origin origin (message_record m))
unfolding message_record
from-origin origin m e h good =
    let plain = record_is_plain m good in record {
      kind = (word (message_record m).kind plain.kind).all;
      origin = plain-fields origin e h;
      fields = plain-fields (message_record m).fields plain.names plain.fields;
      inside = inside-plain (inside_of m) plain.inside (inside_words m);
      last = tt;
      aside = tt;
    }

pub from-plain : (line : Option ℕ) (layers : List Layer) (m : Message) → IsInProfile profiles.Lenient m → IsPlain (with_origin (message_origin line layers) (message_record m))
from-plain line layers m good = from-origin (message_origin line layers) m (origin_is_plain line layers) (origin_shown line layers) good

-- ---- of a capture
time_shown : (time : Option Timestamp) → IfSome time (λ time. time.seconds < 2 ^ 32) → IsShown (if_there (λ time. Word (timestamp_text time.seconds time.nanoseconds)) time)
time_shown None h = tt
time_shown (Some time) h = (timestamp time.seconds time.nanoseconds h).all

last_shown : (time : Option Timestamp) → IsShown (if_there (λ time. Number (pos (microseconds time.seconds time.nanoseconds))) time)
last_shown None = tt
last_shown (Some time) = tt

span_shown : (span : Option Span) → IsShown (span_value span)
span_shown None = tt
span_shown (Some span) = tt

pub answer_shown : (answer : Answer) → AreShown (answer_fields answer)
answer_shown answer = (number_shown answer.of, (span_shown answer.after, (span_shown answer.waited, tt)))

told_shown : (told : Told) → AreShown (told_fields told)
unfolding told_fields
told_shown tells.Nothing = tt
told_shown (tells.Request again) = (number_shown again, tt)
told_shown (tells.Reply answer) = answer_shown answer
told_shown (tells.Either again answer) = (number_shown again, answer_shown answer)

told_plain : (told : Told) → names_are_plain (told_fields told) ≡ true
unfolding told_fields
told_plain tells.Nothing = refl
told_plain (tells.Request again) = refl
told_plain (tells.Reply answer) = refl
told_plain (tells.Either again answer) = refl

in_shown : (form : Form) (told : Told) → AreShown (told_in form told)
unfolding told_in
in_shown forms.NamedLines told = told_shown told
in_shown forms.KeptNamedLines told = told_shown told
in_shown form told = tt

in_plain : (form : Form) (told : Told) → names_are_plain (told_in form told) ≡ true
unfolding told_in
in_plain forms.NamedLines told = told_plain told
in_plain forms.KeptNamedLines told = told_plain told
in_plain form told = refl

pub shown-origin : (form : Form) (origin : CaptureOrigin) → OriginIsInRange origin → AreShown (origin_fields form origin)
shown-origin form origin range = (tt, (time_shown origin.time range.time, ((range.source, range.target), in_shown form origin.told)))

pub plain-origin : (form : Form) (origin : CaptureOrigin) → OriginIsInRange origin → ArePlain (origin_fields form origin)
plain-origin form origin range = plain-fields (origin_fields form origin) (in_plain form origin.told) (shown-origin form origin range)

pub shown-last : (origin : CaptureOrigin) → AreShown (last_fields origin)
shown-last origin = (last_shown origin.time, told_shown origin.told)

pub plain-last : (origin : CaptureOrigin) → ArePlain (last_fields origin)
plain-last origin = plain-fields (last_fields origin) (told_plain origin.told) (shown-last origin)

pub captured-plain : (form : Form) (origin : CaptureOrigin) (m : Message) → OriginIsInRange origin → IsInProfile profiles.Lenient m → IsPlain (captured_record form origin (message_record m))
captured-plain form origin m range good =
    let of = from-origin (origin_fields form origin) m (in_plain form origin.told) (shown-origin form origin range) good in record {
      kind = of.kind;
      origin = of.origin;
      fields = of.fields;
      inside = of.inside;
      last = plain-last origin;
      aside = of.aside;
    }
