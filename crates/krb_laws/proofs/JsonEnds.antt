-- What is printed of refusals, of ends and of captures is JSON.
use Rattle.std.proofs.Common.{◌≡◌, ℕ, pos, ◌^◌, ◌<◌, nat_le, Bool, true, false, List, [], ◌∷◌, ◌++◌, Option, Some, None, IfSome, codes, refl, ◌∙◌, ap, arith}
use Rattle.std.proofs.lemmas.Bool.{leb-true}
use Rattle.std.specs.List.{flat_map}
use Rattle.krb_msg.specs.Term.{IfPresent}
use Rattle.krb_der.specs.Reasons.{reason_number, reason_name}
use Rattle.krb_der.specs.declared.why.Why.{Why}
use Rattle.krb_der.specs.declared.why.Why.TheVariants as whys
use Rattle.krb_source.specs.FileReasons.{file_reason_number, file_reason_name}
use Rattle.krb_source.specs.declared.file_why.FileWhy.{FileWhy}
use Rattle.krb_source.specs.declared.file_why.FileWhy.TheVariants as files
use Rattle.krb_source.specs.Spellings.{spelling_name}
use Rattle.krb_source.specs.UnreadReasons.{unread_reason_number, unread_reason_name}
use Rattle.krb_source.specs.declared.spelling.Spelling.{Spelling}
use Rattle.krb_source.specs.declared.spelling.Spelling.TheVariants as spellings
use Rattle.krb_source.specs.declared.unread_why.UnreadWhy.{UnreadWhy}
use Rattle.krb_source.specs.declared.unread_why.UnreadWhy.TheVariants as unread
use Rattle.krb_msg.specs.Stream.{End, Boundary, Within, Refused}
use Rattle.krb_source.specs.declared.timestamp.Timestamp.{Timestamp}
use Rattle.krb_record.specs.Captures.{answer_fields, capture_end_record, capture_refused_record, captured, count_fields, last_fields, lost_record, origin_fields, password_record, request_name, span_value, time_field, told_counts, told_fields, told_in, unanswered_record, unreachable_record, unread_record}
use Rattle.krb_record.specs.Files.{file_record}
use Rattle.krb_record.specs.Inputs.{input_refused_record, input_word}
use Rattle.krb_record.specs.Origins.{message_origin}
use Rattle.krb_record.specs.Refusals.{extent_in, file_refused_record, message_refused_record, path_in, refusal_record}
use Rattle.krb_text.specs.StreamEnds.{end_record}
use Rattle.krb_record.specs.Streams.{counted_end_record, refused_frame, refused_record}
use Rattle.krb_record.specs.Text.{IsPrintable}
use Rattle.krb_record.specs.Time.{microseconds, timestamp_text}
use Rattle.krb_record.specs.Values.{Field, LastLine, Number, String, Word, if_there, printed, with_origin}
use Rattle.krb_record.specs.declared.extent.Extent.{Extent}
use Rattle.krb_record.specs.declared.form.Form.TheVariants as forms
use Rattle.krb_record.specs.declared.capture.CaptureCounts.{CaptureCounts}
use Rattle.krb_record.specs.declared.told.Answer.{Answer}
use Rattle.krb_record.specs.declared.told.Request.{Request}
use Rattle.krb_record.specs.declared.told.Request.TheVariants as requests
use Rattle.krb_record.specs.declared.told.Span.{Span}
use Rattle.krb_record.specs.declared.told.Told.{Told}
use Rattle.krb_record.specs.declared.told.Told.TheVariants as tells
use Rattle.krb_record.specs.declared.told.ToldCounts.{ToldCounts}
use Rattle.krb_record.specs.declared.unreachable.How.{How}
use Rattle.krb_record.specs.declared.unreachable.How.TheVariants as hows
use Rattle.krb_record.specs.declared.unreachable.IcmpVersion.{IcmpVersion}
use Rattle.krb_record.specs.declared.unreachable.IcmpVersion.TheVariants as versions
use Rattle.krb_record.specs.Unreachables.{code_name, error_of, type_name, version_name}
use Rattle.krb_text_laws.proofs.EachForm.{plain_name}
use Rattle.krb_text_laws.proofs.Unreachables.{IsPlain, code_plain, type_plain}
use Rattle.krb_record.specs.declared.input.InputFault.{InputFault}
use Rattle.krb_record.specs.declared.input.InputFault.TheVariants as faults
use Rattle.krb_record.specs.declared.capture_origin.CaptureOrigin.{CaptureOrigin}
use Rattle.krb_record.proofs.Printable.{Prints, word}
use Rattle.krb_record.proofs.Reasons as reasons
use Rattle.krb_record.proofs.Times.{timestamp}
use Rattle.krb_text_laws.proofs.Tuples.{◌&◌}
use Rattle.krb_laws.specs.JsonLaws.{AreCounts, AreToldCounts, CapturesAreJson, EndsAreJson, IsAnswer, IsError, IsSmall, IsTold, IsEnd, IsExtent, IsFlowOrigin, PrintsJson, ValueFits, are_different, is_plain, member_names}
use Rattle.krb_laws.proofs.JsonMessages.{its_origin, message_with}
use Rattle.krb_laws.proofs.JsonRecords.{ValuesFit, names_are_plain}
use Rattle.krb_laws.proofs.JsonShown.{IsLast, IsOrigin, aside_too, different-back, from_origin, picked, thrice, last_names, names_of, no_last, no_origin, origin_names, record_is_json}
use Rattle.krb_laws.proofs.JsonValues.{small_reason}

-- a record without parts: the names of its members are plain and differ, from each origin too
from : (origin : List Field) (kind : List ℕ) (fields : List Field) → IsOrigin origin → is_plain kind ≡ true → names_are_plain fields ≡ true → are_different ((codes "kind" ∷ (origin_names ++ (names_of fields ++ []))) ++ last_names) ≡ true → ValuesFit fields → PrintsJson (with_origin origin (printed kind fields))
from origin kind fields o k n a v = record_is_json _ (from_origin origin kind fields None [] o no_last (record { kind_plain = k; plain = n; apart = a; values = v; parts = tt }))

pub alone : (kind : List ℕ) (fields : List Field) → is_plain kind ≡ true → names_are_plain fields ≡ true → are_different ((codes "kind" ∷ (origin_names ++ (names_of fields ++ []))) ++ last_names) ≡ true → ValuesFit fields → PrintsJson (printed kind fields)
alone kind fields k n a v = from [] kind fields no_origin k n a v

-- the same with what is told aside
from_told : (aside : Option LastLine) (origin : List Field) (kind : List ℕ) (fields : List Field) → IsOrigin origin → is_plain kind ≡ true → names_are_plain fields ≡ true → are_different ((codes "kind" ∷ (origin_names ++ (names_of fields ++ []))) ++ last_names) ≡ true → ValuesFit fields → PrintsJson (record (with_origin origin (printed kind fields)) { aside = aside })
from_told aside origin kind fields o k n a v =
    record_is_json _ (aside_too aside (with_origin origin (printed kind fields)) (from_origin origin kind fields None [] o no_last (record { kind_plain = k; plain = n; apart = a; values = v; parts = tt })))

told_alone : (aside : Option LastLine) (kind : List ℕ) (fields : List Field) → is_plain kind ≡ true → names_are_plain fields ≡ true → are_different ((codes "kind" ∷ (origin_names ++ (names_of fields ++ []))) ++ last_names) ≡ true → ValuesFit fields → PrintsJson (record (printed kind fields) { aside = aside })
told_alone aside kind fields k n a v = from_told aside [] kind fields no_origin k n a v

-- ---- what is told of a refusal
its_path : (path : Option (List ℕ)) → ValueFits (if_there String path)
its_path None = tt
its_path (Some path) = tt

optional_number : (n : Option ℕ) → IfSome n (λ n. n < 10 ^ 64) → ValueFits (if_there (λ n. Number (pos n)) n)
optional_number None h = tt
optional_number (Some n) h = h

its_extent : (path : Option (List ℕ)) (extent : Extent) → IsExtent extent → ValuesFit (path_in forms.Json path ++ extent_in forms.Json extent)
its_extent path extent h = (its_path path, (h.at, (optional_number extent.length h.length, tt)))

spelled : (s : Spelling) → Prints (spelling_name s)
spelled spellings.Octets = word _ refl
spelled other = word _ refl

optional_spelling : (s : Option Spelling) → ValueFits (if_there (λ s. Word (spelling_name s)) s)
optional_spelling None = tt
optional_spelling (Some s) = (spelled s).all

-- ---- reasons
its_reason : (why : Why) → (reason_number why < 10 ^ 64) × IsPrintable (reason_name why)
its_reason why = (omega (arith, small_reason why), (reasons.name why).all)

small_file_reason : (why : FileWhy) → nat_le (file_reason_number why) 255 ≡ true
small_file_reason files.Magic = refl
small_file_reason other = refl

its_file_reason : (why : FileWhy) → (file_reason_number why < 10 ^ 64) × IsPrintable (file_reason_name why)
its_file_reason why = (omega (arith, leb-true (file_reason_number why) 255 (small_file_reason why)), (reasons.file_name why).all)

small_unread_reason : (why : UnreadWhy) → nat_le (unread_reason_number why) 255 ≡ true
small_unread_reason unread.Surplus = refl
small_unread_reason other = refl

its_unread_reason : (why : UnreadWhy) → (unread_reason_number why < 10 ^ 64) × IsPrintable (unread_reason_name why)
its_unread_reason why = (omega (arith, leb-true (unread_reason_number why) 255 (small_unread_reason why)), (reasons.unread_name why).all)

worded : (fault : InputFault) → Prints (input_word fault)
worded (faults.Misspelled s) = spelled s
worded other = word _ refl

-- ---- refusals and ends
frame_refused : (messages place : ℕ) (reason : Why) (path : Option (List ℕ)) (extent : Extent) → messages < 10 ^ 64 → place < 10 ^ 64 → IsExtent extent → PrintsJson (refused_record forms.Json messages place reason path extent)
frame_refused messages place reason path extent m h e =
    told_alone (refused_record forms.Json messages place reason path extent).aside (codes "refused") (refused_record forms.Json messages place reason path extent).fields refl refl refl (m & h & its_reason reason & its_extent path extent e)

end_of_stream : (messages : ℕ) (end : End) (path : Option (List ℕ)) (extent : Extent) → messages < 10 ^ 64 → IsEnd end → IsExtent extent → PrintsJson (end_record forms.Json messages end path extent)
end_of_stream messages Boundary path extent m h e = alone (codes "end") (end_record forms.Json messages Boundary path extent).fields refl refl refl (m & tt)
end_of_stream messages (Within present) path extent m h e = frame_refused messages present whys.Truncated path extent m h e
end_of_stream messages (Refused place reason) path extent m h e = frame_refused messages place reason path extent m h e

pub ends_are_json : EndsAreJson
ends_are_json = record {
  file = λ place reason path extent h e.
      told_alone (file_refused_record forms.Json place reason path extent).aside (codes "refused") (file_refused_record forms.Json place reason path extent).fields refl refl refl (h & its_file_reason reason & its_extent path extent e);
  message = λ line layers refusal path extent s l h e.
      from_told (with_origin (message_origin line layers) (message_refused_record forms.Json refusal path extent s)).aside (message_origin line layers) (codes "refused") (message_refused_record forms.Json refusal path extent s).fields (its_origin line layers l) refl refl refl
      (h & its_reason refusal.why & its_path path & e.at & optional_number extent.length e.length & (spelled s).all & tt);
  untold_message = λ refusal path h. alone (codes "refused") (refusal_record refusal (path_in forms.Json path)).fields refl refl refl (h & its_reason refusal.why & its_path path & tt);
  input = λ line layers fault place extent s l h e.
      from_told (with_origin (message_origin line layers) (input_refused_record forms.Json fault place extent s)).aside (message_origin line layers) (codes "refused") (input_refused_record forms.Json fault place extent s).fields (its_origin line layers l) refl refl refl
      ((worded fault).all & optional_number place h & tt & tt & e.at & optional_number extent.length e.length & optional_spelling s & tt);
  stream = end_of_stream;
  untold_stream = λ messages place reason path m h. alone (codes "refused") (refused_frame messages place reason (path_in forms.Json path)).fields refl refl refl (m & h & its_reason reason & its_path path & tt);
  counted_stream = λ messages refused m r. told_alone (counted_end_record messages refused).aside (codes "end") (counted_end_record messages refused).fields refl refl refl (m & r & tt);
  name = λ name. alone (codes "file") (file_record name).fields refl refl refl (tt & tt);
}

-- ---- captures
its_time : (time : Option Timestamp) → IfSome time (λ time. time.seconds < 2 ^ 32) → ValueFits (if_there (λ time. Word (timestamp_text time.seconds time.nanoseconds)) time)
its_time None h = tt
its_time (Some time) h = (timestamp time.seconds time.nanoseconds h).all

flow_origin : (origin : CaptureOrigin) → IsFlowOrigin origin → IsOrigin (origin_fields forms.Json origin)
unfolding told_in
flow_origin origin h = record {
  plain = refl;
  keeps = false ∷ false ∷ [];
  among = λ rest. refl;
  values = h.packet & its_time origin.time h.in_range.time & ((h.in_range.source, omega (arith, h.source)), (h.in_range.target, omega (arith, h.target))) & tt;
}

its_microseconds : (time : Option Timestamp) → IfSome time (λ time. time.seconds < 2 ^ 32) → ValueFits (if_there (λ time. Number (pos (microseconds time.seconds time.nanoseconds))) time)
its_microseconds None h = tt
its_microseconds (Some time) h = omega (arith, h)

its_span : (span : Option Span) → IfSome span (λ span. IsSmall span.microseconds) → ValueFits (span_value span)
its_span None h = tt
its_span (Some span) h = h

its_answer : (answer : Answer) → IsAnswer answer → ValuesFit (answer_fields answer)
its_answer answer h = optional_number answer.of h.of & its_span answer.after h.after & its_span answer.waited h.waited & tt

-- which of the last names are there
abbrev told_keeps : Told → List Bool
told_keeps tells.Nothing = true ∷ false ∷ false ∷ false ∷ false ∷ true ∷ []
told_keeps (tells.Request again) = true ∷ true ∷ false ∷ false ∷ false ∷ true ∷ []
told_keeps (tells.Reply answer) = true ∷ false ∷ true ∷ true ∷ true ∷ true ∷ []
told_keeps (tells.Either again answer) = true ∷ true ∷ true ∷ true ∷ true ∷ true ∷ []

last_are : (time : Option Timestamp) (told : Told) → names_of (time_field time ∷ told_fields told) ++ member_names (codes "file") ≡ picked (thrice (told_keeps told)) last_names
unfolding told_fields
last_are time tells.Nothing = refl
last_are time (tells.Request again) = refl
last_are time (tells.Reply answer) = refl
last_are time (tells.Either again answer) = refl

told_plain : (told : Told) → names_are_plain (told_fields told) ≡ true
unfolding told_fields
told_plain tells.Nothing = refl
told_plain (tells.Request again) = refl
told_plain (tells.Reply answer) = refl
told_plain (tells.Either again answer) = refl

its_told : (told : Told) → IsTold told → ValuesFit (told_fields told)
unfolding told_fields
its_told tells.Nothing h = tt
its_told (tells.Request again) h = (optional_number again h, tt)
its_told (tells.Reply answer) h = its_answer answer h
its_told (tells.Either again answer) h = (optional_number again h.0, its_answer answer h.1)

flow_last : (origin : CaptureOrigin) → IsFlowOrigin origin → IsLast (last_fields origin)
flow_last origin h = record {
  plain = told_plain origin.told;
  fewer = λ names e. ap (λ last. are_different (names ++ last)) (last_are origin.time origin.told) ∙ different-back (thrice (told_keeps origin.told)) names last_names e;
  values = (its_microseconds origin.time h.in_range.time, its_told origin.told h.told);
}

of_capture : (origin : CaptureOrigin) (kind : List ℕ) (fields : List Field) → IsFlowOrigin origin → is_plain kind ≡ true → names_are_plain fields ≡ true → are_different ((codes "kind" ∷ (origin_names ++ (names_of fields ++ []))) ++ last_names) ≡ true → ValuesFit fields → PrintsJson (captured forms.Json origin (printed kind fields))
of_capture origin kind fields o k n a v =
    record_is_json _ (from_origin (origin_fields forms.Json origin) kind fields None (last_fields origin) (flow_origin origin o) (flow_last origin o) (record { kind_plain = k; plain = n; apart = a; values = v; parts = tt }))

-- a record that is told: its members have names that an origin may tell, but this one tells nothing
untold_is : (origin : CaptureOrigin) (kind : List ℕ) (fields : List Field) (told : Told) → told ≡ tells.Nothing → IsFlowOrigin origin → is_plain kind ≡ true → names_are_plain fields ≡ true → are_different (codes "kind" ∷ (flat_map member_names (codes "packet" ∷ codes "t" ∷ codes "flow" ∷ []) ++ (names_of fields ++ (member_names (codes "t_us") ++ member_names (codes "file"))))) ≡ true → ValuesFit fields → PrintsJson (captured forms.Json (record origin { told = told }) (printed kind fields))
unfolding told_fields told_in
untold_is origin kind fields tells.Nothing e o k n a v = record_is_json _ (record {
  kind = k;
  names = n;
  apart = a;
  values = o.packet & its_time origin.time o.in_range.time & ((o.in_range.source, omega (arith, o.source)), (o.in_range.target, omega (arith, o.target))) & v;
  inside = tt;
  last_names = refl;
  last_values = (its_microseconds origin.time o.in_range.time, tt);
})
untold_is origin kind fields (tells.Request again) e o k n a v = absurd cc
untold_is origin kind fields (tells.Reply other) e o k n a v = absurd cc
untold_is origin kind fields (tells.Either again other) e o k n a v = absurd cc

-- a request that no reply answered
request_fits : (request : Request) → ValueFits (Word (request_name request))
request_fits requests.AsReq = (word (codes "AS-REQ") refl).all
request_fits requests.TgsReq = (word (codes "TGS-REQ") refl).all
request_fits requests.Kpasswd = (word (codes "KPASSWD") refl).all

unanswered_is : (origin : CaptureOrigin) (request : Request) (answer : Answer) → IsFlowOrigin origin → origin.told ≡ tells.Nothing → IsAnswer answer → PrintsJson (captured forms.Json origin (unanswered_record request answer))
unanswered_is origin request answer o e a = untold_is origin (codes "unanswered") (unanswered_record request answer).fields origin.told e o refl refl refl (request_fits request & its_answer answer a)

-- who could not be reached
version_fits : (version : IcmpVersion) → ValueFits (Word (version_name version))
version_fits versions.V4 = (word (codes "icmp") refl).all
version_fits versions.V6 = (word (codes "icmpv6") refl).all

its_name : (name : Option (List ℕ)) → IfPresent IsPlain name → IfSome name IsPrintable
its_name None h = tt
its_name (Some name) h = plain_name name h

unreachable_fits : (how : How) (answer : Answer) → IfSome (error_of how) IsError → IsAnswer answer → ValuesFit (unreachable_record how answer).fields
unreachable_fits hows.Reset answer h a = (word (codes "reset") refl).all & tt & tt & tt & its_answer answer a
unreachable_fits hows.Silent answer h a = (word (codes "silent") refl).all & tt & tt & tt & its_answer answer a
unreachable_fits (hows.Error error) answer h a =
    let kind = its_name (type_name error.version error.error_type) (type_plain error.version error.error_type) in
    let code = its_name (code_name error.version error.error_type error.code) (code_plain error.version error.error_type error.code) in
    version_fits error.version & h.by & (omega (arith, h.error_type), kind) & (omega (arith, h.code), code) & its_answer answer a

unreachable_is : (origin : CaptureOrigin) (how : How) (answer : Answer) → IsFlowOrigin origin → origin.told ≡ tells.Nothing → IfSome (error_of how) IsError → IsAnswer answer → PrintsJson (captured forms.Json origin (unreachable_record how answer))
unreachable_is origin how answer o e h a = untold_is origin (codes "unreachable") (unreachable_record how answer).fields origin.told e o refl refl refl (unreachable_fits how answer h a)

-- the last record, which has no origin
by_itself : (aside : Option LastLine) (kind : List ℕ) (fields : List Field) → is_plain kind ≡ true → names_are_plain fields ≡ true → are_different (codes "kind" ∷ (names_of fields ++ member_names (codes "file"))) ≡ true → ValuesFit fields → PrintsJson (record (printed kind fields) { aside = aside })
by_itself aside kind fields k n a v = record_is_json _ (record { kind = k; names = n; apart = a; values = v; inside = tt; last_names = refl; last_values = tt })

end_is : (counts : CaptureCounts) (told : ToldCounts) → AreCounts counts → AreToldCounts told → PrintsJson (capture_end_record forms.Json counts told)
unfolding told_counts
end_is counts told h t =
    by_itself (capture_end_record forms.Json counts told).aside (codes "end") (count_fields counts ++ told_counts forms.Json told) refl refl refl (h.packets & h.messages & h.refused & h.lost & h.unread & t.answered & t.unanswered & t.again & t.unreachable & tt)

file_is : (counts : CaptureCounts) (told : ToldCounts) (place : ℕ) (reason : FileWhy) (path : Option (List ℕ)) (extent : Extent) → AreCounts counts → AreToldCounts told → place < 10 ^ 64 → IsExtent extent → PrintsJson (capture_refused_record forms.Json counts told place reason path extent)
unfolding told_counts
file_is counts told place reason path extent h t p e =
    by_itself (capture_refused_record forms.Json counts told place reason path extent).aside (codes "refused") (capture_refused_record forms.Json counts told place reason path extent).fields refl refl refl
    (h.packets & h.messages & h.refused & h.lost & h.unread & p & its_file_reason reason & its_path path & e.at & optional_number extent.length e.length & t.answered & t.unanswered & t.again & t.unreachable & tt)

pub captures_are_json : CapturesAreJson
captures_are_json = record {
  message = λ origin m o good. message_with (origin_fields forms.Json origin) (last_fields origin) m (flow_origin origin o) (flow_last origin o) good;
  refusal = λ origin refusal path extent o h e.
      of_capture origin (codes "refused") (refusal_record refusal (path_in forms.Json path ++ extent_in forms.Json extent)).fields o refl refl refl (h & its_reason refusal.why & its_extent path extent e);
  joined = λ origin o. of_capture origin (codes "joined") [] o refl refl refl tt;
  lost = λ origin place octets path o h k. of_capture origin (codes "lost") (lost_record forms.Json place octets path).fields o refl refl refl (h & k & its_path path & tt);
  unread = λ origin place octets reason o h k. of_capture origin (codes "unread") (unread_record place octets reason).fields o refl refl refl (optional_number place h & k & its_unread_reason reason & tt);
  password = λ origin version ap rest o v a r. of_capture origin (codes "KPASSWD") (password_record version ap rest).fields o refl refl refl (omega (arith, v) & omega (arith, a) & r & tt);
  unanswered = λ origin request answer o nothing a. unanswered_is origin request answer o nothing a;
  unreachable = λ origin how answer o nothing h a. unreachable_is origin how answer o nothing h a;
  end = λ counts told h t. end_is counts told h t;
  file = λ counts told place reason path extent h t p e. file_is counts told place reason path extent h t p e;
}
