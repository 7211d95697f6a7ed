use Rattle.std.proofs.Common.{◌≡◌, ℕ, pos, ◌<◌, ◌^◌, true, List, ◌++◌, [], ◌∷◌, Option, Some, None, IfSome, refl, subst, sym, codes}
use Rattle.std.specs.List.{list_all}
use Rattle.std.specs.Net.Addr.{IsIpv4Addr, IsIpv6Addr, MatchIp}
use Rattle.std.proofs.lemmas.Bool.{and_parts, and_from}
use Rattle.krb_msg.specs.Term.{IfPresent}
use Rattle.krb_source.specs.declared.timestamp.Timestamp.{Timestamp}
use Rattle.krb_record.specs.Captures.{answer_fields, captured as captured_record, capture_end_record, capture_refused_record, captured_line, lost_record, origin_fields, password_record, request_name, span_value, told_counts, told_fields, told_in, unanswered_record, unreachable_record, unread_record}
use Rattle.krb_record.specs.Forms.{form_of}
use Rattle.krb_record.specs.Laws.{IsOneLine, OriginIsInRange}
use Rattle.krb_text.specs.Messages.{message_record}
use Rattle.krb_record.specs.Refusals.{extent_in, known_path, path_in, refusal_record}
use Rattle.krb_record.specs.Time.{microseconds, timestamp_text}
use Rattle.krb_record.specs.Text.{IsPrintable}
use Rattle.krb_record.specs.Unreachables.{code_name, error_of, type_name, version_name}
use Rattle.krb_record.specs.Values.{Field, Number, Word, Printed, printed, if_there}
use Rattle.krb_record.specs.declared.form.Base.{Base}
use Rattle.krb_record.specs.declared.form.Base.TheVariants as bases
use Rattle.krb_record.specs.declared.told.Answer.{Answer}
use Rattle.krb_record.specs.declared.told.Request.{Request}
use Rattle.krb_record.specs.declared.told.Request.TheVariants as requests
use Rattle.krb_record.specs.declared.told.Span.{Span}
use Rattle.krb_record.specs.declared.told.Told.{Told}
use Rattle.krb_record.specs.declared.told.Told.TheVariants as tells
use Rattle.krb_record.specs.declared.told.ToldCounts.{ToldCounts}
use Rattle.krb_record.specs.declared.unreachable.How.{How}
use Rattle.krb_record.specs.declared.unreachable.How.TheVariants as hows
use Rattle.krb_record.specs.declared.unreachable.IcmpVersion.{IcmpVersion}
use Rattle.krb_record.specs.declared.unreachable.IcmpVersion.TheVariants as versions
use Rattle.krb_record.specs.declared.capture_origin.CaptureOrigin.{CaptureOrigin}
use Rattle.krb_text_laws.proofs.EachForm.{ArePlainParts, IsShown, AreShown, names_are_plain, plain_name, record_prints}
use Rattle.krb_text_laws.proofs.EndOneLine.{ended, known_octets, one_line, number_shown, path_is_plain, path_shown, located_is_plain, located_shown}
use Rattle.krb_text_laws.proofs.MessageOneLine.{record_is_plain, shown_whole}
use Rattle.krb_record.proofs.Printable.{is_printable, word}
use Rattle.krb_record.proofs.Reasons as reasons
use Rattle.krb_record.proofs.Times.{timestamp}
use Rattle.krb_text_laws.proofs.Tuples.{◌&◌}
use Rattle.krb_text_laws.proofs.Unreachables.{IsPlain, code_plain, type_plain}
use Rattle.krb_text_laws.proofs.text.capture_is_one_line_each.Goals as goal

-- ---- origins
time_shown : (time : Option Timestamp) → IfSome time (λ time. time.seconds < 2 ^ 32) → IsShown (if_there (λ time. Word (timestamp_text time.seconds time.nanoseconds)) time)
time_shown None h = tt
time_shown (Some time) h = (timestamp time.seconds time.nanoseconds h).all

-- what is told: packets and spans of time
span_shown : (span : Option Span) → IsShown (span_value span)
span_shown None = tt
span_shown (Some span) = tt

answer_shown : (answer : Answer) → AreShown (answer_fields answer)
answer_shown answer = number_shown answer.of & span_shown answer.after & span_shown answer.waited & tt

told_shown : (told : Told) → AreShown (told_fields told)
unfolding told_fields
told_shown tells.Nothing = tt
told_shown (tells.Request again) = number_shown again & tt
told_shown (tells.Reply answer) = answer_shown answer
told_shown (tells.Either again answer) = (number_shown again, answer_shown answer)

told_plain : (told : Told) → names_are_plain (told_fields told) ≡ true
unfolding told_fields
told_plain tells.Nothing = refl
told_plain (tells.Request again) = refl
told_plain (tells.Reply answer) = refl
told_plain (tells.Either again answer) = refl

in_shown : (base : Base) (told : Told) → AreShown (told_in (form_of base) told)
unfolding told_in
in_shown bases.Lines told = tt
in_shown bases.NamedLines told = told_shown told
in_shown bases.Json told = tt

in_plain : (base : Base) (told : Told) → names_are_plain (told_in (form_of base) told) ≡ true
unfolding told_in
in_plain bases.Lines told = refl
in_plain bases.NamedLines told = told_plain told
in_plain bases.Json told = refl

counts_shown : (base : Base) (told : ToldCounts) → AreShown (told_counts (form_of base) told)
unfolding told_counts
counts_shown bases.Lines told = tt
counts_shown bases.NamedLines told = tt & tt & tt & tt & tt
counts_shown bases.Json told = tt & tt & tt & tt & tt

counts_plain : (base : Base) (told : ToldCounts) → names_are_plain (told_counts (form_of base) told) ≡ true
unfolding told_counts
counts_plain bases.Lines told = refl
counts_plain bases.NamedLines told = refl
counts_plain bases.Json told = refl

shown : (base : Base) (origin : CaptureOrigin) → OriginIsInRange origin → AreShown (origin_fields (form_of base) origin)
shown base origin h = (tt, (time_shown origin.time h.time, ((h.source, h.target), in_shown base origin.told)))

last_shown : (time : Option Timestamp) → IsShown (if_there (λ time. Number (pos (microseconds time.seconds time.nanoseconds))) time)
last_shown None = tt
last_shown (Some time) = tt

request_shown : (request : Request) → IsShown (Word (request_name request))
request_shown requests.AsReq = (word (codes "AS-REQ") refl).all
request_shown requests.TgsReq = (word (codes "TGS-REQ") refl).all
request_shown requests.Kpasswd = (word (codes "KPASSWD") refl).all

-- who could not be reached
version_shown : (version : IcmpVersion) → IsShown (Word (version_name version))
version_shown versions.V4 = (word (codes "icmp") refl).all
version_shown versions.V6 = (word (codes "icmpv6") refl).all

its_name_shown : (name : Option (List ℕ)) → IfPresent IsPlain name → IfPresent IsPrintable name
its_name_shown None h = tt
its_name_shown (Some name) h = plain_name name h

unreachable_shown : (how : How) (answer : Answer) → IfSome (error_of how) (λ error. MatchIp error.by IsIpv4Addr IsIpv6Addr) → AreShown (unreachable_record how answer).fields
unreachable_shown hows.Reset answer h = ((word (codes "reset") refl).all, (tt, (tt, (tt, answer_shown answer))))
unreachable_shown hows.Silent answer h = ((word (codes "silent") refl).all, (tt, (tt, (tt, answer_shown answer))))
unreachable_shown (hows.Error error) answer h =
    let kind = its_name_shown (type_name error.version error.error_type) (type_plain error.version error.error_type) in
    let code = its_name_shown (code_name error.version error.error_type error.code) (code_plain error.version error.error_type error.code) in
    (version_shown error.version, (h, (kind, (code, answer_shown answer))))

-- fields after others
plain-both : (xs ys : List Field) → names_are_plain xs ≡ true → names_are_plain ys ≡ true → names_are_plain (xs ++ ys) ≡ true
plain-both [] ys h k = k
plain-both (x ∷ xs) ys h k =
    let parts = and_parts (list_all is_printable x.name) (names_are_plain xs) h in and_from (list_all is_printable x.name) (names_are_plain (xs ++ ys)) parts.0 (plain-both xs ys parts.1 k)

shown-both : (xs ys : List Field) → AreShown xs → AreShown ys → AreShown (xs ++ ys)
shown-both [] ys h k = k
shown-both (x ∷ xs) ys h k = (h.0, shown-both xs ys h.1 k)

-- ---- records
captured : (base : Base) (origin : CaptureOrigin) (r : Printed) → OriginIsInRange origin → list_all is_printable r.kind ≡ true → names_are_plain r.fields ≡ true → AreShown r.fields → IfPresent ArePlainParts r.inside → IsOneLine (captured_line (form_of base) origin r)
captured base origin r h kind names fields inside = ended (record_prints base (captured_record (form_of base) origin r) (in_plain base origin.told, shown base origin h) kind (names, fields) inside (told_plain origin.told, (last_shown origin.time, told_shown origin.told)))

pub returns-clause-message : goal.returns-clause-message
returns-clause-message c = λ base origin m h good.
    let plain = record_is_plain m good in
    subst (λ (r : Printed). IsOneLine (captured_line (form_of base) origin r)) (sym (shown_whole base m)) (captured base origin (message_record m) h plain.kind plain.names plain.fields plain.inside)

pub returns-clause-refusal : goal.returns-clause-refusal
returns-clause-refusal c = λ base origin refusal path extent h k.
    captured base origin (refusal_record refusal (path_in (form_of base) path ++ extent_in (form_of base) extent)) h refl (located_is_plain base path extent) (tt & (reasons.name refusal.why).all & located_shown base path extent k) tt

pub returns-clause-joined : goal.returns-clause-joined
returns-clause-joined c = λ base origin h. captured base origin (printed (codes "joined") []) h refl refl tt tt

pub returns-clause-lost : goal.returns-clause-lost
returns-clause-lost c = λ base origin place octets path h k. captured base origin (lost_record (form_of base) place octets path) h refl (path_is_plain base path) (tt & tt & path_shown base path k) tt

pub returns-clause-unread : goal.returns-clause-unread
returns-clause-unread c = λ base origin place octets reason h. captured base origin (unread_record place octets reason) h refl refl (number_shown place & tt & (reasons.unread_name reason).all & tt) tt

pub returns-clause-password : goal.returns-clause-password
returns-clause-password c = λ base origin version ap rest h. captured base origin (password_record version ap rest) h refl refl (tt & tt & tt & tt) tt

pub returns-clause-end : goal.returns-clause-end
returns-clause-end c = λ base counts told. one_line base (capture_end_record (form_of base) counts told) refl (counts_plain base told) (tt, (tt, (tt, (tt, (tt, counts_shown base told)))))

pub returns-clause-unanswered : goal.returns-clause-unanswered
returns-clause-unanswered c = λ base origin request answer h. captured base origin (unanswered_record request answer) h refl refl (request_shown request, answer_shown answer) tt

pub returns-clause-unreachable : goal.returns-clause-unreachable
returns-clause-unreachable c = λ base origin how answer h by. captured base origin (unreachable_record how answer) h refl refl (unreachable_shown how answer by) tt

pub returns-clause-file : goal.returns-clause-file
returns-clause-file c = λ base counts told place reason path extent h.
    let known = known_path (form_of base) path in
    one_line base (capture_refused_record (form_of base) counts told place reason path extent) refl
    (plain-both (path_in (form_of base) known ++ extent_in (form_of base) extent) (told_counts (form_of base) told) (located_is_plain base known extent) (counts_plain base told))
    (tt, (tt, (tt, (tt, (tt, (tt, ((reasons.file_name reason).all, shown-both (path_in (form_of base) known ++ extent_in (form_of base) extent) (told_counts (form_of base) told) (located_shown base known extent (known_octets base path h)) (counts_shown base told))))))))
