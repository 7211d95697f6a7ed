-- Records of captures are of printable texts.
use Rattle.std.proofs.Common.{ℕ, Bool, true, false, Option, Some, None, IfSome, List, [], ◌++◌, pos, refl, codes, if◌then◌else◌}
use Rattle.std.specs.Net.Addr.{IsIpv4Addr, IsIpv6Addr, MatchIp}
use Rattle.krb_der.specs.Octets.{AreOctets}
use Rattle.krb_der.specs.Reasons.{reason_name, reason_number}
use Rattle.krb_der.specs.declared.verdict.Refusal.{Refusal}
use Rattle.krb_source.specs.FileReasons.{file_reason_name, file_reason_number}
use Rattle.krb_source.specs.declared.file_why.FileWhy.{FileWhy}
use Rattle.krb_source.specs.declared.unread_why.UnreadWhy.{UnreadWhy}
use Rattle.krb_msg.specs.Term.{IfPresent}
use Rattle.krb_record.specs.Captures.{capture_end_record, capture_refused_record, captured, count_fields, lost_record, password_record, request_name, four_counts, told_counts, unanswered_record, unreachable_record, unread_record}
use Rattle.krb_record.specs.Forms.{is_plain_form}
use Rattle.krb_record.specs.Laws.{OriginIsInRange}
use Rattle.krb_record.specs.Refusals.{extent_in, known_path, path_in, refusal_record, refused_file}
use Rattle.krb_record.specs.Text.{IsPrintable}
use Rattle.krb_record.specs.Unreachables.{code_name, error_of, type_name, version_name}
use Rattle.krb_record.specs.Values.{Number, printed, the}
use Rattle.krb_record.specs.declared.capture.CaptureCounts.{CaptureCounts}
use Rattle.krb_record.specs.declared.capture_origin.CaptureOrigin.{CaptureOrigin}
use Rattle.krb_record.specs.declared.extent.Extent.{Extent}
use Rattle.krb_record.specs.declared.form.Form.{Form}
use Rattle.krb_record.specs.declared.form.Form.TheVariants as forms
use Rattle.krb_record.specs.declared.told.Answer.{Answer}
use Rattle.krb_record.specs.declared.told.Request.{Request}
use Rattle.krb_record.specs.declared.told.Request.TheVariants as requests
use Rattle.krb_record.specs.declared.told.ToldCounts.{ToldCounts}
use Rattle.krb_record.specs.declared.unreachable.How.{How}
use Rattle.krb_record.specs.declared.unreachable.How.TheVariants as hows
use Rattle.krb_record.specs.declared.unreachable.IcmpVersion.{IcmpVersion}
use Rattle.krb_record.specs.declared.unreachable.IcmpVersion.TheVariants as versions
use Rattle.krb_record.proofs.Printable.{word}
use Rattle.krb_record.proofs.Reasons as reasons
use Rattle.krb_text_laws.proofs.EachForm.{AreShown, plain_name}
use Rattle.krb_text_laws.proofs.EndOneLine.{number_shown}
use Rattle.krb_text_laws.proofs.Unreachables.{IsPlain as IsPlainName, code_plain, type_plain}
use Rattle.krb_choice_laws.specs.Plain.{ArePlain, IsPlain}
use Rattle.krb_choice_laws.proofs.MessagesPlain.{answer_shown}
use Rattle.krb_choice_laws.proofs.RecordsPlain.{end-kind, faulty, in-path, known, located, located_in, of-capture, of-told, refused-kind}
use Rattle.krb_choice_laws.proofs.RowLines.{all-plain}
use Rattle.krb_choice_laws.proofs.Values.{plain-field, plain-fields}

-- ---- what is found in a flow
pub refusal-plain : (form : Form) (origin : CaptureOrigin) (refusal : Refusal) (path : Option (List ℕ)) (extent : Extent) → OriginIsInRange origin → IfSome path AreOctets
    → IsPlain (captured form origin (refusal_record refusal (path_in form path ++ extent_in form extent)))
refusal-plain form origin refusal path extent range h =
    of-capture form origin (codes "refused") _ range refused-kind (faulty refusal.place (reason_number refusal.why) (reason_name refusal.why) _ (reasons.name refusal.why).all (located form path extent h))

pub joined-plain : (form : Form) (origin : CaptureOrigin) → OriginIsInRange origin → IsPlain (captured form origin (printed (codes "joined") []))
joined-plain form origin range = of-capture form origin (codes "joined") [] range (word (codes "joined") refl).all tt

pub lost-plain : (form : Form) (origin : CaptureOrigin) (place octets : ℕ) (path : Option (List ℕ)) → OriginIsInRange origin → IfSome path AreOctets → IsPlain (captured form origin (lost_record form place octets path))
lost-plain form origin place octets path range h =
    of-capture form origin (codes "lost") _ range (word (codes "lost") refl).all
    (plain-field (the (codes "place") (Number (pos place))) refl tt, (plain-field (the (codes "octets") (Number (pos octets))) refl tt, in-path form path h))

pub unread-plain : (form : Form) (origin : CaptureOrigin) (place : Option ℕ) (octets : ℕ) (reason : UnreadWhy) → OriginIsInRange origin → IsPlain (captured form origin (unread_record place octets reason))
unread-plain form origin place octets reason range =
    of-capture form origin (codes "unread") _ range (word (codes "unread") refl).all (plain-fields (unread_record place octets reason).fields refl (number_shown place, (tt, ((reasons.unread_name reason).all, tt))))

pub password-plain : (form : Form) (origin : CaptureOrigin) (version ap rest : ℕ) → OriginIsInRange origin → IsPlain (captured form origin (password_record version ap rest))
password-plain form origin version ap rest range = of-capture form origin (codes "KPASSWD") _ range (word (codes "KPASSWD") refl).all (plain-fields (password_record version ap rest).fields refl (tt, (tt, (tt, tt))))

request-shown : (request : Request) → IsPrintable (request_name request)
request-shown requests.AsReq = (word (codes "AS-REQ") refl).all
request-shown requests.TgsReq = (word (codes "TGS-REQ") refl).all
request-shown requests.Kpasswd = (word (codes "KPASSWD") refl).all

pub unanswered-plain : (form : Form) (origin : CaptureOrigin) (request : Request) (answer : Answer) → OriginIsInRange origin → IsPlain (captured form origin (unanswered_record request answer))
unanswered-plain form origin request answer range =
    of-capture form origin (codes "unanswered") _ range (word (codes "unanswered") refl).all (plain-fields (unanswered_record request answer).fields refl (request-shown request, answer_shown answer))

-- who could not be reached
version-shown : (version : IcmpVersion) → IsPrintable (version_name version)
version-shown versions.V4 = (word (codes "icmp") refl).all
version-shown versions.V6 = (word (codes "icmpv6") refl).all

name-shown : (name : Option (List ℕ)) → IfPresent IsPlainName name → IfPresent IsPrintable name
name-shown None h = tt
name-shown (Some name) h = plain_name name h

how-shown : (how : How) (answer : Answer) → IfSome (error_of how) (λ error. MatchIp error.by IsIpv4Addr IsIpv6Addr) → AreShown (unreachable_record how answer).fields
how-shown hows.Reset answer h = ((word (codes "reset") refl).all, (tt, (tt, (tt, answer_shown answer))))
how-shown hows.Silent answer h = ((word (codes "silent") refl).all, (tt, (tt, (tt, answer_shown answer))))
how-shown (hows.Error error) answer h =
    let kind = name-shown (type_name error.version error.error_type) (type_plain error.version error.error_type) in
    let code = name-shown (code_name error.version error.error_type error.code) (code_plain error.version error.error_type error.code) in
    (version-shown error.version, (h, (kind, (code, answer_shown answer))))

pub unreachable-plain : (form : Form) (origin : CaptureOrigin) (how : How) (answer : Answer) → OriginIsInRange origin → IfSome (error_of how) (λ error. MatchIp error.by IsIpv4Addr IsIpv6Addr)
    → IsPlain (captured form origin (unreachable_record how answer))
unreachable-plain form origin how answer range h = of-capture form origin (codes "unreachable") _ range (word (codes "unreachable") refl).all (plain-fields (unreachable_record how answer).fields refl (how-shown how answer h))

-- ---- the last record
counts-plain : (counts : CaptureCounts) → ArePlain (count_fields counts)
counts-plain counts = plain-fields (count_fields counts) refl (tt, (tt, (tt, (tt, (tt, tt)))))

told-counts : (form : Form) (told : ToldCounts) → ArePlain (told_counts form told)
unfolding told_counts
told-counts form told = by (is_plain_form form)
  where
    by : (b : Bool) → ArePlain (if b then [] else four_counts told)
    by true = tt
    by false = plain-fields (four_counts told) refl (tt, (tt, (tt, (tt, tt))))

pub end-plain : (form : Form) (counts : CaptureCounts) (told : ToldCounts) → IsPlain (capture_end_record form counts told)
end-plain form counts told =
    of-told [] (codes "end") (codes "end") (count_fields counts) (count_fields counts ++ told_counts form told) tt end-kind (counts-plain counts) end-kind (all-plain (count_fields counts) (told_counts form told) (counts-plain counts) (told-counts form told))

pub capture-refused : (form : Form) (counts : CaptureCounts) (told : ToldCounts) (place : ℕ) (reason : FileWhy) (path : Option (List ℕ)) (extent : Extent) → IfSome path AreOctets
    → IsPlain (capture_refused_record form counts told place reason path extent)
capture-refused form counts told place reason path extent h =
    let path_is = known_path form path in let p = known form path h in
    let at = λ (f : Form). faulty place (file_reason_number reason) (file_reason_name reason) (located_in f path_is extent) (reasons.file_name reason).all (located f path_is extent p) in
    let of = λ (f : Form). (refused_file f place reason path_is extent).fields in
    of-told [] (codes "refused") (codes "refused") _ _ tt refused-kind
    (all-plain (count_fields counts) (of forms.NamedLines) (counts-plain counts) (at forms.NamedLines))
    refused-kind
    (all-plain (count_fields counts) (of form ++ told_counts form told) (counts-plain counts) (all-plain (of form) (told_counts form told) (at form) (told-counts form told)))
