-- In rows of refusals, ends and captures a cell is what the object says.
use Rattle.std.proofs.Common.{◌≡◌, ℕ, pos, Option, Some, None, IfSome, List, [], ◌∷◌, ◌++◌, sym, refl, subst, codes}
use Rattle.std.specs.Net.Addr.{IsIpv4Addr, IsIpv6Addr, MatchIp}
use Rattle.krb_der.specs.Octets.{AreOctets}
use Rattle.krb_der.specs.declared.verdict.Refusal.{Refusal}
use Rattle.krb_der.specs.declared.why.Why.{Why}
use Rattle.krb_der.specs.declared.why.Why.TheVariants as whys
use Rattle.krb_source.specs.FileReasons.{file_reason_name}
use Rattle.krb_source.specs.Spellings.{spelling_name}
use Rattle.krb_source.specs.UnreadReasons.{unread_reason_name}
use Rattle.krb_source.specs.declared.file_why.FileWhy.{FileWhy}
use Rattle.krb_source.specs.declared.file_why.FileWhy.TheVariants as files
use Rattle.krb_source.specs.declared.spelling.Spelling.{Spelling}
use Rattle.krb_source.specs.declared.spelling.Spelling.TheVariants as spellings
use Rattle.krb_source.specs.declared.unread_why.UnreadWhy.{UnreadWhy}
use Rattle.krb_source.specs.declared.unread_why.UnreadWhy.TheVariants as unread
use Rattle.krb_msg.specs.Grammar.{ticket}
use Rattle.krb_msg.specs.Term.{Fits}
use Rattle.krb_msg.specs.Types.{ticket_value}
use Rattle.krb_msg.specs.declared.ticket.Ticket.{Ticket}
use Rattle.krb_source.specs.declared.layer.Layer.{Layer}
use Rattle.krb_msg.specs.Stream.{Boundary, End, Refused, Within}
use Rattle.krb_record.specs.Captures.{answer_fields, capture_end_record, capture_refused_record, captured, how_fields, last_fields, lost_record, origin_fields, password_record, request_name, told_counts, told_fields, told_in, unanswered_record, unreachable_record, unread_record}
use Rattle.krb_record.specs.Files.{file_record}
use Rattle.krb_record.specs.Inputs.{input_refused_record, input_word}
use Rattle.krb_record.specs.Laws.{OriginIsInRange}
use Rattle.krb_record.specs.Origins.{message_origin}
use Rattle.krb_record.specs.Refusals.{extent_in, file_refused_record, message_refused_record, path_in, refusal_record}
use Rattle.krb_record.specs.Streams.{counted_end_record, refused_record}
use Rattle.krb_record.specs.Unreachables.{error_of, version_name}
use Rattle.krb_record.specs.declared.unreachable.How.{How}
use Rattle.krb_record.specs.declared.unreachable.How.TheVariants as hows
use Rattle.krb_record.specs.declared.unreachable.IcmpVersion.{IcmpVersion}
use Rattle.krb_record.specs.declared.unreachable.IcmpVersion.TheVariants as versions
use Rattle.krb_record.specs.Values.{Field, Number, Printed, String, Word, if_there, printed, with_origin}
use Rattle.krb_record.specs.declared.capture.CaptureCounts.{CaptureCounts}
use Rattle.krb_record.specs.declared.capture_origin.CaptureOrigin.{CaptureOrigin}
use Rattle.krb_record.specs.declared.extent.Extent.{Extent}
use Rattle.krb_record.specs.declared.form.Form.TheVariants.{Json}
use Rattle.krb_record.specs.declared.input.InputFault.{InputFault}
use Rattle.krb_record.specs.declared.input.InputFault.TheVariants as faults
use Rattle.krb_record.specs.declared.told.Answer.{Answer}
use Rattle.krb_record.specs.declared.told.Request.{Request}
use Rattle.krb_record.specs.declared.told.Request.TheVariants as requests
use Rattle.krb_record.specs.declared.told.Told.{Told}
use Rattle.krb_record.specs.declared.told.Told.TheVariants as tells
use Rattle.krb_record.specs.declared.told.ToldCounts.{ToldCounts}
use Rattle.krb_text.specs.Messages.{ticket_record}
use Rattle.krb_text.specs.StreamEnds.{end_record}
use Rattle.krb_text_laws.proofs.EndOneLine.{origin_shown}
use Rattle.krb_text_laws.proofs.FieldsOneLine.{of_ticket}
use Rattle.krb_choice_laws.specs.Cells.{IsWord, NamesDiffer, Speaks}
use Rattle.krb_choice_laws.specs.Messages.{SaysAll}
use Rattle.krb_choice_laws.specs.Says.{CapturesSayObjects, EndsSayObjects}
use Rattle.krb_choice_laws.proofs.CapturedSay.{answer-worded, last-speaks, origin-speaks}
use Rattle.krb_choice_laws.proofs.IcmpWords.{code-word, type-word}
use Rattle.krb_choice_laws.proofs.MessagesPlain.{answer_shown}
use Rattle.krb_choice_laws.proofs.MessagesSay.{one-speaks, origin-worded}
use Rattle.krb_choice_laws.proofs.Objects.{objects-say}
use Rattle.krb_choice_laws.proofs.Words.{reason-word}
use Rattle.krb_choice_laws.proofs.Worded.{AreSpeaking, all-speaking, speaking}

pub says : (r : Printed) → NamesDiffer r → AreSpeaking (r.origin ++ r.fields ++ r.last) → SaysAll r
says r d h path field i = objects-say r d path field i (one-speaks (r.origin ++ r.fields ++ r.last) field h i)

-- ---- words
file-word : (reason : FileWhy) → IsWord (file_reason_name reason)
file-word files.Magic = refl
file-word other = refl

unread-word : (reason : UnreadWhy) → IsWord (unread_reason_name reason)
unread-word unread.Surplus = refl
unread-word other = refl

spelling-word : (s : Spelling) → IsWord (spelling_name s)
spelling-word spellings.Octets = refl
spelling-word other = refl

spelling-speaks : (s : Option Spelling) → Speaks (if_there (λ s. Word (spelling_name s)) s)
spelling-speaks None = tt
spelling-speaks (Some s) = spelling-word s

input-speaks : (fault : InputFault) → IsWord (input_word fault)
input-speaks (faults.Misspelled spelling) = spelling-word spelling
input-speaks faults.Length = refl
input-speaks faults.Ntlm = refl

path-speaks : (path : Option (List ℕ)) → IfSome path AreOctets → Speaks (if_there String path)
path-speaks None h = tt
path-speaks (Some octets) h = h

number-speaks : (n : Option ℕ) → Speaks (if_there (λ n. Number (pos n)) n)
number-speaks None = tt
number-speaks (Some n) = tt

-- ---- refusals and ends
frame-says : (messages place : ℕ) (reason : Why) (path : Option (List ℕ)) (extent : Extent) → IfSome path AreOctets → SaysAll (refused_record Json messages place reason path extent)
frame-says messages place reason path extent h =
    says (refused_record Json messages place reason path extent) refl (tt, (tt, (reason-word reason, (path-speaks path h, (tt, (number-speaks extent.length, tt))))))

stream-says : (messages : ℕ) (end : End) (path : Option (List ℕ)) (extent : Extent) → IfSome path AreOctets → SaysAll (end_record Json messages end path extent)
stream-says messages Boundary path extent h = says (end_record Json messages Boundary path extent) refl (tt, tt)
stream-says messages (Within present) path extent h = frame-says messages present whys.Truncated path extent h
stream-says messages (Refused place reason) path extent h = frame-says messages place reason path extent h

module _ (line : Option ℕ) (layers : List Layer) where
  abbrev from : Printed → Printed
  from r = with_origin (message_origin line layers) r

  says-from : (r : Printed) → NamesDiffer (from r) → r.last ≡ [] → AreSpeaking r.fields → SaysAll (from r)
  says-from r d e h =
      says (from r) d
      (all-speaking (message_origin line layers ++ r.fields) r.last (all-speaking (message_origin line layers) r.fields (speaking (message_origin line layers) (origin_shown line layers) (origin-worded line layers)) h) (subst AreSpeaking (sym e) tt))

message-names : (line : Option ℕ) (layers : List Layer) (refusal : Refusal) (path : Option (List ℕ)) (extent : Extent) (spelling : Spelling) → NamesDiffer (with_origin (message_origin line layers) (message_refused_record Json refusal path extent spelling))
message-names None [] refusal path extent spelling = refl
message-names None (first ∷ others) refusal path extent spelling = refl
message-names (Some line) [] refusal path extent spelling = refl
message-names (Some line) (first ∷ others) refusal path extent spelling = refl

input-names : (line : Option ℕ) (layers : List Layer) (fault : InputFault) (place : Option ℕ) (extent : Extent) (spelling : Option Spelling) → NamesDiffer (with_origin (message_origin line layers) (input_refused_record Json fault place extent spelling))
input-names None [] fault place extent spelling = refl
input-names None (first ∷ others) fault place extent spelling = refl
input-names (Some line) [] fault place extent spelling = refl
input-names (Some line) (first ∷ others) fault place extent spelling = refl

ticket-names : (line : Option ℕ) (layers : List Layer) (t : Ticket) → NamesDiffer (with_origin (message_origin line layers) (ticket_record t))
unfolding ticket_record
ticket-names None [] t = refl
ticket-names None (first ∷ others) t = refl
ticket-names (Some line) [] t = refl
ticket-names (Some line) (first ∷ others) t = refl

ticket-says : (line : Option ℕ) (layers : List Layer) (t : Ticket) → Fits ticket (ticket_value t) → SaysAll (with_origin (message_origin line layers) (ticket_record t))
unfolding ticket_record
ticket-says line layers t h = says-from line layers (ticket_record t) (ticket-names line layers t) refl (speaking (ticket_record t).fields (of_ticket t h, (tt, (tt, tt))) (tt, (tt, (tt, tt))))

pub ends-say : EndsSayObjects
ends-say = record {
  ticket = ticket-says;
  file = λ place reason path extent h. says (file_refused_record Json place reason path extent) refl (tt, (file-word reason, (path-speaks path h, (tt, (number-speaks extent.length, tt)))));
  message = λ line layers refusal path extent spelling h. says-from line layers (message_refused_record Json refusal path extent spelling) (message-names line layers refusal path extent spelling) refl (tt, (reason-word refusal.why, (path-speaks path h, (tt, (number-speaks extent.length, (spelling-word spelling, tt))))));
  input = λ line layers fault place extent spelling. says-from line layers (input_refused_record Json fault place extent spelling) (input-names line layers fault place extent spelling) refl (input-speaks fault, (number-speaks place, (tt, (tt, (tt, (number-speaks extent.length, (spelling-speaks spelling, tt)))))));
  stream = stream-says;
  counted = λ messages refused. says (counted_end_record messages refused) refl (tt, (tt, tt));
  name = λ name h. says (file_record name) refl (h, tt);
}

-- ---- captures
module _ (origin : CaptureOrigin) (range : OriginIsInRange origin) where
  of-capture : (kind : List ℕ) (fields : List Field) → NamesDiffer (captured Json origin (printed kind fields)) → AreSpeaking fields → SaysAll (captured Json origin (printed kind fields))
  of-capture kind fields d h =
      says (captured Json origin (printed kind fields)) d
      (all-speaking (origin_fields Json origin ++ fields) (last_fields origin) (all-speaking (origin_fields Json origin) fields (origin-speaks origin range) h) (last-speaks origin))

-- what is told, whatever it is
abbrev told-as : CaptureOrigin → Told → CaptureOrigin
told-as origin told = record origin { told = told }

refusal-names : (origin : CaptureOrigin) (told : Told) (refusal : Refusal) (path : Option (List ℕ)) (extent : Extent) → NamesDiffer (captured Json (told-as origin told) (refusal_record refusal (path_in Json path ++ extent_in Json extent)))
unfolding told_in told_fields
refusal-names origin tells.Nothing refusal path extent = refl
refusal-names origin (tells.Request again) refusal path extent = refl
refusal-names origin (tells.Reply answer) refusal path extent = refl
refusal-names origin (tells.Either again answer) refusal path extent = refl

joined-names : (origin : CaptureOrigin) (told : Told) → NamesDiffer (captured Json (told-as origin told) (printed (codes "joined") []))
unfolding told_in told_fields
joined-names origin tells.Nothing = refl
joined-names origin (tells.Request again) = refl
joined-names origin (tells.Reply answer) = refl
joined-names origin (tells.Either again answer) = refl

lost-names : (origin : CaptureOrigin) (told : Told) (place octets : ℕ) (path : Option (List ℕ)) → NamesDiffer (captured Json (told-as origin told) (lost_record Json place octets path))
unfolding told_in told_fields
lost-names origin tells.Nothing place octets path = refl
lost-names origin (tells.Request again) place octets path = refl
lost-names origin (tells.Reply answer) place octets path = refl
lost-names origin (tells.Either again answer) place octets path = refl

unread-names : (origin : CaptureOrigin) (told : Told) (place : Option ℕ) (octets : ℕ) (reason : UnreadWhy) → NamesDiffer (captured Json (told-as origin told) (unread_record place octets reason))
unfolding told_in told_fields
unread-names origin tells.Nothing place octets reason = refl
unread-names origin (tells.Request again) place octets reason = refl
unread-names origin (tells.Reply answer) place octets reason = refl
unread-names origin (tells.Either again answer) place octets reason = refl

password-names : (origin : CaptureOrigin) (told : Told) (version ap rest : ℕ) → NamesDiffer (captured Json (told-as origin told) (password_record version ap rest))
unfolding told_in told_fields
password-names origin tells.Nothing version ap rest = refl
password-names origin (tells.Request again) version ap rest = refl
password-names origin (tells.Reply answer) version ap rest = refl
password-names origin (tells.Either again answer) version ap rest = refl

request-word : (request : Request) → IsWord (request_name request)
request-word requests.AsReq = refl
request-word requests.TgsReq = refl
request-word requests.Kpasswd = refl

-- of a request that no reply answered, whose own fields tell of it
unanswered-names : (origin : CaptureOrigin) (request : Request) (answer : Answer) → NamesDiffer (captured Json (told-as origin tells.Nothing) (unanswered_record request answer))
unfolding told_in told_fields
unanswered-names origin request answer = refl

unanswered-says : (origin : CaptureOrigin) (request : Request) (answer : Answer) → OriginIsInRange origin → origin.told ≡ tells.Nothing → SaysAll (captured Json origin (unanswered_record request answer))
unanswered-says origin request answer range e =
    of-capture origin range (codes "unanswered") (unanswered_record request answer).fields (subst (λ (told : Told). NamesDiffer (captured Json (told-as origin told) (unanswered_record request answer))) (sym e) (unanswered-names origin request answer))
    (request-word request, speaking (answer_fields answer) (answer_shown answer) (answer-worded answer))

-- of somebody who could not be reached
version-word : (version : IcmpVersion) → IsWord (version_name version)
version-word versions.V4 = refl
version-word versions.V6 = refl

how-speaks : (how : How) → IfSome (error_of how) (λ error. MatchIp error.by IsIpv4Addr IsIpv6Addr) → AreSpeaking (how_fields how)
how-speaks hows.Reset h = (refl, (tt, (tt, (tt, tt))))
how-speaks hows.Silent h = (refl, (tt, (tt, (tt, tt))))
how-speaks (hows.Error error) h = (version-word error.version, (h, (type-word error.version error.error_type, (code-word error.version error.error_type error.code, tt))))

unreachable-names : (origin : CaptureOrigin) (how : How) (answer : Answer) → NamesDiffer (captured Json (told-as origin tells.Nothing) (unreachable_record how answer))
unfolding told_in told_fields
unreachable-names origin how answer = refl

unreachable-says : (origin : CaptureOrigin) (how : How) (answer : Answer) → OriginIsInRange origin → origin.told ≡ tells.Nothing → IfSome (error_of how) (λ error. MatchIp error.by IsIpv4Addr IsIpv6Addr) → SaysAll (captured Json origin (unreachable_record how answer))
unreachable-says origin how answer range e h =
    of-capture origin range (codes "unreachable") (unreachable_record how answer).fields (subst (λ (told : Told). NamesDiffer (captured Json (told-as origin told) (unreachable_record how answer))) (sym e) (unreachable-names origin how answer))
    (all-speaking (how_fields how) (answer_fields answer) (how-speaks how h) (speaking (answer_fields answer) (answer_shown answer) (answer-worded answer)))

capture-end : (counts : CaptureCounts) (told : ToldCounts) → SaysAll (capture_end_record Json counts told)
unfolding told_counts
capture-end counts told = says (capture_end_record Json counts told) refl (tt, (tt, (tt, (tt, (tt, (tt, (tt, (tt, (tt, tt)))))))))

capture-refused : (counts : CaptureCounts) (told : ToldCounts) (place : ℕ) (reason : FileWhy) (path : Option (List ℕ)) (extent : Extent) → IfSome path AreOctets → SaysAll (capture_refused_record Json counts told place reason path extent)
unfolding told_counts
capture-refused counts told place reason path extent h =
    says (capture_refused_record Json counts told place reason path extent) refl
    (tt, (tt, (tt, (tt, (tt, (tt, (file-word reason, (path-speaks path h, (tt, (number-speaks extent.length, (tt, (tt, (tt, (tt, tt))))))))))))))

pub captures-say : CapturesSayObjects
captures-say = record {
  refusal = λ origin refusal path extent range h.
      of-capture origin range (codes "refused") (refusal_record refusal (path_in Json path ++ extent_in Json extent)).fields (refusal-names origin origin.told refusal path extent)
      (tt, (reason-word refusal.why, (path-speaks path h, (tt, (number-speaks extent.length, tt)))));
  joined = λ origin range. of-capture origin range (codes "joined") [] (joined-names origin origin.told) tt;
  lost = λ origin place octets path range h. of-capture origin range (codes "lost") (lost_record Json place octets path).fields (lost-names origin origin.told place octets path) (tt, (tt, (path-speaks path h, tt)));
  unread = λ origin place octets reason range. of-capture origin range (codes "unread") (unread_record place octets reason).fields (unread-names origin origin.told place octets reason) (number-speaks place, (tt, (unread-word reason, tt)));
  password = λ origin version ap rest range. of-capture origin range (codes "KPASSWD") (password_record version ap rest).fields (password-names origin origin.told version ap rest) (tt, (tt, (tt, tt)));
  unanswered = unanswered-says;
  unreachable = unreachable-says;
  end = capture-end;
  file = capture-refused;
}
