-- Records of listings but those of messages: their texts are printable in each form, so that the laws of records hold of theirs.
use Rattle.std.specs.Prelude.{ℕ, [], List, ◌++◌, Option, IfSome, codes}
use Rattle.std.specs.Net.Addr.{IsIpv4Addr, IsIpv6Addr, MatchIp}
use Rattle.krb_der.specs.Octets.{AreOctets}
use Rattle.krb_der.specs.declared.verdict.Refusal.{Refusal}
use Rattle.krb_source.specs.declared.file_why.FileWhy.{FileWhy}
use Rattle.krb_source.specs.declared.layer.Layer.{Layer}
use Rattle.krb_source.specs.declared.spelling.Spelling.{Spelling}
use Rattle.krb_source.specs.declared.unread_why.UnreadWhy.{UnreadWhy}
use Rattle.krb_keytab.specs.declared.value.Record.{Record}
use Rattle.krb_keytab.specs.declared.value.Stop.{Stop}
use Rattle.krb_ccache.specs.declared.value.Credential.{Credential}
use Rattle.krb_ccache.specs.declared.value.FilePrincipal.{FilePrincipal}
use Rattle.krb_ccache.specs.declared.value.Header.{Header}
use Rattle.krb_msg.specs.Grammar.{ticket}
use Rattle.krb_msg.specs.Stream.{End}
use Rattle.krb_msg.specs.Term.{Fits}
use Rattle.krb_msg.specs.Types.{ticket_value}
use Rattle.krb_msg.specs.declared.ticket.Ticket.{Ticket}
use Rattle.krb_record.specs.Captures.{capture_end_record, capture_refused_record, captured, lost_record, password_record, unanswered_record, unreachable_record, unread_record}
use Rattle.krb_record.specs.Files.{file_origin, file_record}
use Rattle.krb_record.specs.Inputs.{input_refused_record}
use Rattle.krb_record.specs.Labels.{with_file_if}
use Rattle.krb_record.specs.Laws.{OriginIsInRange}
use Rattle.krb_record.specs.Origins.{message_origin}
use Rattle.krb_record.specs.Refusals.{extent_in, file_refused_record, message_refused_record, path_in, refusal_record}
use Rattle.krb_record.specs.Streams.{counted_end_record}
use Rattle.krb_record.specs.Unreachables.{error_of}
use Rattle.krb_record.specs.Values.{Printed, printed, with_origin}
use Rattle.krb_record.specs.declared.capture.CaptureCounts.{CaptureCounts}
use Rattle.krb_record.specs.declared.capture_origin.CaptureOrigin.{CaptureOrigin}
use Rattle.krb_record.specs.declared.extent.Extent.{Extent}
use Rattle.krb_record.specs.declared.form.Form.{Form}
use Rattle.krb_record.specs.declared.input.InputFault.{InputFault}
use Rattle.krb_record.specs.declared.told.Answer.{Answer}
use Rattle.krb_record.specs.declared.told.Request.{Request}
use Rattle.krb_record.specs.declared.told.ToldCounts.{ToldCounts}
use Rattle.krb_record.specs.declared.unreachable.How.{How}
use Rattle.krb_text.specs.Messages.{ticket_record}
use Rattle.krb_text.specs.StreamEnds.{end_record}
use Rattle.krb_list.specs.Ccaches.{cache_end, cache_record, credential_record}
use Rattle.krb_list.specs.Keytabs.{keytab_end, printed_record}
use Rattle.krb_list.specs.Laws.{CredentialIsOfOctets, PrincipalIsOfOctets, RecordIsOfOctets}
use Rattle.krb_choice_laws.specs.Plain.{IsPlain}

-- Any of them with the name of its file is as printable as without.
abbrev pub LabelsArePlain : Type 0
LabelsArePlain = (form : Form) (file : Option (List ℕ)) (r : Printed) → IfSome file AreOctets → IsPlain r → IsPlain (with_file_if form file r)

-- a Ticket alone
abbrev pub TicketsArePlain : Type 0
TicketsArePlain = (line : Option ℕ) (layers : List Layer) (t : Ticket) → Fits ticket (ticket_value t) → IsPlain (with_origin (message_origin line layers) (ticket_record t))

-- a refused file, message or input, the end or the refusal of a stream, and the name of a file
pub record EndsArePlain : Type 0 where
  pub file : (form : Form) (place : ℕ) (reason : FileWhy) (path : Option (List ℕ)) (extent : Extent) → IfSome path AreOctets → IsPlain (file_refused_record form place reason path extent)
  pub message : (form : Form) (line : Option ℕ) (layers : List Layer) (refusal : Refusal) (path : Option (List ℕ)) (extent : Extent) (spelling : Spelling) → IfSome path AreOctets → IsPlain (with_origin (message_origin line layers) (message_refused_record form refusal path extent spelling))
  pub input : (form : Form) (line : Option ℕ) (layers : List Layer) (fault : InputFault) (place : Option ℕ) (extent : Extent) (spelling : Option Spelling) → IsPlain (with_origin (message_origin line layers) (input_refused_record form fault place extent spelling))
  pub stream : (form : Form) (messages : ℕ) (end : End) (path : Option (List ℕ)) (extent : Extent) → IfSome path AreOctets → IsPlain (end_record form messages end path extent)
  pub counted : (messages refused : ℕ) → IsPlain (counted_end_record messages refused)
  pub name : (form : Form) (name : List ℕ) → AreOctets name → IsPlain (with_origin (file_origin form name) (file_record name))

-- what is found in a capture, and its end or its refusal
pub record CapturesArePlain : Type 0 where
  pub refusal : (form : Form) (origin : CaptureOrigin) (refusal : Refusal) (path : Option (List ℕ)) (extent : Extent) → OriginIsInRange origin → IfSome path AreOctets → IsPlain (captured form origin (refusal_record refusal (path_in form path ++ extent_in form extent)))
  pub joined : (form : Form) (origin : CaptureOrigin) → OriginIsInRange origin → IsPlain (captured form origin (printed (codes "joined") []))
  pub lost : (form : Form) (origin : CaptureOrigin) (place octets : ℕ) (path : Option (List ℕ)) → OriginIsInRange origin → IfSome path AreOctets → IsPlain (captured form origin (lost_record form place octets path))
  pub unread : (form : Form) (origin : CaptureOrigin) (place : Option ℕ) (octets : ℕ) (reason : UnreadWhy) → OriginIsInRange origin → IsPlain (captured form origin (unread_record place octets reason))
  pub password : (form : Form) (origin : CaptureOrigin) (version ap rest : ℕ) → OriginIsInRange origin → IsPlain (captured form origin (password_record version ap rest))
  pub unanswered : (form : Form) (origin : CaptureOrigin) (request : Request) (answer : Answer) → OriginIsInRange origin → IsPlain (captured form origin (unanswered_record request answer))
  pub unreachable : (form : Form) (origin : CaptureOrigin) (how : How) (answer : Answer) → OriginIsInRange origin → IfSome (error_of how) (λ error. MatchIp error.by IsIpv4Addr IsIpv6Addr) → IsPlain (captured form origin (unreachable_record how answer))
  pub end : (form : Form) (counts : CaptureCounts) (told : ToldCounts) → IsPlain (capture_end_record form counts told)
  pub file : (form : Form) (counts : CaptureCounts) (told : ToldCounts) (place : ℕ) (reason : FileWhy) (path : Option (List ℕ)) (extent : Extent) → IfSome path AreOctets → IsPlain (capture_refused_record form counts told place reason path extent)

-- entries and holes of a keytab, a cache and its credentials, and the ends of both
pub record FilesArePlain : Type 0 where
  pub record_is : (r : Record) → RecordIsOfOctets r → IsPlain (printed_record r)
  pub keytab : (count : ℕ) (stop : Stop) → IsPlain (keytab_end count stop)
  pub cache : (header : Header) (principal : FilePrincipal) → PrincipalIsOfOctets principal → IsPlain (cache_record header principal)
  pub credential : (form : Form) (now : Option ℕ) (c : Credential) → CredentialIsOfOctets c → IsPlain (credential_record form now c)
  pub credentials : (count : ℕ) → IsPlain (cache_end count)
