-- Cells of records but those of messages say what their objects say.
use Rattle.std.specs.Prelude.{ℕ, ◌≡◌, [], List, ◌++◌, Option, IfSome, codes}
use Rattle.std.specs.Net.Addr.{IsIpv4Addr, IsIpv6Addr, MatchIp}
use Rattle.krb_der.specs.Octets.{AreOctets}
use Rattle.krb_der.specs.declared.verdict.Refusal.{Refusal}
use Rattle.krb_source.specs.declared.file_why.FileWhy.{FileWhy}
use Rattle.krb_source.specs.declared.layer.Layer.{Layer}
use Rattle.krb_source.specs.declared.spelling.Spelling.{Spelling}
use Rattle.krb_source.specs.declared.unread_why.UnreadWhy.{UnreadWhy}
use Rattle.krb_keytab.specs.declared.value.Record.{Record}
use Rattle.krb_keytab.specs.declared.value.Stop.{Stop}
use Rattle.krb_ccache.specs.declared.value.Credential.{Credential}
use Rattle.krb_ccache.specs.declared.value.FilePrincipal.{FilePrincipal}
use Rattle.krb_ccache.specs.declared.value.Header.{Header}
use Rattle.krb_msg.specs.Grammar.{ticket}
use Rattle.krb_msg.specs.Stream.{End}
use Rattle.krb_msg.specs.Term.{Fits}
use Rattle.krb_msg.specs.Types.{ticket_value}
use Rattle.krb_msg.specs.declared.ticket.Ticket.{Ticket}
use Rattle.krb_record.specs.Captures.{capture_end_record, capture_refused_record, captured, lost_record, password_record, unanswered_record, unreachable_record, unread_record}
use Rattle.krb_record.specs.Files.{file_record}
use Rattle.krb_record.specs.Inputs.{input_refused_record}
use Rattle.krb_record.specs.Laws.{OriginIsInRange}
use Rattle.krb_record.specs.Origins.{message_origin}
use Rattle.krb_record.specs.Refusals.{extent_in, file_refused_record, message_refused_record, path_in, refusal_record}
use Rattle.krb_record.specs.Streams.{counted_end_record}
use Rattle.krb_record.specs.Unreachables.{error_of}
use Rattle.krb_record.specs.Values.{Printed, printed, with_origin}
use Rattle.krb_record.specs.declared.capture.CaptureCounts.{CaptureCounts}
use Rattle.krb_record.specs.declared.capture_origin.CaptureOrigin.{CaptureOrigin}
use Rattle.krb_record.specs.declared.extent.Extent.{Extent}
use Rattle.krb_record.specs.declared.form.Form.TheVariants.{Json, Rows}
use Rattle.krb_record.specs.declared.form.Wanted.{Wanted}
use Rattle.krb_record.specs.declared.input.InputFault.{InputFault}
use Rattle.krb_record.specs.declared.told.Answer.{Answer}
use Rattle.krb_record.specs.declared.told.Request.{Request}
use Rattle.krb_record.specs.declared.told.Told.TheVariants.{Nothing}
use Rattle.krb_record.specs.declared.told.ToldCounts.{ToldCounts}
use Rattle.krb_record.specs.declared.unreachable.How.{How}
use Rattle.krb_text.specs.Messages.{ticket_record}
use Rattle.krb_text.specs.StreamEnds.{end_record}
use Rattle.krb_list.specs.Ccaches.{cache_end, cache_record, credential_record}
use Rattle.krb_list.specs.Keytabs.{keytab_end, printed_record}
use Rattle.krb_list.specs.Laws.{CredentialIsOfOctets, PrincipalIsOfOctets, RecordIsOfOctets}
use Rattle.krb_choice_laws.specs.Messages.{SaysAll}

-- a Ticket alone, a refused file, message or input, the end or the refusal of a stream, and the name of a file
pub record EndsSayObjects : Type 0 where
  pub ticket : (line : Option ℕ) (layers : List Layer) (t : Ticket) → Fits ticket (ticket_value t) → SaysAll (with_origin (message_origin line layers) (ticket_record t))
  pub file : (place : ℕ) (reason : FileWhy) (path : Option (List ℕ)) (extent : Extent) → IfSome path AreOctets → SaysAll (file_refused_record Json place reason path extent)
  pub message : (line : Option ℕ) (layers : List Layer) (refusal : Refusal) (path : Option (List ℕ)) (extent : Extent) (spelling : Spelling) → IfSome path AreOctets → SaysAll (with_origin (message_origin line layers) (message_refused_record Json refusal path extent spelling))
  pub input : (line : Option ℕ) (layers : List Layer) (fault : InputFault) (place : Option ℕ) (extent : Extent) (spelling : Option Spelling) → SaysAll (with_origin (message_origin line layers) (input_refused_record Json fault place extent spelling))
  pub stream : (messages : ℕ) (end : End) (path : Option (List ℕ)) (extent : Extent) → IfSome path AreOctets → SaysAll (end_record Json messages end path extent)
  pub counted : (messages refused : ℕ) → SaysAll (counted_end_record messages refused)
  pub name : (name : List ℕ) → AreOctets name → SaysAll (file_record name)

-- what is found in a capture, and its end or its refusal
pub record CapturesSayObjects : Type 0 where
  pub refusal : (origin : CaptureOrigin) (refusal : Refusal) (path : Option (List ℕ)) (extent : Extent) → OriginIsInRange origin → IfSome path AreOctets → SaysAll (captured Json origin (refusal_record refusal (path_in Json path ++ extent_in Json extent)))
  pub joined : (origin : CaptureOrigin) → OriginIsInRange origin → SaysAll (captured Json origin (printed (codes "joined") []))
  pub lost : (origin : CaptureOrigin) (place octets : ℕ) (path : Option (List ℕ)) → OriginIsInRange origin → IfSome path AreOctets → SaysAll (captured Json origin (lost_record Json place octets path))
  pub unread : (origin : CaptureOrigin) (place : Option ℕ) (octets : ℕ) (reason : UnreadWhy) → OriginIsInRange origin → SaysAll (captured Json origin (unread_record place octets reason))
  pub password : (origin : CaptureOrigin) (version ap rest : ℕ) → OriginIsInRange origin → SaysAll (captured Json origin (password_record version ap rest))
  pub unanswered : (origin : CaptureOrigin) (request : Request) (answer : Answer) → OriginIsInRange origin → origin.told ≡ Nothing → SaysAll (captured Json origin (unanswered_record request answer))
  pub unreachable : (origin : CaptureOrigin) (how : How) (answer : Answer) → OriginIsInRange origin → origin.told ≡ Nothing → IfSome (error_of how) (λ error. MatchIp error.by IsIpv4Addr IsIpv6Addr) → SaysAll (captured Json origin (unreachable_record how answer))
  pub end : (counts : CaptureCounts) (told : ToldCounts) → SaysAll (capture_end_record Json counts told)
  pub file : (counts : CaptureCounts) (told : ToldCounts) (place : ℕ) (reason : FileWhy) (path : Option (List ℕ)) (extent : Extent) → IfSome path AreOctets → SaysAll (capture_refused_record Json counts told place reason path extent)

-- entries and holes of a keytab, a cache and its credentials, and the ends of both
pub record FilesSayObjects : Type 0 where
  pub record_is : (r : Record) → RecordIsOfOctets r → SaysAll (printed_record r)
  pub keytab : (count : ℕ) (stop : Stop) → SaysAll (keytab_end count stop)
  pub cache : (header : Header) (principal : FilePrincipal) → PrincipalIsOfOctets principal → SaysAll (cache_record header principal)
  pub credential : (now : Option ℕ) (c : Credential) → CredentialIsOfOctets c → SaysAll (credential_record Json now c)
  pub credentials : (count : ℕ) → SaysAll (cache_end count)

-- Rows are made of the records of which objects are made.
pub record RowsHaveObjects : Type 0 where
  pub message : (wanted : Wanted) (refusal : Refusal) (path : Option (List ℕ)) (extent : Extent) (spelling : Spelling) → message_refused_record (Rows wanted) refusal path extent spelling ≡ message_refused_record Json refusal path extent spelling
  pub input : (wanted : Wanted) (fault : InputFault) (place : Option ℕ) (extent : Extent) (spelling : Option Spelling) → input_refused_record (Rows wanted) fault place extent spelling ≡ input_refused_record Json fault place extent spelling
  pub file : (wanted : Wanted) (place : ℕ) (reason : FileWhy) (path : Option (List ℕ)) (extent : Extent) → file_refused_record (Rows wanted) place reason path extent ≡ file_refused_record Json place reason path extent
  pub stream : (wanted : Wanted) (messages : ℕ) (end : End) (path : Option (List ℕ)) (extent : Extent) → end_record (Rows wanted) messages end path extent ≡ end_record Json messages end path extent
  pub of_capture : (wanted : Wanted) (origin : CaptureOrigin) (r : Printed) → captured (Rows wanted) origin r ≡ captured Json origin r
  pub refusal : (wanted : Wanted) (refusal : Refusal) (path : Option (List ℕ)) (extent : Extent) → refusal_record refusal (path_in (Rows wanted) path ++ extent_in (Rows wanted) extent) ≡ refusal_record refusal (path_in Json path ++ extent_in Json extent)
  pub lost : (wanted : Wanted) (place octets : ℕ) (path : Option (List ℕ)) → lost_record (Rows wanted) place octets path ≡ lost_record Json place octets path
  pub end : (wanted : Wanted) (counts : CaptureCounts) (told : ToldCounts) → capture_end_record (Rows wanted) counts told ≡ capture_end_record Json counts told
  pub refused_capture : (wanted : Wanted) (counts : CaptureCounts) (told : ToldCounts) (place : ℕ) (reason : FileWhy) (path : Option (List ℕ)) (extent : Extent) → capture_refused_record (Rows wanted) counts told place reason path extent ≡ capture_refused_record Json counts told place reason path extent
  pub credential : (wanted : Wanted) (now : Option ℕ) (c : Credential) → credential_record (Rows wanted) now c ≡ credential_record Json now c
