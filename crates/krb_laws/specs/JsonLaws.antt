-- The laws of what is printed in the form Json. Each is the contract of a function of the module `objects`.
use Rattle.std.specs.Prelude.{ℕ, ℤ, ◌≡◌, ◌<◌, ◌*◌, ◌^◌, ◌==◌, ◌&&◌, ◌||◌, nat_le, not, unsigned_abs, Bool, true, List, [], ◌∷◌, ◌++◌, length, Option, Some, None, IfSome, codes}
use Rattle.std.specs.List.{AllByRecursion, flat_map, list_all}
use Rattle.std.specs.Net.Addr.{IsIpv4Addr, IsIpv6Addr, MatchIp}
use Rattle.std.specs.Str.{bytes_eq}
use Rattle.json.specs.Json.{Json, document}
use Rattle.json.specs.Print.{print}
use Rattle.json.specs.Strict.{HasUniqueKeys}
use Rattle.json.specs.Tree.{json_tokens}
use Rattle.krb_source.specs.declared.endpoint.Endpoint.{Endpoint}
use Rattle.krb_der.specs.declared.profile.Profile.TheVariants as profiles
use Rattle.krb_der.specs.declared.verdict.Refusal.{Refusal}
use Rattle.krb_der.specs.declared.why.Why.{Why}
use Rattle.krb_source.specs.declared.file_why.FileWhy.{FileWhy}
use Rattle.krb_source.specs.declared.spelling.Spelling.{Spelling}
use Rattle.krb_source.specs.declared.unread_why.UnreadWhy.{UnreadWhy}
use Rattle.krb_msg.specs.Grammar.{ticket}
use Rattle.krb_msg.specs.Stream.{End, Boundary, Within, Refused}
use Rattle.krb_msg.specs.Term.{Fits, der}
use Rattle.krb_msg.specs.Types.{ticket_value}
use Rattle.krb_msg.specs.Views.{IsInProfile}
use Rattle.krb_msg.specs.declared.message.Message.{Message}
use Rattle.krb_msg.specs.declared.ticket.Ticket.{Ticket}
use Rattle.krb_record.specs.Captures.{capture_end_record, capture_refused_record, captured, lost_record, password_record, unanswered_record, unreachable_record, unread_record}
use Rattle.krb_record.specs.Files.{file_record}
use Rattle.krb_record.specs.Forms.{record_text}
use Rattle.krb_record.specs.Inputs.{input_refused_record}
use Rattle.krb_record.specs.Labels.{with_file_if}
use Rattle.krb_record.specs.Laws.{OriginIsInRange}
use Rattle.krb_record.specs.Origins.{message_origin}
use Rattle.krb_text.specs.Messages.{message_record, ticket_record}
use Rattle.krb_record.specs.Refusals.{extent_in, file_refused_record, message_refused_record, path_in, refusal_record}
use Rattle.krb_text.specs.StreamEnds.{end_record}
use Rattle.krb_record.specs.Streams.{counted_end_record, refused_frame}
use Rattle.krb_record.specs.Text.{IsPrintable}
use Rattle.krb_record.specs.Unreachables.{error_of}
use Rattle.krb_record.specs.Values.{Value, Number, Named, Numbers, ErrorCode, Reason, Word, Flags, Encrypted, Principal, Address, Digest, Offset, RefusedTicket, Flow, Span, Called, Host, Field, Part, Printed, printed, with_origin}
use Rattle.krb_record.specs.declared.capture.CaptureCounts.{CaptureCounts}
use Rattle.krb_record.specs.declared.told.Answer.{Answer}
use Rattle.krb_record.specs.declared.told.Request.{Request}
use Rattle.krb_record.specs.declared.told.Told.{Told}
use Rattle.krb_record.specs.declared.told.Told.TheVariants as tells
use Rattle.krb_record.specs.declared.told.ToldCounts.{ToldCounts}
use Rattle.krb_record.specs.declared.unreachable.How.{How}
use Rattle.krb_record.specs.declared.unreachable.IcmpError.{IcmpError}
use Rattle.krb_record.specs.declared.extent.Extent.{Extent}
use Rattle.krb_record.specs.declared.form.Form.TheVariants as forms
use Rattle.krb_record.specs.declared.input.InputFault.{InputFault}
use Rattle.krb_record.specs.declared.capture_origin.CaptureOrigin.{CaptureOrigin}
use Rattle.krb_source.specs.declared.layer.Layer.{Layer}
use Rattle.krb_laws.specs.Json.{json_of}

-- A text is a value of JSON (RFC 8259), as it is printed without blanks, and no object in it has a name twice.
pub record IsJson (text : List ℕ) (value : Json) : Type 0 where
  pub document_is : document text ≡ Some value
  pub printed : print (json_tokens value) ≡ text
  pub unique : HasUniqueKeys value

-- ---- records
-- 20 to 7E but `"` and `\`
abbrev pub is_plain : List ℕ → Bool
is_plain text = list_all (λ c. nat_le 0x20 c && nat_le c 0x7E && not (c == 0x22 || c == 0x5C)) text

-- the names that the members of a field may have
abbrev pub member_names : List ℕ → List (List ℕ)
member_names name = name ∷ (name ++ codes "_name") ∷ (name ++ codes "_names") ∷ []

abbrev pub are_different : List (List ℕ) → Bool
are_different [] = true
are_different (first ∷ others) = list_all (λ other. not (bytes_eq first other)) others && are_different others

-- a number of at most 64 digits
abbrev pub IsSmall : ℤ → Type 0
IsSmall n = unsigned_abs n < 10 ^ 64

abbrev pub IsEndpoint : Endpoint → Type 0
IsEndpoint e = MatchIp e.address IsIpv4Addr IsIpv6Addr × (e.port < 10 ^ 64)

-- numbers and sizes have at most 64 digits, words are printable, and addresses are as their types have them; octets may be any
abbrev pub ValueFits : Value → Type 0
ValueFits (Number n) = IsSmall n
ValueFits (Named registry n) = IsSmall n
ValueFits (Numbers registry ns) = AllByRecursion IsSmall ns
ValueFits (ErrorCode code) = IsSmall code
ValueFits (Reason n name) = (n < 10 ^ 64) × IsPrintable name
ValueFits (Word text) = IsPrintable text
ValueFits (Flags registry bits) = 8 * length bits.1 < 10 ^ 64
ValueFits (Encrypted etype kvno size) = IsSmall etype × IfSome kvno IsSmall × (size < 10 ^ 64)
ValueFits (Principal name_type components realm) = IsSmall name_type
ValueFits (Address addr_type octets) = IsSmall addr_type
ValueFits (Digest cksumtype size) = IsSmall cksumtype × (size < 10 ^ 64)
ValueFits (Offset seconds microseconds) = IsSmall seconds × IsSmall microseconds
ValueFits (Span microseconds) = IsSmall microseconds
ValueFits (Called n name) = (n < 10 ^ 64) × IfSome name IsPrintable
ValueFits (Host address) = MatchIp address IsIpv4Addr IsIpv6Addr
ValueFits (RefusedTicket refusal) = refusal.place < 10 ^ 64
ValueFits (Flow transport source target) = IsEndpoint source × IsEndpoint target
ValueFits value = Unit {0}

-- The kind and the names of a record inside of another are plain, no two members of it may have one name, and its values fit.
pub record PartFits (p : Part) : Type 0 where
  pub kind : is_plain p.kind ≡ true
  pub names : list_all (λ (f : Field). is_plain f.name) p.fields ≡ true
  pub apart : are_different (codes "kind" ∷ flat_map (λ f. member_names f.name) p.fields) ≡ true
  pub values : AllByRecursion (λ (f : Field). ValueFits f.value) p.fields

-- the name of the member of what is inside
abbrev pub inside_name : Option (List Part) → List (List ℕ)
inside_name None = []
inside_name (Some parts) = codes "inside" ∷ []

-- So it is of a record, none of whose members may have the name of its file's, and what is inside and what is last fit.
pub record FitsJson (r : Printed) : Type 0 where
  pub kind : is_plain r.kind ≡ true
  pub names : list_all (λ (f : Field). is_plain f.name) (r.origin ++ r.fields) ≡ true
  pub apart : are_different (codes "kind" ∷ (flat_map (λ f. member_names f.name) (r.origin ++ r.fields) ++ (inside_name r.inside ++ (flat_map (λ f. member_names f.name) r.last ++ member_names (codes "file"))))) ≡ true
  pub values : AllByRecursion (λ (f : Field). ValueFits f.value) (r.origin ++ r.fields)
  pub inside : IfSome r.inside (AllByRecursion PartFits)
  pub last_names : list_all (λ (f : Field). is_plain f.name) r.last ≡ true
  pub last_values : AllByRecursion (λ (f : Field). ValueFits f.value) r.last

-- the text of a record is its object, and so it is with the name of its file, whatever octets that has
abbrev pub PrintsJson : Printed → Type 0
PrintsJson r = (file : Option (List ℕ)) → let labelled = with_file_if forms.Json file r in IsJson (record_text forms.Json labelled) (json_of labelled)

-- The text of each record that fits is its object.
abbrev pub RecordsAreJson : Type 0
RecordsAreJson = (r : Printed) → FitsJson r → PrintsJson r

-- ---- the records that are printed
-- the number of a line
abbrev pub IsLine : Option ℕ → Type 0
IsLine line = IfSome line (λ n. n < 10 ^ 64)

-- of a message, with an origin too, and of a Ticket
pub record MessagesAreJson : Type 0 where
  pub message : (m : Message) → IsInProfile profiles.Lenient m → PrintsJson (message_record m)
  pub from : (line : Option ℕ) (layers : List Layer) (m : Message) → IsLine line → IsInProfile profiles.Lenient m → PrintsJson (with_origin (message_origin line layers) (message_record m))
  pub ticket : (line : Option ℕ) (layers : List Layer) (t : Ticket) → IsLine line → Fits ticket (ticket_value t) → length (der ticket (ticket_value t)) < 2 ^ 31 → PrintsJson (with_origin (message_origin line layers) (ticket_record t))

-- the place of octets and their number
pub record IsExtent (extent : Extent) : Type 0 where
  pub at : extent.at < 10 ^ 64
  pub length : IfSome extent.length (λ n. n < 10 ^ 64)

abbrev pub IsEnd : End → Type 0
IsEnd Boundary = Unit {0}
IsEnd (Within present) = present < 10 ^ 64
IsEnd (Refused place reason) = place < 10 ^ 64

-- of a refused file, message or input, of the end of a stream, and of the name of a file
pub record EndsAreJson : Type 0 where
  pub file : (place : ℕ) (reason : FileWhy) (path : Option (List ℕ)) (extent : Extent) → place < 10 ^ 64 → IsExtent extent → PrintsJson (file_refused_record forms.Json place reason path extent)
  pub message : (line : Option ℕ) (layers : List Layer) (refusal : Refusal) (path : Option (List ℕ)) (extent : Extent) (spelling : Spelling) → IsLine line → refusal.place < 10 ^ 64 → IsExtent extent → PrintsJson (with_origin (message_origin line layers) (message_refused_record forms.Json refusal path extent spelling))
  pub untold_message : (refusal : Refusal) (path : Option (List ℕ)) → refusal.place < 10 ^ 64 → PrintsJson (refusal_record refusal (path_in forms.Json path))
  pub input : (line : Option ℕ) (layers : List Layer) (fault : InputFault) (place : Option ℕ) (extent : Extent) (spelling : Option Spelling) → IsLine line → IfSome place (λ n. n < 10 ^ 64) → IsExtent extent → PrintsJson (with_origin (message_origin line layers) (input_refused_record forms.Json fault place extent spelling))
  pub stream : (messages : ℕ) (end : End) (path : Option (List ℕ)) (extent : Extent) → messages < 10 ^ 64 → IsEnd end → IsExtent extent → PrintsJson (end_record forms.Json messages end path extent)
  pub untold_stream : (messages place : ℕ) (reason : Why) (path : Option (List ℕ)) → messages < 10 ^ 64 → place < 10 ^ 64 → PrintsJson (refused_frame messages place reason (path_in forms.Json path))
  pub counted_stream : (messages refused : ℕ) → messages < 10 ^ 64 → refused < 10 ^ 64 → PrintsJson (counted_end_record messages refused)
  pub name : (name : List ℕ) → PrintsJson (file_record name)

-- what is told of an exchange: numbers of packets, and spans of time
pub record IsAnswer (answer : Answer) : Type 0 where
  pub of : IfSome answer.of (λ n. n < 10 ^ 64)
  pub after : IfSome answer.after (λ span. IsSmall span.microseconds)
  pub waited : IfSome answer.waited (λ span. IsSmall span.microseconds)

-- who could not be reached: an error has an address, and a type and a code of an octet each
pub record IsError (error : IcmpError) : Type 0 where
  pub by : MatchIp error.by IsIpv4Addr IsIpv6Addr
  pub error_type : error.error_type < 2 ^ 8
  pub code : error.code < 2 ^ 8

abbrev pub IsTold : Told → Type 0
IsTold tells.Nothing = Unit {0}
IsTold (tells.Request again) = IfSome again (λ n. n < 10 ^ 64)
IsTold (tells.Reply answer) = IsAnswer answer
IsTold (tells.Either again answer) = IfSome again (λ n. n < 10 ^ 64) × IsAnswer answer

-- the origin of a record of a capture: its numbers and addresses are as their types have them
pub record IsFlowOrigin (origin : CaptureOrigin) : Type 0 where
  pub in_range : OriginIsInRange origin
  pub packet : origin.packet < 10 ^ 64
  pub source : origin.flow.source.port < 2 ^ 16
  pub target : origin.flow.target.port < 2 ^ 16
  pub told : IsTold origin.told

pub record AreCounts (counts : CaptureCounts) : Type 0 where
  pub packets : counts.packets < 10 ^ 64
  pub messages : counts.messages < 10 ^ 64
  pub refused : counts.refused < 10 ^ 64
  pub lost : counts.lost < 10 ^ 64
  pub unread : counts.unread < 10 ^ 64

pub record AreToldCounts (told : ToldCounts) : Type 0 where
  pub answered : told.answered < 10 ^ 64
  pub unanswered : told.unanswered < 10 ^ 64
  pub again : told.again < 10 ^ 64
  pub unreachable : told.unreachable < 10 ^ 64

-- of what is found in a capture, and of its end or its refusal
pub record CapturesAreJson : Type 0 where
  pub message : (origin : CaptureOrigin) (m : Message) → IsFlowOrigin origin → IsInProfile profiles.Lenient m → PrintsJson (captured forms.Json origin (message_record m))
  pub refusal : (origin : CaptureOrigin) (refusal : Refusal) (path : Option (List ℕ)) (extent : Extent) → IsFlowOrigin origin → refusal.place < 10 ^ 64 → IsExtent extent → PrintsJson (captured forms.Json origin (refusal_record refusal (path_in forms.Json path ++ extent_in forms.Json extent)))
  pub joined : (origin : CaptureOrigin) → IsFlowOrigin origin → PrintsJson (captured forms.Json origin (printed (codes "joined") []))
  pub lost : (origin : CaptureOrigin) (place octets : ℕ) (path : Option (List ℕ)) → IsFlowOrigin origin → place < 10 ^ 64 → octets < 10 ^ 64 → PrintsJson (captured forms.Json origin (lost_record forms.Json place octets path))
  pub unread : (origin : CaptureOrigin) (place : Option ℕ) (octets : ℕ) (reason : UnreadWhy) → IsFlowOrigin origin → IfSome place (λ n. n < 10 ^ 64) → octets < 10 ^ 64 → PrintsJson (captured forms.Json origin (unread_record place octets reason))
  pub password : (origin : CaptureOrigin) (version ap rest : ℕ) → IsFlowOrigin origin → version < 2 ^ 16 → ap < 2 ^ 16 → rest < 10 ^ 64 → PrintsJson (captured forms.Json origin (password_record version ap rest))
  pub unanswered : (origin : CaptureOrigin) (request : Request) (answer : Answer) → IsFlowOrigin origin → origin.told ≡ tells.Nothing → IsAnswer answer → PrintsJson (captured forms.Json origin (unanswered_record request answer))
  pub unreachable : (origin : CaptureOrigin) (how : How) (answer : Answer) → IsFlowOrigin origin → origin.told ≡ tells.Nothing → IfSome (error_of how) IsError → IsAnswer answer → PrintsJson (captured forms.Json origin (unreachable_record how answer))
  pub end : (counts : CaptureCounts) (told : ToldCounts) → AreCounts counts → AreToldCounts told → PrintsJson (capture_end_record forms.Json counts told)
  pub file : (counts : CaptureCounts) (told : ToldCounts) (place : ℕ) (reason : FileWhy) (path : Option (List ℕ)) (extent : Extent) → AreCounts counts → AreToldCounts told → place < 10 ^ 64 → IsExtent extent → PrintsJson (capture_refused_record forms.Json counts told place reason path extent)
