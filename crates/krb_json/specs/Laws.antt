-- The laws of the JSON of messages. Each is the contract of a function of the module `law`.
use Rattle.std.specs.Prelude.{ℕ, ◌+◌, ◌*◌, ◌<◌, ◌≤◌, ◌≡◌, ◌^◌, ◌⊎◌, ◌&&◌, not, pos, negsuc, nat_lt, nat_le, int_le, Bool, true, false, List, take, length, Some, None, Ok}
use Rattle.std.specs.List.{list_all, AllByRecursion}
use Rattle.std.specs.Str.{bytes_eq}
use Rattle.json.specs.Json.{Json, document}
use Rattle.json.specs.Strict.{HasUniqueKeys}
use Rattle.krb_der.specs.declared.profile.Profile.{Profile}
use Rattle.krb_msg.specs.Grammar.{ticket}
use Rattle.krb_msg.specs.Profiles.{profile_term}
use Rattle.krb_msg.specs.Term.{Term, Fields, Integer, Text, Octets, Time, Bits, Sequence, SequenceOf, Tagged, Application, End, Required, Optional, Value, Fits, der}
use Rattle.krb_msg.specs.Views.{kind_term_in, message_der, IsInProfile}
use Rattle.krb_msg.specs.declared.message.Kind.{Kind}
use Rattle.krb_msg.specs.declared.message.Message.{Message}
use Rattle.krb_judge.specs.FieldNames.{fields_of, field_at, names_of_kind}
use Rattle.krb_judge.specs.declared.locating.names.Names.{Names}
use Rattle.krb_json.specs.Objects.{json, message_json}
use Rattle.krb_json.specs.Spelled.{spelled}
use Rattle.krb_json.specs.Lines.{message_text, line_spells, value_of_line}
use Rattle.krb_json.specs.Masked.{masked_in}
use Rattle.krb_json.specs.Reordered.{Reordered}
use Rattle.krb_json.specs.OtherCase.{MessageInOtherCase}
use Rattle.krb_json.specs.Tickets.{line_octets}
use Rattle.krb_json.specs.Unencrypted.{unencrypted_in}

-- ---- terms and names
-- whether the field at an index has a name, which no field before it has
abbrev pub has_own_name : Names → ℕ → Bool
has_own_name names index = nat_lt index (length (fields_of names)) && list_all (λ other. not (bytes_eq other.name (field_at names index).name)) (take index (fields_of names))

abbrev mutual
  -- whether each field of each SEQUENCE in a term has a name of its own, each INTEGER is of 64 bits, and each octet of a string is one
  pub is_named : Term → Names → Bool
  is_named (Integer low high) names = int_le (negsuc 9223372036854775806) low && int_le high (pos 9223372036854775807)
  is_named (Text greatest) names = nat_le greatest 255
  is_named Octets names = true
  is_named Time names = true
  is_named (Bits least) names = true
  is_named (Sequence fields) names = are_named fields names 0
  is_named (SequenceOf empty term) names = is_named term names
  is_named (Tagged index term) names = is_named term names
  is_named (Application number term) names = is_named term names

  -- the fields from the one at an index on
  pub are_named : Fields → Names → (index : ℕ) → Bool
  are_named End names index = true
  are_named (Required term fields) names index = has_own_name names index && (is_named term (field_at names index).inside && are_named fields names (index + 1))
  are_named (Optional term fields) names index = has_own_name names index && (is_named term (field_at names index).inside && are_named fields names (index + 1))

-- The messages of each profile have such terms and names.
abbrev pub MessagesAreNamed : Type 0
MessagesAreNamed = (profile : Profile) (kind : Kind) → is_named (kind_term_in profile kind) (names_of_kind kind) ≡ true

-- Each value of such a term is spelled by its JSON.
abbrev pub ValuesComeBack : Type 0
ValuesComeBack = (term : Term) (names : Names) (path : List ℕ) (value : Value term) → is_named term names ≡ true → Fits term value → length (der term value) < 2 ^ 31 → spelled term names path (json term names value) ≡ Ok value

-- What a JSON value spells is a value of the term.
abbrev pub SpelledFits : Type 0
SpelledFits = (term : Term) (names : Names) (path : List ℕ) (j : Json) (value : Value term) → is_named term names ≡ true → spelled term names path j ≡ Ok value → Fits term value

-- ---- messages
-- The text of a message is its JSON: printable ASCII, and no object of it has a name twice.
pub record IsText (m : Message) : Type 0 where
  pub document_is : document (message_text m) ≡ Some (message_json m)
  pub unique : HasUniqueKeys (message_json m)
  pub printable : AllByRecursion (λ octet. (32 ≤ octet) × (octet ≤ 126)) (message_text m)

abbrev pub TextsAreJson : Type 0
TextsAreJson = (profile : Profile) (m : Message) → IsInProfile profile m → IsText m

-- The text of a message has at most 8 times as many octets as the message, and 64 KiB.
abbrev pub TextsAreShort : Type 0
TextsAreShort = (profile : Profile) (m : Message) → IsInProfile profile m → length (message_text m) ≤ 8 * length (message_der m) + 65536

-- A message of no more octets than a limit is spelled by its text.
abbrev pub TextsComeBack : Type 0
TextsComeBack = (profile : Profile) (limit : ℕ) (m : Message) → IsInProfile profile m → length (message_der m) ≤ limit → line_spells profile limit (message_text m) ≡ Ok m

-- Different messages have different texts.
abbrev pub TextsDiffer : Type 0
TextsDiffer = (profile : Profile) (m other : Message) → IsInProfile profile m → IsInProfile profile other → message_text m ≡ message_text other → m ≡ other

-- What a line spells is a message of the profile, of no more octets than the limit.
pub record IsSpelled (profile : Profile) (limit : ℕ) (m : Message) : Type 0 where
  pub in_profile : IsInProfile profile m
  pub short : length (message_der m) ≤ limit

abbrev pub LinesSpellMessages : Type 0
LinesSpellMessages = (profile : Profile) (limit : ℕ) (text : List ℕ) (m : Message) → limit < 2147483648 → line_spells profile limit text ≡ Ok m → IsSpelled profile limit m

-- Octets are those of such a message.
pub record AreOfMessage (profile : Profile) (limit : ℕ) (octets : List ℕ) : Type 0 where
  pub message : Message
  pub spelled : IsSpelled profile limit message
  pub form : octets ≡ message_der message

-- Octets are the DER of a Ticket of the profile, no more than the limit.
pub record AreOfTicket (profile : Profile) (limit : ℕ) (octets : List ℕ) : Type 0 where
  pub value : Value (profile_term profile false ticket)
  pub fits : Fits (profile_term profile false ticket) value
  pub form : octets ≡ der (profile_term profile false ticket) value
  pub short : length octets ≤ limit

-- Where a line may spell a Ticket, too, it spells the one or the other, and each message as before.
pub record LinesSpellOctets : Type 0 where
  pub some : (profile : Profile) (limit : ℕ) (text octets : List ℕ) → limit < 2147483648 → line_octets profile limit text ≡ Ok octets → AreOfMessage profile limit octets ⊎ AreOfTicket profile limit octets
  pub messages : (profile : Profile) (limit : ℕ) (text : List ℕ) (m : Message) → line_spells profile limit text ≡ Ok m → line_octets profile limit text ≡ Ok (message_der m)

-- Of two messages that differ in nothing but the ciphers of EncryptedDatas of encryption type 0 the first path to one is the same; and if there is none, so is the text.
pub record UnencryptedChangesNothing : Type 0 where
  pub paths : (m other : Message) → masked_in m ≡ masked_in other → unencrypted_in m ≡ unencrypted_in other
  pub texts : (m other : Message) → masked_in m ≡ masked_in other → unencrypted_in m ≡ None → message_text m ≡ message_text other

-- The order of members, blanks, JSON's escapes and the case of hexadecimal digits change nothing of a line that spells a message; and all but the order nothing of a fault.
pub record SpellingChangesNothing : Type 0 where
  pub of_one_value : (profile : Profile) (limit : ℕ) (line other : List ℕ) → value_of_line line ≡ value_of_line other → line_spells profile limit line ≡ line_spells profile limit other
  pub in_any_order : (profile : Profile) (limit : ℕ) (line other : List ℕ) (j k : Json) (m : Message) → value_of_line line ≡ Some j → value_of_line other ≡ Some k → Reordered j k → line_spells profile limit line ≡ Ok m → line_spells profile limit other ≡ Ok m
  pub in_either_case : (profile : Profile) (limit : ℕ) (line other : List ℕ) (j k : Json) → value_of_line line ≡ Some j → value_of_line other ≡ Some k → MessageInOtherCase profile j k → line_spells profile limit line ≡ line_spells profile limit other
