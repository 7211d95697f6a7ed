-- The laws of all grammars, of all messages and of all octets. Each is the contract of a function of the module `law`.
use Rattle.std.specs.Prelude.{ℕ, suc, true, ◌≡◌, ◌^◌, ◌<◌, ◌≤◌, ◌↔◌, false, List, ◌++◌, length, take}
use Rattle.krb_der.specs.Octets.{AreOctets}
use Rattle.krb_der.specs.declared.profile.Profile.{Profile}
use Rattle.krb_der.specs.declared.profile.Profile.TheVariants.{Lenient, Strict}
use Rattle.krb_der.specs.declared.why.Why.{Why}
use Rattle.krb_der.specs.declared.why.Why.TheVariants.{Truncated, Charset}
use Rattle.krb_der.specs.declared.verdict.Verdict.{Verdict}
use Rattle.krb_der.specs.declared.verdict.Verdict.TheVariants.{Open, Whole, Refused}
use Rattle.krb_msg.specs.declared.message.Message.{Message}
use Rattle.krb_msg.specs.Views.{kind_of, message_value, message_of, message_der, IsInProfile, message_of_der}
use Rattle.krb_msg.specs.Term.{Term, Value, der, Fits}
use Rattle.krb_msg.specs.Shape.{is_unambiguous, greatest_depth, IsOneOf, IsGrammar}
use Rattle.krb_msg.specs.Notes.{is_strict, notes_of, notes_have}
use Rattle.krb_msg.specs.Grammar.{messages}
use Rattle.krb_msg.specs.Judgement.{judgement_by, judgement, term_judgement}
use Rattle.krb_msg.specs.ValueOfDer.{value_of_der}
use Rattle.krb_msg.specs.Der.{IsDer}

-- refused for a reason, at some place
abbrev pub IsRefusedFor : Why → Verdict → Type 0
IsRefusedFor reason verdict = (place : ℕ) × (verdict ≡ Refused (record { place = place; why = reason }))

-- ---- any term
-- What is judged whole as an item of a term is the DER of a value.
abbrev pub WholeIsValue : Type 0
WholeIsValue = (term : Term) (octets : List ℕ) → AreOctets octets → term_judgement term (length octets) octets ≡ Whole → IsDer term octets

-- The DER of a value is judged whole as an item of its term, if the term's fields are distinguished by their tags.
abbrev pub ValueIsWhole : Type 0
ValueIsWhole = (term : Term) (value : Value term) → is_unambiguous term ≡ true → Fits term value → length (der term value) < 2 ^ 31 → term_judgement term (length (der term value)) (der term value) ≡ Whole

-- The value of the DER of a value is that value, if the term's fields are distinguished by their tags.
abbrev pub ValueOfDerIsValue : Type 0
ValueOfDerIsValue = (term : Term) (value : Value term) → is_unambiguous term ≡ true → length (der term value) < 2 ^ 32 → value_of_der term (der term value) ≡ value

-- No octets of an item are refused as Truncated.
abbrev pub ItemIsNotTruncated : Type 0
ItemIsNotTruncated = (term : Term) (n : ℕ) (octets : List ℕ) → IsRefusedFor Truncated (term_judgement term n octets) → ⊥

-- ---- any messages
-- the octets are all of the n, and the DER of a value of one of the messages
pub record AreOneOf (messages : List Term) (n : ℕ) (octets : List ℕ) : Type 0 where
  pub term : Term
  pub one_of : IsOneOf term messages
  pub is_der : IsDer term octets
  pub all : length octets ≡ n

-- What is judged whole is the DER of a value of one of the messages.
abbrev pub WholeIsOneOf : Type 0
WholeIsOneOf = (messages : List Term) (n : ℕ) (octets : List ℕ) → AreOctets octets → length octets ≤ n → judgement_by messages n octets ≡ Whole → AreOneOf messages n octets

-- A refusal is at an octet that is present. It is the same whatever follows that octet, and without that octet nothing is decided.
pub record IsFinal (messages : List Term) (n : ℕ) (octets : List ℕ) (place : ℕ) (reason : Why) : Type 0 where
  pub within : place < length octets
  pub same : (other : List ℕ) → length other ≤ n → take (suc place) other ≡ take (suc place) octets → judgement_by messages n other ≡ Refused (record { place = place; why = reason })
  pub sooner : (k : ℕ) → k ≤ place → judgement_by messages n (take k octets) ≡ Open

abbrev pub RefusalIsFinal : Type 0
RefusalIsFinal = (messages : List Term) (n : ℕ) (octets : List ℕ) (place : ℕ) (reason : Why) → length octets ≤ n → judgement_by messages n octets ≡ Refused (record { place = place; why = reason }) → IsFinal messages n octets place reason

-- With all n octets present, something is decided.
abbrev pub AllIsDecided : Type 0
AllIsDecided = (messages : List Term) (n : ℕ) (octets : List ℕ) → 0 < n → length octets ≡ n → judgement_by messages n octets ≡ Open → ⊥

-- No octets are refused as Truncated; a stream that ends inside a frame is.
abbrev pub RefusalIsNotTruncated : Type 0
RefusalIsNotTruncated = (messages : List Term) (n : ℕ) (octets : List ℕ) → IsRefusedFor Truncated (judgement_by messages n octets) → ⊥

-- ---- any grammar
-- The DER of a value of one of the messages is judged whole.
abbrev pub OneOfIsWhole : Type 0
OneOfIsWhole = (messages : List Term) → IsGrammar messages → (term : Term) → IsOneOf term messages → (value : Value term) → Fits term value → length (der term value) < 2 ^ 31 → judgement_by messages (length (der term value)) (der term value) ≡ Whole

-- The DER of such a value is octets.
abbrev pub OneOfIsOctets : Type 0
OneOfIsOctets = (messages : List Term) → IsGrammar messages → (term : Term) → IsOneOf term messages → (value : Value term) → Fits term value → length (der term value) < 2 ^ 31 → AreOctets (der term value)

-- No DER of n octets of a value of one of the messages begins with the octets up to and with one that is refused.
abbrev pub RefusalIsNoneOf : Type 0
RefusalIsNoneOf = (messages : List Term) → IsGrammar messages → (n : ℕ) (octets : List ℕ) (place : ℕ) (reason : Why) → length octets ≤ n → judgement_by messages n octets ≡ Refused (record { place = place; why = reason }) → (term : Term) → IsOneOf term messages → (value : Value term) → Fits term value → length (der term value) < 2 ^ 31 → length (der term value) ≡ n → take (suc place) (der term value) ≡ take (suc place) octets → ⊥

-- a value of some term
abbrev pub SomeValue : Type 0
SomeValue = (term : Term) × Value term

abbrev pub AreSame : SomeValue → SomeValue → Type 0
AreSame value other = value ≡ other

-- No DER of a value of one of the messages begins another's, and different values have different DER.
abbrev pub OneOfIsPrefixFree : Type 0
OneOfIsPrefixFree = (messages : List Term) → IsGrammar messages → (term other : Term) → IsOneOf term messages → IsOneOf other messages → (v : Value term) (w : Value other) (x y : List ℕ) → der term v ++ x ≡ der other w ++ y → AreSame (term, v) (other, w) × (x ≡ y)

-- ---- the messages of a profile
-- The messages of a profile are a grammar.
abbrev pub MessagesAreGrammar : Type 0
MessagesAreGrammar = (profile : Profile) → IsGrammar (messages profile)

-- No more than 13 items are nested in one another, and in some message that many are.
abbrev pub MessagesNest : Type 0
MessagesNest = (profile : Profile) → greatest_depth (messages profile) ≡ 13

-- the octets are all of the n, and the DER of a message of a profile
pub record AreMessage (profile : Profile) (n : ℕ) (octets : List ℕ) : Type 0 where
  pub message : Message
  pub in_profile : IsInProfile profile message
  pub form : message_der message ≡ octets
  pub all : length octets ≡ n

-- What is judged whole is the DER of a message.
abbrev pub WholeIsMessage : Type 0
WholeIsMessage = (profile : Profile) (n : ℕ) (octets : List ℕ) → n < 2 ^ 31 → AreOctets octets → length octets ≤ n → judgement profile n octets ≡ Whole → AreMessage profile n octets

-- The DER of a message is judged whole.
abbrev pub MessageIsWhole : Type 0
MessageIsWhole = (profile : Profile) (m : Message) → IsInProfile profile m → judgement profile (length (message_der m)) (message_der m) ≡ Whole

-- The message of the DER of a message is that message.
abbrev pub MessageOfDerIsMessage : Type 0
MessageOfDerIsMessage = (profile : Profile) (m : Message) → IsInProfile profile m → message_of_der (message_der m) ≡ m

-- No message of n octets begins with the octets up to and with one that is refused.
abbrev pub RefusalIsRight : Type 0
RefusalIsRight = (profile : Profile) (n : ℕ) (octets : List ℕ) (place : ℕ) (reason : Why) → length octets ≤ n → judgement profile n octets ≡ Refused (record { place = place; why = reason }) → (m : Message) → IsInProfile profile m → length (message_der m) ≡ n → take (suc place) (message_der m) ≡ take (suc place) octets → ⊥

-- No message's DER begins another's, and different messages have different DER.
abbrev pub DerIsPrefixFree : Type 0
DerIsPrefixFree = (m other : Message) (x y : List ℕ) → message_der m ++ x ≡ message_der other ++ y → (m ≡ other) × (x ≡ y)

-- A message is in the strict profile exactly if it is in the lenient one and keeps the strict rules.
abbrev pub StrictIsNarrower : Type 0
StrictIsNarrower = (m : Message) → IsInProfile Strict m ↔ (IsInProfile Lenient m × (is_strict m ≡ true))

-- A message keeps the strict rules exactly if none of the notes 1 to 4 holds.
abbrev pub StrictHasNoNotes : Type 0
StrictHasNoNotes = (m : Message) → (is_strict m ≡ true) ↔ ((number : ℕ) → 1 ≤ number → number ≤ 4 → notes_have (notes_of m) number ≡ false)

-- The lenient profile refuses no octets as Charset.
abbrev pub LenientHasNoCharset : Type 0
LenientHasNoCharset = (n : ℕ) (octets : List ℕ) → AreOctets octets → IsRefusedFor Charset (judgement Lenient n octets) → ⊥

-- What the strict profile judges whole, the lenient one does.
abbrev pub StrictIsLenient : Type 0
StrictIsLenient = (n : ℕ) (octets : List ℕ) → n < 2 ^ 31 → AreOctets octets → length octets ≤ n → judgement Strict n octets ≡ Whole → judgement Lenient n octets ≡ Whole

-- A message comes back from its value.
abbrev pub MessageRoundTrips : Type 0
MessageRoundTrips = (m : Message) → message_of (kind_of m) (message_value m) ≡ m
