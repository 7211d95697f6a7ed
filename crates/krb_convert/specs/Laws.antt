-- The laws of conversions. Each is the contract of a function of the module `runs` of krb_tool_laws.
use Rattle.std.specs.Prelude.{ℕ, ◌≡◌, ◌<◌, ◌^◌, ◌⊎◌, false, true, List, [], ◌++◌, length, map, None}
use Rattle.std.specs.List.{AllByRecursion, flat_map}
use Rattle.krb_der.specs.Octets.{AreOctets}
use Rattle.krb_der.specs.declared.profile.Profile.{Profile}
use Rattle.krb_msg.specs.Grammar.{messages}
use Rattle.krb_msg.specs.Stream.{Boundary, frames}
use Rattle.krb_msg.specs.Views.{message_der}
use Rattle.krb_msg.specs.declared.message.Message.{Message}
use Rattle.krb_json.specs.Laws.{AreOfMessage, AreOfTicket, IsSpelled, IsText}
use Rattle.krb_json.specs.Lines.{line_of}
use Rattle.krb_json.specs.Masked.{masked_in}
use Rattle.krb_json.specs.Unencrypted.{unencrypted_in}
use Rattle.krb_frame.specs.Frame.{framed}
use Rattle.krb_convert.specs.Decoding as decoding
use Rattle.krb_convert.specs.Encoding as encoding

-- A stream all of which is decoded comes back octet for octet when the lines are encoded.
abbrev pub StreamsComeBack : Type 0
StreamsComeBack = (profile : Profile) (limit : ℕ) (stream : List ℕ) → AreOctets stream → (decoding.decoded profile limit stream).end ≡ decoding.All → encoding.encoded true profile limit (decoding.decoded profile limit stream).text ≡ record { text = stream; end = encoding.All }

-- So do octets that are decoded as one message, without its length.
abbrev pub MessageComesBack : Type 0
MessageComesBack = (profile : Profile) (limit : ℕ) (octets : List ℕ) → AreOctets octets → (decoding.decoded_whole profile limit octets).end ≡ decoding.All → encoding.encoded false profile limit (decoding.decoded_whole profile limit octets).text ≡ record { text = octets; end = encoding.All }

pub record DecodedComesBack : Type 0 where
  pub streams : StreamsComeBack
  pub messages : MessageComesBack

-- Octets are frames of messages of a profile, none of which has more octets than a limit: these are found in them, and nothing is refused. If all are encrypted their lines are what is decoded.
pub record AreFrames (profile : Profile) (limit : ℕ) (octets : List ℕ) : Type 0 where
  pub framed_messages : List Message
  pub spelled : AllByRecursion (IsSpelled profile limit) framed_messages
  pub form : octets ≡ flat_map (λ m. framed (message_der m)) framed_messages
  pub found : frames (messages profile) limit octets ≡ record { contents = map message_der framed_messages; end = Boundary }
  pub lines : AllByRecursion (λ m. unencrypted_in m ≡ None) framed_messages → decoding.decoded profile limit octets ≡ record { text = flat_map line_of framed_messages; end = decoding.All }

-- Octets are one such message, or a Ticket, without its length.
abbrev pub IsAlone : Profile → (limit : ℕ) → List ℕ → Type 0
IsAlone profile limit octets = AreOfMessage profile limit octets ⊎ AreOfTicket profile limit octets

-- What is encoded of any text, with or without a fault, is that.
pub record EncodedIsMessages : Type 0 where
  pub streams : (profile : Profile) (limit : ℕ) (text : List ℕ) → limit < 2 ^ 31 → AreFrames profile limit (encoding.encoded true profile limit text).text
  pub some : (profile : Profile) (limit : ℕ) (text : List ℕ) → limit < 2 ^ 31 → ((encoding.encoded false profile limit text).text ≡ []) ⊎ IsAlone profile limit (encoding.encoded false profile limit text).text
  pub all : (profile : Profile) (limit : ℕ) (text : List ℕ) → limit < 2 ^ 31 → (encoding.encoded false profile limit text).end ≡ encoding.All → IsAlone profile limit (encoding.encoded false profile limit text).text

-- Two messages of a profile, of at most so many octets, that differ in nothing but the ciphers of EncryptedDatas of encryption type 0.
pub record AreAlike (profile : Profile) (limit : ℕ) (both : Message × Message) : Type 0 where
  pub first : IsSpelled profile limit both.0
  pub second : IsSpelled profile limit both.1
  pub alike : masked_in both.0 ≡ masked_in both.1

-- Streams whose first frames are such messages, and that go on alike, are decoded alike.
abbrev pub StreamsAreDecodedAlike : Type 0
StreamsAreDecodedAlike = (profile : Profile) (limit : ℕ) (pairs : List (Message × Message)) (rest : List ℕ) → AllByRecursion (AreAlike profile limit) pairs → decoding.decoded profile limit (flat_map (λ p. framed (message_der p.0)) pairs ++ rest) ≡ decoding.decoded profile limit (flat_map (λ p. framed (message_der p.1)) pairs ++ rest)

-- So are such messages without their lengths.
abbrev pub MessagesAreDecodedAlike : Type 0
MessagesAreDecodedAlike = (profile : Profile) (limit : ℕ) (pair : Message × Message) → AreAlike profile limit pair → decoding.decoded_whole profile limit (message_der pair.0) ≡ decoding.decoded_whole profile limit (message_der pair.1)

pub record UnencryptedIsNotDecoded : Type 0 where
  pub streams : StreamsAreDecodedAlike
  pub messages : MessagesAreDecodedAlike

-- A text is the lines of messages, each one value of JSON, of printable ASCII alone, with no name twice in an object.
pub record AreLines (text : List ℕ) : Type 0 where
  pub those : List Message
  pub each : AllByRecursion IsText those
  pub form : text ≡ flat_map line_of those

-- What is decoded of any octets, with a refusal or without, is that.
pub record DecodedIsLines : Type 0 where
  pub streams : (profile : Profile) (limit : ℕ) (stream : List ℕ) → AreOctets stream → AreLines (decoding.decoded profile limit stream).text
  pub messages : (profile : Profile) (limit : ℕ) (octets : List ℕ) → AreOctets octets → AreLines (decoding.decoded_whole profile limit octets).text
