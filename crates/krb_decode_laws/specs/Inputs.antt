-- The laws of what is decoded of a message, a Ticket or a token that an input spells. Each is the contract of a function of the module `inputs`, or of `unencrypted`.
use Rattle.std.specs.Prelude.{ℕ, ◌≡◌, ◌≤◌, false, List, [], ◌∷◌, length, Ok, ◌<◌, ◌^◌, None}
use Rattle.std.specs.List.{AllByRecursion, filter, flat_map}
use Rattle.krb_convert.specs.Encoding.{All, encoded}
use Rattle.krb_der.specs.Octets.{AreOctets}
use Rattle.krb_der.specs.declared.profile.Profile.{Profile}
use Rattle.krb_der.specs.declared.profile.Profile.TheVariants.{Lenient}
use Rattle.krb_input.specs.Inputs.{spelled}
use Rattle.krb_input.specs.Sources.{command_for}
use Rattle.krb_input.specs.declared.source_kind.SourceKind.TheVariants as kind
use Rattle.krb_json.specs.Masked.{masked, masked_in}
use Rattle.krb_judge.specs.Parses.{refusal_of, ticket_refusal}
use Rattle.krb_judge.specs.declared.locating.names.Names.TheVariants as names
use Rattle.krb_msg.specs.Grammar.{ticket}
use Rattle.krb_msg.specs.Types.{ticket_value}
use Rattle.krb_msg.specs.Views.{IsInProfile, message_of_der}
use Rattle.krb_msg.specs.declared.krb_cred.KrbCred.{KrbCred}
use Rattle.krb_msg.specs.declared.message.Message.TheVariants as message
use Rattle.krb_record.specs.declared.form.Form.TheVariants.{Json, NamedLines}
use Rattle.krb_run.specs.declared.run.RunEnd.TheVariants as run
use Rattle.krb_source.specs.declared.spelling.Spelling.{Spelling}
use Rattle.krb_token.specs.Opened.{Found, Message, Ticket}
use Rattle.krb_token.specs.Tokens.{opened}
use Rattle.krb_tool.specs.Messages.{input_limit}
use Rattle.krb_tool_laws.specs.Listings.{AreLinesOf, AreRead}
use Rattle.krb_decode.specs.Decoded.{Decoded, decoded_credentials, decoded_input, is_sealed, ticket_line}
use Rattle.krb_decode.specs.Given.{decoded_given}
use Rattle.krb_decode_laws.specs.Messages.{IsTicketText, value_in}

-- A run ends clean if nothing is said, and only then.
pub record EndsAsSaid (decoded : Decoded) : Type 0 where
  pub clean : decoded.said ≡ [] → decoded.end ≡ run.Clean
  pub silent : decoded.end ≡ run.Clean → decoded.said ≡ []

-- so it does of what an input spells, and of octets that are never read as text
pub record InputsEndAsSaid : Type 0 where
  pub of_input : (profile : Profile) (input : List ℕ) → EndsAsSaid (decoded_input profile input)
  pub of_octets : (profile : Profile) (octets : List ℕ) → EndsAsSaid (decoded_given profile octets)

-- ---- lines
-- What is written is lines, each one value of JSON, and what is said is lines, both of printable ASCII.
pub record PrintsLines (decoded : Decoded) : Type 0 where
  pub lines : AreLinesOf Json decoded.lines
  pub said : AreLinesOf NamedLines decoded.said

pub record InputsAreLines : Type 0 where
  pub of_input : (profile : Profile) (input : List ℕ) → AreRead input → PrintsLines (decoded_input profile input)
  pub of_octets : (profile : Profile) (octets : List ℕ) → AreRead octets → PrintsLines (decoded_given profile octets)

-- ---- back again
-- an input spells octets, and is not too long
pub record IsSpelled (input octets : List ℕ) : Type 0 where
  pub spelling : Spelling
  pub spells : spelled input ≡ Ok (spelling, octets)
  pub short : length input ≤ input_limit

-- the octets of the message that is found in octets, or of the Ticket that they are
abbrev pub octets_of : List ℕ → Found → List ℕ
octets_of octets (Message part) = part.octets
octets_of octets found = octets

-- What is decoded, if nothing is said, is encoded to the octets of the message or the Ticket, if these are no more than a limit.
abbrev pub ComesBack : (octets : List ℕ) → Decoded → Type 0
ComesBack octets decoded = (limit : ℕ) → decoded.end ≡ run.Clean → length octets ≤ limit → encoded false Lenient limit decoded.lines ≡ record { text = octets; end = All }

pub record InputsComeBack : Type 0 where
  pub of_input : (profile : Profile) (input octets : List ℕ) → AreOctets input → IsSpelled input octets → ComesBack (octets_of octets (opened octets).found) (decoded_input profile input)
  pub of_octets : (profile : Profile) (octets : List ℕ) → AreOctets octets → ComesBack (octets_of octets (opened octets).found) (decoded_given profile octets)
  -- of a KRB-CRED that is not encrypted each sealed Ticket has its line, in order, which comes back
  pub of_credentials : (origin : List ℕ) (m : KrbCred) → IsInProfile Lenient (message.KrbCred m) → is_sealed m.enc_part.etype ≡ false
      → ((decoded_credentials origin m).lines ≡ flat_map (λ t. ticket_line (ticket_value t)) (filter (λ t. is_sealed t.enc_part.etype) m.tickets)) × AllByRecursion (λ t. IsTicketText (ticket_value t)) m.tickets

-- ---- what is not encrypted is not decoded
-- Octets are messages of a profile that differ in nothing but the ciphers of EncryptedDatas of encryption type 0.
pub record AreMessagesAlike (profile : Profile) (one other : List ℕ) : Type 0 where
  pub first : refusal_of profile one ≡ None
  pub second : refusal_of profile other ≡ None
  pub alike : masked_in (message_of_der one) ≡ masked_in (message_of_der other)

-- and so Tickets
pub record AreTicketsAlike (profile : Profile) (one other : List ℕ) : Type 0 where
  pub first : ticket_refusal profile one ≡ None
  pub second : ticket_refusal profile other ≡ None
  pub alike : masked ticket names.Ticket (value_in one) ≡ masked ticket names.Ticket (value_in other)

-- So are what is found in octets, or the octets.
abbrev pub AreFoundAlike : Profile → (one other : List ℕ) → Found → Found → Type 0
AreFoundAlike profile one other (Message part) (Message second) = AreMessagesAlike profile part.octets second.octets
AreFoundAlike profile one other Ticket Ticket = AreTicketsAlike profile one other
AreFoundAlike profile one other first second = ⊥

-- Octets are messages, Tickets or tokens in the same layers that differ in nothing else.
pub record AreAlike (profile : Profile) (one other : List ℕ) : Type 0 where
  pub first_short : length one < 2 ^ 31
  pub second_short : length other < 2 ^ 31
  pub layers : (opened one).layers ≡ (opened other).layers
  pub found : AreFoundAlike profile one other (opened one).found (opened other).found

-- Inputs that spell such octets are decoded alike, and so are the octets.
pub record InputsAreDecodedAlike : Type 0 where
  pub of_input : (profile : Profile) (one other input second : List ℕ) → AreAlike profile one other → IsSpelled input one → IsSpelled second other → decoded_input profile input ≡ decoded_input profile second
  pub of_octets : (profile : Profile) (one other : List ℕ) → AreAlike profile one other → decoded_given profile one ≡ decoded_given profile other

-- ---- keytabs
-- What begins as a keytab is one, whatever follows: what is said of it has none of that.
abbrev pub KeytabsAreNotRead : Type 0
KeytabsAreNotRead = (octets : List ℕ) → command_for (0x05 ∷ 0x02 ∷ octets) ≡ kind.Keytab
