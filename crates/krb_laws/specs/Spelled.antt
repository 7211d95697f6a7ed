-- The laws of what inputs spell. Each is the contract of a function of the module `spelled`.
use Rattle.std.specs.Prelude.{ℕ, ◌≡◌, ◌≢◌, ⊤, ◌<◌, ◌^◌, ◌⊎◌, true, false, List, [], ◌∷◌, length, is_some, Ok}
use Rattle.hex.specs.Hex.{decode_of, encode_lower, encode_upper}
use Rattle.krb_der.specs.Octets.{AreOctets, begins_with}
use Rattle.krb_der.specs.declared.profile.Profile.{Profile}
use Rattle.krb_der.specs.declared.verdict.Verdict.TheVariants.{Whole}
use Rattle.krb_input.specs.Dumps.{begins_dump}
use Rattle.krb_input.specs.Inputs.{is_first, spelled}
use Rattle.krb_input.specs.Octets.{begin_message, first_no_text, is_marked}
use Rattle.krb_input.specs.Tokens.{first_unfit}
use Rattle.krb_input.specs.Laws.{without_blanks}
use Rattle.krb_msg.specs.Grammar.{ticket}
use Rattle.krb_msg.specs.Judgement.{judgement, term_judgement}
use Rattle.krb_msg.specs.Profiles.{profile_term}
use Rattle.krb_token.specs.Laws.{IsFrame}
use Rattle.krb_token.specs.Opened.{Found, Refused, Ticket, message_under, under}
use Rattle.krb_token.specs.Tokens.{opened}
use Rattle.krb_source.specs.declared.layer.Layer.{Layer}
use Rattle.krb_source.specs.declared.layer.Layer.TheVariants.{Frame}
use Rattle.krb_laws.specs.Written.{HasOffsets, IsLayout, Layout, base64_text, dump_text, hexdump, od, od_hexadecimal, tcpdump, tshark, wireshark, xxd}
use Rattle.krb_source.specs.declared.spelling.Spelling.TheVariants as form

-- ---- hexadecimal
-- Hexadecimal in any case, with blanks anywhere, that does not begin as a dump spells the octets that are decoded of it.
abbrev pub HexadecimalIsSpelled : Type 0
HexadecimalIsSpelled = (text octets : List ℕ) → decode_of (without_blanks text) ≡ Ok octets → begins_dump text ≡ false → spelled text ≡ Ok (form.Hex, octets)

-- Hexadecimal of octets of which the first is not 00 does not begin as a dump.
abbrev pub HexadecimalIsNoDump : Type 0
HexadecimalIsNoDump = (text octets : List ℕ) → decode_of (without_blanks text) ≡ Ok octets → begins_with 0x00 octets ≡ false → begins_dump text ≡ false

-- The digits of octets, in lower or in upper case, spell the octets.
pub record AreSpelledInDigits (octets : List ℕ) : Type 0 where
  pub lower : spelled (encode_lower octets) ≡ Ok (form.Hex, octets)
  pub upper : spelled (encode_upper octets) ≡ Ok (form.Hex, octets)

abbrev pub DigitsAreSpelled : Type 0
DigitsAreSpelled = (octets : List ℕ) → AreOctets octets → AreSpelledInDigits octets

-- ---- octets and base64
-- Octets that begin as a message does, and of which one is no text, spell themselves.
abbrev pub OctetsAreSpelled : Type 0
OctetsAreSpelled = (octets : List ℕ) → is_marked octets ≡ false → begin_message octets ≡ true → is_some (first_no_text octets) ≡ true → spelled octets ≡ Ok (form.Octets, octets)

-- The base64 of octets that begin as a message does, with blanks anywhere, spells the octets, if it has a character that no hexadecimal has.
abbrev pub Base64IsSpelled : Type 0
Base64IsSpelled = (text : List ℕ) (first : ℕ) (octets : List ℕ) → AreOctets (first ∷ octets) → is_first first ≡ true → without_blanks text ≡ base64_text (first ∷ octets) → is_some (first_unfit false text) ≡ true → spelled text ≡ Ok (form.Base64, first ∷ octets)

-- ---- dumps
-- A dump of octets spells the octets, whatever stands beside them.
abbrev pub DumpsAreSpelled : Type 0
DumpsAreSpelled = (layout : Layout) (octets : List ℕ) → IsLayout layout → AreOctets octets → 0 < length octets → HasOffsets layout octets → spelled (dump_text layout octets) ≡ Ok (form.Dump, octets)

-- What these tools write is such a dump.
pub record ToolsAreLayouts : Type 0 where
  pub of_xxd : IsLayout xxd
  pub of_hexdump : IsLayout hexdump
  pub of_od : IsLayout od
  pub of_od_hexadecimal : IsLayout od_hexadecimal
  pub of_tcpdump : IsLayout tcpdump
  pub of_tshark : IsLayout tshark
  pub of_wireshark : IsLayout wireshark

-- ---- messages and Tickets
-- octets that are judged whole, as a message of a profile or as a Ticket of it
abbrev pub AreMessageOrTicket : Profile → List ℕ → Type 0
AreMessageOrTicket profile octets = (judgement profile (length octets) octets ≡ Whole) ⊎ (term_judgement (profile_term profile false ticket) (length octets) octets ≡ Whole)

-- Octets are spelled by themselves, by their digits, by hexadecimal and by their base64 with blanks anywhere, and by their dumps.
pub record AreSpelledInEachForm (octets : List ℕ) : Type 0 where
  pub by_themselves : spelled octets ≡ Ok (form.Octets, octets)
  pub by_digits : AreSpelledInDigits octets
  pub by_hexadecimal : (text : List ℕ) → decode_of (without_blanks text) ≡ Ok octets → spelled text ≡ Ok (form.Hex, octets)
  pub by_base64 : (text : List ℕ) → without_blanks text ≡ base64_text octets → spelled text ≡ Ok (form.Base64, octets)
  pub by_dump : (layout : Layout) → IsLayout layout → HasOffsets layout octets → spelled (dump_text layout octets) ≡ Ok (form.Dump, octets)

-- Each message and each Ticket is spelled in each form.
abbrev pub MessagesAreSpelled : Type 0
MessagesAreSpelled = (profile : Profile) (octets : List ℕ) → AreOctets octets → length octets < 2 ^ 31 → AreMessageOrTicket profile octets → AreSpelledInEachForm octets

-- A message is opened to itself, in no layer, and a Ticket to a Ticket: so by hexadecimal and base64 the same is listed as by the octets.
abbrev pub MessagesAreOpened : Type 0
MessagesAreOpened = (profile : Profile) (octets : List ℕ) → AreOctets octets → judgement profile (length octets) octets ≡ Whole → opened octets ≡ message_under [] 0 octets

abbrev pub TicketsAreOpened : Type 0
TicketsAreOpened = (profile : Profile) (octets : List ℕ) → AreOctets octets → term_judgement (profile_term profile false ticket) (length octets) octets ≡ Whole → opened octets ≡ under [] Ticket

-- ---- tokens and frames
-- what is found is not refused
abbrev pub IsFound : Found → Type 0
IsFound (Refused fault) = ⊥
IsFound found = ⊤

-- octets that are opened as a token of GSS-API or of SPNEGO, up to what is in it, which need not be a message
pub record AreToken (octets : List ℕ) : Type 0 where
  pub layer : Layer
  pub layers : List Layer
  pub opens : (opened octets).layers ≡ layer ∷ layers
  pub no_frame : layer ≢ Frame
  pub found : IsFound (opened octets).found

-- Each token is spelled in each form.
abbrev pub TokensAreSpelled : Type 0
TokensAreSpelled = (octets : List ℕ) → AreOctets octets → AreToken octets → AreSpelledInEachForm octets

-- A frame spells itself.
abbrev pub FramesAreSpelled : Type 0
FramesAreSpelled = (message octets : List ℕ) → IsFrame message octets → spelled octets ≡ Ok (form.Octets, octets)
