-- What C is given of messages as lines of JSON, and of lines as messages: what the commands do.
use Rattle.std.specs.Prelude.{ℕ, ◌≡◌, ◌==◌, ◌++◌, Bool, true, false, if◌then◌else◌, List, [], ◌∷◌, codes, flat_map, Some}
use Rattle.krb_der.specs.declared.profile.Profile.{Profile}
use Rattle.krb_input.specs.Sources.{command_for}
use Rattle.krb_input.specs.declared.source_kind.SourceKind.{SourceKind}
use Rattle.krb_input.specs.declared.source_kind.SourceKind.TheVariants as kind
use Rattle.krb_capture_run.specs.Decoded.{decoded_capture}
use Rattle.krb_run.specs.Records.{text_of}
use Rattle.krb_run.specs.declared.run.RunEnd.{RunEnd}
use Rattle.krb_run.specs.declared.run.RunEnd.TheVariants as run
use Rattle.krb_words.specs.declared.words.Framing.{Framing}
use Rattle.krb_words.specs.declared.words.Framing.TheVariants as framing
use Rattle.krb_convert.specs.Conversions.{DecodesBy, EncodesBy}
use Rattle.krb_convert.specs.Ends.{decode_end_line, decode_run_end, encode_end_line, encode_run_end}
use Rattle.krb_convert.specs.declared.decode_run.DecodeEnd.{DecodeEnd}
use Rattle.krb_convert.specs.declared.encode_run.EncodeEnd.{EncodeEnd}
use Rattle.krb_decode.specs.Decoded.{Decoded}
use Rattle.krb_decode.specs.Caches.{decoded_cache}
use Rattle.krb_decode.specs.Given.{decoded_given}
use Rattle.krb_decode.specs.Streams.{DecodesStream}
use Rattle.krb_decode.specs.Hints.{keytab_text}
use Rattle.krb_decode.specs.Sorted.{begun_after, is_of_message, lines_after, message_lines}
use Rattle.krb_record.specs.Text.{line_feed}
use Rattle.krb_c.specs.declared.turning.Options.{Options}

-- 0 is to write each message after its length, and any other number one message without it
abbrev pub framing_of : ℕ → Framing
framing_of number = if number == 0 then framing.Framed else framing.Unframed

-- The messages that lines spell. The run over them had all lines, and wrote the octets after nothing; those after a fault that ends it may be left.
pub record IsEncoded (how : Framing) (profile : Profile) (limit : ℕ) (lines octets said : List ℕ) (end : RunEnd) : Type 0 where
  pub left : List ℕ
  pub ended : EncodeEnd
  pub encoded : EncodesBy how profile limit (Some lines) (Some left) (Some []) (Some octets) ended
  pub says : said ≡ encode_end_line ended
  pub ends : end ≡ encode_run_end ended

-- The lines of the messages of a stream, in the same manner.
pub record IsStreamDecoded (profile : Profile) (limit : ℕ) (octets lines said : List ℕ) (end : RunEnd) : Type 0 where
  pub left : List ℕ
  pub ended : DecodeEnd
  pub decoded : DecodesBy framing.Framed profile limit (Some octets) (Some left) (Some []) (Some lines) ended
  pub says : said ≡ decode_end_line framing.Framed ended
  pub ends : end ≡ decode_run_end ended

-- those of a message, a Ticket or a token
abbrev pub IsDecodedAs : Decoded → (lines said : List ℕ) → RunEnd → Type 0
IsDecodedAs decoded lines said end = (lines ≡ decoded.lines) × (said ≡ decoded.said) × (end ≡ decoded.end)

-- a keytab has none
abbrev pub IsKeytabTold : (lines said : List ℕ) → RunEnd → Type 0
IsKeytabTold lines said end = (lines ≡ []) × (said ≡ keytab_text (codes "-") ++ line_feed) × (end ≡ run.Refused)

-- a run that is refused at once stays so; else it is clean if nothing is said
abbrev pub told_end : RunEnd → (said : List ℕ) → RunEnd
told_end run.RefusedAtOnce said = run.RefusedAtOnce
told_end end [] = run.Clean
told_end end (octet ∷ said) = run.Refused

-- ---- one text, of lines of messages and of others, which are said
abbrev pub said_of : List ℕ → List ℕ
said_of line = if is_of_message line then [] else line

-- each other line, and of one that has not ended what has come
abbrev pub said_lines : List ℕ → List ℕ
said_lines text = flat_map said_of (lines_after [] text) ++ said_of (begun_after [] text)

abbrev pub IsSorted : (text : List ℕ) → RunEnd → (lines said : List ℕ) → RunEnd → Type 0
IsSorted text ended lines said end = (lines ≡ message_lines text) × (said ≡ said_lines text) × (end ≡ told_end ended said)

-- the lines of a stream that goes on
pub record IsStreamDecodedOn (profile : Profile) (limit : ℕ) (octets lines said : List ℕ) (end : RunEnd) : Type 0 where
  pub left : List ℕ
  pub text : List ℕ
  pub ended : RunEnd
  pub decoded : DecodesStream profile limit (Some octets) (Some left) (Some []) (Some text) ended
  pub is : IsSorted text ended lines said end

-- ---- by what octets are, and which of their messages are decoded
-- those of a capture, or of one of its packets
abbrev pub IsCaptureDecoded : Options → (octets lines said : List ℕ) → RunEnd → Type 0
IsCaptureDecoded options octets lines said end =
    let decoded = decoded_capture options.profile options.limit options.port options.packet octets in
    IsSorted (text_of decoded) decoded.end lines said end

abbrev pub IsStream : (goes_on : Bool) → Profile → (limit : ℕ) → (octets lines said : List ℕ) → RunEnd → Type 0
IsStream false profile limit octets lines said end = IsStreamDecoded profile limit octets lines said end
IsStream true profile limit octets lines said end = IsStreamDecodedOn profile limit octets lines said end

abbrev pub IsDecodedBy : SourceKind → Options → (octets lines said : List ℕ) → RunEnd → Type 0
IsDecodedBy kind.Message options octets lines said end = IsDecodedAs (decoded_given options.profile octets) lines said end
IsDecodedBy kind.Keytab options octets lines said end = IsKeytabTold lines said end
IsDecodedBy kind.Ccache options octets lines said end = IsDecodedAs (decoded_cache octets) lines said end
IsDecodedBy kind.Capture options octets lines said end = IsCaptureDecoded options octets lines said end
IsDecodedBy kind.Stream options octets lines said end = IsStream options.goes_on options.profile options.limit octets lines said end

abbrev pub IsDecoded : Options → (octets lines said : List ℕ) → RunEnd → Type 0
IsDecoded options octets lines said end = IsDecodedBy (command_for octets) options octets lines said end
