-- What is said of a source that was not turned into another form to its end, and how its run ends.
use Rattle.std.specs.Prelude.{ℕ, ◌==◌, if◌then◌else◌, List, [], ◌++◌, codes, decimal, string_bytes}
use Rattle.std.specs.Option.{option_map}
use Rattle.krb_json.specs.Reading.{read_fault_text}
use Rattle.krb_record.specs.Refusals.{untold_message_refused_line}
use Rattle.krb_record.specs.Streams.{untold_refused_line}
use Rattle.krb_record.specs.declared.form.Form.TheVariants.{NamedLines}
use Rattle.krb_run.specs.declared.run.RunEnd.{RunEnd}
use Rattle.krb_run.specs.declared.run.RunEnd.TheVariants as run
use Rattle.krb_convert.specs.declared.decode_run.DecodeEnd.{DecodeEnd}
use Rattle.krb_convert.specs.declared.decode_run.DecodeEnd.TheVariants as decoded
use Rattle.krb_convert.specs.declared.encode_run.EncodeEnd.{EncodeEnd}
use Rattle.krb_convert.specs.declared.encode_run.EncodeEnd.TheVariants as encoded
use Rattle.krb_words.specs.declared.words.Framing.{Framing}
use Rattle.krb_words.specs.declared.words.Framing.TheVariants as framing

-- ---- the line that the standard error has after the name of the source; there is none if all was turned
abbrev pub numbered : List ℕ → ℕ → List ℕ
numbered what number = what ++ codes " " ++ decimal number ++ codes ": "

-- the number of a message among frames
abbrev pub message_number : Framing → ℕ → List ℕ
message_number framing.Framed number = numbered (codes "message") number
message_number framing.Unframed number = []

-- a refusal is that of `krbls stream --names`, or of `krbls message --names`
abbrev pub decode_end_line : Framing → DecodeEnd → List ℕ
decode_end_line chosen decoded.Clean = []
decode_end_line framing.Framed (decoded.Refused messages refusal path) = untold_refused_line NamedLines messages refusal.place refusal.why (option_map string_bytes path)
decode_end_line framing.Unframed (decoded.Refused messages refusal path) = untold_message_refused_line NamedLines refusal (option_map string_bytes path)
decode_end_line chosen (decoded.Unencrypted message path) = message_number chosen message ++ string_bytes path ++ codes ": not encrypted, and so not printed\n"

abbrev pub encode_end_line : EncodeEnd → List ℕ
encode_end_line encoded.Clean = []
encode_end_line (encoded.Fault number fault) = numbered (codes "line") number ++ read_fault_text fault ++ codes "\n"
encode_end_line (encoded.LongLine number most) = numbered (codes "line") number ++ codes "longer than " ++ decimal most ++ codes " octets\n"
encode_end_line (encoded.SecondMessage number) = numbered (codes "line") number ++ codes "a second message\n"
encode_end_line encoded.NoMessage = codes "no message\n"

-- ---- how the run ends: at once if the first message is refused
abbrev pub refused_after : (messages : ℕ) → RunEnd
refused_after messages = if messages == 0 then run.RefusedAtOnce else run.Refused

abbrev pub decode_run_end : DecodeEnd → RunEnd
decode_run_end decoded.Clean = run.Clean
decode_run_end (decoded.Refused messages refusal path) = refused_after messages
decode_run_end (decoded.Unencrypted message path) = run.Refused

abbrev pub encode_run_end : EncodeEnd → RunEnd
encode_run_end encoded.Clean = run.Clean
encode_run_end end = run.Refused
