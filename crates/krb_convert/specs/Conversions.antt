-- What messages are turned into lines of JSON by, and lines into messages: in frames, or one alone.
use Rattle.std.specs.Prelude.{ℕ, Bool, true, false, List, Option}
use Rattle.krb_der.specs.declared.profile.Profile.{Profile}
use Rattle.krb_convert.specs.Decoding.{Decodes, DecodesWhole, FailsToDecode, FailsToDecodeWhole}
use Rattle.krb_convert.specs.Encoding.{Encodes}
use Rattle.krb_convert.specs.declared.decode_run.DecodeEnd.{DecodeEnd}
use Rattle.krb_convert.specs.declared.encode_run.EncodeEnd.{EncodeEnd}
use Rattle.krb_run.specs.declared.run.RunFault.{RunFault}
use Rattle.krb_words.specs.declared.words.Framing.{Framing}
use Rattle.krb_words.specs.declared.words.Framing.TheVariants as framing

abbrev pub DecodesBy : Framing → Profile → (limit : ℕ) → (had left written_before written_after : Option (List ℕ)) → DecodeEnd → Type 0
DecodesBy framing.Framed profile limit had left written_before written_after ended = Decodes profile limit had left written_before written_after ended
DecodesBy framing.Unframed profile limit had left written_before written_after ended = DecodesWhole profile limit had left written_before written_after ended

abbrev pub FailsToDecodeBy : Framing → Profile → (limit : ℕ) → (had left written_before written_after : Option (List ℕ)) → RunFault → Type 0
FailsToDecodeBy framing.Framed profile limit had left written_before written_after failed = FailsToDecode profile limit had left written_before written_after failed
FailsToDecodeBy framing.Unframed profile limit had left written_before written_after failed = FailsToDecodeWhole profile limit had left written_before written_after failed

abbrev pub is_framed : Framing → Bool
is_framed framing.Framed = true
is_framed framing.Unframed = false

abbrev pub EncodesBy : Framing → Profile → (limit : ℕ) → (had left written_before written_after : Option (List ℕ)) → EncodeEnd → Type 0
EncodesBy how profile limit had left written_before written_after ended = Encodes (is_framed how) profile limit had left written_before written_after ended
