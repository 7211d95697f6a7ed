-- What a command does to a writer: what is written only grows.
use Rattle.std.proofs.Common.{◌≡◌, ℕ, Bool, List, [], Option, Result, Ok, Err, inl, inr, ◌⊎◌}
use Rattle.std.specs.Prelude.{IfErr, IfOk}
use Rattle.std.specs.Io.KnownBytes.{Keeps}
use Rattle.std.proofs.KnownBytes.{Appends-kept, Appends-nil}
use Rattle.krb_der.specs.declared.profile.Profile.{Profile}
use Rattle.krb_convert.specs.Conversions.{DecodesBy, EncodesBy, FailsToDecodeBy, is_framed}
use Rattle.krb_convert.specs.Decoding.{FailsToDecodeWhole}
use Rattle.krb_convert.specs.Encoding.{FailsToEncode}
use Rattle.krb_convert.specs.declared.decode_run.DecodeEnd.{DecodeEnd}
use Rattle.krb_convert.specs.declared.encode_run.EncodeEnd.{EncodeEnd}
use Rattle.krb_decode.specs.Streams.{DecodesStream, FailsToDecodeStream}
use Rattle.krb_record.specs.Labels.{Label}
use Rattle.krb_run.proofs.Records.{some-none, some-prefix, some-same}
use Rattle.krb_run.specs.Conversions.{FailsToConvert}
use Rattle.krb_run.specs.Files.{FailsFile, FileListing, ListsFile}
use Rattle.krb_run.specs.Records.{WritesSome}
use Rattle.krb_run.specs.declared.run.RunEnd.{RunEnd}
use Rattle.krb_run.specs.declared.run.RunFault.{RunFault}
use Rattle.krb_run.specs.declared.run.RunFault.TheVariants as fault
use Rattle.krb_tool.specs.GoingOn.{FailsAll, ListsAll}
use Rattle.krb_tool.specs.Listing.{Fails, Lists}
use Rattle.krb_tool.specs.MessageLines.{FailsLines, ListsLines}
use Rattle.krb_words.specs.declared.words.Framing.{Framing}
use Rattle.krb_words.specs.declared.words.Framing.TheVariants as framing
use Rattle.krbls.specs.Commands.{FailsToTurn, Turns}

-- whatever a run returned
by-outcome : {T : Type 0} {P : T → Type 0} {Q : RunFault → Type 0} {S : Type 0} (result : Result T RunFault) → ((end : T) → P end → S) → ((failed : RunFault) → Q failed → S) → IfOk result P → IfErr result Q → S
by-outcome (Ok end) of-end of-fault p q = of-end end p
by-outcome (Err failed) of-end of-fault p q = of-fault failed q

module _ (had left before after : Option (List ℕ)) where
  kept : Keeps before after → WritesSome before after
  kept k = ([], Appends-kept before before after [] (Appends-nil before) k)

  -- ---- streams and messages
  stream_fails : (label : Label) (profile : Profile) (limit : ℕ) (failed : RunFault) → Fails label profile limit had left before after failed → WritesSome before after
  stream_fails label profile limit (fault.Write e) w = some-prefix before after w.text w.added
  stream_fails label profile limit (fault.Read e) w = (w.text, w.added)
  stream_fails label profile limit fault.Memory w = some-prefix before after w.text w.added

  pub of_stream : (label : Label) (profile : Profile) (limit : ℕ) (result : Result RunEnd RunFault) → IfOk result (Lists label profile limit had left before after) → IfErr result (Fails label profile limit had left before after) → WritesSome before after
  of_stream label profile limit result = by-outcome result (λ end w. (w.written, w.added)) (stream_fails label profile limit)

  all_fails : (label : Label) (profile : Profile) (limit : ℕ) (failed : RunFault) → FailsAll label profile limit had left before after failed → WritesSome before after
  all_fails label profile limit (fault.Write e) w = some-prefix before after w.text w.added
  all_fails label profile limit (fault.Read e) w = (w.text, w.added)
  all_fails label profile limit fault.Memory w = some-prefix before after w.text w.added

  pub of_all : (label : Label) (profile : Profile) (limit : ℕ) (result : Result RunEnd RunFault) → IfOk result (ListsAll label profile limit had left before after) → IfErr result (FailsAll label profile limit had left before after) → WritesSome before after
  of_all label profile limit result = by-outcome result (λ end w. (w.written, w.added)) (all_fails label profile limit)

  conversion_fails : (all of_whole : List ℕ → List ℕ) (failed : RunFault) → FailsToConvert all of_whole had left before after failed → WritesSome before after
  conversion_fails all of_whole (fault.Write e) w = some-prefix before after w.text w.added
  conversion_fails all of_whole (fault.Read e) w = (w.text, w.added)
  conversion_fails all of_whole fault.Memory w = some-prefix before after w.text w.added

  pub of_lines : (label : Label) (profile : Profile) (result : Result RunEnd RunFault) → IfOk result (ListsLines label profile had left before after) → IfErr result (FailsLines label profile had left before after) → WritesSome before after
  of_lines label profile result = by-outcome result (λ end w. (_, w.added)) (λ failed w. conversion_fails _ _ failed w)

  file_fails : (Listed : List ℕ → FileListing → Type 0) (failed : RunFault) → FailsFile Listed had left before after failed → WritesSome before after
  file_fails Listed (fault.Write e) w = some-prefix before after (w.listing).text w.added
  file_fails Listed (fault.Read e) w = kept w.kept
  file_fails Listed fault.Memory w = kept w.kept

  pub of_file : (Listed : List ℕ → FileListing → Type 0) (result : Result RunEnd RunFault) → IfOk result (ListsFile Listed had left before after) → IfErr result (FailsFile Listed had left before after) → WritesSome before after
  of_file Listed result = by-outcome result (λ end w. ((w.listing).text, w.added)) (file_fails Listed)

  on_fails : (profile : Profile) (limit : ℕ) (failed : RunFault) → FailsToDecodeStream profile limit had left before after failed → WritesSome before after
  on_fails profile limit (fault.Write e) w = some-prefix before after w.text w.added
  on_fails profile limit (fault.Read e) w = (w.text, w.added)
  on_fails profile limit fault.Memory w = some-prefix before after w.text w.added

  pub of_decoded_on : (profile : Profile) (limit : ℕ) (result : Result RunEnd RunFault) → IfOk result (DecodesStream profile limit had left before after) → IfErr result (FailsToDecodeStream profile limit had left before after) → WritesSome before after
  of_decoded_on profile limit result = by-outcome result (λ end w. (w.written, w.added)) (on_fails profile limit)

  -- ---- what is turned into another form
  decoded : (how : Framing) (profile : Profile) (limit : ℕ) (end : DecodeEnd) → DecodesBy how profile limit had left before after end → WritesSome before after
  decoded framing.Framed profile limit end w = (_, w.added)
  decoded framing.Unframed profile limit end w = (_, (w.converts).added)

  whole_fails : (profile : Profile) (limit : ℕ) (failed : RunFault) → FailsToDecodeWhole profile limit had left before after failed → WritesSome before after
  whole_fails profile limit (fault.Write e) w = some-prefix before after w.text w.added
  whole_fails profile limit (fault.Read e) w = kept w.kept
  whole_fails profile limit fault.Memory w = kept w.kept

  decoding_fails : (how : Framing) (profile : Profile) (limit : ℕ) (failed : RunFault) → FailsToDecodeBy how profile limit had left before after failed → WritesSome before after
  decoding_fails framing.Framed profile limit failed w = conversion_fails _ _ failed w
  decoding_fails framing.Unframed profile limit failed w = whole_fails profile limit failed w

  or_memory : {E : Type 0} (TurnsTo : E → Type 0) (Fails : RunFault → Type 0) → ((end : E) → TurnsTo end → WritesSome before after) → ((failed : RunFault) → Fails failed → WritesSome before after) → (failed : RunFault) → FailsToTurn TurnsTo Fails failed → WritesSome before after
  or_memory TurnsTo Fails turned fails failed (inl f) = fails failed f
  or_memory TurnsTo Fails turned fails failed (inr m) = turned m.1 m.2

  pub of_decoding : (how : Framing) (profile : Profile) (limit : ℕ) (line : DecodeEnd → List ℕ) (run_end : DecodeEnd → RunEnd) (IsTold : List ℕ → Type 0) (result : Result RunEnd RunFault) → IfOk result (Turns (DecodesBy how profile limit had left before after) line run_end IsTold) → IfErr result (FailsToTurn (DecodesBy how profile limit had left before after) (FailsToDecodeBy how profile limit had left before after)) → WritesSome before after
  of_decoding how profile limit line run_end IsTold result =
      by-outcome result (λ end w. decoded how profile limit w.end w.turned) (or_memory (DecodesBy how profile limit had left before after) (FailsToDecodeBy how profile limit had left before after) (decoded how profile limit) (decoding_fails how profile limit))

  pub of_encoding : (how : Framing) (profile : Profile) (limit : ℕ) (line : EncodeEnd → List ℕ) (run_end : EncodeEnd → RunEnd) (IsTold : List ℕ → Type 0) (result : Result RunEnd RunFault) → IfOk result (Turns (EncodesBy how profile limit had left before after) line run_end IsTold) → IfErr result (FailsToTurn (EncodesBy how profile limit had left before after) (FailsToEncode (is_framed how) profile limit had left before after)) → WritesSome before after
  of_encoding how profile limit line run_end IsTold result =
      by-outcome result (λ end w. (_, (w.turned).added)) (or_memory (EncodesBy how profile limit had left before after) (FailsToEncode (is_framed how) profile limit had left before after) (λ end w. (_, w.added)) (λ failed w. conversion_fails _ _ failed w))
