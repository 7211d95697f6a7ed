-- What runs that decode do to their readers and writers.
use Rattle.std.specs.Prelude.{ℕ, ◌≡◌, ◌≤◌, ◌<◌, List, length, Option, Result, Ok, Err}
use Rattle.std.specs.Io.KnownBytes.{Appends, Consumes, IsAtEnd}
use Rattle.krb_der.specs.declared.profile.Profile.{Profile}
use Rattle.krb_run.specs.Records.{AppendsPrefix}
use Rattle.krb_run.specs.declared.run.RunEnd.{RunEnd}
use Rattle.krb_run.specs.declared.run.RunFault.{RunFault}
use Rattle.krb_decode.specs.Decoded.{Decoded, decoded_input}
use Rattle.krb_decode.specs.declared.input.InputEnd.{InputEnd}

-- All was read, or 16777217 octets, and what is decoded of them was appended to what is written, and is said.
pub record DecodesInput (profile : Profile) (had left written_before written_after : Option (List ℕ)) (end : InputEnd) : Type 0 where
  pub read : List ℕ
  pub taken : Consumes had left read
  pub few : length read ≤ 16777217
  pub all : length read < 16777217 → IsAtEnd left
  pub written : Appends written_before written_after (decoded_input profile read).lines
  pub said : end.said.items ≡ (decoded_input profile read).said
  pub ended : end.end ≡ (decoded_input profile read).end

-- Some was read, and a prefix of the lines of it was appended; if no write failed nothing was.
pub record FailsToDecodeInput (profile : Profile) (had left written_before written_after : Option (List ℕ)) : Type 0 where
  pub read : List ℕ
  pub taken : Consumes had left read
  pub written : AppendsPrefix written_before written_after (decoded_input profile read).lines

-- What is decoded of a cache was appended to what is written, and is said; or, if the run failed, a prefix of its lines was appended.
abbrev pub DecodesCache : Decoded → (written_before written_after : Option (List ℕ)) → (said : List ℕ) → Result RunEnd RunFault → Type 0
DecodesCache decoded written_before written_after said (Ok ended) = Appends written_before written_after decoded.lines × (said ≡ decoded.said) × (ended ≡ decoded.end)
DecodesCache decoded written_before written_after said (Err failed) = AppendsPrefix written_before written_after decoded.lines
