-- The laws of inputs.
use Rattle.std.specs.Prelude.{ℕ, ◌≡◌, not, List, Ok}
use Rattle.std.specs.List.{filter}
use Rattle.hex.specs.Hex.{decode_of}
use Rattle.krb_input.specs.Characters.{is_blank}
use Rattle.krb_input.specs.Inputs.{line_spelled}
use Rattle.krb_source.specs.declared.spelling.Spelling.TheVariants as form

-- a text without its blanks
abbrev pub without_blanks : List ℕ → List ℕ
without_blanks text = filter (λ octet. not (is_blank octet)) text

-- A line that is hexadecimal, with blanks anywhere, spells the octets that are decoded of it.
abbrev pub DecodedLinesAreSpelled : Type 0
DecodedLinesAreSpelled = (line octets : List ℕ) → decode_of (without_blanks line) ≡ Ok octets → line_spelled line ≡ Ok (form.Hex, octets)
