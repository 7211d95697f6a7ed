-- What stands in braces, as in an array of C.
use Rattle.std.specs.Prelude.{ℕ, suc, ◌+◌, ◌==◌, true, false, List, [], ◌∷◌, length, take, drop, Option, Some, None, Ok, Err}
use Rattle.krb_der.specs.Octets.{when}
use Rattle.krb_input.specs.Characters.{length_before}
use Rattle.krb_input.specs.Readings.{Reading}
use Rattle.krb_input.specs.Escapes.{has_escape, escapes}
use Rattle.krb_input.specs.Tokens.{tokens}
use Rattle.krb_input.specs.Comments.{blanked, unclosed}
use Rattle.krb_input.specs.declared.text.Comments.TheVariants.{Outside}

-- what follows the first of an octet, if it is there
abbrev pub after_first : ℕ → List ℕ → Option (List ℕ)
after_first octet [] = None
after_first octet (first ∷ text) = when (first == octet) (λ _. Some text) (λ _. after_first octet text)

-- a text of escapes, if it has one, or else of tokens
abbrev pub escapes_or_tokens : List ℕ → Reading
escapes_or_tokens text = when (has_escape text) (λ _. escapes text) (λ _. tokens true text)

-- a block, in which comments are blanks
abbrev pub block : List ℕ → Reading
block octets = escapes_or_tokens (blanked Outside octets)

-- what is read of a text that others follow
abbrev pub before : (following : ℕ) → Reading → Reading
before following (Ok octets) = Ok octets
before following (Err left) = Err (left + following)

-- a block that no `}` ends: a comment in it that does not end is at fault, or else the `}` is missing at the end
abbrev pub unended : (comment : Option ℕ) → Reading
unended None = Err 0
unended (Some left) = Err left

-- what is before a `}`, and the text from there on, if there is one
abbrev pub to_brace : (comment : Option ℕ) → (inside following : List ℕ) → Reading
to_brace comment inside [] = unended comment
to_brace comment inside (brace ∷ following) = before (suc (length following)) (block inside)

-- how many octets come before the first `}` that stands in no comment, or in all
abbrev pub block_length : List ℕ → ℕ
block_length text = length_before 0x7D (blanked Outside text)

-- What is before the next `}` that stands in no comment. The text is what follows the first `{`.
abbrev pub braces : List ℕ → Reading
braces text = to_brace (unclosed text) (take (block_length text) text) (drop (block_length text) text)
