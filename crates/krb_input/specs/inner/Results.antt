-- What functions give, in the terms of the definitions.
use Rattle.std.specs.Prelude.{ℕ, suc, ◌<◌, ◌≡◌, ⊤, Bool, true, false, List, [], ◌∷◌, ◌++◌, length, Option, Some, None, Result, Ok, Err}
use Rattle.std.specs.Borrow.{Bor}
use Rattle.krb_input.specs.Readings.{Reading, prepend}
use Rattle.krb_input.specs.Comments.{text_left}
use Rattle.krb_input.specs.Digits.{digits, digits_after}
use Rattle.krb_input.specs.Escapes.{escapes, after_backslash}
use Rattle.krb_input.specs.Tokens.{tokens, token}
use Rattle.krb_input.specs.Dumps.{Line, groups, lines, pairs}
use Rattle.krb_input.specs.Inputs.{Spells, IsFaultOf}
use Rattle.std.specs.Global.{Vec}
use Rattle.krb_input.specs.declared.spelled.Spelled.{Spelled}
use Rattle.krb_input.specs.declared.spelled.InputFault.{InputFault}
use Rattle.krb_input.specs.declared.text.Text.{Text}
use Rattle.krb_input.specs.declared.base64.Bits.{Bits}
use Rattle.krb_input.specs.declared.base64.Bits.TheVariants.{Whole, Six, Four, Two}
use Rattle.krb_input.specs.declared.text_fault.TextFault.{TextFault}
use Rattle.krb_input.specs.declared.text_fault.TextFault.TheVariants.{Left, Memory}

-- a fault is that of a reading; nothing is said if there is not enough memory
abbrev pub IsFault : Reading → TextFault → Type 0
IsFault reading (Left left) = reading ≡ Err left
IsFault reading Memory = ⊤

-- the first octet of a text, and what is left after it
abbrev pub IsFirst : List ℕ → Option (ℕ × Text) → Type 0
IsFirst text None = text ≡ []
IsFirst text (Some first) = text ≡ first.0 ∷ text_left first.1

-- a part of a text, or none
abbrev pub IsPart : Option (List ℕ) → Option (Bor (List ℕ)) → Type 0
IsPart part None = part ≡ None
IsPart part (Some found) = part ≡ Some found.now

-- an octet, if there is one, and then those of what follows
abbrev pub prepend_one : Option ℕ → Reading → Reading
prepend_one None following = following
prepend_one (Some octet) following = prepend (octet ∷ []) following

-- what follows a `\\`, and what is left after it
abbrev pub IsEscape : List ℕ → Option (Option ℕ × Text) → Type 0
IsEscape text None = (left : ℕ) → after_backslash left text ≡ Err left
IsEscape text (Some found) = (left : ℕ) → after_backslash left text ≡ prepend_one found.0 (escapes (text_left found.1))

-- the next octet of a token, and what is left after it
abbrev pub IsNext : Bool → ℕ → List ℕ → Option (Option ℕ × Text) → Type 0
IsNext begins first text None = token begins first text ≡ Err (suc (length text))
IsNext begins first text (Some found) = token begins first text ≡ prepend_one found.0 (tokens false (text_left found.1))

-- bits are so many
abbrev pub AreBits : Bits → Type 0
AreBits Whole = ⊤
AreBits (Six bits) = bits < 64
AreBits (Four bits) = bits < 16
AreBits (Two bits) = bits < 4

-- two digits and what follows them, which are not there, or are no digits
abbrev pub IsPair : List ℕ → Option (ℕ × Bor (List ℕ)) → Type 0
IsPair text None = (are_words : Bool) (high : ℕ) (others : List ℕ) → text ≡ high ∷ others → pairs are_words high others ≡ Err (length text)
IsPair text (Some found) = (are_words : Bool) (high : ℕ) (others : List ℕ) → text ≡ high ∷ others → pairs are_words high others ≡ prepend (found.0 ∷ []) (groups are_words 0 found.1.now)

-- what is read was appended to octets, or the fault is that of the reading
abbrev pub Appends : Reading → (old new : List ℕ) → Result (Unit {0}) TextFault → Type 0
Appends reading old new (Ok done) = prepend old reading ≡ Ok new
Appends reading old new (Err fault) = IsFault reading fault

-- what a line has, after octets
abbrev pub line_after : List ℕ → Line → Line
line_after old (Ok (Some octets)) = Ok (Some (old ++ octets))
line_after old (Ok None) = Ok None
line_after old (Err left) = Err left

-- a fault is that of a line
abbrev pub IsLineFault : Line → TextFault → Type 0
IsLineFault line (Left left) = line ≡ Err left
IsLineFault line Memory = ⊤

-- a line's octets were appended, or it is an offset alone, or the fault is the line's
abbrev pub AppendsLine : Line → (old new : List ℕ) → Result Bool TextFault → Type 0
AppendsLine line old new (Ok false) = line_after old line ≡ Ok (Some new)
AppendsLine line old new (Ok true) = (line ≡ Ok None) × (new ≡ old)
AppendsLine line old new (Err fault) = IsLineFault line fault

-- digits that go on after a first one, or after a pair
abbrev pub digits_on : Option ℕ → List ℕ → Reading
digits_on None text = digits text
digits_on (Some high) text = digits_after high text

-- the lines of a text, if there is one
abbrev pub lines_of : Option (Bor (List ℕ)) → List (List ℕ × List ℕ)
lines_of None = []
lines_of (Some text) = lines text.now

-- how much there is of it
abbrev pub size_of : Option (Bor (List ℕ)) → ℕ
size_of None = 0
size_of (Some text) = suc (length text.now)

-- the lines of a text from a line's end on
abbrev pub lines_after : List ℕ → List (List ℕ × List ℕ)
lines_after [] = []
lines_after (octet ∷ text) = lines text

-- what an input spells, or its fault
abbrev pub IsSpelled : Spells → Result Spelled InputFault → Type 0
IsSpelled spells (Ok made) = spells ≡ Ok (made.form, made.octets.items)
IsSpelled spells (Err fault) = IsFaultOf spells fault

-- a reading is that of a result, but for memory
abbrev pub Reads : Reading → Result (Vec ℕ) TextFault → Type 0
Reads reading (Ok octets) = reading ≡ Ok octets.items
Reads reading (Err fault) = IsFault reading fault
