-- What is wrong with a JSON value that spells no value of the grammar: where, and what.
use Rattle.std.specs.Prelude.{ℕ, ℤ, List, ◌++◌, codes, if◌then◌else◌, int_le, decimal, Result, Ok, Err}
use Rattle.std.specs.Fmt.{signed_decimal}
use Rattle.krb_json.specs.declared.wrong.Wrong.{Wrong}
use Rattle.krb_json.specs.declared.wrong.Wrong.TheVariants.{NotAnObject, NoSuchField, Twice, Missing, NotAnArray, Empty, NotANumber, NotAnInteger, Outside, NotAString, NotHexadecimal, NotATime, Backslash, HighOctet, BitPastLength, FewerBits, Longer}

-- a number, or two
abbrev pub range_text : ℤ → ℤ → List ℕ
range_text low high = if int_le high low then signed_decimal low else signed_decimal low ++ codes " to " ++ signed_decimal high

abbrev pub wrong_text : Wrong → List ℕ
wrong_text NotAnObject = codes "not an object"
wrong_text NoSuchField = codes "no such field"
wrong_text Twice = codes "twice"
wrong_text Missing = codes "missing"
wrong_text NotAnArray = codes "not an array"
wrong_text Empty = codes "empty"
wrong_text NotANumber = codes "not a number"
wrong_text NotAnInteger = codes "not an integer"
wrong_text (Outside low high) = codes "not " ++ range_text low high
wrong_text NotAString = codes "not a string"
wrong_text NotHexadecimal = codes "not hexadecimal"
wrong_text NotATime = codes "not a time"
wrong_text Backslash = codes "\\ without x and two hexadecimal digits"
wrong_text HighOctet = codes "an octet above 7f"
wrong_text BitPastLength = codes "a bit past the length is set"
wrong_text (FewerBits least) = codes "fewer than " ++ decimal least ++ codes " bits"
wrong_text (Longer limit) = codes "longer than " ++ decimal limit ++ codes " octets"

-- the path of the value at fault, made as that of a refusal, and what is wrong with it
pub record Fault : Type 0 where
  pub path : List ℕ
  pub wrong : Wrong

abbrev pub fault : {A : Type 0} → List ℕ → Wrong → Result A Fault
fault path wrong = Err (record { path = path; wrong = wrong })

-- the second step, if there is no fault in the first
infixl 10 ◌>>=◌
abbrev pub ◌>>=◌ : {A B : Type 0} → Result A Fault → (A → Result B Fault) → Result B Fault
Ok value >>= next = next value
Err found >>= next = Err found
