-- Words that `clap` accepts, and that are no command line.
use Rattle.std.specs.Prelude.{◌≡◌, ◌⊎◌, List, [], ◌∷◌, Option, Some, None, codes}
use Rattle.clap.specs.Words.{Row, Text}
use Rattle.clap.specs.declared.error.kind.ErrorKind.{ErrorKind}
use Rattle.clap.specs.declared.error.kind.ErrorKind.TheVariants.{OutOfMemory}
use Rattle.krb_words.specs.Words.{IsRequest, IsUnfit}
use Rattle.krb_words.specs.declared.words.WordsFault.{WordsFault}
use Rattle.krb_words.specs.declared.words.WordsFault.TheVariants as fault

-- a fact of words that are wrong
abbrev pub IfWrong : WordsFault → Type 0 → Type 0
IfWrong (fault.Wrong text) P = P
IfWrong fault.Memory P = Unit {0}

abbrev pub IsNoneOf : List Text → Text → Type 0
IsNoneOf [] name = Unit {0}
IsNoneOf (first ∷ others) name = (name ≡ first → ⊥) × IsNoneOf others name

abbrev pub commands : List Text
commands = codes "list" ∷ codes "stream" ∷ codes "message" ∷ codes "items" ∷ codes "keytab" ∷ codes "ccache" ∷ codes "capture" ∷ codes "decode" ∷ codes "encode" ∷ []

-- the name of a command that is none of the program's, or a command that is unfit, as a text says
abbrev pub IsNoJob : Text → List Row → Text → Type 0
IsNoJob name rows text = IsNoneOf commands name ⊎ IsUnfit name rows text

abbrev pub FindsNoJob : Option (Text × List Row) → Text → Type 0
FindsNoJob None text = Unit {0}
FindsNoJob (Some met) text = IsNoJob met.0 met.1 text

-- an error that is no request, and not that memory ran out
abbrev pub IsNoText : ErrorKind → Type 0
IsNoText kind = (IsRequest kind → ⊥) × (kind ≡ OutOfMemory → ⊥)
