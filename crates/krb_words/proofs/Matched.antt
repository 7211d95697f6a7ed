-- What `clap` says of the command, and of what it found.
use Rattle.std.proofs.Common.{◌≡◌, ℕ, inl, inr, true, false, List, [], ◌∷◌, Option, Some, None, Result, Ok, refl, sym, ◌∙◌, ap, ap₂, subst}
use Rattle.clap.specs.Words.{App, AddsSubcommand, HasKind, HasMatchesOf, IsAmong, Kinds, Text, TriesOne, app_of, fault_of, is_simple_and_free, kind_of, subcommand_of, subcommand_rows_of, with_subcommand}
use Rattle.clap.specs.declared.builder.command.Command.{Command as ClapCommand}
use Rattle.clap.specs.declared.builder.command.Command.TheViews.{out-Command}
use Rattle.clap.specs.Simple.{is_simple}
use Rattle.clap.specs.declared.error.Error.{Error}
use Rattle.clap.specs.declared.error.kind.ErrorKind.{ErrorKind}
use Rattle.clap.specs.declared.error.kind.ErrorKind.TheVariants.{OutOfMemory}
use Rattle.clap.specs.declared.parser.matches.ArgMatches.{ArgMatches}
use Rattle.krb_words.specs.Times.{Spells}
use Rattle.krb_words.specs.Words.{IsNumber, IsTextBy, IsCommandLineOf, IsCommandLineBy, IsCommandLineFor, krbls}
use Rattle.krb_words.specs.declared.words.Command.{Command}
use Rattle.krb_words.specs.declared.words.Command.TheVariants as commands
use Rattle.krb_words.specs.declared.words.CommandLine.{CommandLine}

pub subcommand_added : (old sub new : ClapCommand) (above below : App) → AddsSubcommand old sub new → app_of old ≡ above → app_of sub ≡ below → (out-Command sub).has_globals ≡ false → app_of new ≡ with_subcommand above below.top
subcommand_added old sub new above below adds e f local = adds.shape local ∙ ap₂ with_subcommand e (ap (λ (a : App). a.top) f)

-- what a getter of a type returns of a text, or of none
pub number_found : (E : Type 0) (gives : Text → Result ℕ E → Type 0) (text : Option Text) (number : Option ℕ) → ((t : Text) (n : ℕ) → gives t (Ok n) → Spells t n) → (text ≡ None → number ≡ None) → ((t : Text) → text ≡ Some t → TriesOne gives t (Ok number)) → IsNumber text number
number_found E gives None number spells none value = none refl
number_found E gives (Some t) None spells none value = value t refl
number_found E gives (Some t) (Some n) spells none value = spells t n (value t refl)

-- ---- what is wrong with words
pub krbls-simple : is_simple krbls ≡ true
krbls-simple = refl

pub krbls-free : is_simple_and_free krbls ≡ true
krbls-free = refl

by_nothing : (kinds : Kinds) (words : List Text) (command_line : CommandLine) → kinds ≡ [] → IsCommandLineOf (subcommand_of krbls words) command_line → IsCommandLineBy kinds words command_line
by_nothing [] words command_line e o = o
by_nothing (first ∷ kinds) words command_line e o = absurd cc

by_text : (kinds : Kinds) (words : List Text) (command_line : CommandLine) (kind : ErrorKind) → IsAmong kind kinds → IsTextBy kind command_line.command → command_line.sources.items ≡ [] → IsCommandLineBy kinds words command_line
by_text [] words command_line kind a h f = absurd a
by_text (first ∷ kinds) words command_line kind a h f = (kind, a, h, f)

-- the command line that the matches of words name
pub IsCommandLineFor-matches : (app : App) (texts : List Text) (m : ArgMatches) (command_line : CommandLine) → app ≡ krbls → (is_simple_and_free app ≡ true → fault_of app texts ≡ []) → HasMatchesOf app texts m → IsCommandLineOf (subcommand_rows_of m) command_line → IsCommandLineFor texts command_line
IsCommandLineFor-matches app texts m command_line e nothing has o =
    let free : is_simple_and_free app ≡ true = ap is_simple_and_free e ∙ krbls-free in
    let simple : is_simple app ≡ true = ap is_simple e ∙ krbls-simple in
    by_nothing (fault_of krbls texts) texts command_line
    (ap (λ a. fault_of a texts) (sym e) ∙ nothing free)
    (subst (λ met. IsCommandLineOf met command_line) ((has simple).1 ∙ ap (λ a. subcommand_of a texts) e) o)

no_text : (command : Command) → IsTextBy OutOfMemory command → ⊥
no_text (commands.Help help) text = cc
no_text (commands.Version version) text = cc
no_text other text = text

among : (kinds : Kinds) (error : Error) (command : Command) → HasKind kinds error → IsTextBy (kind_of error) command → IsAmong (kind_of error) kinds
among kinds error command (inl m) text = absurd (no_text command (subst (λ k. IsTextBy k command) m text))
among kinds error command (inr a) text = a

-- a text, which the words ask for
pub IsCommandLineFor-text : (app : App) (texts : List Text) (error : Error) (command_line : CommandLine) → app ≡ krbls → (is_simple_and_free app ≡ true → HasKind (fault_of app texts) error) → IsTextBy (kind_of error) command_line.command → command_line.sources.items ≡ [] → IsCommandLineFor texts command_line
IsCommandLineFor-text app texts error command_line e fails h f =
    let free : is_simple_and_free app ≡ true = ap is_simple_and_free e ∙ krbls-free in
    by_text (fault_of krbls texts) texts command_line (kind_of error)
    (subst (λ a. IsAmong (kind_of error) (fault_of a texts)) e (among (fault_of app texts) error command_line.command (fails free) h)) h f
