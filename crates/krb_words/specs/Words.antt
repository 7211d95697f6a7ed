-- The command line, by `clap`'s own definitions: the options and words of each command, and the command line of the matches of words.
use Rattle.std.specs.Prelude.{ℕ, pos, ◌≡◌, ◌≢◌, ◌≤◌, ◌⊎◌, Bool, true, false, List, [], ◌∷◌, Option, Some, None, codes, map, string_bytes}
use Rattle.std.specs.Option.{option_map}
use Rattle.clap.specs.Words.{App, IsAmong, Kinds, Row, Rule, Text, fault_of, first_of, one_of, new_app, new_rule, subcommand_of, with_rule, with_subcommand}
use Rattle.clap.specs.Simple.{on_top}
use Rattle.clap.specs.declared.builder.action.ArgAction.TheVariants.{Set, SetTrue}
use Rattle.clap.specs.declared.builder.value_parser.ValueParser.TheVariants as parser
use Rattle.clap.specs.Lexer.{usize_max}
use Rattle.clap.specs.declared.builder.value_parser.ValueParser.{ValueParser}
use Rattle.clap.specs.declared.error.kind.ErrorKind.{ErrorKind}
use Rattle.clap.specs.declared.error.kind.ErrorKind.TheVariants.{DisplayHelp, DisplayVersion}
use Rattle.krb_der.specs.declared.profile.Profile.{Profile}
use Rattle.krb_der.specs.declared.profile.Profile.TheVariants as profile
use Rattle.krb_record.specs.declared.form.Form.{Form}
use Rattle.krb_record.specs.declared.form.Form.TheVariants as form
use Rattle.krb_words.specs.declared.words.AfterRefusal.{AfterRefusal}
use Rattle.krb_words.specs.declared.words.AfterRefusal.TheVariants as after
use Rattle.krb_words.specs.declared.words.Inputs.{Inputs}
use Rattle.krb_words.specs.declared.words.Inputs.TheVariants as inputs
use Rattle.krb_words.specs.declared.words.Naming.{Naming}
use Rattle.krb_words.specs.declared.words.Packets.{Packets}
use Rattle.krb_words.specs.declared.words.Naming.TheVariants as naming
use Rattle.krb_words.specs.declared.words.Framing.{Framing}
use Rattle.krb_words.specs.declared.words.Framing.TheVariants as framing
use Rattle.krb_words.specs.declared.words.Command.{Command}
use Rattle.krb_words.specs.declared.words.Command.TheVariants as commands
use Rattle.krb_words.specs.declared.words.CommandLine.{CommandLine}
use Rattle.krb_words.specs.declared.words.WordsFault.{WordsFault}
use Rattle.krb_words.specs.declared.words.WordsFault.TheVariants as fault
use Rattle.krb_record.specs.FileNames.{name_text}
use Rattle.krb_words.specs.Names.{as_command}
use Rattle.krb_choice.specs.Choices.{Choice}
use Rattle.krb_choice.specs.Wanted.{choice_form}
use Rattle.krb_words.specs.Chosen.{IsChoiceFault, IsChosen, IsErrorOf, Options, listings_of}
use Rattle.krb_words.specs.Sources.{place_of, sources_of}
use Rattle.krb_words.specs.Times.{Spells, IsNoWhen, IsWhenIf}

-- ---- the command
-- an option with one value, for which help has a name
abbrev pub option : Text → Rule
option name = record (new_rule name) { long = Some name; action = Some Set; value_names = 1 }

-- an option whose value is a number that a parser accepts
abbrev pub number_option : Text → ValueParser → Rule
number_option name taken = record (option name) { parser = Some taken }

-- a length of a frame, a number of 32 bits, a port, and the number of a packet
abbrev pub limit_option : Rule
limit_option = number_option (codes "limit") (parser.Signed (pos 1) (pos 2147483647))

abbrev pub now_option : Rule
now_option = option (codes "now")

abbrev pub port_option : Rule
port_option = number_option (codes "port") (parser.Signed (pos 1) (pos 65535))

abbrev pub packet_option : Rule
packet_option = number_option (codes "packet") (parser.Signed (pos 1) (pos 4294967295))

abbrev pub file_option : Rule
file_option = option (codes "file")

-- an option with no value
abbrev pub flag : Text → Rule
flag name = record (new_rule name) { long = Some name; action = Some SetTrue }

abbrev pub lines_flag : Rule
lines_flag = flag (codes "lines")

abbrev pub strict_flag : Rule
strict_flag = flag (codes "strict")

abbrev pub keep_going_flag : Rule
keep_going_flag = flag (codes "keep-going")

abbrev pub unframed_flag : Rule
unframed_flag = flag (codes "unframed")

abbrev pub names_flag : Rule
names_flag = flag (codes "names")

abbrev pub json_flag : Rule
json_flag = flag (codes "json")

abbrev pub only_option : Rule
only_option = option (codes "only")

abbrev pub fields_option : Rule
fields_option = option (codes "fields")

abbrev pub header_flag : Rule
header_flag = flag (codes "header")

-- `-H`, too
abbrev pub with_filename_flag : Rule
with_filename_flag = record (flag (codes "with-filename")) { short = Some 0x48 }

-- any number of words, for which help has a name
abbrev pub file_names : Rule
file_names = record (new_rule (codes "file names")) { range = Some (record { start_inclusive = 0; end_inclusive = usize_max }); value_names = 1 }

-- the options that choose which records are printed, and how; of items all are
abbrev pub with_forms : App → App
with_forms app = with_rule (with_rule app names_flag) json_flag

abbrev pub with_output : App → App
with_output app = with_rule (with_rule (with_rule (with_rule (with_forms app) only_option) fields_option) header_flag) with_filename_flag

-- the words and the option that name what is read
abbrev pub with_files : App → App
with_files app = with_rule (with_rule app file_option) file_names

-- the options of a command that turns messages into another form
abbrev pub with_messages : App → App
with_messages app = with_rule (with_rule (with_rule app limit_option) strict_flag) unframed_flag

abbrev pub list_app : App
list_app = with_files (with_output (with_rule (new_app (codes "list")) now_option))

abbrev pub stream_app : App
stream_app = with_files (with_output (with_rule (with_rule (with_rule (new_app (codes "stream")) limit_option) keep_going_flag) strict_flag))

abbrev pub message_app : App
message_app = with_files (with_output (with_rule (with_rule (new_app (codes "message")) lines_flag) strict_flag))

abbrev pub items_app : App
items_app = with_files (with_rule (with_forms (with_rule (new_app (codes "items")) strict_flag)) with_filename_flag)

abbrev pub keytab_app : App
keytab_app = with_files (with_output (new_app (codes "keytab")))

abbrev pub ccache_app : App
ccache_app = with_files (with_output (with_rule (new_app (codes "ccache")) now_option))

abbrev pub capture_app : App
capture_app = with_files (with_output (with_rule (with_rule (with_rule (new_app (codes "capture")) limit_option) port_option) strict_flag))

abbrev pub decode_app : App
decode_app = with_files (with_rule (with_rule (with_rule (with_messages (new_app (codes "decode"))) keep_going_flag) port_option) packet_option)

abbrev pub encode_app : App
encode_app = with_files (with_messages (new_app (codes "encode")))

-- the words have no program's name before them, `help` is no command, one is wanted, and `--version` is known
abbrev pub krbls_top : App
krbls_top = on_top (λ s. record s { no_binary_name = true; disable_help_subcommand = true; subcommand_required = true; has_version = true }) (new_app (codes "krbls"))

abbrev pub krbls : App
krbls = with_subcommand (with_subcommand (with_subcommand (with_subcommand (with_subcommand (with_subcommand (with_subcommand (with_subcommand (with_subcommand krbls_top list_app.top) stream_app.top) message_app.top) items_app.top) keytab_app.top) ccache_app.top) capture_app.top) decode_app.top) encode_app.top

-- ---- the command line
-- the number that a text is, or the default if there is no text
abbrev pub IsNumberOr : ℕ → Option Text → ℕ → Type 0
IsNumberOr none None number = number ≡ none
IsNumberOr none (Some text) number = Spells text number

abbrev pub IsNumber : Option Text → Option ℕ → Type 0
IsNumber None number = number ≡ None
IsNumber (Some text) None = ⊥
IsNumber (Some text) (Some number) = Spells text number

-- the profile by a flag, whose value is `true` if it is given
abbrev pub IsProfile : Option Text → Profile → Type 0
IsProfile text profile.Lenient = text ≢ Some (codes "true")
IsProfile text profile.Strict = text ≡ Some (codes "true")

-- what is done after a refusal, by a flag
abbrev pub IsAfter : Option Text → AfterRefusal → Type 0
IsAfter text after.Ends = text ≢ Some (codes "true")
IsAfter text after.GoesOn = text ≡ Some (codes "true")

-- how messages lie in a source, by a flag
abbrev pub IsFraming : Option Text → Framing → Type 0
IsFraming text framing.Framed = text ≢ Some (codes "true")
IsFraming text framing.Unframed = text ≡ Some (codes "true")

-- what an input of messages is, by a flag
abbrev pub IsInputs : Option Text → Inputs → Type 0
IsInputs text inputs.Whole = text ≢ Some (codes "true")
IsInputs text inputs.EachLine = text ≡ Some (codes "true")

-- which records name their file, by a flag
abbrev pub IsNaming : Option Text → Naming → Type 0
IsNaming text naming.Before = text ≢ Some (codes "true")
IsNaming text naming.Each = text ≡ Some (codes "true")

-- whether a flag is given
abbrev pub IsGiven : Option Text → Bool → Type 0
IsGiven text true = text ≡ Some (codes "true")
IsGiven text false = text ≢ Some (codes "true")

-- the form of records, by two flags: JSON has names in any case
abbrev pub IsForm : List Row → Form → Type 0
IsForm rows form.Json = IsGiven (first_of (codes "json") rows) true
IsForm rows form.NamedLines = IsGiven (first_of (codes "json") rows) false × IsGiven (first_of (codes "names") rows) true
IsForm rows form.Lines = IsGiven (first_of (codes "json") rows) false × IsGiven (first_of (codes "names") rows) false
IsForm rows other = ⊥

-- a fact of the options of a command that choose, by the form that is asked for and which records name their file
pub record Chooses (command : Text) (rows : List Row) (listed : Form) (named : Naming) (Fact : Options → Type 0) : Type 0 where
  pub has_header : Bool
  pub given : IsGiven (first_of (codes "header") rows) has_header
  pub fact : Fact (record { listings = listings_of command; only = first_of (codes "only") rows; fields = first_of (codes "fields") rows; has_header = has_header; form = listed; naming = named })

-- a choice has a form in which records are listed for it
abbrev pub form_chosen : Option Choice → Form → Form
form_chosen None listed = listed
form_chosen (Some choice) listed = choice_form choice

-- What is chosen, and the form of records by that.
pub record ChoosesBy (command : Text) (rows : List Row) (command_line : CommandLine) : Type 0 where
  pub listed : Form
  pub is_form : IsForm rows listed
  pub chosen : Chooses command rows listed command_line.naming (λ options. IsChosen options command_line.choice (option_map string_bytes command_line.header))
  pub form : command_line.form ≡ form_chosen command_line.choice listed

-- the options choose nothing, as a text says
pub record ChoosesNothing (command : Text) (rows : List Row) (text : Text) : Type 0 where
  pub listed : Form
  pub named : Naming
  pub is_form : IsForm rows listed
  pub is_naming : IsNaming (first_of (codes "with-filename") rows) named
  pub says : IsErrorOf (λ said. Chooses command rows listed named (λ options. IsChoiceFault options said)) text

-- a command has no source
abbrev pub LacksFile : Text → List Row → Type 0
LacksFile command rows = sources_of command rows ≡ []

-- what is read of a capture: the port of Kerberos, and the number of a packet, if there is one
abbrev pub ArePackets : List Row → Packets → Type 0
ArePackets rows packets = IsNumberOr 88 (one_of (codes "port") rows) packets.port × IsNumber (one_of (codes "packet") rows) packets.number

-- a command by its name and its options
abbrev pub IsCommand : Text → List Row → Command → Type 0
IsCommand name rows (commands.List when) = (name ≡ codes "list") × IsWhenIf (first_of (codes "now") rows) when
IsCommand name rows (commands.Stream limit chosen refused) = (name ≡ codes "stream") × IsNumberOr 16777216 (one_of (codes "limit") rows) limit × IsProfile (first_of (codes "strict") rows) chosen × IsAfter (first_of (codes "keep-going") rows) refused
IsCommand name rows (commands.Message chosen each) = (name ≡ codes "message") × IsProfile (first_of (codes "strict") rows) chosen × IsInputs (first_of (codes "lines") rows) each
IsCommand name rows (commands.Items chosen) = (name ≡ codes "items") × IsProfile (first_of (codes "strict") rows) chosen
IsCommand name rows commands.Keytab = name ≡ codes "keytab"
IsCommand name rows (commands.Ccache when) = (name ≡ codes "ccache") × IsWhenIf (first_of (codes "now") rows) when
IsCommand name rows (commands.Capture limit chosen port) = (name ≡ codes "capture") × IsNumberOr 16777216 (one_of (codes "limit") rows) limit × IsProfile (first_of (codes "strict") rows) chosen × IsNumberOr 88 (one_of (codes "port") rows) port
IsCommand name rows (commands.Decode limit chosen framed refused packets) = (name ≡ codes "decode") × IsNumberOr 16777216 (one_of (codes "limit") rows) limit × IsProfile (first_of (codes "strict") rows) chosen × IsFraming (first_of (codes "unframed") rows) framed × IsAfter (first_of (codes "keep-going") rows) refused × ArePackets rows packets
IsCommand name rows (commands.Encode limit chosen framed) = (name ≡ codes "encode") × IsNumberOr 16777216 (one_of (codes "limit") rows) limit × IsProfile (first_of (codes "strict") rows) chosen × IsFraming (first_of (codes "unframed") rows) framed
IsCommand name rows (commands.Help text) = ⊥
IsCommand name rows (commands.Version text) = ⊥

-- The command line has the command that was found, what is chosen and the form of records, which of them name their file, and the sources, of which there is one at least.
abbrev pub IsCommandLineOf : Option (Text × List Row) → CommandLine → Type 0
IsCommandLineOf None command_line = ⊥
IsCommandLineOf (Some met) command_line =
    IsCommand met.0 met.1 command_line.command × ChoosesBy met.0 met.1 command_line × IsNaming (first_of (codes "with-filename") met.1) command_line.naming
    × (map place_of command_line.sources.items ≡ sources_of met.0 met.1) × (LacksFile met.0 met.1 → ⊥)

-- the command is to print the text of an error of `clap`
abbrev pub IsTextBy : ErrorKind → Command → Type 0
IsTextBy kind (commands.Help text) = kind ≡ DisplayHelp
IsTextBy kind (commands.Version text) = kind ≡ DisplayVersion
IsTextBy kind command = ⊥

-- The command line by the kinds of error that `clap` may return for the words: that of their matches if there is none, or else the text of an error of one of them, and no source.
abbrev pub IsCommandLineBy : Kinds → List Text → CommandLine → Type 0
IsCommandLineBy [] words command_line = IsCommandLineOf (subcommand_of krbls words) command_line
IsCommandLineBy (first ∷ kinds) words command_line = (kind : ErrorKind) × IsAmong kind (first ∷ kinds) × IsTextBy kind command_line.command × (command_line.sources.items ≡ [])

abbrev pub IsCommandLineFor : List Text → CommandLine → Type 0
IsCommandLineFor texts command_line = IsCommandLineBy (fault_of krbls texts) texts command_line

-- what `clap` reads in place of words: those of a command, each as the names of files are shown
abbrev pub texts_of : List (List ℕ) → List Text
texts_of words = map name_text (as_command words)

abbrev pub IsCommandLineIn : List (List ℕ) → CommandLine → Type 0
IsCommandLineIn words command_line = IsCommandLineFor (texts_of words) command_line

-- ---- words that are no command line
-- a text that is no number from the least to the greatest one
abbrev pub IsNoNumber : (least greatest : ℕ) → Option Text → Type 0
IsNoNumber least greatest None = ⊥
IsNoNumber least greatest (Some text) = (number : ℕ) → Spells text number → least ≤ number → number ≤ greatest → ⊥

-- the port or the packet of a capture is no number of its range
abbrev pub AreNoPackets : List Row → Type 0
AreNoPackets rows = IsNoNumber 1 65535 (one_of (codes "port") rows) ⊎ IsNoNumber 1 4294967295 (one_of (codes "packet") rows)

-- an option with a value that is no number of its range, or no time, options that choose nothing, of which the text says why, or a command without a source
abbrev pub IsUnfit : Text → List Row → Text → Type 0
IsUnfit command rows text =
    IsNoNumber 1 2147483647 (one_of (codes "limit") rows) ⊎ (IsNoWhen (first_of (codes "now") rows)
    ⊎ (AreNoPackets rows ⊎ (ChoosesNothing command rows text ⊎ LacksFile command rows)))

abbrev pub FindsUnfit : Option (Text × List Row) → Text → Type 0
FindsUnfit None text = ⊥
FindsUnfit (Some met) text = IsUnfit met.0 met.1 text

-- the words ask for a text to be printed
abbrev pub IsRequest : ErrorKind → Type 0
IsRequest kind = (kind ≡ DisplayHelp) ⊎ (kind ≡ DisplayVersion)

-- By the kinds of error that `clap` may return for the words: one of them is no request, or if there is none, the command that was found is unfit.
abbrev pub IsWrongBy : Kinds → List Text → Text → Type 0
IsWrongBy [] words text = FindsUnfit (subcommand_of krbls words) text
IsWrongBy (first ∷ kinds) words text = (kind : ErrorKind) × IsAmong kind (first ∷ kinds) × (IsRequest kind → ⊥)

-- what is wrong with words, unless memory ran out
abbrev pub IsFaultFor : List Text → WordsFault → Type 0
IsFaultFor texts (fault.Wrong text) = IsWrongBy (fault_of krbls texts) texts (string_bytes text)
IsFaultFor texts fault.Memory = Unit {0}

abbrev pub IsFaultIn : List (List ℕ) → WordsFault → Type 0
IsFaultIn words fault = IsFaultFor (texts_of words) fault
