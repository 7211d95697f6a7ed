-- What the program does by its words: to the standard output, to the standard error, and its status.
use Rattle.std.specs.Prelude.{ℕ, ◌≡◌, ◌++◌, ◌⊎◌, ◌&&◌, max, nat_lt, All, Bool, true, false, if◌then◌else◌, List, length, map, Option, Some, None, Result, Ok, Err, IfErr, IfOk, OnErr, codes, string_bytes}
use Rattle.std.specs.Io.KnownBytes.{Appends, Keeps}
use Rattle.std.specs.List.{list_any}
use Rattle.std.specs.Option.{option_map}
use Rattle.krb_capture_run.specs.Decoded.{decoded_capture}
use Rattle.krb_choice.specs.Choices.{Choice}
use Rattle.krb_choice.specs.Wanted.{choice_form}
use Rattle.krb_choosing.specs.Listings.{chosen_listing}
use Rattle.krb_decode.specs.Hints.{hint_text as decoded_hint_text, keytab_text}
use Rattle.krb_decode.specs.Caches.{decoded_cache}
use Rattle.krb_decode.specs.Sorted.{is_any, message_lines, sorted_end, told_lines}
use Rattle.krb_decode.specs.Streams.{DecodesStream, FailsToDecodeStream}
use Rattle.krb_decode.specs.Runs.{DecodesCache, DecodesInput, FailsToDecodeInput}
use Rattle.krb_decode.specs.declared.input.InputEnd.{InputEnd}
use Rattle.krb_der.specs.declared.profile.Profile.{Profile}
use Rattle.krb_input.specs.Hints.{hint_for, hint_text}
use Rattle.krb_input.specs.Sources.{command_for}
use Rattle.krb_input.specs.declared.hint.Hint.{Hint}
use Rattle.krb_input.specs.declared.source_kind.SourceKind.{SourceKind}
use Rattle.krb_input.specs.declared.source_kind.SourceKind.TheVariants as kind
use Rattle.krb_record.specs.Files.{file_line}
use Rattle.krb_record.specs.Labels.{Label}
use Rattle.krb_record.specs.Text.{line_feed}
use Rattle.krb_record.specs.declared.form.Form.{Form}
use Rattle.krb_record.specs.declared.form.Form.TheVariants as forms
use Rattle.krb_run.specs.Faults.{IsWrite}
use Rattle.krb_run.specs.Records.{ListsRecords}
use Rattle.krb_run.specs.Begun.{IsEnough}
use Rattle.krb_run.specs.Sources.{FailsLine, ListsAfterLine, ListsEach, ListsOne, Named, Outcome, Reports, Run, RunOver, names_of, unnamed}
use Rattle.krb_run.specs.declared.naming.Naming.{Naming as Labels}
use Rattle.krb_run.specs.declared.naming.Naming.TheVariants as labels
use Rattle.krb_run.specs.declared.begun.Then.{Then}
use Rattle.krb_run.specs.declared.begun.Then.TheVariants.{End}
use Rattle.krb_run.specs.declared.run.RunEnd.{RunEnd}
use Rattle.krb_run.specs.declared.run.RunEnd.TheVariants as run
use Rattle.krb_run.specs.declared.run.RunFault.{RunFault}
use Rattle.krb_run.specs.declared.run.RunFault.TheVariants as fault
use Rattle.krb_words.specs.Shell.{shell_word}
use Rattle.krb_words.specs.Sources.{place_of}
use Rattle.krb_words.specs.Tasks.{is_conversion, name_used, octets_awaited, said_unopened, text_of, when_of, writes_messages}
use Rattle.krb_words.specs.Words.{IsFaultIn, IsCommandLineIn}
use Rattle.krb_words.specs.declared.sources.Source.{Source}
use Rattle.krb_words.specs.declared.sources.Source.TheVariants as source
use Rattle.krb_words.specs.declared.when.When.{When}
use Rattle.krb_words.specs.declared.when.When.TheVariants as when
use Rattle.krb_words.specs.declared.words.Command.{Command}
use Rattle.krb_words.specs.declared.words.Command.TheVariants as commands
use Rattle.krb_words.specs.declared.words.AfterRefusal.{AfterRefusal}
use Rattle.krb_words.specs.declared.words.AfterRefusal.TheVariants as after
use Rattle.krb_words.specs.declared.words.Naming.{Naming}
use Rattle.krb_words.specs.declared.words.Naming.TheVariants as naming
use Rattle.krb_words.specs.declared.words.CommandLine.{CommandLine}
use Rattle.krb_words.specs.declared.words.WordsFault.{WordsFault}
use Rattle.krb_words.specs.declared.words.WordsFault.TheVariants as words_fault
use Rattle.krb_host.specs.Around.{Around}
use Rattle.krb_host.specs.Expanded.{Expands}
use Rattle.krbls.specs.declared.decoding.Decoding.{Decoding}
use Rattle.krbls.specs.Commands.{DoesWith, ListsTo, TellsSaid, chosen, decoding_of, hint_by}

-- the name of a source, as it was given
abbrev pub name_of : Source → List ℕ
name_of source.Input = codes "-"
name_of (source.File file) = file.name.items
name_of (source.Directory directory) = directory.name.items

-- ---- times
-- it is a number of seconds, or what the clock says
abbrev pub IsTime : Around → Option When → Option ℕ → Type 0
IsTime around None now = now ≡ None
IsTime around (Some (when.Seconds seconds)) now = now ≡ Some seconds
IsTime around (Some when.Clock) None = ⊥
IsTime around (Some when.Clock) (Some now) = around.IsNow now

-- ---- sources
-- it could not be opened, or there was no memory for its first piece
abbrev pub IsUnread : Outcome → Type 0
IsUnread (Ok ended) = ⊥
IsUnread (Err (fault.Read error)) = Unit {0}
IsUnread (Err (fault.Write error)) = ⊥
IsUnread (Err fault.Memory) = Unit {0}

-- what a hint says of a file: it gives the command as it was given, and where that decodes no other
abbrev pub text_for : Command → Hint → (file : List ℕ) → List ℕ
text_for (commands.Decode limit profile how refused packets) hint file = decoded_hint_text hint file
text_for command hint file = hint_text hint (name_used command) file

-- a hint for a source is told, if there is one, with the name as a word of a shell
abbrev pub IsHinted : Around → Source → Command → Option Hint → Type 0
IsHinted around s command None = Unit {0}
IsHinted around s command (Some hint) = around.IsHintTold s (text_for command hint (shell_word (name_of s)))

-- a hint for a source is told if its run is refused at once: the first record of its listing is that of a refusal, by `items` the last
abbrev pub Hints : Around → Source → Command → Option Hint → RunEnd → Type 0
Hints around s command hint run.Clean = Unit {0}
Hints around s command hint run.Refused = Unit {0}
Hints around s command hint run.RefusedAtOnce = IsHinted around s command hint

-- A command is done with a source that begins with some octets, and a hint is told.
pub record ListsBy (around : Around) (choice : Option Choice) (label : Label) (now : Option ℕ) (command : Command) (s : Source) (used : Command) (first : List ℕ) (had written_before written_after : Option (List ℕ)) (outcome : Outcome) : Type 0 where
  pub left : Option (List ℕ)
  pub result : Outcome
  pub does : DoesWith choice (around.IsEndTold s) label now used had left written_before written_after result
  pub ends : (outcome ≡ result) ⊎ (outcome ≡ Err fault.Memory)
  pub hinted : IfOk outcome (Hints around s command (hint_by used first))

-- ---- a source that is decoded as its first octets say
abbrev pub ended_of : Result InputEnd RunFault → Outcome
ended_of (Ok end) = Ok end.end
ended_of (Err fault) = Err fault

-- One message that an input spells was decoded: its lines were written, what is left out is told, and a hint if it is refused.
pub record DecodesSpelled (around : Around) (command : Command) (profile : Profile) (s : Source) (first : List ℕ) (had written_before written_after : Option (List ℕ)) (outcome : Outcome) : Type 0 where
  pub left : Option (List ℕ)
  pub result : Result InputEnd RunFault
  pub decoded : IfOk result (DecodesInput profile had left written_before written_after)
  pub failed : OnErr result (FailsToDecodeInput profile had left written_before written_after)
  pub told : IfOk result (λ end. TellsSaid (around.IsEndTold s) end.said.items)
  pub ends : (outcome ≡ ended_of result) ⊎ (outcome ≡ Err fault.Memory)
  pub hinted : IfOk outcome (Hints around s command (hint_for kind.Message first))

-- The tickets of a credential cache were decoded: their lines were written, and what is left out is told, unless memory ran out.
pub record DecodesCredentials (around : Around) (s : Source) (had written_before written_after : Option (List ℕ)) (outcome : Outcome) : Type 0 where
  pub said : List ℕ
  pub decoded : (file : List ℕ) → had ≡ Some file → DecodesCache (decoded_cache file) written_before written_after said outcome
  pub told : (outcome ≡ Err fault.Memory → ⊥) → TellsSaid (around.IsEndTold s) said

-- Of a keytab, which has no messages, that is told, and which command lists it.
pub record TellsKeytab (around : Around) (s : Source) (written_before written_after : Option (List ℕ)) (outcome : Outcome) : Type 0 where
  pub told : IfOk outcome (λ _. around.IsHintTold s (keytab_text (shell_word (name_of s))))
  pub ends : (outcome ≡ Ok run.Refused) ⊎ (outcome ≡ Err fault.Memory)
  pub unwritten : written_after ≡ written_before

-- ---- one text is decoded of a capture, or of a stream that goes on: its lines are of messages, or say what is left out
-- of a capture, or of one packet of it
abbrev pub DecodesCapture : Decoding → (had : Option (List ℕ)) → Run
DecodesCapture decoding had written_before written_after outcome =
    (file : List ℕ) → had ≡ Some file → ListsRecords (decoded_capture decoding.profile decoding.limit decoding.packets.port decoding.packets.number file) (λ left. Unit {0}) written_before written_after outcome

-- of a stream
abbrev pub DecodesOn : Decoding → (had left : Option (List ℕ)) → Run
DecodesOn decoding had left written_before written_after outcome =
    IfOk outcome (DecodesStream decoding.profile decoding.limit had left written_before written_after) × IfErr outcome (FailsToDecodeStream decoding.profile decoding.limit had left written_before written_after)

abbrev pub sorted_outcome : Outcome → (has_told : Bool) → Outcome
sorted_outcome (Ok end) has_told = Ok (sorted_end end has_told)
sorted_outcome (Err fault) has_told = Err fault

-- The text was sorted as it came: its lines of messages were written, and each other line that has ended was told. It ends clean only if none was.
pub record DecodesSorted (IsTold : List ℕ → Type 0) (Decodes : Run) (written_before written_after : Option (List ℕ)) (outcome : Outcome) : Type 0 where
  pub text : List ℕ
  pub result : Outcome
  pub decoded : ListsTo Decodes text result
  pub written : Appends written_before written_after (message_lines text)
  pub told : ∥ All IsTold (told_lines text) ∥₁
  pub ends : outcome ≡ sorted_outcome result (is_any (told_lines text))

-- Of a stream, a hint is told, too, if its first frame is refused.
pub record DecodesStreamOn (around : Around) (command : Command) (decoding : Decoding) (s : Source) (first : List ℕ) (had written_before written_after : Option (List ℕ)) (outcome : Outcome) : Type 0 where
  pub left : Option (List ℕ)
  pub result : Outcome
  pub decoded : DecodesSorted (around.IsEndTold s) (DecodesOn decoding had left) written_before written_after result
  pub ends : (outcome ≡ result) ⊎ (outcome ≡ Err fault.Memory)
  pub hinted : IfOk outcome (Hints around s command (hint_for kind.Stream first))

-- A stream is decoded up to what is refused, or goes on.
abbrev pub DecodesFrames : AfterRefusal → Decoding → Around → Option Choice → Label → Option ℕ → Command → Source → (first : List ℕ) → (had written_before written_after : Option (List ℕ)) → Outcome → Type 0
DecodesFrames after.Ends decoding around choice label now command s first had written_before written_after outcome = ListsBy around choice label now command s (chosen command first) first had written_before written_after outcome
DecodesFrames after.GoesOn decoding around choice label now command s first had written_before written_after outcome = DecodesStreamOn around command decoding s first had written_before written_after outcome

-- It is one message, a cache, a keytab or a capture if its first octets say so, and else a stream.
abbrev pub DecodesBegun : SourceKind → Around → Option Choice → Label → Option ℕ → Command → Decoding → Source → (first : List ℕ) → (had written_before written_after : Option (List ℕ)) → Outcome → Type 0
DecodesBegun kind.Message around choice label now command decoding s first had written_before written_after outcome = DecodesSpelled around command decoding.profile s first had written_before written_after outcome
DecodesBegun kind.Ccache around choice label now command decoding s first had written_before written_after outcome = DecodesCredentials around s had written_before written_after outcome
DecodesBegun kind.Keytab around choice label now command decoding s first had written_before written_after outcome = TellsKeytab around s written_before written_after outcome
DecodesBegun kind.Capture around choice label now command decoding s first had written_before written_after outcome = DecodesSorted (around.IsEndTold s) (DecodesCapture decoding had) written_before written_after outcome
DecodesBegun kind.Stream around choice label now command decoding s first had written_before written_after outcome = DecodesFrames decoding.refused decoding around choice label now command s first had written_before written_after outcome

abbrev pub BegunBy : Option Decoding → Around → Option Choice → Label → Option ℕ → Command → Source → (first : List ℕ) → (had written_before written_after : Option (List ℕ)) → Outcome → Type 0
BegunBy (Some decoding) around choice label now command s first had written_before written_after outcome = DecodesBegun (command_for first) around choice label now command decoding s first had written_before written_after outcome
BegunBy None around choice label now command s first had written_before written_after outcome = ListsBy around choice label now command s (chosen command first) first had written_before written_after outcome

abbrev pub DoesBegun : Around → Option Choice → Label → Option ℕ → Command → Source → (first : List ℕ) → (had written_before written_after : Option (List ℕ)) → Outcome → Type 0
DoesBegun around choice label now command s first had written_before written_after outcome = BegunBy (decoding_of command) around choice label now command s first had written_before written_after outcome

-- octets that are known begin with these
abbrev pub BeginsWith : (first : List ℕ) → Option (List ℕ) → Type 0
BeginsWith first None = Unit {0}
BeginsWith first (Some octets) = (rest : List ℕ) × (octets ≡ first ++ rest)

-- A source was opened, and its command was done: that of the command line, or, if this has none, that of its first octets. These are 16, or as many as the command awaits, or all that the source has, or those before a read that failed.
pub record DoesOpened (around : Around) (choice : Option Choice) (label : Label) (now : Option ℕ) (command : Command) (s : Source) (written_before written_after : Option (List ℕ)) (outcome : Outcome) : Type 0 where
  pub first : List ℕ
  pub had : Option (List ℕ)
  pub begins : BeginsWith first (around.octets s)
  pub follows : Then
  pub enough : IsEnough follows (octets_awaited command) (length first)
  pub whole : follows ≡ End → had ≡ Some first
  pub same : Keeps (around.octets s) had
  pub lists : DoesBegun around choice label now command s first had written_before written_after outcome

-- a source was opened, or it could not be
abbrev pub DoesSource : Around → Option Choice → Label → Option ℕ → Command → Source → Run
DoesSource around choice label now command s written_before written_after outcome =
    DoesOpened around choice label now command s written_before written_after outcome
    ⊎ ((written_after ≡ written_before) × IsUnread outcome)

-- what a choice keeps of the record with the name of a source
abbrev pub name_chosen : Choice → Source → List ℕ
name_chosen c s = chosen_listing c false (file_line (choice_form c) (name_of s))

-- where records are chosen and each source has one with its name, that is chosen from before the listing
abbrev pub name_line : Option Choice → (is_named : Bool) → Source → Option (List ℕ)
name_line None is_named s = None
name_line (Some c) false s = None
name_line (Some c) true s = Some (name_chosen c s)

abbrev pub ListsAfterName : (line : Option (List ℕ)) → Run → Run
ListsAfterName None DoesListing written_before written_after outcome = DoesListing written_before written_after outcome
ListsAfterName (Some line) DoesListing written_before written_after outcome = ListsAfterLine line DoesListing written_before written_after outcome

-- that was written, if there is one, or that failed
abbrev pub NamesSource : (line : Option (List ℕ)) → (written_before written_after : Option (List ℕ)) → Result (Unit {0}) RunFault → Type 0
NamesSource None written_before written_after result = (result ≡ Ok tt) × (written_after ≡ written_before)
NamesSource (Some line) written_before written_after (Ok done) = Appends written_before written_after line
NamesSource (Some line) written_before written_after (Err failed) = FailsLine line written_before written_after failed

abbrev pub DoesFrom : Around → Option Choice → (is_named : Bool) → Label → Option ℕ → Command → Source → Run
DoesFrom around choice is_named label now command s = ListsAfterName (name_line choice is_named s) (DoesSource around choice label now command s)

-- Each cache of a directory has its record, even if it is the only one.
abbrev pub is_directory : Source → Bool
is_directory (source.Directory directory) = true
is_directory _ = false

-- how records say which file they are of
abbrev pub labels_by : Naming → List Source → Labels
labels_by naming.Each sources = labels.Labels
labels_by naming.Before sources = if list_any is_directory sources then labels.Each else labels.Several

abbrev pub labels_of : CommandLine → Labels
labels_of command_line = labels_by command_line.naming command_line.sources.items

-- each of so many sources has a record with its name
abbrev pub is_named : Labels → (sources : ℕ) → Bool
is_named labels.Labels sources = false
is_named labels.Each sources = true
is_named labels.Several sources = nat_lt 1 sources

-- which names are printed of so many sources; what sources become is written without their names
abbrev pub names_for : CommandLine → ℕ → Named
names_for command_line count = if is_conversion command_line.command then unnamed else names_of (labels_of command_line) command_line.form count

abbrev pub IsTold : Around → Source → Option (List ℕ) → Type 0
IsTold around s None = Unit {0}
IsTold around s (Some text) = around.IsHintTold s text

-- The fault by which the run over a source ended is told; and of a name that could not be opened, what it is.
abbrev pub IsFaultReported : Around → Command → Source → RunFault → Type 0
IsFaultReported around command s (fault.Read error) = around.IsFaultTold s (fault.Read error) × IsTold around s (said_unopened command (name_of s))
IsFaultReported around command s (fault.Write error) = around.IsFaultTold s (fault.Write error)
IsFaultReported around command s fault.Memory = around.IsFaultTold s fault.Memory

-- the form of records; what sources become has no records, and its lines have one form
abbrev pub form_for : CommandLine → Form
form_for command_line = if is_conversion command_line.command then forms.Lines else command_line.form

abbrev pub ListsSources : Around → CommandLine → Option ℕ → List Source → RunOver
ListsSources around command_line now sources =
    ListsEach (λ s. Reports (IsFaultReported around command_line.command s) (ListsOne (form_for command_line) (names_for command_line (length sources)) (name_of s) (λ label. DoesFrom around command_line.choice (is_named (labels_of command_line) (length sources)) label now command_line.command s))) sources

-- The command of a command line is done with each of its sources, each cache of a directory among them, and the fault by which a run ends is told.
pub record DoesEach (around : Around) (command_line : CommandLine) (written_before written_after : Option (List ℕ)) (status : ℕ) : Type 0 where
  pub sources : List Source
  pub now : Option ℕ
  pub unread : ℕ
  pub listed : ℕ
  pub expands : Expands around command_line.sources.items (map place_of sources) unread
  pub time : IsTime around (when_of command_line.command) now
  pub lists : ListsSources around command_line now sources written_before written_after listed
  pub greatest : status ≡ max listed unread

-- ---- a text
-- it is printed, or a write failed, which is told
abbrev pub Prints : Around → List ℕ → RunOver
Prints around text written_before written_after status =
    (Appends written_before written_after text × (status ≡ 0))
    ⊎ ((told : RunFault) × IsWrite told × around.IsFaultTold source.Input told × (status ≡ 3))

-- ---- the words
-- the command is done, or memory ran out before, which is told
abbrev pub DoesSources : Around → CommandLine → RunOver
DoesSources around command_line written_before written_after status =
    DoesEach around command_line written_before written_after status
    ⊎ (around.IsFaultTold source.Input fault.Memory × (status ≡ 3) × (written_after ≡ written_before))

-- the names of the columns were written as a row, and then the command is done
pub record DoesAfterRow (around : Around) (command_line : CommandLine) (row : List ℕ) (written_before written_after : Option (List ℕ)) (status : ℕ) : Type 0 where
  pub between : Option (List ℕ)
  pub headed : Appends written_before between (row ++ line_feed)
  pub does : DoesSources around command_line between written_after status

-- with a first row or without; if a write of it failed, that is told
abbrev pub DoesHeaded : (row : Option (List ℕ)) → Around → CommandLine → RunOver
DoesHeaded None around command_line written_before written_after status = DoesSources around command_line written_before written_after status
DoesHeaded (Some row) around command_line written_before written_after status =
    DoesAfterRow around command_line row written_before written_after status
    ⊎ ((told : RunFault) × IsWrite told × around.IsFaultTold source.Input told × (status ≡ 3))

abbrev pub DoesAny : Around → CommandLine → RunOver
DoesAny around command_line written_before written_after status = DoesHeaded (option_map string_bytes command_line.header) around command_line written_before written_after status

-- why messages are not written to a terminal
abbrev pub terminal_text : List ℕ
terminal_text = codes "error: encode writes messages as they are, and octets of them may command the terminal\n\n  tip: krbls encode .. | xxd shows them, and krbls encode .. | cat writes them\n"

abbrev pub DoesBy : (is_shown : Bool) → Around → CommandLine → RunOver
DoesBy false around command_line written_before written_after status = DoesAny around command_line written_before written_after status
DoesBy true around command_line written_before written_after status = around.AreWordsTold terminal_text × (status ≡ 2) × (written_after ≡ written_before)

-- The command is done, unless messages would be written as they are to a terminal: then that is told, and nothing is read or written.
abbrev pub DoesUnlessShown : Around → CommandLine → RunOver
DoesUnlessShown around command_line written_before written_after status =
    (is_terminal : Bool) × around.WritesToTerminal is_terminal × DoesBy (writes_messages command_line.command && is_terminal) around command_line written_before written_after status

abbrev pub RunsCommandBy : Option (List ℕ) → Around → CommandLine → RunOver
RunsCommandBy (Some text) around command_line written_before written_after status = Prints around text written_before written_after status
RunsCommandBy None around command_line written_before written_after status = DoesUnlessShown around command_line written_before written_after status

abbrev pub RunsCommand : Around → CommandLine → RunOver
RunsCommand around command_line written_before written_after status = RunsCommandBy (text_of command_line.command) around command_line written_before written_after status

-- what is wrong is told
abbrev pub Refuses : Around → WordsFault → ℕ → Type 0
Refuses around (words_fault.Wrong text) status = around.AreWordsTold (string_bytes text) × (status ≡ 2)
Refuses around words_fault.Memory status = around.IsFaultTold source.Input fault.Memory × (status ≡ 3)

-- by what the words are found to be
abbrev pub RunsBy : Around → List (List ℕ) → Result CommandLine WordsFault → RunOver
RunsBy around words (Ok command_line) written_before written_after status = IsCommandLineIn words command_line × RunsCommand around command_line written_before written_after status
RunsBy around words (Err fault) written_before written_after status = IsFaultIn words fault × Refuses around fault status × (written_after ≡ written_before)

-- The words after the program's name are read, and what they say is done.
abbrev pub Runs : Around → List (List ℕ) → RunOver
Runs around words written_before written_after status = (read : Result CommandLine WordsFault) × RunsBy around words read written_before written_after status
