-- What is done with a source by a command: the run of its command, with the label of the source and by the profile, the limit and the numbers of the command.
use Rattle.std.specs.Prelude.{ℕ, ◌≡◌, ◌⊎◌, Bool, true, false, List, [], ◌∷◌, ◌++◌, Option, Some, None, Ok, Err, IfOk, IfErr}
use Rattle.std.specs.Io.KnownBytes.{Appends}
use Rattle.std.specs.Option.{option_and_then}
use Rattle.krb_input.specs.Hints.{hint_for}
use Rattle.krb_input.specs.Sources.{command_for}
use Rattle.krb_input.specs.declared.hint.Hint.{Hint}
use Rattle.krb_input.specs.declared.hint.Hint.TheVariants as hint
use Rattle.krb_input.specs.declared.source_kind.SourceKind.{SourceKind}
use Rattle.krb_input.specs.declared.source_kind.SourceKind.TheVariants as kind
use Rattle.krb_record.specs.Labels.{Label}
use Rattle.krb_choice.specs.Choices.{Choice}
use Rattle.krb_choosing.specs.Listings.{chosen_listing, told_listing}
use Rattle.krb_capture.specs.Labels.{of_records}
use Rattle.krb_capture_run.specs.Captures.{IsCaptureRest, capture_listing}
use Rattle.krb_convert.specs.Conversions.{DecodesBy, EncodesBy, FailsToDecodeBy, is_framed}
use Rattle.krb_convert.specs.Ends.{decode_end_line, decode_run_end, encode_end_line, encode_run_end}
use Rattle.krb_convert.specs.Encoding.{FailsToEncode}
use Rattle.krb_run.specs.Records.{AppendsPrefix, ListsRecords}
use Rattle.krb_file_run.specs.Files.{IsCcacheRest, IsKeytabRest, ccache_listing, keytab_listing}
use Rattle.krb_run.specs.Faults.{IsWrite}
use Rattle.krb_run.specs.Files.{FailsFile, ListsFile}
use Rattle.krb_tool.specs.GoingOn.{FailsAll, ListsAll}
use Rattle.krb_tool.specs.Listing.{Fails, Lists}
use Rattle.krb_tool.specs.MessageLines.{FailsLines, ListsLines}
use Rattle.krb_tool.specs.Messages.{IsMessageListing}
use Rattle.krb_items_run.specs.Items.{IsItemsListing}
use Rattle.krb_run.specs.Sources.{Outcome, Run}
use Rattle.krb_run.specs.declared.run.RunEnd.{RunEnd}
use Rattle.krb_run.specs.declared.run.RunEnd.TheVariants as run
use Rattle.krb_run.specs.declared.run.RunFault.{RunFault}
use Rattle.krb_run.specs.declared.run.RunFault.TheVariants as fault
use Rattle.krb_words.specs.Tasks.{kind_used, listing_for}
use Rattle.krb_words.specs.declared.words.AfterRefusal.TheVariants as after
use Rattle.krb_words.specs.declared.words.Framing.TheVariants as framing
use Rattle.krb_words.specs.declared.words.Inputs.TheVariants as inputs
use Rattle.krb_words.specs.declared.words.Command.{Command}
use Rattle.krb_words.specs.declared.words.Command.TheVariants as commands
use Rattle.krbls.specs.declared.decoding.Decoding.{Decoding}

-- What is said of a source is told, if something is.
abbrev pub TellsSaid : (IsTold : List ℕ → Type 0) → (said : List ℕ) → Type 0
TellsSaid IsTold [] = Unit {0}
TellsSaid IsTold (octet ∷ said) = IsTold (octet ∷ said)

-- A source was turned into another form up to an end, of which the line is told.
pub record Turns {E : Type 0} (TurnsTo : E → Type 0) (line : E → List ℕ) (run_end : E → RunEnd) (IsTold : List ℕ → Type 0) (ended : RunEnd) : Type 0 where
  pub end : E
  pub turned : TurnsTo end
  pub told : TellsSaid IsTold (line end)
  pub ended_so : ended ≡ run_end end

-- It failed, or memory ran out for the line of its end.
abbrev pub FailsToTurn : {E : Type 0} → (TurnsTo : E → Type 0) → (Fails : RunFault → Type 0) → RunFault → Type 0
FailsToTurn {E} TurnsTo Fails failed = Fails failed ⊎ ((failed ≡ fault.Memory) × (end : E) × TurnsTo end)

-- ---- the command of a source
-- the command that a source has by its first octets, if there is no command
abbrev pub chosen : Command → (first : List ℕ) → Command
chosen (commands.List when) first = listing_for (command_for first) when
chosen named first = named

-- how a command decodes each source as its first octets say, if it does
abbrev pub decoding_of : Command → Option Decoding
decoding_of (commands.Decode limit profile framing.Framed refused packets) = Some (record { limit = limit; profile = profile; refused = refused; packets = packets })
decoding_of _ = None

-- the kind of the sources that a command reads, if hints are told of them
abbrev pub kind_read : Command → Option SourceKind
kind_read (commands.Decode limit profile framing.Framed refused packets) = Some kind.Stream
kind_read used = kind_used used

-- from HTTP headers are taken that are read line by line, which `items` does not do
abbrev pub unless_http : Option Hint → Option Hint
unless_http (Some hint.Http) = None
unless_http found = found

abbrev pub fitting : Command → Option Hint → Option Hint
fitting (commands.Items profile) found = unless_http found
fitting used found = found

-- the hint for a source that is read by a command, by its first octets
abbrev pub hint_by : Command → (first : List ℕ) → Option Hint
hint_by used first = fitting used (option_and_then (λ kind. hint_for kind first) (kind_read used))

-- ---- a command over a reader that had octets and has others left, and what is written
abbrev pub Does : (IsTold : List ℕ → Type 0) → Label → (now : Option ℕ) → Command → (had left : Option (List ℕ)) → Run
Does IsTold label now (commands.Stream limit profile after.Ends) had left written_before written_after outcome =
    IfOk outcome (Lists label profile limit had left written_before written_after) × IfErr outcome (Fails label profile limit had left written_before written_after)
Does IsTold label now (commands.Stream limit profile after.GoesOn) had left written_before written_after outcome =
    IfOk outcome (ListsAll label profile limit had left written_before written_after) × IfErr outcome (FailsAll label profile limit had left written_before written_after)
Does IsTold label now (commands.Message profile inputs.Whole) had left written_before written_after outcome =
    IfOk outcome (ListsFile (IsMessageListing label profile) had left written_before written_after) × IfErr outcome (FailsFile (IsMessageListing label profile) had left written_before written_after)
Does IsTold label now (commands.Message profile inputs.EachLine) had left written_before written_after outcome =
    IfOk outcome (ListsLines label profile had left written_before written_after) × IfErr outcome (FailsLines label profile had left written_before written_after)
Does IsTold label now (commands.Items profile) had left written_before written_after outcome =
    IfOk outcome (ListsFile (IsItemsListing label profile) had left written_before written_after) × IfErr outcome (FailsFile (IsItemsListing label profile) had left written_before written_after)
Does IsTold label now commands.Keytab had left written_before written_after outcome =
    (file : List ℕ) → had ≡ Some file → ListsRecords (keytab_listing label file) (IsKeytabRest label file) written_before written_after outcome
Does IsTold label now (commands.Ccache when) had left written_before written_after outcome =
    (file : List ℕ) → had ≡ Some file → ListsRecords (ccache_listing label now file) (IsCcacheRest label now file) written_before written_after outcome
Does IsTold label now (commands.Capture limit profile port) had left written_before written_after outcome =
    (file : List ℕ) → had ≡ Some file → ListsRecords (capture_listing (record { label = of_records label; profile = profile; limit = limit; port = port }) file)
    (IsCaptureRest (record { label = of_records label; profile = profile; limit = limit; port = port }) file) written_before written_after outcome
Does IsTold label now (commands.Decode limit profile how refused packets) had left written_before written_after outcome =
    IfOk outcome (Turns (DecodesBy how profile limit had left written_before written_after) (decode_end_line how) decode_run_end IsTold)
    × IfErr outcome (FailsToTurn (DecodesBy how profile limit had left written_before written_after) (FailsToDecodeBy how profile limit had left written_before written_after))
Does IsTold label now (commands.Encode limit profile how) had left written_before written_after outcome =
    IfOk outcome (Turns (EncodesBy how profile limit had left written_before written_after) encode_end_line encode_run_end IsTold)
    × IfErr outcome (FailsToTurn (EncodesBy how profile limit had left written_before written_after) (FailsToEncode (is_framed how) profile limit had left written_before written_after))
Does IsTold label now (commands.List when) had left written_before written_after outcome = written_after ≡ written_before
Does IsTold label now (commands.Help text) had left written_before written_after outcome = written_after ≡ written_before
Does IsTold label now (commands.Version text) had left written_before written_after outcome = written_after ≡ written_before

-- ---- with a choice
-- the listing of a command goes on after each refusal, so that none ends it
abbrev pub goes_on : Command → Bool
goes_on (commands.Stream limit profile after.GoesOn) = true
goes_on (commands.Message profile inputs.EachLine) = true
goes_on _ = false

-- What is chosen of a listing was written, or a first part of that if a write failed. If a read failed or memory ran out, the listing is what came of it before.
abbrev pub WritesChosen : (chosen : List ℕ) → Run
WritesChosen chosen written_before written_after (Ok ended) = Appends written_before written_after chosen
WritesChosen chosen written_before written_after (Err (fault.Read error)) = Appends written_before written_after chosen
WritesChosen chosen written_before written_after (Err (fault.Write error)) = AppendsPrefix written_before written_after chosen
WritesChosen chosen written_before written_after (Err fault.Memory) = Appends written_before written_after chosen

abbrev pub FailsToWrite : Outcome → Type 0
FailsToWrite (Ok ended) = ⊥
FailsToWrite (Err failed) = IsWrite failed

-- Of a source that was not read as a whole, which its status says, the line is told that tells of the last record, if that is not kept.
abbrev pub TellsLast : (IsTold : List ℕ → Type 0) → (told : List ℕ) → Outcome → Type 0
TellsLast IsTold told (Ok run.Clean) = Unit {0}
TellsLast IsTold told (Ok run.Refused) = TellsSaid IsTold told
TellsLast IsTold told (Ok run.RefusedAtOnce) = TellsSaid IsTold told
TellsLast IsTold told (Err failed) = Unit {0}

-- A source was listed to a writer that had octets, and this is its listing.
pub record ListsTo (Lists : Run) (listing : List ℕ) (result : Outcome) : Type 0 where
  pub had : List ℕ
  pub lists : Lists (Some had) (Some (had ++ listing)) result

-- A source was listed to what chooses, what is chosen of its listing was written, and it ends as the listing does, unless a write failed.
pub record ListsChosen (c : Choice) (goes_on : Bool) (IsTold : List ℕ → Type 0) (Lists : Run) (written_before written_after : Option (List ℕ)) (outcome : Outcome) : Type 0 where
  pub listing : List ℕ
  pub result : Outcome
  pub listed : ListsTo Lists listing result
  pub chosen : WritesChosen (chosen_listing c goes_on listing) written_before written_after outcome
  pub told : TellsLast IsTold (told_listing c goes_on listing) outcome
  pub ends : (outcome ≡ result) ⊎ FailsToWrite outcome

-- what is written of a source is its listing, or what is chosen of it
abbrev pub DoesWith : Option Choice → (IsTold : List ℕ → Type 0) → Label → (now : Option ℕ) → Command → (had left : Option (List ℕ)) → Run
DoesWith None IsTold label now command had left written_before written_after outcome = Does IsTold label now command had left written_before written_after outcome
DoesWith (Some c) IsTold label now command had left written_before written_after outcome =
    ListsChosen c (goes_on command) IsTold (Does IsTold label now command had left) written_before written_after outcome
