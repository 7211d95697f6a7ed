-- What a reader of lines does with a text, whatever becomes of them.
use Rattle.std.specs.Prelude.{ℕ, ◌≡◌, ◌+◌, ◌≤◌, ◌⊎◌, Bool, true, false, List, [], ◌∷◌, ◌++◌, length, Option}
use Rattle.krb_run.specs.Conversions.{Converted, after_text}
use Rattle.krb_run.specs.TextLines.{parts, ended_of, last_of, lines_of}
use Rattle.krb_run.specs.Runs.{StopsInPiece}
use Rattle.krb_run.specs.ConversionRules.{IsBeginning, conversion_rules}
use Rattle.krb_run.specs.Pieces.{IsLastOf, Kind}
use Rattle.krb_run.specs.Streams.{Rules, Taken}

-- What is known of the readers of a kind.
pub record LineKind (L : Type 0) : Type 1 where
  -- what a reader is asked for, how its runs end, and what contracts see of that
  pub Request : Type 0
  pub End : Type 0
  pub Ending : Type 0
  pub ending_of : End → Ending
  -- what is seen of lines, and what lines become: all of a text, and those after the ones that ended
  pub Seen : Type 0
  pub IsNoFault : Seen → Type 0
  pub all : Request → List (List ℕ) → Converted Seen
  pub rest : L → List (List ℕ) → Converted Seen
  -- what is written at the end, and how a run ends that has seen this
  pub close : Request → Seen → Converted Ending
  pub request : L → Request
  pub text : L → List ℕ
  -- how many octets, or how much else, are counted
  pub count : L → ℕ
  -- it has the octets of the line that has not ended
  pub Holds : L → List ℕ → Type 0
  -- a line may end
  pub IsOpen : L → Type 0
  -- a line of these octets is not too long to be read
  pub IsShort : Request → List ℕ → Type 0

-- others may follow, and octets of the line that has not ended
abbrev pub GoesOn : {L : Type 0} → LineKind L → L → Type 0
GoesOn kind reader = kind.IsOpen reader × kind.IsNoFault (kind.rest reader []).end × ((line : List ℕ) → kind.Holds reader line → kind.IsShort (kind.request reader) line)

-- no line more is read, after one that is at fault
pub record IsStopped {L : Type 0} (kind : LineKind L) (reader : L) : Type 0 where
  pub end : kind.Seen
  pub rest : (lines : List (List ℕ)) → kind.rest reader lines ≡ record { text = []; end = end }
  pub fault : kind.IsNoFault end → ⊥

-- the line is not too long yet
pub record Grows {L : Type 0} (kind : LineKind L) (old new : L) : Type 0 where
  pub rest : (lines : List (List ℕ)) → kind.rest new lines ≡ kind.rest old lines
  pub goes_on : GoesOn kind old → GoesOn kind new

-- The line is too long, however it goes on, and that is its fault.
pub record Outgrows {L : Type 0} (kind : LineKind L) (old : L) (octets : List ℕ) (new : L) : Type 0 where
  pub stopped : IsStopped kind new
  pub long : (line more : List ℕ) → kind.Holds old line → kind.IsShort (kind.request old) ((line ++ octets) ++ more) → ⊥
  pub rest : (line more : List ℕ) (lines : List (List ℕ)) → kind.Holds old line → kind.rest old (((line ++ octets) ++ more) ∷ lines) ≡ record { text = []; end = stopped.end }

abbrev pub GrowsBy : {L : Type 0} → LineKind L → L → List ℕ → L → Bool → Type 0
GrowsBy kind old octets new true = Grows kind old new
GrowsBy kind old octets new false = Outgrows kind old octets new

-- octets of the line came
pub record Adds {L : Type 0} (kind : LineKind L) (old : L) (octets : List ℕ) (new : L) (goes_on : Bool) : Type 0 where
  pub request : kind.request new ≡ kind.request old
  pub text : kind.text new ≡ kind.text old
  pub holds : (line : List ℕ) → kind.Holds old line → kind.Holds new (line ++ octets)
  pub few : kind.count new ≤ kind.count old + length octets
  pub grows : GrowsBy kind old octets new goes_on

abbrev pub Follows : {L : Type 0} → LineKind L → L → Bool → Type 0
Follows kind reader true = GoesOn kind reader
Follows kind reader false = IsStopped kind reader

-- the line has ended
pub record EndsLine {L : Type 0} (kind : LineKind L) (old new : L) (goes_on : Bool) : Type 0 where
  pub added : List ℕ
  pub text : kind.text new ≡ kind.text old ++ added
  pub request : kind.request new ≡ kind.request old
  pub holds : kind.Holds new []
  pub rest : (line : List ℕ) (lines : List (List ℕ)) → kind.Holds old line → kind.rest old (line ∷ lines) ≡ after_text added (kind.rest new lines)
  -- nothing is written after the last line but what is written at the end
  pub none : (kind.rest new []).text ≡ []
  pub few : kind.count new ≤ kind.count old + 1
  pub follows : Follows kind new goes_on

-- there are octets of a line that has not ended, and it may end
abbrev pub HasLine : {L : Type 0} → LineKind L → L → Bool → Type 0
HasLine kind reader true = (kind.Holds reader [] → ⊥) × (IsStopped kind reader → ⊥)
HasLine kind reader false = kind.IsOpen reader → (line : List ℕ) → kind.Holds reader line → line ≡ []

-- ---- a text
-- Lines may follow octets of one that has not ended: this is the first of them, or, if there is none, it is not too long with some more.
abbrev pub MayFollow : (IsShort : List ℕ → Type 0) → (last : List ℕ) → List (List ℕ) → Type 0
MayFollow IsShort last [] = (last ≡ []) ⊎ ((more : List ℕ) × IsShort (last ++ more))
MayFollow IsShort last (line ∷ lines) = IsBeginning last line

-- Lines of a text have ended, and the others are still to come after the octets of the one that has not. What became of those that ended is in what was written and then in the text.
pub record HasRead {L : Type 0} (kind : LineKind L) (reader : L) (stream written : List ℕ) : Type 0 where
  pub ended : List (List ℕ)
  pub last : List ℕ
  pub all : parts stream ≡ ended ++ last ∷ []
  pub holds : kind.Holds reader last
  pub so_far : (kind.all (kind.request reader) ended).text ≡ written ++ kind.text reader
  pub goes_on : (lines : List (List ℕ)) → MayFollow (kind.IsShort (kind.request reader)) last lines → kind.all (kind.request reader) (ended ++ lines) ≡ after_text (written ++ kind.text reader) (kind.rest reader lines)

-- a text whose lines that end are not at fault, and whose last one is not too long
abbrev pub IsRight : {L : Type 0} → (kind : LineKind L) → kind.Request → List ℕ → Type 0
IsRight kind request text = kind.IsNoFault (kind.all request (ended_of (parts text))).end × kind.IsShort request (last_of (parts text))

-- A line that ended in the last piece is at fault, or one that became too long in it. What is after that was not read.
pub record IsStoppedAfter {L : Type 0} (kind : LineKind L) (reader : L) (taken : Taken) : Type 0 where
  pub stream : List ℕ
  pub others : List ℕ
  pub parts_of : taken.octets ≡ stream ++ others
  pub read : HasRead kind reader stream taken.written
  pub stopped : IsStopped kind reader
  pub stops : StopsInPiece (IsRight kind (kind.request reader)) taken.octets

-- what the lines of a text become, and then what is written at the end
abbrev pub closed : {L : Type 0} → (kind : LineKind L) → kind.Request → Converted kind.Seen → Converted kind.Ending
closed kind request lines = after_text lines.text (kind.close request lines.end)

-- what the lines become that end in a text
abbrev pub of_ended : {L : Type 0} → (kind : LineKind L) → kind.Request → (text : List ℕ) → List ℕ
of_ended kind request text = (kind.all request (ended_of (parts text))).text

abbrev pub line_rules : {L : Type 0} → (kind : LineKind L) → kind.Request → Rules kind.End
line_rules kind request = conversion_rules (λ text. closed kind request (kind.all request (lines_of text))) (of_ended kind request) (IsRight kind request) kind.ending_of

abbrev pub reader_kind : {L : Type 0} → (kind : LineKind L) → Kind L kind.Request kind.End
reader_kind kind = record {
  rules = line_rules kind;
  request = kind.request;
  text = kind.text;
  count = kind.count;
  HasListed = HasRead kind;
  IsWaiting = GoesOn kind;
  IsRefused = IsStopped kind;
  Stops = IsStoppedAfter kind;
}

-- the last line has ended, if there is one
pub record EndsText {L : Type 0} (kind : LineKind L) (old new : L) : Type 0 where
  pub request : kind.request new ≡ kind.request old
  pub all : (taken : Taken) (left : Option (List ℕ)) → IsLastOf (reader_kind kind) old taken left → kind.all (kind.request old) (lines_of taken.octets) ≡ after_text (taken.written ++ kind.text new) (kind.rest new [])
