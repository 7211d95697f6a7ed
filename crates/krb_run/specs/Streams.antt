-- What a run over a stream and its lister promise each other.
use Rattle.std.specs.Prelude.{ℕ, ◌+◌, ◌^◌, ◌≡◌, ◌≤◌, ◌⊎◌, Bool, true, false, List, [], ◌++◌, Option}
use Rattle.std.specs.Io.KnownBytes.{Consumes, Appends, IsAtEnd}
use Rattle.krb_run.specs.declared.run.RunFault.{RunFault}
use Rattle.krb_run.specs.declared.run.RunFault.TheVariants as fault
use Rattle.krb_run.specs.Runs.{WritesPrefix, WritesText}

-- What is written of octets: their listing; its first lines; or the lines of all that is whole in the octets, without those of their end. And how a run ends that wrote the listing, with what its reader has left.
pub record Rules (E : Type 0) : Type 1 where
  pub IsListing : List ℕ → List ℕ → Type 0
  pub AreLines : List ℕ → List ℕ → Type 0
  pub AreAllLines : List ℕ → List ℕ → Type 0
  pub Ends : (octets text : List ℕ) → IsListing octets text → Option (List ℕ) → E → Type 0

-- what came so far: how many pieces, their octets, and the lines that were written
pub record Taken : Type 0 where
  pub pieces : ℕ
  pub octets : List ℕ
  pub written : List ℕ

-- with a piece more
abbrev pub with_piece : Taken → List ℕ → Taken
with_piece taken piece = record { pieces = taken.pieces + 1; octets = taken.octets ++ piece; written = taken.written }

-- with lines more
abbrev pub with_lines : Taken → List ℕ → Taken
with_lines taken lines = record { pieces = taken.pieces; octets = taken.octets; written = taken.written ++ lines }

-- A lister, by what it was asked for: its lines that are not written yet, what may have come if it waits for a piece, and what may have come if it accepts none.
pub record Listing (Q : Type 0) : Type 1 where
  pub text : List ℕ
  pub Waits : Q → Taken → Type 0
  pub Stops : Q → Taken → Type 0

-- ---- what a lister does
-- The lines so far are first lines, whatever comes next. They are those of all that is whole in the octets, whose listing begins with them.
pub record Begins {E : Type 0} (rules : Rules E) (taken : Taken) (text : List ℕ) : Type 0 where
  pub lines : (more : List ℕ) → rules.AreLines (taken.octets ++ more) (taken.written ++ text)
  pub all : rules.AreAllLines taken.octets (taken.written ++ text)
  pub rest : List ℕ
  pub listing : rules.IsListing taken.octets ((taken.written ++ text) ++ rest)

-- it waits, and its lines begin the listing
pub record Waits {Q E : Type 0} (rules : Rules E) (request : Q) (taken : Taken) (lister : Listing Q) : Type 0 where
  pub waits : lister.Waits request taken
  pub begins : Begins rules taken lister.text

-- it accepts no piece
pub record Stops {Q E : Type 0} (rules : Rules E) (request : Q) (taken : Taken) (lister : Listing Q) : Type 0 where
  pub stops : lister.Stops request taken
  pub lines : rules.AreLines taken.octets (taken.written ++ lister.text)

-- what it does after a piece
abbrev pub GoesOn : {Q E : Type 0} → Bool → Rules E → Q → Taken → Listing Q → Type 0
GoesOn true rules request taken lister = Waits rules request taken lister
GoesOn false rules request taken lister = Stops rules request taken lister

-- nothing came yet
pub record IsNew {Q E : Type 0} (rules : Rules E) (request : Q) (lister : Listing Q) : Type 0 where
  pub waits : Waits rules request (record { pieces = 0; octets = []; written = [] }) lister
  pub none : lister.text ≡ []

-- it waits for a piece, after at most 2^40 others
pub record AcceptsPiece {Q : Type 0} (lister : Listing Q) : Type 0 where
  pub request : Q
  pub taken : Taken
  pub waits : lister.Waits request taken
  pub few : taken.pieces ≤ 2 ^ 40

-- it was fed a piece
abbrev pub Feeds : {Q E : Type 0} → (Q → Rules E) → Listing Q → List ℕ → Listing Q → Bool → Type 0
Feeds {Q} rules old piece new goes_on = (request : Q) (taken : Taken) → old.Waits request taken → GoesOn goes_on (rules request) request (with_piece taken piece) new

-- its lines were written
pub record Clears {Q : Type 0} (old new : Listing Q) : Type 0 where
  pub none : new.text ≡ []
  pub waits : (request : Q) (taken : Taken) → old.Waits request taken → new.Waits request (with_lines taken old.text)

-- no piece follows: the reader is at its end, or the lister accepts none
abbrev pub IsLast : {Q : Type 0} → Listing Q → Q → Taken → Option (List ℕ) → Type 0
IsLast lister request taken left = (lister.Waits request taken × IsAtEnd left) ⊎ lister.Stops request taken

-- the end may be listed
pub record MayFinish {Q : Type 0} (lister : Listing Q) : Type 0 where
  pub request : Q
  pub taken : Taken
  pub left : Option (List ℕ)
  pub last : IsLast lister request taken left
  pub few : taken.pieces ≤ 2 ^ 41

-- the text is the listing of octets, and a run that wrote it ends so
pub record EndsListing {E : Type 0} (rules : Rules E) (octets text : List ℕ) (left : Option (List ℕ)) (ended : E) : Type 0 where
  pub listing : rules.IsListing octets text
  pub ends : rules.Ends octets text listing left ended

-- the lines of the end were added
abbrev pub Finishes : {Q E : Type 0} → (Q → Rules E) → Listing Q → Listing Q → E → Type 0
Finishes {Q} rules old new ended = (request : Q) (taken : Taken) (left : Option (List ℕ)) → IsLast old request taken left → EndsListing (rules request) taken.octets (taken.written ++ new.text) left ended

-- ---- what a run does
-- If a run fails by a write, a prefix of the listing of what was read is written. If a read fails, the lines are written of all that is whole in what was read; and if memory runs out, a prefix of the first lines.
abbrev pub FailsBy : {E : Type 0} → Rules E → Option (List ℕ) → Option (List ℕ) → Option (List ℕ) → Option (List ℕ) → RunFault → Type 0
FailsBy rules had left written_before written_after (fault.Write error) = WritesPrefix rules.IsListing had left written_before written_after
FailsBy rules had left written_before written_after (fault.Read error) = WritesText rules.AreAllLines had left written_before written_after
FailsBy rules had left written_before written_after fault.Memory = WritesPrefix rules.AreLines had left written_before written_after

-- So far a run read octets from its reader by a number of reads, and wrote the first of their lines. The other lines are in its lister, which waits for a piece.
pub record Runs {Q E : Type 0} (rules : Rules E) (request : Q) (had left written_before written_after : Option (List ℕ)) (asks : ℕ) (lister : Listing Q) : Type 0 where
  pub come : Taken
  pub taken : Consumes had left come.octets
  pub added : Appends written_before written_after come.written
  pub pieces : come.pieces ≡ asks
  pub waits : Waits rules request come lister

-- No piece follows.
pub record IsOver {Q E : Type 0} (rules : Rules E) (request : Q) (had left written_before written_after : Option (List ℕ)) (asks : ℕ) (lister : Listing Q) : Type 0 where
  pub come : Taken
  pub taken : Consumes had left come.octets
  pub added : Appends written_before written_after come.written
  pub pieces : come.pieces ≤ asks
  pub last : IsLast lister request come left
  pub lines : rules.AreLines come.octets (come.written ++ lister.text)

abbrev pub RunsOn : {Q E : Type 0} → Bool → Rules E → Q → Option (List ℕ) → Option (List ℕ) → Option (List ℕ) → Option (List ℕ) → ℕ → Listing Q → Type 0
RunsOn true rules request had left written_before written_after asks lister = Runs rules request had left written_before written_after asks lister
RunsOn false rules request had left written_before written_after asks lister = IsOver rules request had left written_before written_after asks lister

-- a piece was read and fed to the lister, or the reader has ended
abbrev pub Reads : {Q E : Type 0} → (Q → Rules E) → Option (List ℕ) → ℕ → Listing Q → Option (List ℕ) → ℕ → Listing Q → Bool → Type 0
Reads {Q} rules left asks lister left' asks' lister' goes_on = (request : Q) (had written_before written_after : Option (List ℕ)) → Runs (rules request) request had left written_before written_after asks lister → RunsOn goes_on (rules request) request had left' written_before written_after asks' lister'

-- a piece was to be read
abbrev pub FailsToRead : {Q E : Type 0} → (Q → Rules E) → Option (List ℕ) → ℕ → Listing Q → Option (List ℕ) → RunFault → Type 0
FailsToRead {Q} rules left asks lister left' fault = (request : Q) (had written_before written_after : Option (List ℕ)) → Runs (rules request) request had left written_before written_after asks lister → FailsBy (rules request) had left' written_before written_after fault

-- A run read octets that its reader had, and appended their listing to what is written.
pub record ListsBy {E : Type 0} (rules : Rules E) (had left written_before written_after : Option (List ℕ)) (ended : E) : Type 0 where
  pub read : List ℕ
  pub written : List ℕ
  pub taken : Consumes had left read
  pub added : Appends written_before written_after written
  pub listing : EndsListing rules read written left ended
