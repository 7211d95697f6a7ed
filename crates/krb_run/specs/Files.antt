-- The listing of what is read before anything is written, and what a run on it does to its reader and its writer.
use Rattle.std.specs.Prelude.{ℕ, ◌≡◌, ◌⊎◌, List, ◌++◌, length, Option, Some}
use Rattle.std.specs.Io.KnownBytes.{Consumes, Appends, Keeps, IsAtEnd}
use Rattle.krb_run.specs.Records.{AppendsPrefix}
use Rattle.krb_run.specs.declared.file_run.FileText.{FileText}
use Rattle.krb_run.specs.declared.run.RunEnd.{RunEnd}
use Rattle.krb_run.specs.declared.run.RunFault.{RunFault}
use Rattle.krb_run.specs.declared.run.RunFault.TheVariants as fault
use Rattle.krb_run.specs.declared.transfer.ReaderState.{ReaderState}
use Rattle.krb_run.specs.declared.transfer.ReaderState.TheVariants as reader
use Rattle.krb_run.specs.Faults.{IsRead}

-- The listing of a file, and how its run ends.
pub record FileListing : Type 0 where
  pub text : List ℕ
  pub end : RunEnd

-- what a function made of a file or of octets
abbrev pub shown : FileText → FileListing
shown made = record { text = made.text; end = made.end }

-- if there is a greatest number, a prefix of a file of that length decides its listing
abbrev pub IsDecidedByPrefix : (List ℕ → FileListing → Type 0) → Option ℕ → Type 0
IsDecidedByPrefix Lists most = (kept rest : List ℕ) (listing : FileListing) → most ≡ Some (length kept) → Lists kept listing → Lists (kept ++ rest) listing

-- ---- what a run does

-- no octets that come after those of a file change its listing
abbrev pub IsSettled : (List ℕ → FileListing → Type 0) → (file : List ℕ) → FileListing → Type 0
IsSettled Lists file listing = (rest : List ℕ) → Lists (file ++ rest) listing

-- Octets that a reader had were read, up to its end, or up to where their listing is settled: so it is the listing of all that the reader had.
pub record Reads (Lists : List ℕ → FileListing → Type 0) (had left : Option (List ℕ)) (file : List ℕ) (listing : FileListing) : Type 0 where
  pub taken : Consumes had left file
  pub listed : Lists file listing
  pub enough : IsAtEnd left ⊎ IsSettled Lists file listing

-- A run appended the listing of what its reader had to what is written.
pub record ListsFile (Lists : List ℕ → FileListing → Type 0) (had left written_before written_after : Option (List ℕ)) (ended : RunEnd) : Type 0 where
  pub file : List ℕ
  pub listing : FileListing
  pub read : Reads Lists had left file listing
  pub added : Appends written_before written_after listing.text
  pub ended_so : ended ≡ listing.end

-- A run appended a prefix of the listing of what its reader had to what is written.
pub record ListsPrefix (Lists : List ℕ → FileListing → Type 0) (had left written_before written_after : Option (List ℕ)) : Type 0 where
  pub file : List ℕ
  pub listing : FileListing
  pub read : Reads Lists had left file listing
  pub added : AppendsPrefix written_before written_after listing.text

-- a prefix of the octets that a reader had was read
abbrev pub ReadsSome : Option (List ℕ) → Option (List ℕ) → Type 0
ReadsSome had left = (taken : List ℕ) × Consumes had left taken

-- A run read a prefix of the octets that its reader had, and wrote nothing.
pub record WritesNothing (had left written_before written_after : Option (List ℕ)) : Type 0 where
  pub taken : ReadsSome had left
  pub kept : Keeps written_before written_after

-- If a run fails by a write, a prefix of the listing is written, and else nothing.
abbrev pub FailsFile : (List ℕ → FileListing → Type 0) → Option (List ℕ) → Option (List ℕ) → Option (List ℕ) → Option (List ℕ) → RunFault → Type 0
FailsFile Lists had left written_before written_after (fault.Read error) = WritesNothing had left written_before written_after
FailsFile Lists had left written_before written_after (fault.Write error) = ListsPrefix Lists had left written_before written_after
FailsFile Lists had left written_before written_after fault.Memory = WritesNothing had left written_before written_after

-- a fault is that of the reader if this failed, and else it is not
abbrev pub MatchesReader : ReaderState → RunFault → Type 0
MatchesReader reader.Failed e = IsRead e
MatchesReader reader.Open e = IsRead e → ⊥
MatchesReader reader.Ended e = IsRead e → ⊥
