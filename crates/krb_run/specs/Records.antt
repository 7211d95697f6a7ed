-- The listing of a file record by record, and what a run on it does to its writer.
use Rattle.std.specs.Prelude.{ℕ, zero, suc, ◌^◌, ◌≡◌, ◌⊎◌, List, [], ◌++◌, Option, Some, None, Result, Ok, Err}
use Rattle.std.specs.Io.KnownBytes.{Appends}
use Rattle.krb_file.specs.Fields.{Fault}
use Rattle.krb_file.specs.declared.fault.FileFault.{FileFault}
use Rattle.krb_file.specs.declared.fault.FileFault.TheVariants as faults
use Rattle.krb_file.specs.declared.field_path.FileItem.{FileItem}
use Rattle.krb_file.specs.declared.field_path.FileItem.TheVariants as items
use Rattle.krb_record.specs.Labels.{Label}
use Rattle.krb_run.specs.Extents.{fault_line}
use Rattle.krb_run.specs.Paths.{file_path, field_path}
use Rattle.krb_run.specs.declared.run.RunEnd.{RunEnd}
use Rattle.krb_run.specs.declared.run.RunEnd.TheVariants as run
use Rattle.krb_run.specs.declared.run.RunFault.{RunFault}
use Rattle.krb_run.specs.declared.run.RunFault.TheVariants as fault

-- The listing of a file that is read one record at a time: a line for each record before the end or the first fault, and the last line; and how its run ends.
pub record RecordListing : Type 0 where
  pub lines : List ℕ
  pub last : List ℕ
  pub end : RunEnd

abbrev pub text_of : RecordListing → List ℕ
text_of listing = listing.lines ++ listing.last

abbrev pub after_line : List ℕ → RecordListing → RecordListing
after_line line listing = record { lines = line ++ listing.lines; last = listing.last; end = listing.end }

-- How a run ends whose file is refused in an item: at once, if no line is before that of the refusal. A cache has its own line before those of its credentials.
abbrev pub refused_in : FileItem → RunEnd
refused_in items.File = run.RefusedAtOnce
refused_in (items.Record zero) = run.RefusedAtOnce
refused_in (items.Record (suc count)) = run.Refused
refused_in (items.Credential count) = run.Refused

-- after the items before this one
abbrev pub end_of : {A : Type 0} → FileItem → Result A Fault → RunEnd
end_of item (Ok end) = run.Clean
end_of item (Err fault) = refused_in item

-- the one line of what is refused before any record
abbrev pub refused_listing : Label → Fault → RecordListing
refused_listing label refusal = record { lines = []; last = fault_line label refusal (field_path refusal.field); end = run.RefusedAtOnce }

-- ---- what a run does

-- What is written only grows: octets were appended to it, or none.
abbrev pub WritesSome : Option (List ℕ) → Option (List ℕ) → Type 0
WritesSome written_before written_after = (written : List ℕ) × Appends written_before written_after written

-- A prefix of a text was appended to what is written. It may be all of the text, or none.
pub record AppendsPrefix (written_before written_after : Option (List ℕ)) (text : List ℕ) : Type 0 where
  pub prefix : List ℕ
  pub rest : List ℕ
  pub added : Appends written_before written_after prefix
  pub whole : text ≡ prefix ++ rest

-- The lines of the first records of a listing were appended to what is written, each whole, and this is left of it.
pub record ListsFirst (listing : RecordListing) (IsLeft : RecordListing → Type 0) (written_before written_after : Option (List ℕ)) : Type 0 where
  pub lines : List ℕ
  pub left : RecordListing
  pub added : Appends written_before written_after lines
  pub parts : listing ≡ after_line lines left
  pub is_left : IsLeft left

-- What a run on records appends to what is written: the listing; a prefix of it if a write fails; a prefix of the lines of records if memory runs out; and if a read fails, the lines of the first records, up to where this may be left of the listing.
abbrev pub ListsRecords : (listing : RecordListing) → (IsLeft : RecordListing → Type 0) → Option (List ℕ) → Option (List ℕ) → Result RunEnd RunFault → Type 0
ListsRecords listing IsLeft written_before written_after (Ok ended) = Appends written_before written_after (text_of listing) × (ended ≡ listing.end)
ListsRecords listing IsLeft written_before written_after (Err (fault.Write error)) = AppendsPrefix written_before written_after (text_of listing)
ListsRecords listing IsLeft written_before written_after (Err (fault.Read error)) = ListsFirst listing IsLeft written_before written_after
ListsRecords listing IsLeft written_before written_after (Err fault.Memory) = AppendsPrefix written_before written_after listing.lines

-- This was left of a source to a lister of records when a read failed, or when it was not asked for more, after 2^40 records.
pub record WasLeft {L S : Type 0} (IsLeft : L → ℕ → S → RecordListing → Type 0) (Fails : L → L → Type 0) (source : S) (now : L) (left : RecordListing) : Type 0 where
  pub lines : L
  pub count : ℕ
  pub is_left : IsLeft lines count source left
  pub failed : Fails lines now ⊎ ((now ≡ lines) × (count ≡ 2 ^ 40))

-- What is added to a text if this is left to be listed: a line, after which others are left, or the last line, if it alone is left.
abbrev pub AddsLine : (RecordListing → Type 0) → RecordListing → List ℕ → List ℕ → Result (Option RunEnd) RunFault → Type 0
AddsLine IsLeft left old new (Ok None) = (line : List ℕ) × (others : RecordListing) × (new ≡ old ++ line) × (left ≡ after_line line others) × IsLeft others
AddsLine IsLeft left old new (Ok (Some ended)) = (new ≡ old ++ left.last) × (left.lines ≡ []) × (ended ≡ left.end)
AddsLine IsLeft left old new (Err failed) = Unit {0}

-- ---- a refusal

-- The line of a refusal in this item was added, which ends the run.
abbrev pub AddsRefusal : FileItem → Label → FileFault → List ℕ → List ℕ → RunEnd → Type 0
AddsRefusal item label (faults.Refused fault) old new ended = (ended ≡ refused_in item) × (new ≡ old ++ fault_line label fault (file_path item fault.field))
AddsRefusal item label faults.Read old new ended = ⊥
AddsRefusal item label faults.Memory old new ended = ⊥

-- if a file is refused, the line of the refusal is what is left
abbrev pub IsRefusal : Label → FileFault → RecordListing → Type 0
IsRefusal label (faults.Refused fault) left = left ≡ refused_listing label fault
IsRefusal label faults.Read left = Unit {0}
IsRefusal label faults.Memory left = Unit {0}
