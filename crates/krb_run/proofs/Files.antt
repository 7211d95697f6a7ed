-- A file that is read piece by piece.
use Rattle.std.proofs.Common.{◌≡◌, ℕ, ◌+◌, ◌<◌, ◌≤◌, ◌⊎◌, inl, inr, List, [], ◌++◌, length, take, Option, Some, None, IfSome, Result, Ok, Err, OnErr, IfErr, ◌∙◌, ap, subst, arith, append-nil, length-append, length-take}
use Rattle.std.specs.Io.KnownBytes.{Consumes, IsAtEnd}
use Rattle.std.proofs.KnownBytes.{Consumes-nil, Consumes-trans}
use Rattle.krb_run.specs.Files.{FileListing, IsSettled, Reads, ReadsSome, ListsPrefix, FailsFile, IsDecidedByPrefix, MatchesReader}
use Rattle.krb_run.specs.inner.FileRuns.{IsNotFailed, ReadsUpTo}
use Rattle.krb_run.specs.declared.run.RunFault.{RunFault}
use Rattle.krb_run.specs.declared.run.RunFault.TheVariants as fault
use Rattle.krb_run.specs.Faults.{IsRead, IsWrite}
use Rattle.krb_run.specs.declared.transfer.ReaderState.{ReaderState}
use Rattle.krb_run.specs.declared.transfer.ReaderState.TheVariants as reader
use Rattle.krb_run.specs.Transfers.{ReturnsOctets}

-- what came so far, which is no more than the greatest number of octets
pub record HasRead (had left : Option (List ℕ)) (most : Option ℕ) (file : List ℕ) : Type 0 where
  pub taken : Consumes had left file
  pub within : IfSome most (λ m. length file ≤ m)

pub HasRead-start : (had : Option (List ℕ)) (most : Option ℕ) → HasRead had had most []
HasRead-start had None = record { taken = Consumes-nil had; within = tt }
HasRead-start had (Some m) = record { taken = Consumes-nil had; within = omega arith }

-- and then a piece, for which there was room
pub HasRead-more : (had left after : Option (List ℕ)) (most : Option ℕ) (file piece : List ℕ) (kept room count : ℕ) → HasRead had left most file → Consumes left after (take count piece) → count ≤ room → kept ≡ length file → IfSome most (λ m. kept + room ≤ m) → HasRead had after most (file ++ take count piece)
HasRead-more had left after None file piece kept room count h more few size within = record {
  taken = Consumes-trans had left after file (take count piece) h.taken more;
  within = tt;
}
HasRead-more had left after (Some m) file piece kept room count h more few size within = record {
  taken = Consumes-trans had left after file (take count piece) h.taken more;
  within = omega (arith, few, size, within, length-append file (take count piece), length-take count piece);
}

-- there is no room for more
pub ReadsUpTo-full : (had left : Option (List ℕ)) (most : Option ℕ) (file : List ℕ) (kept : ℕ) → HasRead had left most file → most ≡ Some kept → kept ≡ length file → ReadsUpTo had left most file
ReadsUpTo-full had left most file kept h full size = record { taken = h.taken; enough = inr (full ∙ ap Some size); within = h.within }

-- a reader that returns nothing is at its end
pub ReadsUpTo-ended : (had left after : Option (List ℕ)) (most : Option ℕ) (file piece : List ℕ) (room : ℕ) → HasRead had left most file → ReturnsOctets left after piece room → piece ≡ [] → 0 < room → ReadsUpTo had after most file
ReadsUpTo-ended had left after most file piece room h given none some = record {
  taken = subst (Consumes had after) (ap (λ l. file ++ l) none ∙ append-nil file) (Consumes-trans had left after file piece h.taken given.taken);
  enough = inl (given.ended none some);
  within = h.within;
}

-- the listing of what was read is that of all
pub Reads-made : (Lists : List ℕ → FileListing → Type 0) (had left : Option (List ℕ)) (most : Option ℕ) (file : List ℕ) (listing : FileListing) → IsDecidedByPrefix Lists most → ReadsUpTo had left most file → Lists file listing → Reads Lists had left file listing
Reads-made Lists had left most file listing decided read listed = record { taken = read.taken; listed = listed; enough = enough read.enough }
  where
    enough : IsAtEnd left ⊎ (most ≡ Some (length file)) → IsAtEnd left ⊎ IsSettled Lists file listing
    enough (inl end) = inl end
    enough (inr full) = inr (λ rest. decided file rest listing full listed)

-- octets were read, whatever came then
pub some-taken : {T E : Type 0} (r : Result T E) (had left : Option (List ℕ)) (taken : List ℕ) → Consumes had left taken → OnErr r (ReadsSome had left)
some-taken (Ok x) had left taken c = tt
some-taken (Err e) had left taken c = (taken, c)

-- a fault where no read failed is not that of the reader
pub decided-after : {T : Type 0} (state : ReaderState) (r : Result T RunFault) → IsNotFailed state → IfErr r (λ f. IsRead f → ⊥) → IfErr r (MatchesReader state)
decided-after state (Ok x) s n = tt
decided-after reader.Open (Err f) s n = n
decided-after reader.Ended (Err f) s n = n
decided-after reader.Failed (Err f) s n = absurd s

-- a write failed after the beginning of the listing
pub failed-write : {T : Type 0} (r : Result T RunFault) (Lists : List ℕ → FileListing → Type 0) (had left written_before written_after : Option (List ℕ)) → IfErr r IsWrite → ListsPrefix Lists had left written_before written_after → IfErr r (FailsFile Lists had left written_before written_after)
failed-write (Ok x) Lists had left written_before written_after w f = tt
failed-write (Err (fault.Write e)) Lists had left written_before written_after w f = f
failed-write (Err (fault.Read e)) Lists had left written_before written_after w f = absurd w
failed-write (Err fault.Memory) Lists had left written_before written_after w f = absurd w

-- out of memory is no failed read, nor is a failed write
pub memory-unread : {T : Type 0} (r : Result T RunFault) → IfErr r (λ e. e ≡ fault.Memory) → IfErr r (λ e. IsRead e → ⊥)
memory-unread (Ok x) m = tt
memory-unread (Err e) m = λ read. subst IsRead m read

pub write-unread : {T : Type 0} (r : Result T RunFault) → IfErr r IsWrite → IfErr r (λ e. IsRead e → ⊥)
write-unread (Ok x) w = tt
write-unread (Err (fault.Write e)) w = λ read. read
write-unread (Err (fault.Read e)) w = absurd w
write-unread (Err fault.Memory) w = absurd w
