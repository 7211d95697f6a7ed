-- What the parts of a run on the records of a file promise each other.
use Rattle.std.specs.Prelude.{ℕ, ◌≡◌, List, ◌++◌, Option, Result, Ok, Err}
use Rattle.std.specs.Io.KnownBytes.{Appends}
use Rattle.krb_run.specs.Records.{AppendsPrefix}
use Rattle.krb_run.specs.declared.run.RunEnd.{RunEnd}
use Rattle.krb_run.specs.declared.run.RunFault.{RunFault}
use Rattle.krb_run.specs.declared.run.RunFault.TheVariants as faulty

-- a prefix of a text was written, and the rest is kept
abbrev pub Moves : Option (List ℕ) → Option (List ℕ) → List ℕ → List ℕ → Type 0
Moves written_before written_after old new = (prefix : List ℕ) × Appends written_before written_after prefix × (old ≡ prefix ++ new)

-- If a read failed, the text was written, unless a write failed. At another fault nothing was written.
abbrev pub WritesBefore : RunFault → Option (List ℕ) → Option (List ℕ) → List ℕ → Result RunEnd RunFault → Type 0
WritesBefore fault written_before written_after text (Ok ended) = ⊥
WritesBefore (faulty.Read error) written_before written_after text (Err (faulty.Read last)) = Appends written_before written_after text
WritesBefore (faulty.Read error) written_before written_after text (Err (faulty.Write last)) = AppendsPrefix written_before written_after text
WritesBefore (faulty.Read error) written_before written_after text (Err faulty.Memory) = ⊥
WritesBefore (faulty.Write error) written_before written_after text (Err last) = ⊥
WritesBefore faulty.Memory written_before written_after text (Err last) = (last ≡ faulty.Memory) × (written_after ≡ written_before)
