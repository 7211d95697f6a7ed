-- What a run that writes one text of what it reads, messages as lines or lines as messages, does to its reader and its writer.
use Rattle.std.specs.Prelude.{ℕ, ◌≡◌, List, ◌++◌, Option}
use Rattle.std.specs.Io.KnownBytes.{Consumes, Appends, IsAtEnd}
use Rattle.krb_run.specs.Runs.{StopsInPiece, WritesPrefix, WritesText}
use Rattle.krb_run.specs.declared.run.RunFault.{RunFault}
use Rattle.krb_run.specs.declared.run.RunFault.TheVariants as fault

-- what octets become: a text, and how it ends
pub record Converted (E : Type 0) : Type 0 where
  pub text : List ℕ
  pub end : E

-- with a text before it
abbrev pub after_text : {E : Type 0} → List ℕ → Converted E → Converted E
after_text text others = record { text = text ++ others.text; end = others.end }

-- A run read octets that its reader had, and appended what they become to what is written. If it could go on nothing is left unread.
pub record Converts {E : Type 0} (convert : List ℕ → Converted E) (GoesOn : List ℕ → Type 0) (had left written_before written_after : Option (List ℕ)) (ended : E) : Type 0 where
  pub read : List ℕ
  pub taken : Consumes had left read
  pub added : Appends written_before written_after (convert read).text
  pub ended_so : ended ≡ (convert read).end
  pub all_read : GoesOn read → IsAtEnd left
  pub stops : StopsInPiece GoesOn read

-- If a run fails by a write, a prefix of what the octets become that it read is written. If a read fails, it is what their whole parts become, all of that; and if memory runs out, a prefix of that.
abbrev pub FailsToConvert : (all of_whole : List ℕ → List ℕ) → (had left written_before written_after : Option (List ℕ)) → RunFault → Type 0
FailsToConvert all of_whole had left written_before written_after (fault.Write error) = WritesPrefix (λ read text. text ≡ all read) had left written_before written_after
FailsToConvert all of_whole had left written_before written_after (fault.Read error) = WritesText (λ read text. text ≡ of_whole read) had left written_before written_after
FailsToConvert all of_whole had left written_before written_after fault.Memory = WritesPrefix (λ read text. text ≡ of_whole read) had left written_before written_after
