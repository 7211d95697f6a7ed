-- What a run that writes of octets as they come does to its reader and its writer.
use Rattle.std.specs.Prelude.{ℕ, ◌≡◌, ◌≤◌, List, ◌++◌, length, Option}
use Rattle.std.specs.Io.KnownBytes.{Consumes, Appends}
use Rattle.krb_run.specs.Records.{AppendsPrefix}

-- no more was read than octets after which others are asked for, and then one piece
pub record StopsInPiece (GoesOn : List ℕ → Type 0) (read : List ℕ) : Type 0 where
  pub prefix : List ℕ
  pub piece : List ℕ
  pub parts : read ≡ prefix ++ piece
  pub goes_on : GoesOn prefix
  pub short : length piece ≤ 65536

-- A run read octets that its reader had, and appended their text to what is written.
pub record WritesText (IsText : List ℕ → List ℕ → Type 0) (had left written_before written_after : Option (List ℕ)) : Type 0 where
  pub read : List ℕ
  pub text : List ℕ
  pub taken : Consumes had left read
  pub is_text : IsText read text
  pub added : Appends written_before written_after text

-- or a prefix of their text
pub record WritesPrefix (IsText : List ℕ → List ℕ → Type 0) (had left written_before written_after : Option (List ℕ)) : Type 0 where
  pub read : List ℕ
  pub text : List ℕ
  pub taken : Consumes had left read
  pub is_text : IsText read text
  pub added : AppendsPrefix written_before written_after text
