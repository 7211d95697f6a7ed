-- Readers whose first octets were read.
use Rattle.std.proofs.Common.{ℕ, List, ◌++◌, take, drop, Option, Some, None, sym, ◌∙◌, ap, append_assoc, take-append-drop}
use Rattle.std.specs.Io.KnownBytes.{prepend_known}
use Rattle.krb_run.specs.Begun.{BeginsWith}

-- what was read begins what is left
pub begins-with : (read : List ℕ) (others : Option (List ℕ)) → BeginsWith (take 16 read) (prepend_known read others)
begins-with read None = tt
begins-with read (Some xs) = (drop 16 read ++ xs, ap (λ l. l ++ xs) (sym (take-append-drop 16 read)) ∙ append_assoc (take 16 read) (drop 16 read) xs)
