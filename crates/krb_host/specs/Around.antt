-- What is around the program.
use Rattle.std.specs.Prelude.{ℕ, Bool, List, Option}
use Rattle.krb_run.specs.declared.run.RunFault.{RunFault}
use Rattle.krb_words.specs.declared.sources.NamedPath.{NamedPath}
use Rattle.krb_words.specs.declared.sources.Source.{Source}

-- The octets that a source has, where they are known, the names of the caches in a directory, whether the standard output is a terminal, and what the clock says; and what was told to the standard error: the fault by which the run over a source ended, what a source of another kind is, the lines of why a source was not turned into another form to its end, and what is wrong with the words.
pub record Around : Type 1 where
  pub octets : Source → Option (List ℕ)
  pub HasCaches : NamedPath → List (List ℕ) → Type 0
  pub WritesToTerminal : Bool → Type 0
  pub IsNow : ℕ → Type 0
  pub IsFaultTold : Source → RunFault → Type 0
  pub IsHintTold : Source → List ℕ → Type 0
  pub IsEndTold : Source → List ℕ → Type 0
  pub AreWordsTold : List ℕ → Type 0
