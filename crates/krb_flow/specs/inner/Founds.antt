-- What waits at places that follow each other: these octets, or none.
use Rattle.std.specs.Prelude.{◌≡◌, ℕ, ◌+◌, ◌<◌, ◌≤◌, List, [], length, take}
use Rattle.krb_flow.specs.Copies.{differing, differs_waiting}
use Rattle.krb_flow.specs.inner.Runs.{Runs, waiting_in}
use Rattle.krb_flow.specs.inner.Unequal.{unequal}
use Rattle.krb_flow.specs.declared.waiting.Found.{Found}
use Rattle.krb_flow.specs.declared.waiting.Found.TheVariants.{Octets, Nothing}

-- so that others from there on differ where they are unequal, or nowhere
abbrev pub IsFound : ℕ → Runs → Found → Type 0
IsFound place runs (Octets waiting) = (0 < length waiting.now) × ((octets : List ℕ) → length octets ≤ length waiting.now → differing (differs_waiting (waiting_in runs)) place octets ≡ unequal place octets (take (length octets) waiting.now))
IsFound place runs (Nothing count) = (0 < count) × ((octets : List ℕ) → length octets ≤ count → differing (differs_waiting (waiting_in runs)) place octets ≡ [])
