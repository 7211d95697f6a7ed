-- Places that follow each other: an octet waits at each of them, or at none.
use Rattle.std.specs.Prelude.{◌≡◌, ℕ, ◌+◌, ◌<◌, ◌≤◌, List, length, take}
use Rattle.krb_flow.specs.Waiting.{keep}
use Rattle.krb_flow.specs.inner.Runs.{Runs, AreApart, AreFree, waiting_in}
use Rattle.krb_flow.specs.declared.waiting.Stretch.{Stretch}
use Rattle.krb_flow.specs.declared.waiting.Stretch.TheVariants.{Occupied, Free}
use Rattle.krb_flow.specs.declared.waiting.Kept.{Kept}

-- an octet waits at each of the `count` places from `place` on, so no other octet is kept there
abbrev pub AreOccupied : ℕ → ℕ → Runs → Type 0
AreOccupied place count runs = (octets : List ℕ) → length octets ≤ count → keep place octets (waiting_in runs) ≡ waiting_in runs

abbrev pub IsStretch : ℕ → Runs → Stretch → Type 0
IsStretch place runs (Occupied count) = (0 < count) × AreOccupied place count runs
IsStretch place runs (Free count) = (0 < count) × AreFree place count runs

-- The first octets of some were kept, or waited already.
pub record KeepsSome (place : ℕ) (octets : List ℕ) (old new : Runs) (some : Kept) : Type 0 where
  pub one : 0 < some.seen
  pub within : some.seen ≤ length octets
  pub few : some.kept ≤ some.seen
  pub kept : waiting_in new ≡ keep place (take some.seen octets) (waiting_in old)
  pub count : length (waiting_in new) ≡ length (waiting_in old) + some.kept
  pub apart : AreApart 0 new
