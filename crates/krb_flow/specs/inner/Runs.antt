-- Runs of octets that wait and follow each other.
use Rattle.std.specs.Prelude.{ℕ, ◌+◌, ◌-◌, ◌<◌, ◌≤◌, ◌^◌, ◌⊎◌, List, [], ◌∷◌, ◌++◌, length}
use Rattle.std.specs.Global.{Vec}
use Rattle.krb_flow.specs.Waiting.{Waiting}

-- each run, after the place that follows its last octet
abbrev pub Runs : Type 0
Runs = List (ℕ × Vec ℕ)

-- octets with their places, from `place` on
abbrev pub places : ℕ → List ℕ → Waiting
places place [] = []
places place (octet ∷ octets) = (place, octet) ∷ places (place + 1) octets

-- the octets of all runs
abbrev pub waiting_in : Runs → Waiting
waiting_in [] = []
waiting_in (run ∷ runs) = places (run.0 - length run.1.items) run.1.items ++ waiting_in runs

-- Each run has an octet. The first one begins at `place` or after it, and each other one after the one before it.
abbrev pub AreApart : ℕ → Runs → Type 0
AreApart place [] = place < 2 ^ 64
AreApart place (run ∷ runs) = (0 < length run.1.items) × (place + length run.1.items ≤ run.0) × AreApart run.0 runs

-- no octet of a run is at one of the `count` places from `place` on
abbrev pub AreFree : ℕ → ℕ → Runs → Type 0
AreFree place count [] = Unit {0}
AreFree place count (run ∷ runs) = ((run.0 ≤ place) ⊎ (place + count + length run.1.items ≤ run.0)) × AreFree place count runs
