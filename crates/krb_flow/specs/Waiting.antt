-- Octets that wait for those before them: each with its place, in ascending order of the places.
use Rattle.std.specs.Prelude.{ℕ, ◌+◌, List, [], ◌∷◌, ◌==◌, is_some}
use Rattle.std.specs.Ordering.{nat_cmp}
use Rattle.std.specs.Map.{lookup}
use Rattle.std.specs.BTreeMap.{insert_entry, is_at}
use Rattle.krb_der.specs.Octets.{when}

abbrev pub Waiting : Type 0
Waiting = List (ℕ × ℕ)

-- The first copy of an octet counts: if one waits at a place, another one is ignored.
abbrev pub keep_one : ℕ → ℕ → Waiting → Waiting
keep_one place octet waiting = when (is_some (lookup (is_at (nat_cmp place)) waiting)) (λ _. waiting) (λ _. insert_entry nat_cmp waiting place octet)

-- octets at the places from `place` on
abbrev pub keep : ℕ → List ℕ → Waiting → Waiting
keep place [] waiting = waiting
keep place (octet ∷ octets) waiting = keep (place + 1) octets (keep_one place octet waiting)

-- the octets that follow those before the place `expected`, up to the first one that is missing
abbrev pub ready : ℕ → Waiting → List ℕ
ready expected [] = []
ready expected (entry ∷ entries) = when (entry.0 == expected) (λ _. entry.1 ∷ ready (expected + 1) entries) (λ _. [])

-- the octets that are left waiting then
abbrev pub early : ℕ → Waiting → Waiting
early expected [] = []
early expected (entry ∷ entries) = when (entry.0 == expected) (λ _. early (expected + 1) entries) (λ _. entry ∷ entries)
