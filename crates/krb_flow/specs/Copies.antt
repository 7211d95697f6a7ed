-- Octets that come again: those that were taken or wait at their places are the ones that count, and others differ from them.
use Rattle.std.specs.Prelude.{ℕ, ◌+◌, ◌-◌, min, nat_lt, if◌then◌else◌, Bool, true, false, not, ◌==◌, Option, Some, None, List, [], ◌∷◌, length, slice_get}
use Rattle.std.specs.Ordering.{nat_cmp}
use Rattle.std.specs.Map.{lookup}
use Rattle.std.specs.BTreeMap.{is_at}
use Rattle.krb_flow.specs.Waiting.{Waiting}
use Rattle.krb_flow.specs.declared.copies.Differing.{Differing}

-- the octet that was taken so many octets before the next one that is due, if it is among the last ones, which are kept
abbrev pub taken_before : List ℕ → ℕ → Option ℕ
taken_before recent count = if nat_lt (length recent) count then None else slice_get recent (length recent - count)

-- whether an octet is another one, if there is one
abbrev pub is_other : Option ℕ → ℕ → Bool
is_other None octet = false
is_other (Some other) octet = not (octet == other)

-- whether an octet at a place before the next one that is due is another one than was taken there
abbrev pub differs_taken : List ℕ → ℕ → ℕ → ℕ → Bool
differs_taken recent expected place octet = is_other (taken_before recent (expected - place)) octet

-- or than waits there
abbrev pub differs_waiting : Waiting → ℕ → ℕ → Bool
differs_waiting waiting place octet = is_other (lookup (is_at (nat_cmp place)) waiting) octet

-- the places at which octets differ, from a place on
abbrev pub differing : (ℕ → ℕ → Bool) → ℕ → List ℕ → List ℕ
differing differs place [] = []
differing differs place (octet ∷ octets) = if differs place octet then place ∷ differing differs (place + 1) octets else differing differs (place + 1) octets

-- how many of octets from a place on are before the last ones that were taken, which are kept
abbrev pub old_of : List ℕ → ℕ → ℕ → List ℕ → ℕ
old_of recent expected place octets = min (expected - length recent - place) (length octets)

-- ---- what is known of such places: the first of them, and how many they are
abbrev pub summary : List ℕ → Differing
summary places = record { first = slice_get places 0; count = length places }
