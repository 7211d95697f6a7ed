-- Items and fields whose heads are read at once.
use Rattle.std.specs.Prelude.{ℕ, ◌≡◌, ◌+◌, ◌≤◌, List, ◌++◌, length, take, drop}
use Rattle.krb_der.specs.Octets.{item}

-- the octets do not begin with a field of a tag that holds an item of another
abbrev pub HasNoField : ℕ → ℕ → List ℕ → Type 0
HasNoField outer tag octets = (contents rest : List ℕ) → octets ≡ item outer (item tag contents) ++ rest → ⊥

-- octets begin with contents in an item, or in a field, of which so many are before them and so many are they
pub record IsHead (form_of : List ℕ → List ℕ) (octets : List ℕ) (before size : ℕ) : Type 0 where
  pub within : before + size ≤ length octets
  pub form : octets ≡ form_of (take size (drop before octets)) ++ drop size (drop before octets)
