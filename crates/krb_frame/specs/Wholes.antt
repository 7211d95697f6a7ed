-- Frames that lie whole in a piece.
use Rattle.std.specs.Prelude.{ℕ, ◌≡◌, List, ◌++◌, None, length}
use Rattle.krb_frame.specs.Frame.{framed, length_fault}

-- octets begin with a frame whose length is accepted, and others follow it
pub record BeginWith (limit : ℕ) (octets contents rest : List ℕ) : Type 0 where
  pub parts : octets ≡ framed contents ++ rest
  pub accepted : length_fault limit (length contents) ≡ None

-- they do not
abbrev pub HaveNoFrame : ℕ → List ℕ → Type 0
HaveNoFrame limit octets = (contents rest : List ℕ) → BeginWith limit octets contents rest → ⊥
