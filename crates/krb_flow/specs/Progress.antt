-- The progress of a direction of a connection that began.
use Rattle.std.specs.Prelude.{ℕ, Option, None, []}
use Rattle.krb_flow.specs.Waiting.{Waiting}

-- Places count octets from the first one, which has the sequence number `first`. Those before `expected` were delivered, and `seen` is the place after the last one that a segment had, captured or not.
pub record Progress : Type 0 where
  pub first : ℕ
  pub expected : ℕ
  pub waiting : Waiting
  pub seen : ℕ
  -- the place of the first octet of the segments that began too far ahead, among those with octets that were captured
  pub far : Option ℕ
  pub fin : Option ℕ

abbrev pub begun : ℕ → Progress
begun first = record { first = first; expected = 0; waiting = []; seen = 0; far = None; fin = None }
