-- Octets of a segment whose frames are still to be listed.
use Rattle.std.specs.Prelude.{ℕ, List, Option}
use Rattle.krb_flow.specs.declared.stream.End.{End}

-- these octets, and how the direction ends after them, if it does
pub record Unlisted : Type 0 where
  pub octets : List ℕ
  pub end : Option End
