-- Octets that are the DER of a value.
use Rattle.std.specs.Prelude.{ℕ, ◌≡◌, List}
use Rattle.krb_msg.specs.Term.{Term, Value, Fits, der}

-- of some value of a term
pub record IsDer (term : Term) (octets : List ℕ) : Type 0 where
  pub value : Value term
  pub fits : Fits term value
  pub form : octets ≡ der term value
