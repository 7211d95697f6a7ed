-- How many octets a value is encoded in.
use Rattle.std.specs.Prelude.{ℕ, ◌≡◌, length}
use Rattle.krb_der.specs.Sizes.{saturated}
use Rattle.krb_msg.specs.Term.{Term, Value, der, Fits}

-- the number of octets of a value, 2147483648 if there are more, and that the value fits
pub record IsSized (term : Term) (value : Value term) (size : ℕ) : Type 0 where
  pub octets : size ≡ saturated (length (der term value))
  pub fits : Fits term value
