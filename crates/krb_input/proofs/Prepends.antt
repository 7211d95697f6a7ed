-- Octets before readings.
use Rattle.std.proofs.Common.{ℕ, ◌≡◌, List, [], ◌++◌, Ok, Err, refl, sym, ap, append_assoc, append-nil}
use Rattle.krb_input.specs.Readings.{Reading, prepend}

pub prepend_none : (reading : Reading) → prepend [] reading ≡ reading
prepend_none (Ok octets) = refl
prepend_none (Err left) = refl

pub prepend_twice : (first second : List ℕ) (reading : Reading) → prepend first (prepend second reading) ≡ prepend (first ++ second) reading
prepend_twice first second (Ok octets) = ap Ok (sym (append_assoc first second octets))
prepend_twice first second (Err left) = refl

pub ruleset prepends = (prepend_none, prepend_twice, append-nil)
