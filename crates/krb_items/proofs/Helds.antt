-- What OCTET STRINGs hold.
use Rattle.std.proofs.Common.{◌≡◌, ◌≢◌, Option, Some, None, refl, sym, ap}
use Rattle.std.specs.Prelude.{MatchOption, is_none, is_some}

-- there is one of two values
pub some-none : {A B : Type 0} (seen : Option A) (refusal : Option B) → MatchOption seen (refusal ≢ None) (λ a. refusal ≡ None) → is_some seen ≡ is_none refusal
some-none None None m = absurd (m refl)
some-none None (Some b) m = refl
some-none (Some a) refusal m = sym (ap is_none m)
