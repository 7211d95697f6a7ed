-- Spans that are added within octets.
use Rattle.std.specs.Prelude.{ℕ, ◌≡◌, ◌++◌, List}
use Rattle.krb_c.specs.Spanned.{AreWithin}
use Rattle.krb_c.specs.declared.spans.Spans.{Spans}

pub record AddsWithin (all : ℕ) (old new : Spans) : Type 0 where
  pub added : List ℕ
  pub within : AreWithin all added
  pub numbers : new.numbers.items ≡ old.numbers.items ++ added
