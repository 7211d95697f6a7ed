-- Spans that are added to others.
use Rattle.std.specs.Prelude.{ℕ, ◌≡◌, ◌≤◌, ◌++◌, ◌&&◌, Option, Some, None}
use Rattle.krb_c.specs.Spans.{Spanned, both, nothing}
use Rattle.krb_c.specs.declared.spans.Spans.{Spans}

pub record Adds (added : Spanned) (old new : Spans) : Type 0 where
  pub numbers : new.numbers.items ≡ old.numbers.items ++ added.numbers
  pub clean : new.is_clean ≡ (old.is_clean && added.clean)

-- what follows at the next place, if there is one
abbrev pub rest_at : Option ℕ → (next : ℕ → Spanned) → Spanned
rest_at None next = nothing
rest_at (Some place) next = next place

-- Of what is there with what follows this was added, and the rest is what follows at the next place.
pub record AddsFirst (whole : (ℕ → Spanned) → Spanned) (old new : Spans) (next : Option ℕ) : Type 0 where
  pub first : Spanned
  pub adds : Adds first old new
  pub parts : (following : ℕ → Spanned) → whole following ≡ both first (rest_at next following)

-- a place is one of the octets or their end
abbrev pub IsWithin : (all : ℕ) → Option ℕ → Type 0
IsWithin all None = Unit {0}
IsWithin all (Some place) = place ≤ all

-- what there is in all
abbrev pub spanned : Spans → Spanned
spanned spans = record { numbers = spans.numbers.items; clean = spans.is_clean }
