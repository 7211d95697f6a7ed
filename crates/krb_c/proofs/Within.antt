-- Spans within octets, and those that are added to none.
use Rattle.std.proofs.Common.{◌≡◌, ℕ, Bool, true, ◌&&◌, List, [], ◌∷◌, ◌++◌, Result, Ok, Err, IfOk, inl, inr, ◌∙◌, ap, append_assoc, subst, sym}
use Rattle.std.specs.Prelude.{MatchResult, if◌then◌else◌}
use Rattle.krb_run.specs.declared.run.RunFault.{RunFault}
use Rattle.krb_c.specs.Spanned.{AreGiven, AreWithin}
use Rattle.krb_c.specs.Spans.{Spanned}
use Rattle.krb_c.specs.Written.{IsCopied, WroteNothing}
use Rattle.krb_c.specs.inner.Adding.{Adds, spanned}
use Rattle.krb_c.specs.inner.Within.{AddsWithin}
use Rattle.krb_c.specs.declared.spans.Spans.{Spans}

module _ (all : ℕ) where
  both-within : (one other : List ℕ) → AreWithin all one → AreWithin all other → AreWithin all (one ++ other)
  both-within [] other a b = b
  both-within (begin ∷ []) other a b = absurd a
  both-within (begin ∷ size ∷ one) other a b = (a.0, both-within one other a.1 b)

  pub more-within : (old now new : Spans) → AddsWithin all old now → AddsWithin all now new → AddsWithin all old new
  more-within old now new one other = record {
    added = one.added ++ other.added;
    within = both-within one.added other.added one.within other.within;
    numbers = other.numbers ∙ ap (λ (l : List ℕ). l ++ other.added) one.numbers ∙ append_assoc old.numbers.items one.added other.added;
  }

  pub all-within : (old new : Spans) → old.numbers.items ≡ [] → AddsWithin all old new → AreWithin all new.numbers.items
  all-within old new none adds = subst (AreWithin all) (sym (adds.numbers ∙ ap (λ (l : List ℕ). l ++ adds.added) none)) adds.within

-- what is added to none is all there is
pub only-added : (added : Spanned) (old new : Spans) → old.numbers.items ≡ [] → old.is_clean ≡ true → Adds added old new → spanned new ≡ added
only-added added old new none clean adds =
    let numbers = adds.numbers ∙ ap (λ (l : List ℕ). l ++ added.numbers) none in
    let is_clean = adds.clean ∙ ap (λ (b : Bool). b && added.clean) clean in
    λ i. record { numbers = numbers i; clean = is_clean i }

-- what is found is copied
pub are-given : (IsFound : Spanned → Type 0) (found : Result Spans RunFault) (before after : List ℕ) (size size' answer : ℕ) → IfOk found (λ f. IsFound (spanned f))
    → MatchResult found (λ f. IsCopied f.numbers.items before after size' × (answer ≡ (if f.is_clean then 0 else 1))) (λ e. WroteNothing before after size size' answer) → AreGiven IsFound before after size size' answer
are-given IsFound (Ok f) before after size size' answer is copied = inr (record { found = spanned f; is = is; copied = copied.0; answered = copied.1 })
are-given IsFound (Err e) before after size size' answer is nothing = inl nothing
