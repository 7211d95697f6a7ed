-- Frames that are added one after another.
use Rattle.std.proofs.Common.{◌≡◌, ℕ, suc, zero, ◌+◌, ◌<◌, Bool, true, false, ◌&&◌, List, ◌++◌, length, Option, Some, None, refl, sym, ◌∙◌, ap, subst, append-nil, append_assoc, arith}
use Rattle.krb_der.specs.declared.profile.Profile.{Profile}
use Rattle.krb_c.specs.Spans.{Spanned, both, frame_at, frames_from, nothing, stream_spans}
use Rattle.krb_c.specs.inner.Adding.{Adds, AddsFirst, IsWithin, rest_at}
use Rattle.krb_c.specs.declared.spans.Spans.{Spans}

pub and-true : (b : Bool) → (b && true) ≡ b
and-true true = refl
and-true false = refl

and-assoc : (a b c : Bool) → ((a && b) && c) ≡ (a && (b && c))
and-assoc true b c = refl
and-assoc false b c = refl

pub both-nothing : (a : Spanned) → both a nothing ≡ a
both-nothing a = λ i. record { numbers = append-nil a.numbers i; clean = and-true a.clean i }

pub both-assoc : (a b c : Spanned) → both (both a b) c ≡ both a (both b c)
both-assoc a b c = λ i. record { numbers = append_assoc a.numbers b.numbers c.numbers i; clean = and-assoc a.clean b.clean c.clean i }

pub adds-none : (old : Spans) → Adds nothing old old
adds-none old = record { numbers = sym (append-nil old.numbers.items); clean = sym (and-true old.is_clean) }

pub adds-both : (a b : Spanned) (old now new : Spans) → Adds a old now → Adds b now new → Adds (both a b) old new
adds-both a b old now new one other = record {
  numbers = other.numbers ∙ ap (λ (l : List ℕ). l ++ b.numbers) one.numbers ∙ append_assoc old.numbers.items a.numbers b.numbers;
  clean = other.clean ∙ ap (λ (t : Bool). t && b.clean) one.clean ∙ and-assoc old.is_clean a.clean b.clean;
}

-- Some frames were added, and others follow at a place, of which a number bounds how many there are.
pub record AreFramed (profile : Profile) (limit : ℕ) (goes_on : Bool) (stream : List ℕ) (index : ℕ) (place : Option ℕ) (old new : Spans) : Type 0 where
  pub bound : ℕ
  pub counted : bound + index ≡ length stream + 1
  pub first : Spanned
  pub adds : Adds first old new
  pub parts : stream_spans profile limit goes_on stream ≡ both first (rest_at place (frames_from bound profile limit goes_on stream))
  pub within : IsWithin (length stream) place

module _ (profile : Profile) (limit : ℕ) (goes_on : Bool) (stream : List ℕ) where
  pub none-framed : (old : Spans) → AreFramed profile limit goes_on stream 0 (Some 0) old old
  unfolding stream_spans
  none-framed old = record { bound = length stream + 1; counted = omega arith; first = nothing; adds = adds-none old; parts = refl; within = omega arith }

  pub next-framed : (index begin : ℕ) (old now new : Spans) (next : Option ℕ) → index < length stream + 1 → AreFramed profile limit goes_on stream index (Some begin) old now
      → AddsFirst (frame_at profile limit goes_on stream begin) now new next → IsWithin (length stream) next → AreFramed profile limit goes_on stream (index + 1) next old new
  next-framed index begin old now new next more was adds within = by was.bound refl
    where
      by : (bound : ℕ) → was.bound ≡ bound → AreFramed profile limit goes_on stream (index + 1) next old new
      by zero is = absurd (omega (arith, was.counted, is, more))
      by (suc bound) is = record {
        bound = bound;
        counted = omega (arith, was.counted, is);
        first = both was.first adds.first;
        adds = adds-both was.first adds.first old now new was.adds adds.adds;
        parts =
            was.parts
            ∙ ap (λ (b : ℕ). both was.first (frames_from b profile limit goes_on stream begin)) is
            ∙ ap (both was.first) (adds.parts (frames_from bound profile limit goes_on stream))
            ∙ sym (both-assoc was.first adds.first (rest_at next (frames_from bound profile limit goes_on stream)));
        within = within;
      }

  whole-of : (first : Spanned) (old new : Spans) → Adds first old new → stream_spans profile limit goes_on stream ≡ both first nothing → Adds (stream_spans profile limit goes_on stream) old new
  whole-of first old new adds parts = subst (λ (s : Spanned). Adds s old new) (sym (parts ∙ both-nothing first)) adds

  pub all-framed : (index : ℕ) (place : Option ℕ) (old new : Spans) → AreFramed profile limit goes_on stream index place old new → place ≡ None → Adds (stream_spans profile limit goes_on stream) old new
  all-framed index place old new was none =
      whole-of was.first old new was.adds (was.parts ∙ ap (λ (p : Option ℕ). both was.first (rest_at p (frames_from was.bound profile limit goes_on stream))) none)

  -- no other frame is bounded for
  pub last-framed : (index : ℕ) (place : Option ℕ) (old new : Spans) → AreFramed profile limit goes_on stream index place old new → (index < length stream + 1 → ⊥) → Adds (stream_spans profile limit goes_on stream) old new
  last-framed index None old new was over = all-framed index None old new was refl
  last-framed index (Some begin) old new was over =
      let zero-left : was.bound ≡ 0 = omega (arith, was.counted, over) in
      whole-of was.first old new was.adds (was.parts ∙ ap (λ (b : ℕ). both was.first (frames_from b profile limit goes_on stream begin)) zero-left)
