-- What becomes of a frame whose length is there.
use Rattle.std.proofs.Common.{◌≡◌, ℕ, ◌+◌, ◌<◌, ◌≤◌, inl, inr, Bool, true, false, List, [], ◌∷◌, length, take, drop, Some, None, refl, sym, ◌∙◌, ap, ap₂, subst, arith}
use Rattle.std.specs.Prelude.{Option, nat_lt, if◌then◌else◌}
use Rattle.std.proofs.lemmas.Bool.{ltb-true, ltb-false}
use Rattle.krb_der.specs.Octets.{number}
use Rattle.krb_der.specs.declared.why.Why.{Why}
use Rattle.krb_der.specs.declared.why.Why.TheVariants as why
use Rattle.krb_frame.specs.Frame.{length_fault}
use Rattle.krb_record.specs.declared.capture_origin.CaptureOrigin.{CaptureOrigin}
use Rattle.krb_capture.specs.Found.{Written, with_all, with_found}
use Rattle.krb_capture.specs.Passed.{AreOfOne, Holds, ListsContents, ListsContentsIf, ListsNext, PassesOver, frame_length}
use Rattle.krb_capture.specs.Passwords.{password_found}
use Rattle.krb_capture.specs.Streams.{after_frame, before_frames, extent_at, frame_of, length_found, passwords_framed}
use Rattle.krb_capture.specs.Taken.{IsAllowed}
use Rattle.krb_capture.specs.declared.password_frames.PasswordFrames.{PasswordFrames}
use Rattle.krb_capture.proofs.Passed.{allowed-no_fault, next-high, next-kept, next-passed, next-refused, next-stopped, next-whole}

-- ---- the length
length_by : (b : Bool) (size n : ℕ) → (if b then None else Some size) ≡ Some n → (b ≡ false) × (size ≡ n)
length_by true size n e = absurd cc
length_by false size n e = (refl, cc)

pub length_four : (octets : List ℕ) (n : ℕ) → frame_length octets ≡ Some n → 4 ≤ length octets
length_four octets n e = ltb-false (length octets) 4 (length_by (nat_lt (length octets) 4) (number (take 4 octets)) n e).0

pub length_is : (octets : List ℕ) (n : ℕ) → frame_length octets ≡ Some n → number (take 4 octets) ≡ n
length_is octets n e = (length_by (nat_lt (length octets) 4) (number (take 4 octets)) n e).1

none_by : (b : Bool) (size : ℕ) → (if b then None else Some size) ≡ None → b ≡ true
none_by true size e = refl
none_by false size e = absurd cc

pub length_none : (octets : List ℕ) → frame_length octets ≡ None → length octets < 4
length_none octets e = ltb-true (length octets) 4 (none_by (nat_lt (length octets) 4) (number (take 4 octets)) e)

module _ (old new : PasswordFrames) (n : ℕ) (origin : CaptureOrigin) (before after : Written) (e : frame_length old.octets.items ≡ Some n) (stream : List ℕ) (h : Holds old old.octets.items stream) where
  abbrev pub octets : List ℕ
  octets = old.octets.items

  four : 4 ≤ length octets
  four = length_four octets n e

  -- of a frame that is refused for its length nothing else came
  alone : (IsAllowed old.limit n → ⊥) → length octets ≡ 4
  alone never = by h.one
    where
      by : AreOfOne old.limit octets → length octets ≡ 4
      by (inl few) = omega (arith, few, four)
      by (inr p) = absurd (never (subst (IsAllowed old.limit) (length_is octets n e) p.0))

  fault_is : (reason : Why) → length_fault old.limit n ≡ Some reason → length_fault old.limit (number (take 4 octets)) ≡ Some reason
  fault_is reason fault = ap (length_fault old.limit) (length_is octets n e) ∙ fault

  -- where it is
  pub extent_is : extent_at old.offset octets ≡ frame_of old.offset (number (take 4 octets))
  extent_is = let size : number (take 4 octets) ≡ n = length_is octets n e in λ i. record { at = old.offset; length = (e ∙ ap Some (sym size)) i }

  pub whole-high : (reason : Why) → reason ≡ why.HighBit → length_fault old.limit n ≡ Some reason → new.profile ≡ old.profile → new.limit ≡ old.limit → new.is_over ≡ true → after ≡ with_found origin (length_found (extent_at old.offset octets) reason) before → ListsNext old new octets stream h origin before after
  whole-high reason is fault q l o w =
      next-stopped old octets stream h origin before new (length_found (frame_of old.offset (number (take 4 octets))) why.HighBit) after q l o (λ more. next-high old.profile old.limit old.offset octets four more (fault_is why.HighBit (fault ∙ ap Some is)))
      (w ∙ ap₂ (λ x r. with_found origin (length_found x r) before) extent_is is)

  -- and where the next one is
  next_is : (count : ℕ) → PassesOver old n count new → new.offset ≡ after_frame old.offset (number (take 4 octets))
  next_is count p = p.offset ∙ ap (after_frame old.offset) (sym (length_is octets n e))

  pub whole-refused : (reason : Why) → (reason ≡ why.HighBit → ⊥) → length_fault old.limit n ≡ Some reason → PassesOver old n n new → after ≡ with_found origin (length_found (extent_at old.offset octets) reason) before → ListsNext old new octets stream h origin before after
  whole-refused reason never fault p w =
      let size : number (take 4 octets) ≡ n = length_is octets n e in
      let none : length octets ≡ 4 = alone (λ a. let same : Some reason ≡ None = sym fault ∙ allowed-no_fault old.profile old.limit n a in absurd cc) in
      next-passed old octets stream h origin before new (length_found (frame_of old.offset (number (take 4 octets))) reason ∷ []) (number (take 4 octets)) after p.profile p.limit (p.is_over ∙ h.goes) (p.skipped ∙ sym size) p.octets
      (λ more. next-refused old.profile old.limit old.offset octets four more reason never (fault_is reason fault) none ∙ ap (λ k. before_frames (length_found (frame_of old.offset (number (take 4 octets))) reason ∷ []) (passwords_framed old.profile old.limit k (drop (number (take 4 octets)) more))) (sym (next_is n p)))
      (w ∙ ap (λ x. with_found origin (length_found x reason) before) extent_is)

  pub whole-contents : IsAllowed old.limit n → ListsContents old n new origin before after → ListsNext old new octets stream h origin before after
  whole-contents a c = by (nat_lt (length octets) (4 + n)) refl c
    where
      size : number (take 4 octets) ≡ n
      size = length_is octets n e

      allowed : IsAllowed old.limit (number (take 4 octets))
      allowed = subst (IsAllowed old.limit) (sym size) a

      most : AreOfOne old.limit octets → length octets ≤ 4 + n
      most (inl few) = omega (arith, few)
      most (inr p) = omega (arith, p.1, size)

      by : (b : Bool) → nat_lt (length octets) (4 + n) ≡ b → ListsContentsIf b old n new origin before after → ListsNext old new octets stream h origin before after
      by true t l =
          let open_at : length octets < 4 + number (take 4 octets) = omega (arith, ltb-true (length octets) (4 + n) t, size) in
          let kept : ListsNext old old octets stream h origin before before = next-kept old stream h origin before (inr (allowed, four, open_at)) in
          subst (λ w. ListsNext old new octets stream h origin before w) (sym l.1) (subst (λ t. ListsNext old t octets stream h origin before before) (sym l.0) kept)
      by false t l =
          let all : length octets ≡ 4 + number (take 4 octets) = omega (arith, ltb-false (length octets) (4 + n) t, most h.one, size) in
          next-passed old octets stream h origin before new (password_found old.profile (frame_of old.offset (number (take 4 octets))) 4 (drop 4 octets)) 0 after l.passes.profile l.passes.limit (l.passes.is_over ∙ h.goes) l.passes.skipped l.passes.octets
          (λ more. next-whole old.profile old.limit old.offset octets four more allowed all ∙ ap (λ k. before_frames (password_found old.profile (frame_of old.offset (number (take 4 octets))) 4 (drop 4 octets)) (passwords_framed old.profile old.limit k more)) (sym (next_is 0 l.passes)))
          (l.listed ∙ ap (λ k. with_all origin (password_found old.profile (frame_of old.offset k) 4 (drop 4 octets)) before) (sym size))

-- none of it came
pub whole-none : (old : PasswordFrames) (origin : CaptureOrigin) (w : Written) → frame_length old.octets.items ≡ None → (stream : List ℕ) (h : Holds old old.octets.items stream) → ListsNext old old old.octets.items stream h origin w w
whole-none old origin w e stream h = next-kept old stream h origin w (inl (length_none old.octets.items e))

pub is_none : (o : Option ℕ) → ((n : ℕ) → o ≡ Some n → ⊥) → o ≡ None
is_none None never = refl
is_none (Some n) never = absurd (never n refl)
