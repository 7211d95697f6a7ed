-- Why the length of a frame is refused.
use Rattle.std.proofs.Common.{◌≡◌, ℕ, ◌^◌, ◌<◌, ◌≤◌, Bool, true, false, List, length, take, Some, None, refl, ◌∙◌, subst, arith}
use Rattle.std.specs.Prelude.{nat_le, nat_lt, ◌==◌, if◌then◌else◌, MatchOption, Option}
use Rattle.std.proofs.lemmas.Bool.{leb-true, leb-false, ltb-true, ltb-false, eqb-true, eqb-false}
use Rattle.krb_der.specs.Octets.{number}
use Rattle.krb_der.specs.declared.why.Why.{Why}
use Rattle.krb_der.specs.declared.why.Why.TheVariants as why
use Rattle.krb_msg.specs.Term.{Term}
use Rattle.krb_msg.specs.Stream.{Refused, ends, frames}
use Rattle.krb_msg.proofs.FramePrefixes.{frames-high, frames-long, frames-empty}
use Rattle.krb_frame.specs.Frame.{length_fault}

module _ (limit size : ℕ) where
  -- what holds of each reason by its cause, and of none if there is no cause, holds of the answer
  pub by_fault : (P : Option Why → Type 0) → (2 ^ 31 ≤ size → P (Some why.HighBit)) → (size < 2 ^ 31 → limit < size → P (Some why.TooLong)) → (size ≡ 0 → P (Some why.Empty)) → ((0 < size) × ((size < 2 ^ 31) × (size ≤ limit)) → P None) → P (length_fault limit size)
  by_fault P high long empty fine = by (nat_le (2 ^ 31) size) (nat_lt limit size) (size == 0) refl refl refl
    where
      by : (h l z : Bool) → nat_le (2 ^ 31) size ≡ h → nat_lt limit size ≡ l → (size == 0) ≡ z → P (if h then Some why.HighBit else if l then Some why.TooLong else if z then Some why.Empty else None)
      by true l z p q r = high (leb-true (2 ^ 31) size p)
      by false true z p q r = long (leb-false (2 ^ 31) size p) (ltb-true limit size q)
      by false false true p q r = empty (eqb-true size 0 r)
      by false false false p q r = let some : size ≡ 0 → ⊥ = eqb-false size 0 r in fine (omega (arith, some), (leb-false (2 ^ 31) size p, ltb-false limit size q))

  pub no_fault : length_fault limit size ≡ None → (0 < size) × ((size < 2 ^ 31) × (size ≤ limit))
  no_fault e = by_fault (λ fault. fault ≡ None → (0 < size) × ((size < 2 ^ 31) × (size ≤ limit))) (λ h e. absurd cc) (λ s l e. absurd cc) (λ z e. absurd cc) (λ fine e. fine) e

  -- the frames of octets with such a length
  pub frames-fault : (messages : List Term) (octets : List ℕ) → 4 ≤ length octets → number (take 4 octets) ≡ size → (reason : Why) → length_fault limit size ≡ Some reason → frames messages limit octets ≡ ends (Refused 3 reason)
  frames-fault messages octets four is reason e =
      let refused : Option Why → Type 0 = λ fault. MatchOption fault (Unit {0}) (λ r. frames messages limit octets ≡ ends (Refused 3 r)) in
      subst refused e (by_fault refused (frames-high messages limit octets size four is) (frames-long messages limit octets size four is) (λ z. frames-empty messages limit octets four (is ∙ z)) (λ fine. tt))
