-- The message of a frame as far as it came.
use Rattle.std.proofs.Common.{◌≡◌, ℕ, ◌+◌, ◌^◌, ◌<◌, ◌≤◌, inl, inr, List, ◌++◌, length, take, sym, ◌∙◌, ap, arith, length-append}
use Rattle.std.proofs.lemmas.Bool.{cases_lt}
use Rattle.std.proofs.lemmas.List.{take_at}
use Rattle.krb_der.specs.Octets.{number}
use Rattle.krb_der.specs.declared.profile.Profile.{Profile}
use Rattle.krb_der.specs.declared.why.Why.{Why}
use Rattle.krb_der.specs.declared.why.Why.TheVariants as why
use Rattle.krb_msg.specs.Term.{Term}
use Rattle.krb_msg.specs.Stream.{Refused, ends, frames}
use Rattle.krb_msg.proofs.FramePrefixes.{frames-high}
use Rattle.krb_frame.specs.Decoding.{IsPartial, decoding_of, octets_of}
use Rattle.krb_frame.specs.inner.Phases.{IsPhaseOf}
use Rattle.krb_frame.specs.declared.decoder.Phase.{Phase}
use Rattle.krb_frame.specs.declared.decoder.Phase.TheVariants as phase
use Rattle.krb_frame.proofs.DecoderFrames.{contents-at, four_octets}
use Rattle.krb_frame.proofs.GoingOn.{contents-few}

-- facts of a length that contents came after
record Announces (announced contents : List ℕ) (p : Phase) : Type 0 where
  pub four : length announced ≡ 4
  pub all : octets_of p announced contents ≡ announced ++ contents
  pub short : number announced < 2 ^ 31
  pub present : length contents ≤ number announced

module _ (messages : List Term) (profile : Profile) (limit looks : ℕ) (space : ℕ) (announced contents : List ℕ) (some : 0 < length contents) where
  same_place : (p q : ℕ) (r s : Why) → ends (Refused p r) ≡ ends (Refused q s) → p ≡ q
  same_place p q r s e = let f : Refused p r ≡ Refused q s = ap (λ x. x.end) e in cc

  -- a frame is refused after its length if this has its high bit set
  refused-short : (p : ℕ) (r : Why) → length announced ≡ 4 → 4 + length contents ≡ p + 1 → frames messages limit (announced ++ contents) ≡ ends (Refused p r) → number announced < 2 ^ 31
  refused-short p r four last found = elim (cases_lt (number announced) (2 ^ 31)) [
    | inl h ↦ h
    | inr h ↦
        let size : number (take 4 (announced ++ contents)) ≡ number announced = ap number (take_at announced contents 4 four) in
        let at : p ≡ 3 = same_place p 3 r why.HighBit (sym found ∙ frames-high messages limit (announced ++ contents) (number announced) (omega (arith, four, length-append announced contents)) size h) in
        absurd (omega (arith, at, last, some))
  ]

  announces : (p : Phase) → IsPhaseOf messages limit announced contents p → Announces announced contents p
  announces (phase.Length count) h = absurd (omega (arith, some, ap length h.none))
  announces (phase.Contents size) h = record {
    four = h.accepted.four;
    all = four_octets announced contents h.accepted.four;
    short = omega (arith, h.accepted.is, h.accepted.short);
    present = omega (arith, h.accepted.is, h.present);
  }
  announces phase.Ready h = record {
    four = h.accepted.four;
    all = four_octets announced contents h.accepted.four;
    short = omega (arith, h.accepted.is, h.accepted.short);
    present = omega (arith, h.accepted.is);
  }
  announces (phase.Refused refusal) h =
      let short : number announced < 2 ^ 31 = refused-short refusal.place refusal.why h.four h.last h.found in
      record { four = h.four; all = four_octets announced contents h.four; short = short; present = contents-few messages profile limit looks space announced contents refusal h short }

  pub is-partial : (p : Phase) → IsPhaseOf messages limit announced contents p → (size : ℕ) → (length announced ≡ 4 → size ≡ number announced) → IsPartial (decoding_of profile limit looks space announced contents p) size contents
  is-partial p h size is =
      let a = announces p h in
      record {
        announced = is a.four ∙ sym (ap number (ap (take 4) a.all ∙ take_at announced contents 4 a.four));
        kept = sym (contents-at messages profile limit announced contents p h);
        short = omega (arith, is a.four, a.short);
        present = omega (arith, is a.four, a.present);
      }
