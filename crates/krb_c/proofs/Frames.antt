-- The frame with which a stream begins, by its length and its contents.
use Rattle.std.proofs.Common.{◌≡◌, ℕ, ◌+◌, ◌^◌, ◌<◌, ◌≤◌, List, [], ◌∷◌, length, take, drop, refl, sym, ◌∙◌, ap, arith, length-take}
use Rattle.std.specs.Int.{w32, from_be_bytes}
use Rattle.krb_der.specs.Octets.{number}
use Rattle.krb_der.specs.declared.profile.Profile.{Profile}
use Rattle.krb_der.specs.declared.verdict.Verdict.TheVariants as verdict
use Rattle.krb_der.specs.declared.why.Why.TheVariants as why
use Rattle.krb_msg.specs.Grammar.{messages}
use Rattle.krb_msg.specs.Judgement.{Outcome, Open, Bad, Done, judgement, message_outcome, verdict_of}
use Rattle.krb_msg.proofs.FramePrefixes.{MayFollow, frames-high, frames-long, frames-empty, frames-open, frames-bad, frames-done, frames-short, frames-nil}
use Rattle.krb_frame.proofs.DecoderFrames.{from_be_bytes-number}
use Rattle.krb_c.specs.Judged.{first_verdict, frame_verdict}
use Rattle.krb_c.specs.inner.Frames.{after_length}

-- a stream begins with a length
pub record Begins (stream : List ℕ) (n : ℕ) : Type 0 where
  pub four : 4 ≤ length stream
  pub is : number (take 4 stream) ≡ n

-- as the code splits it
pub begins : (stream first rest : List ℕ) (n : ℕ) → (first ≡ take 4 stream) × (rest ≡ drop 4 stream) × (length rest + 4 ≡ length stream) → n ≡ from_be_bytes w32 first → Begins stream n
begins stream first rest n parts read =
    let four : 4 ≤ length stream = omega (arith, parts.2) in
    let few : length first ≡ 4 = omega (arith, ap length parts.0, length-take 4 stream, four) in
    record { four = four; is = ap number (sym parts.0) ∙ (sym (from_be_bytes-number first few) ∙ sym read) }

module _ (profile : Profile) (limit : ℕ) where
  pub first-short : (stream : List ℕ) → length stream < 4 → frame_verdict profile limit stream ≡ verdict.Open
  first-short [] h = ap first_verdict (frames-nil (messages profile) limit)
  first-short (octet ∷ rest) h = ap first_verdict (frames-short (messages profile) limit octet rest h)

  module _ (stream : List ℕ) (n : ℕ) (b : Begins stream n) where
    pub first-high : 2 ^ 31 ≤ n → frame_verdict profile limit stream ≡ verdict.Refused (record { place = 3; why = why.HighBit })
    first-high h = ap first_verdict (frames-high (messages profile) limit stream n b.four b.is h)

    pub first-long : n < 2 ^ 31 → limit < n → frame_verdict profile limit stream ≡ verdict.Refused (record { place = 3; why = why.TooLong })
    first-long h k = ap first_verdict (frames-long (messages profile) limit stream n b.four b.is h k)

    pub first-empty : n ≡ 0 → frame_verdict profile limit stream ≡ verdict.Refused (record { place = 3; why = why.Empty })
    first-empty e = ap first_verdict (frames-empty (messages profile) limit stream b.four (b.is ∙ e))

    pub first-contents : MayFollow (messages profile) limit n → frame_verdict profile limit stream ≡ after_length (judgement profile n (take n (drop 4 stream)))
    first-contents m = by (message_outcome (messages profile) n (take n (drop 4 stream))) refl
      where
        by : (outcome : Outcome) → message_outcome (messages profile) n (take n (drop 4 stream)) ≡ outcome → frame_verdict profile limit stream ≡ after_length (verdict_of (message_outcome (messages profile) n (take n (drop 4 stream))))
        by Open o = ap first_verdict (frames-open (messages profile) limit stream n b.four b.is m o) ∙ sym (ap (λ x. after_length (verdict_of x)) o)
        by (Bad offset reason) o = ap first_verdict (frames-bad (messages profile) limit stream n offset reason b.four b.is m o) ∙ sym (ap (λ x. after_length (verdict_of x)) o)
        by (Done count) o = ap first_verdict (frames-done (messages profile) limit stream n count b.four b.is m o) ∙ sym (ap (λ x. after_length (verdict_of x)) o)
