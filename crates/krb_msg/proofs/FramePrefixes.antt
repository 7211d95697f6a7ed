-- The first octets of a stream decide its frames, case by case.
use Rattle.std.proofs.Common.{◌≡◌, ℕ, ◌+◌, ◌^◌, ◌<◌, ◌≤◌, List, [], ◌∷◌, ◌++◌, length, take, drop, inl, inr, refl, ◌∙◌, ap, ap₂, arith, length-append, length-take, length-drop, le-ltb, lt-ltb, ne_eqb}
use Rattle.std.proofs.lemmas.Bool.{cases_lt, lt-leb, le-leb}
use Rattle.std.proofs.lemmas.List.{take-append-le, drop-append-le, drop-drop}
use Rattle.krb_der.specs.Octets.{number}
use Rattle.krb_der.specs.declared.why.Why.{Why}
use Rattle.krb_der.specs.declared.why.Why.TheVariants as why
use Rattle.krb_msg.specs.Term.{Term}
use Rattle.krb_msg.specs.Judgement.{Outcome, Open, Bad, Done, message_outcome}
use Rattle.krb_msg.specs.Stream.{Boundary, Within, Refused, ends, with_first, length_and, frame_and, frames_within, frames}
use Rattle.krb_msg.proofs.Messages.{message_outcome-decided}
use Rattle.krb_msg.proofs.Streams.{frames_within-step, frames_within-short, frames_within-same, length_and-same, length-drop_two}

module _ (messages : List Term) (limit : ℕ) where
  -- after the four octets of a length
  pub frames-length : (octets : List ℕ) → 4 ≤ length octets → frames messages limit octets ≡ length_and messages limit (number (take 4 octets)) (drop 4 octets) (frames messages limit)
  unfolding frames
  frames-length [] h = absurd (omega arith)
  frames-length (octet ∷ rest) h =
      frames_within-step messages limit (length rest) (octet ∷ rest) h
      ∙ length_and-same messages limit (number (take 4 (octet ∷ rest))) (drop 4 (octet ∷ rest)) (frames_within (length rest) messages limit) (frames messages limit)
      (frames_within-same messages limit (length rest) (length following) following (length-drop_two (octet ∷ rest) (length rest) (omega arith)) (omega arith))
    where
      following : List ℕ
      following = drop (number (take 4 (octet ∷ rest))) (drop 4 (octet ∷ rest))

  -- a frame's length that may be judged by its contents
  pub record MayFollow (n : ℕ) : Type 0 where
    pub some : 0 < n
    pub short : n < 2 ^ 31
    pub within : n ≤ limit

  -- a length is refused on its fourth octet
  pub frames-high : (octets : List ℕ) (n : ℕ) → 4 ≤ length octets → number (take 4 octets) ≡ n → 2 ^ 31 ≤ n → frames messages limit octets ≡ ends (Refused 3 why.HighBit)
  frames-high octets n four e h = frames-length octets four ∙ rw (e, le-leb (2 ^ 31) n h)

  pub frames-long : (octets : List ℕ) (n : ℕ) → 4 ≤ length octets → number (take 4 octets) ≡ n → n < 2 ^ 31 → limit < n → frames messages limit octets ≡ ends (Refused 3 why.TooLong)
  frames-long octets n four e h k = frames-length octets four ∙ rw (e, lt-leb (2 ^ 31) n h, lt-ltb limit n k)

  pub frames-empty : (octets : List ℕ) → 4 ≤ length octets → number (take 4 octets) ≡ 0 → frames messages limit octets ≡ ends (Refused 3 why.Empty)
  frames-empty octets four e = frames-length octets four ∙ rw (e, le-ltb limit 0 (omega arith))

  -- and the contents of it that are present
  frames-contents : (octets : List ℕ) (n : ℕ) (outcome : Outcome) → 4 ≤ length octets → number (take 4 octets) ≡ n → MayFollow n → message_outcome messages n (take n (drop 4 octets)) ≡ outcome → frames messages limit octets ≡ frame_and outcome (take n (drop 4 octets)) (frames messages limit (drop n (drop 4 octets)))
  frames-contents octets n outcome four e m o =
      frames-length octets four
      ∙ rw (e, lt-leb (2 ^ 31) n m.short, le-ltb limit n m.within, ne_eqb n 0 (omega (arith, m.some)), o)

  -- if all the contents were present, something would be decided
  pub open-short : (octets : List ℕ) (n : ℕ) → 4 ≤ length octets → MayFollow n → message_outcome messages n (take n (drop 4 octets)) ≡ Open → length octets < 4 + n
  open-short octets n four m o = elim (cases_lt (length octets) (4 + n)) [
    | inl h ↦ h
    | inr h ↦ absurd (message_outcome-decided messages n (take n (drop 4 octets)) m.some (omega (arith, length-take n (drop 4 octets), length-drop 4 octets)) o)
  ]

  pub frames-open : (octets : List ℕ) (n : ℕ) → 4 ≤ length octets → number (take 4 octets) ≡ n → MayFollow n → message_outcome messages n (take n (drop 4 octets)) ≡ Open → frames messages limit octets ≡ ends (Within (length octets))
  frames-open octets n four e m o =
      let all : 4 + length (take n (drop 4 octets)) ≡ length octets = omega (arith, open-short octets n four m o, length-take n (drop 4 octets), length-drop 4 octets) in
      frames-contents octets n Open four e m o ∙ ap (λ k. ends (Within k)) all

  pub frames-bad : (octets : List ℕ) (n offset : ℕ) (reason : Why) → 4 ≤ length octets → number (take 4 octets) ≡ n → MayFollow n → message_outcome messages n (take n (drop 4 octets)) ≡ Bad offset reason → frames messages limit octets ≡ ends (Refused (4 + offset) reason)
  frames-bad octets n offset reason four e m o = frames-contents octets n (Bad offset reason) four e m o

  pub frames-done : (octets : List ℕ) (n count : ℕ) → 4 ≤ length octets → number (take 4 octets) ≡ n → MayFollow n → message_outcome messages n (take n (drop 4 octets)) ≡ Done count → frames messages limit octets ≡ with_first (take n (drop 4 octets)) (frames messages limit (drop n (drop 4 octets)))
  frames-done octets n count four e m o = frames-contents octets n (Done count) four e m o

  -- and whatever follows a whole frame
  pub frames-done_more : (octets more : List ℕ) (n count : ℕ) → 4 + n ≤ length octets → number (take 4 octets) ≡ n → MayFollow n → message_outcome messages n (take n (drop 4 octets)) ≡ Done count → frames messages limit (octets ++ more) ≡ with_first (take n (drop 4 octets)) (frames messages limit (drop (4 + n) octets ++ more))
  frames-done_more octets more n count all e m o =
      frames-done (octets ++ more) n count (omega (arith, length-append octets more)) (ap number prefix ∙ e) m (ap (message_outcome messages n) contents ∙ o)
      ∙ ap₂ (λ c r. with_first c (frames messages limit r)) contents following
    where
      prefix : take 4 (octets ++ more) ≡ take 4 octets
      prefix = take-append-le 4 octets more (omega arith)

      after : drop 4 (octets ++ more) ≡ drop 4 octets ++ more
      after = drop-append-le 4 octets more (omega arith)

      within : n ≤ length (drop 4 octets)
      within = omega (arith, length-drop 4 octets)

      contents : take n (drop 4 (octets ++ more)) ≡ take n (drop 4 octets)
      contents = ap (take n) after ∙ take-append-le n (drop 4 octets) more within

      following : drop n (drop 4 (octets ++ more)) ≡ drop (4 + n) octets ++ more
      following = ap (drop n) after ∙ drop-append-le n (drop 4 octets) more within ∙ ap (λ l. l ++ more) (drop-drop n 4 octets)

-- before the fourth octet of a length
pub frames-short : (messages : List Term) (limit : ℕ) (octet : ℕ) (rest : List ℕ) → length (octet ∷ rest) < 4 → frames messages limit (octet ∷ rest) ≡ ends (Within (length (octet ∷ rest)))
unfolding frames
frames-short messages limit octet rest h = frames_within-short messages limit (length (octet ∷ rest)) octet rest h

pub frames-nil : (messages : List Term) (limit : ℕ) → frames messages limit [] ≡ ends Boundary
unfolding frames
frames-nil messages limit = refl
