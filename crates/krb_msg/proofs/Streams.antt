-- The frames of a stream: each whole frame is a message after its length, and the rest is judged by itself.
use Rattle.std.proofs.Common.{◌≡◌, ℕ, zero, suc, ◌+◌, ◌*◌, ◌/◌, ◌%◌, ◌^◌, ◌<◌, ◌≤◌, ◌⊎◌, inl, inr, true, false, ltb, leb, eqb, List, [], ◌∷◌, ◌++◌, length, take, drop, refl, sym, ◌∙◌, ap, subst, arith, le_refl, append_assoc, length-append, length-drop, length-take, le-ltb, lt-ltb, ne_eqb, drop_at, take-append-drop}
use Rattle.std.proofs.lemmas.Bool.{cases_lt, cases_Bool, lt-leb, eqb-false, leb-false, ltb-false}
use Rattle.std.proofs.lemmas.List.{take_at}
use Rattle.std.specs.List.{flat_map, AllByRecursion}
use Rattle.krb_der.specs.Octets.{AreOctets, number}
use Rattle.krb_der.specs.declared.why.Why.TheVariants as why
use Rattle.krb_der.specs.inner.Numbers.{AreOctets-take, AreOctets-drop}
use Rattle.krb_msg.specs.Term.{Term}
use Rattle.krb_msg.specs.Judgement.{Outcome, Open, Bad, Done, message_outcome}
use Rattle.krb_msg.proofs.Laws.{IsWhole}
use Rattle.krb_msg.proofs.Messages.{IsChosen, IsWhole-message}
use Rattle.krb_msg.specs.Stream.{Frames, End, Within, Refused, ends, with_first, length_and, frames_within, frames}

-- the four octets of a length, and a frame of them and the contents
abbrev pub four_octets : ℕ → List ℕ
four_octets n = n / 16777216 ∷ n / 65536 % 256 ∷ n / 256 % 256 ∷ n % 256 ∷ []

abbrev pub frame : List ℕ → List ℕ
frame contents = four_octets (length contents) ++ contents

number-four_octets : (n : ℕ) → number (four_octets n) ≡ n
number-four_octets n = omega arith

pub length-drop_two : (octets : List ℕ) (b : ℕ) → length octets ≤ suc b → length (drop (number (take 4 octets)) (drop 4 octets)) ≤ b
length-drop_two octets b h = omega (arith, length-drop (number (take 4 octets)) (drop 4 octets), length-drop 4 octets)

module _ (messages : List Term) (limit : ℕ) where
  -- contents that a frame may have
  pub record IsMessage (contents : List ℕ) : Type 0 where
    pub some : 0 < length contents
    pub short : length contents < 2 ^ 31
    pub within : length contents ≤ limit
    pub whole : message_outcome messages (length contents) contents ≡ Done (length contents)

  -- ---- the bound on how many frames there are
  pub length_and-same : (n : ℕ) (octets : List ℕ) (f g : List ℕ → Frames) → f (drop n octets) ≡ g (drop n octets) → length_and messages limit n octets f ≡ length_and messages limit n octets g
  length_and-same n octets f g e = rw e

  pub frames_within-step : (b : ℕ) (octets : List ℕ) → 4 ≤ length octets → frames_within (suc b) messages limit octets ≡ length_and messages limit (number (take 4 octets)) (drop 4 octets) (frames_within b messages limit)
  frames_within-step b [] h = absurd (omega arith)
  frames_within-step b (octet ∷ rest) h = rw (le-ltb (length (octet ∷ rest)) 4 h)

  pub frames_within-short : (b : ℕ) (octet : ℕ) (rest : List ℕ) → length (octet ∷ rest) < 4 → frames_within b messages limit (octet ∷ rest) ≡ ends (Within (length (octet ∷ rest)))
  frames_within-short zero octet rest h = refl
  frames_within-short (suc b) octet rest h = rw (lt-ltb (length (octet ∷ rest)) 4 h)

  pub frames_within-same : (b c : ℕ) (octets : List ℕ) → length octets ≤ b → length octets ≤ c → frames_within b messages limit octets ≡ frames_within c messages limit octets
  frames_within-same zero zero [] p q = refl
  frames_within-same (suc b) (suc c) (octet ∷ rest) p q =
      elim (cases_lt (length (octet ∷ rest)) 4) [
        | inl h ↦ frames_within-short (suc b) octet rest h ∙ sym (frames_within-short (suc c) octet rest h)
        | inr h ↦
            frames_within-step b (octet ∷ rest) h
            ∙ length_and-same (number (take 4 (octet ∷ rest))) (drop 4 (octet ∷ rest)) (frames_within b messages limit) (frames_within c messages limit)
            (frames_within-same b c (drop (number (take 4 (octet ∷ rest))) (drop 4 (octet ∷ rest))) (length-drop_two (octet ∷ rest) b p) (length-drop_two (octet ∷ rest) c q))
            ∙ sym (frames_within-step c (octet ∷ rest) h)
      ]
  frames_within-same other another [] p q = refl
  frames_within-same other another (octet ∷ rest) p q = absurd (omega arith)

  -- ---- a frame, and then others
  length_and-message : (contents rest : List ℕ) (f : List ℕ → Frames) → IsMessage contents → length_and messages limit (length contents) (contents ++ rest) f ≡ with_first contents (f rest)
  length_and-message contents rest f m =
      rw (lt-leb (2 ^ 31) (length contents) m.short, le-ltb limit (length contents) m.within, ne_eqb (length contents) 0 (omega (arith, m.some)), take_at contents rest (length contents) refl, drop_at contents rest (length contents) refl, m.whole)

  pub frames-frame : (contents rest : List ℕ) → IsMessage contents → frames messages limit (frame contents ++ rest) ≡ with_first contents (frames messages limit rest)
  unfolding frames
  frames-frame contents rest m =
      frames_within-step b (frame contents ++ rest) (omega arith)
      ∙ ap (λ n. length_and messages limit n (contents ++ rest) (frames_within b messages limit)) (number-four_octets (length contents))
      ∙ length_and-message contents rest (frames_within b messages limit) m
      ∙ ap (with_first contents) (frames_within-same b (length rest) rest (omega (arith, length-append contents rest)) (omega arith))
    where
      b : ℕ
      b = suc (suc (suc (length (contents ++ rest))))

  -- ---- the frames
  -- the frames found are messages, one after another, and what is left after them is judged to be the end
  pub record IsParse (octets : List ℕ) (found : Frames) : Type 0 where
    pub tail : List ℕ
    pub parts : octets ≡ flat_map frame found.contents ++ tail
    pub are_messages : AllByRecursion IsMessage found.contents
    pub ended : frames messages limit tail ≡ ends found.end

  IsParse-end : (b : ℕ) (octets : List ℕ) (found : Frames) → length octets ≤ b → frames_within b messages limit octets ≡ found → found ≡ ends found.end → IsParse octets found
  unfolding frames
  IsParse-end b octets found l e f =
      let n : found.contents ≡ [] = ap (λ x. x.contents) f in
      record {
        tail = octets;
        parts = rw n;
        are_messages = rw n tt;
        ended = frames_within-same (length octets) b octets (omega arith) l ∙ e ∙ f;
      }

  IsParse-first : (contents rest octets : List ℕ) (found : Frames) → octets ≡ frame contents ++ rest → IsMessage contents → IsParse rest found → IsParse octets (with_first contents found)
  IsParse-first contents rest octets found e m p = record {
    tail = p.tail;
    parts = e ∙ ap (λ l. frame contents ++ l) p.parts ∙ sym (append_assoc (frame contents) (flat_map frame found.contents) p.tail);
    are_messages = (m, p.are_messages);
    ended = p.ended;
  }

  IsMessage-done : (n count : ℕ) (octets : List ℕ) → AreOctets octets → 0 < n → n < 2 ^ 31 → n ≤ limit → message_outcome messages n (take n octets) ≡ Done count → (IsMessage (take n octets)) × (length (take n octets) ≡ n)
  IsMessage-done n count octets a p s l e =
      let w : (term : Term) × (IsChosen term messages) × (IsWhole term n true (take n octets) count) = IsWhole-message messages n (take n octets) count (AreOctets-take n octets a) e in
      let c : count ≡ n = w.2.fills refl in
      let k : length (take n octets) ≡ n = omega (arith, length-take n octets, w.2.within) in
      (record { some = omega arith; short = omega arith; within = omega arith; whole = rw k (e ∙ ap Done c) }, k)

frame_parts : (octets : List ℕ) → AreOctets octets → 4 ≤ length octets → octets ≡ four_octets (number (take 4 octets)) ++ drop 4 octets
frame_parts [] a h = absurd (omega arith)
frame_parts (w ∷ []) a h = absurd (omega arith)
frame_parts (w ∷ x ∷ []) a h = absurd (omega arith)
frame_parts (w ∷ x ∷ y ∷ []) a h = absurd (omega arith)
frame_parts (w ∷ x ∷ y ∷ z ∷ rest) a h =
    let n : ℕ = (((0 * 256 + w) * 256 + x) * 256 + y) * 256 + z in
    let p : w ≡ n / 16777216 = omega (arith, a.0, a.1.0, a.1.1.0, a.1.1.1.0) in
    let q : x ≡ n / 65536 % 256 = omega (arith, a.0, a.1.0, a.1.1.0, a.1.1.1.0) in
    let r : y ≡ n / 256 % 256 = omega (arith, a.0, a.1.0, a.1.1.0, a.1.1.1.0) in
    let s : z ≡ n % 256 = omega (arith, a.0, a.1.0, a.1.1.0, a.1.1.1.0) in
    λ i. p i ∷ q i ∷ r i ∷ s i ∷ rest

module _ (messages : List Term) (limit : ℕ) where
  -- after a length, if what is left after the frame is parsed
  IsParse-length : (b : ℕ) (octets : List ℕ) → AreOctets octets → length octets ≤ suc b → 4 ≤ length octets → IsParse messages limit (drop (number (take 4 octets)) (drop 4 octets)) (frames_within b messages limit (drop (number (take 4 octets)) (drop 4 octets))) → IsParse messages limit octets (frames_within (suc b) messages limit octets)
  IsParse-length b octets a l h after = by_tests (cases_Bool (leb (2 ^ 31) n)) (cases_Bool (ltb limit n)) (cases_Bool (eqb n 0))
    where
      n : ℕ
      n = number (take 4 octets)

      found : Frames
      found = frames_within b messages limit (drop n (drop 4 octets))

      step : frames_within (suc b) messages limit octets ≡ length_and messages limit n (drop 4 octets) (frames_within b messages limit)
      step = frames_within-step messages limit b octets h

      ended : (e : End) → frames_within (suc b) messages limit octets ≡ ends e → IsParse messages limit octets (frames_within (suc b) messages limit octets)
      ended e f = IsParse-end messages limit (suc b) octets (frames_within (suc b) messages limit octets) l refl (f ∙ ap ends (sym (ap (λ x. x.end) f)))

      accepted : leb (2 ^ 31) n ≡ false → ltb limit n ≡ false → eqb n 0 ≡ false → (o : Outcome) → message_outcome messages n (take n (drop 4 octets)) ≡ o → IsParse messages limit octets (frames_within (suc b) messages limit octets)
      accepted t u v Open f = ended (Within (4 + length (take n (drop 4 octets)))) (step ∙ rw (t, u, v, f))
      accepted t u v (Bad offset reason) f = ended (Refused (4 + offset) reason) (step ∙ rw (t, u, v, f))
      accepted t u v (Done count) f =
          let e : frames_within (suc b) messages limit octets ≡ with_first (take n (drop 4 octets)) found = step ∙ rw (t, u, v, f) in
          let m : (IsMessage messages limit (take n (drop 4 octets))) × (length (take n (drop 4 octets)) ≡ n) = IsMessage-done messages limit n count (drop 4 octets) (AreOctets-drop 4 octets a) (omega (arith, eqb-false n 0 v)) (omega (arith, leb-false (2 ^ 31) n t)) (omega (arith, ltb-false limit n u)) f in
          let p : octets ≡ frame (take n (drop 4 octets)) ++ drop n (drop 4 octets) =
          frame_parts octets a h
          ∙ ap (λ m. four_octets m ++ drop 4 octets) (sym m.1)
          ∙ ap (λ r. four_octets (length (take n (drop 4 octets))) ++ r) (sym (take-append-drop n (drop 4 octets))) in
          subst (λ x. IsParse messages limit octets x) (sym e) (IsParse-first messages limit (take n (drop 4 octets)) (drop n (drop 4 octets)) octets found p m.0 after)

      by_tests : (leb (2 ^ 31) n ≡ true) ⊎ (leb (2 ^ 31) n ≡ false) → (ltb limit n ≡ true) ⊎ (ltb limit n ≡ false) → (eqb n 0 ≡ true) ⊎ (eqb n 0 ≡ false) → IsParse messages limit octets (frames_within (suc b) messages limit octets)
      by_tests (inl t) c d = ended (Refused 3 why.HighBit) (step ∙ rw t)
      by_tests (inr t) (inl u) d = ended (Refused 3 why.TooLong) (step ∙ rw (t, u))
      by_tests (inr t) (inr u) (inl v) = ended (Refused 3 why.Empty) (step ∙ rw (t, u, v))
      by_tests (inr t) (inr u) (inr v) = accepted t u v (message_outcome messages n (take n (drop 4 octets))) refl

  frames_within-parse : (b : ℕ) (octets : List ℕ) → AreOctets octets → length octets ≤ b → IsParse messages limit octets (frames_within b messages limit octets)
  unfolding frames
  frames_within-parse zero [] a l = record { tail = []; parts = refl; are_messages = tt; ended = refl }
  frames_within-parse (suc b) [] a l = record { tail = []; parts = refl; are_messages = tt; ended = refl }
  frames_within-parse zero (octet ∷ rest) a l = absurd (omega arith)
  frames_within-parse (suc b) (octet ∷ rest) a l =
      elim (cases_lt (length (octet ∷ rest)) 4) [
        | inl h ↦
            let e : frames_within (suc b) messages limit (octet ∷ rest) ≡ ends (Within (length (octet ∷ rest))) = frames_within-short messages limit (suc b) octet rest h in
            IsParse-end messages limit (suc b) (octet ∷ rest) (frames_within (suc b) messages limit (octet ∷ rest)) l refl (e ∙ ap ends (sym (ap (λ x. x.end) e)))
        | inr h ↦
            IsParse-length b (octet ∷ rest) a l h
            (frames_within-parse b (drop (number (take 4 (octet ∷ rest))) (drop 4 (octet ∷ rest))) (AreOctets-drop (number (take 4 (octet ∷ rest))) (drop 4 (octet ∷ rest)) (AreOctets-drop 4 (octet ∷ rest) a)) (length-drop_two (octet ∷ rest) b l))
      ]

  pub frames-parse : (stream : List ℕ) → AreOctets stream → IsParse messages limit stream (frames messages limit stream)
  unfolding frames
  frames-parse stream a = frames_within-parse (length stream) stream a (le_refl (length stream))
