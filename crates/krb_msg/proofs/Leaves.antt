-- The contents of numbers, octets, bit strings, strings and times: their judgements are stable.
use Rattle.std.proofs.Common.{◌≡◌, ℕ, zero, suc, ◌+◌, ◌-◌, ◌*◌, ◌%◌, ◌^◌, ◌<◌, ◌≤◌, ◌⊎◌, inl, inr, Bool, true, false, cond, ◌&&◌, ◌||◌, ltb, eqb, ℤ, List, [], ◌∷◌, ◌++◌, length, take, drop, refl, sym, ◌∙◌, ap, subst, arith, length-append, append-nil, length-take, take-append-drop, lt-ltb, le-ltb}
use Rattle.std.proofs.lemmas.Bool.{cases_lt, cases_Bool, true≢false}
use Rattle.std.proofs.lemmas.List.{nil_from_length, length-take-le}
use Rattle.krb_der.specs.Octets.{integer_value, last_or_zero}
use Rattle.krb_der.specs.declared.why.Why.{Why}
use Rattle.krb_der.specs.declared.why.Why.TheVariants as why
use Rattle.krb_msg.specs.Judgement.{Outcome, Open, Bad, Done, is_padded, int_le, integer_contents, each_contents, bits_contents, any_contents}
use Rattle.krb_msg.proofs.Heads.{zero_from_lt_one}
use Rattle.krb_msg.proofs.Stable.{need, IsDecided, Shown, IsStable, IsStable-same, not_open}

-- ---- contents that are refused early, or else judged when all of them are present
module _ (room place : ℕ) (reason : Why) (test : List ℕ → Bool) (full : List ℕ → Outcome) (later : (octets : List ℕ) → length octets ≤ place → test octets ≡ false) (kept : (octets rest : List ℕ) → place < length octets → test (octets ++ rest) ≡ test octets) (whole : (octets : List ℕ) → length octets ≡ room → need (full octets) ≡ room) where
  abbrev early_or_full : List ℕ → Outcome
  early_or_full octets = cond (test octets) (Bad place reason) (cond (ltb (length octets) room) Open (full octets))

  at_early : (octets : List ℕ) → test octets ≡ true → early_or_full octets ≡ Bad place reason
  at_early octets t = rw t

  at_open : (octets : List ℕ) → test octets ≡ false → length octets < room → early_or_full octets ≡ Open
  at_open octets t l = rw (t, lt-ltb (length octets) room l)

  at_full : (octets : List ℕ) → test octets ≡ false → room ≤ length octets → early_or_full octets ≡ full octets
  at_full octets t l = rw (t, le-ltb (length octets) room l)

  pub IsStable-early_or_full : IsStable room 0 early_or_full
  IsStable-early_or_full octets outcome fits e d = go (cases_Bool (test octets)) (cases_lt (length octets) room)
    where
      early : test octets ≡ true → place < length octets → Shown room 0 early_or_full octets outcome
      early t l = record {
        prefix = take (suc place) octets;
        suffix = drop (suc place) octets;
        parts = sym (take-append-drop (suc place) octets);
        reached = ap need (sym (sym (at_early octets t) ∙ e)) ∙ sym (length-take-le (suc place) octets l) ∙ omega arith;
        same = λ rest h. at_early (take (suc place) octets ++ rest) (prefix_test rest) ∙ (sym (at_early octets t) ∙ e);
        sooner = λ k h. at_open (take k (take (suc place) octets)) (later _ (short k h)) (shorter k h);
      }
        where
          prefix_length : length (take (suc place) octets) ≡ suc place
          prefix_length = length-take-le (suc place) octets l

          prefix_test : (rest : List ℕ) → test (take (suc place) octets ++ rest) ≡ true
          prefix_test rest =
              kept (take (suc place) octets) rest (omega (arith, prefix_length))
              ∙ sym (kept (take (suc place) octets) (drop (suc place) octets) (omega (arith, prefix_length)))
              ∙ ap test (take-append-drop (suc place) octets) ∙ t

          short : (k : ℕ) → k < length (take (suc place) octets) → length (take k (take (suc place) octets)) ≤ place
          short k h = rw length-take (omega (arith, prefix_length))

          shorter : (k : ℕ) → k < length (take (suc place) octets) → length (take k (take (suc place) octets)) < room
          shorter k h = rw length-take (omega (arith, prefix_length))

      full_length : test octets ≡ false → room ≤ length octets → Shown room 0 early_or_full octets outcome
      full_length t l = record {
        prefix = octets;
        suffix = [];
        parts = sym (append-nil octets);
        reached = ap need (sym e ∙ at_full octets t l) ∙ whole octets (omega arith) ∙ omega arith;
        same = λ rest h. ap early_or_full (ap (λ r. octets ++ r) (nil_from_length rest (omega (arith, length-append octets rest))) ∙ append-nil octets) ∙ e;
        sooner = λ k h. at_open (take k octets) (part_test k) (rw length-take (omega arith));
      }
        where
          part_test : (k : ℕ) → test (take k octets) ≡ false
          part_test k =
              elim (cases_lt place (length (take k octets))) [
                | inl h ↦ sym (kept (take k octets) (drop k octets) h) ∙ ap test (take-append-drop k octets) ∙ t
                | inr h ↦ later (take k octets) h
              ]

      go : (test octets ≡ true) ⊎ (test octets ≡ false) → (length octets < room) ⊎ (room ≤ length octets) → Shown room 0 early_or_full octets outcome
      go (inl t) c =
          elim (cases_lt place (length octets)) [
            | inl h ↦ early t h
            | inr h ↦ absurd (true≢false (sym t ∙ later octets h))
          ]
      go (inr t) (inl l) = absurd (not_open outcome (sym (at_open octets t l) ∙ e) d)
      go (inr t) (inr l) = full_length t l

pub IsStable-any_contents : (room : ℕ) → IsStable room 0 (any_contents room)
IsStable-any_contents room = IsStable-early_or_full room 0 why.Tag (λ octets. false) (λ octets. Done room) (λ octets h. refl) (λ octets rest h. refl) (λ octets h. refl)

is_padded-short : (octets : List ℕ) → length octets ≤ 1 → is_padded octets ≡ false
is_padded-short [] h = refl
is_padded-short (first ∷ []) h = refl
is_padded-short (first ∷ second ∷ octets) h = absurd (omega arith)

is_padded-append : (octets rest : List ℕ) → 1 < length octets → is_padded (octets ++ rest) ≡ is_padded octets
is_padded-append [] rest h = absurd (omega arith)
is_padded-append (first ∷ []) rest h = absurd (omega arith)
is_padded-append (first ∷ second ∷ octets) rest h = refl

need-last : (test : Bool) (room : ℕ) (reason : Why) → 0 < room → need (cond test (Done room) (Bad (room - 1) reason)) ≡ room
need-last true room reason h = refl
need-last false room reason h = omega arith

pub IsStable-integer_contents : (low high : ℤ) (room : ℕ) → 0 < room → IsStable room 0 (integer_contents low high room)
IsStable-integer_contents low high room p =
    IsStable-early_or_full room 1 why.IntegerNotMinimal is_padded
    (λ octets. cond (int_le low (integer_value octets) && int_le (integer_value octets) high) (Done room) (Bad (room - 1) why.Range))
    is_padded-short is_padded-append
    (λ octets h. need-last (int_le low (integer_value octets) && int_le (integer_value octets) high) room why.Range p)

-- ---- bit strings
abbrev bits_early : ℕ → ℕ → List ℕ → Bool
bits_early least room [] = false
bits_early least room (unused ∷ octets) = ltb 7 unused || ltb (8 * (room - 1)) (least + unused)

abbrev bits_full : ℕ → List ℕ → Outcome
bits_full room [] = Done room
bits_full room (unused ∷ octets) = cond (eqb (last_or_zero octets % 2 ^ unused) 0) (Done room) (Bad (room - 1) why.Bits)

bits_early-short : (least room : ℕ) (octets : List ℕ) → length octets ≤ 0 → bits_early least room octets ≡ false
bits_early-short least room [] h = refl
bits_early-short least room (unused ∷ octets) h = absurd (omega arith)

bits_early-append : (least room : ℕ) (octets rest : List ℕ) → 0 < length octets → bits_early least room (octets ++ rest) ≡ bits_early least room octets
bits_early-append least room [] rest h = absurd (omega arith)
bits_early-append least room (unused ∷ octets) rest h = refl

need-bits_full : (room : ℕ) → 0 < room → (octets : List ℕ) → length octets ≡ room → need (bits_full room octets) ≡ room
need-bits_full room p [] h = refl
need-bits_full room p (unused ∷ octets) h = need-last (eqb (last_or_zero octets % 2 ^ unused) 0) room why.Bits p

bits_contents-as : (least room : ℕ) → 0 < room → (octets : List ℕ) → cond (bits_early least room octets) (Bad 0 why.Bits) (cond (ltb (length octets) room) Open (bits_full room octets)) ≡ bits_contents least room octets
bits_contents-as least room p [] = rw (lt-ltb 0 room p)
bits_contents-as least room p (unused ∷ octets) = refl

pub IsStable-bits_contents : (least room : ℕ) → 0 < room → IsStable room 0 (bits_contents least room)
IsStable-bits_contents least room p =
    IsStable-same room 0 _ (bits_contents least room) (bits_contents-as least room p)
    (IsStable-early_or_full room 0 why.Bits (bits_early least room) (bits_full room) (bits_early-short least room) (bits_early-append least room) (need-bits_full room p))

-- ---- octets that each pass a test: strings and times
module _ (passes : ℕ → ℕ → Bool) (reason : Why) (size : ℕ) where
  abbrev each : ℕ → List ℕ → Outcome
  each = each_contents passes reason size

  pub each-next : (place octet : ℕ) (octets : List ℕ) → passes place octet ≡ true → each place (octet ∷ octets) ≡ each (place + 1) octets
  each-next place octet octets t = rw t

  pub each-bad : (place octet : ℕ) (octets : List ℕ) → passes place octet ≡ false → each place (octet ∷ octets) ≡ Bad place reason
  each-bad place octet octets t = rw t

  pub each-open : (place : ℕ) → place < size → each place [] ≡ Open
  each-open place h = rw (lt-ltb place size h)

  pub each-done : (place : ℕ) → size ≤ place → each place [] ≡ Done size
  each-done place h = rw (le-ltb place size h)

  Shown-each-cons : (place octet : ℕ) (octets : List ℕ) (outcome : Outcome) → place < size → passes place octet ≡ true → Shown (size - (place + 1)) (place + 1) (each (place + 1)) octets outcome → Shown (size - place) place (each place) (octet ∷ octets) outcome
  Shown-each-cons place octet octets outcome p t s = record {
    prefix = octet ∷ s.prefix;
    suffix = s.suffix;
    parts = ap (λ l. octet ∷ l) s.parts;
    reached = omega (arith, s.reached);
    same = λ rest h. each-next place octet (s.prefix ++ rest) t ∙ s.same rest (omega arith);
    sooner = sooner;
  }
    where
      sooner : (k : ℕ) → k < suc (length s.prefix) → each place (take k (octet ∷ s.prefix)) ≡ Open
      sooner zero h = each-open place p
      sooner (suc k) h = each-next place octet (take k s.prefix) t ∙ s.sooner k (omega arith)

  Shown-each : (place : ℕ) (octets : List ℕ) (outcome : Outcome) → place ≤ size → length octets ≤ size - place → each place octets ≡ outcome → IsDecided outcome → Shown (size - place) place (each place) octets outcome
  Shown-each place [] outcome w fits e d =
      elim (cases_lt place size) [
        | inl l ↦ absurd (not_open outcome (sym (each-open place l) ∙ e) d)
        | inr l ↦ record {
          prefix = [];
          suffix = [];
          parts = refl;
          reached = ap need (sym e ∙ each-done place l) ∙ omega arith;
          same = λ rest h. ap (each place) (nil_from_length rest (omega arith)) ∙ e;
          sooner = λ k h. absurd (omega arith);
        }
      ]
  Shown-each place (octet ∷ octets) outcome w fits e d =
      elim (cases_Bool (passes place octet)) [
        | inl t ↦ Shown-each-cons place octet octets outcome (omega arith) t
            (Shown-each (place + 1) octets outcome (omega arith) (omega arith) (sym (each-next place octet octets t) ∙ e) d)
        | inr t ↦ record {
          prefix = octet ∷ [];
          suffix = octets;
          parts = refl;
          reached = ap need (sym e ∙ each-bad place octet octets t) ∙ omega arith;
          same = λ rest h. each-bad place octet rest t ∙ (sym (each-bad place octet octets t) ∙ e);
          sooner = λ k h. rw (zero_from_lt_one k h) (each-open place (omega arith));
        }
      ]

  pub IsStable-each_contents : IsStable size 0 (each 0)
  IsStable-each_contents octets outcome fits e d =
      let n : size - 0 ≡ size = omega arith in
      subst (λ room. Shown room 0 (each 0) octets outcome) n (Shown-each 0 octets outcome (omega arith) (omega arith) e d)
