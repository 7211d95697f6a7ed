-- The prefix of octets that decides an outcome. It has just the octets that the outcome needs, and more octets after it change nothing.
use Rattle.std.proofs.Common.{◌≡◌, ℕ, suc, ◌+◌, ◌-◌, ◌<◌, ◌≤◌, inl, inr, List, [], ◌∷◌, ◌++◌, length, take, drop, refl, sym, ◌∙◌, ap, subst, arith, append_assoc, length-append, suc-add, drop_at, length-take}
use mathlib.Core.Path.{fun_ext}
use Rattle.std.proofs.lemmas.Bool.{cases_lt}
use Rattle.std.proofs.lemmas.List.{take-append-le}
use Rattle.krb_der.specs.declared.why.Why.{Why}
use Rattle.krb_msg.specs.Judgement.{Outcome, Open, Bad, Done, after, then_after}
use Rattle.krb_msg.proofs.Heads.{zero_from_lt_one}

-- how many octets an outcome needs
abbrev pub need : Outcome → ℕ
need Open = 0
need (Bad offset reason) = suc offset
need (Done count) = count

abbrev pub IsDecided : Outcome → Type 0
IsDecided Open = ⊥
IsDecided (Bad offset reason) = Unit {0}
IsDecided (Done count) = Unit {0}

-- The prefix that decides an outcome of octets that come after others, in a room.
pub record Shown (room before : ℕ) (judge : List ℕ → Outcome) (octets : List ℕ) (outcome : Outcome) : Type 0 where
  pub prefix : List ℕ
  pub suffix : List ℕ
  pub parts : octets ≡ prefix ++ suffix
  pub reached : need outcome ≡ before + length prefix
  pub same : (rest : List ℕ) → length (prefix ++ rest) ≤ room → judge (prefix ++ rest) ≡ outcome
  pub sooner : (k : ℕ) → k < length prefix → judge (take k prefix) ≡ Open

abbrev pub IsStable : ℕ → ℕ → (List ℕ → Outcome) → Type 0
IsStable room before judge = (octets : List ℕ) (outcome : Outcome) → length octets ≤ room → judge octets ≡ outcome → IsDecided outcome → Shown room before judge octets outcome

-- ---- prefixes
take-append-add : {A : Type 0} (xs ys : List A) (n : ℕ) → take (length xs + n) (xs ++ ys) ≡ xs ++ take n ys
take-append-add [] ys n = ap (λ k. take k ys) (omega arith)
take-append-add (x ∷ xs) ys n = rw (suc-add (length xs) n) (ap (λ l. x ∷ l) (take-append-add xs ys n))

pub take-append_right : {A : Type 0} (xs ys : List A) (k : ℕ) → length xs ≤ k → take k (xs ++ ys) ≡ xs ++ take (k - length xs) ys
take-append_right xs ys k h =
    let e : k ≡ length xs + (k - length xs) = omega arith in
    ap (λ n. take n (xs ++ ys)) e ∙ take-append-add xs ys (k - length xs)

pub not_open : (outcome : Outcome) → Open ≡ outcome → IsDecided outcome → ⊥
not_open Open e d = d
not_open other e d = cc

-- judgements that agree
pub IsStable-same : (room before : ℕ) (judge other : List ℕ → Outcome) → ((octets : List ℕ) → judge octets ≡ other octets) → IsStable room before judge → IsStable room before other
IsStable-same room before judge other h p = subst (λ j. IsStable room before j) (fun_ext h) p

-- ---- judgements that need no octets, or none but the first
pub IsStable-constant : (room before : ℕ) (outcome : Outcome) → need outcome ≡ before → IsStable room before (λ octets. outcome)
IsStable-constant room before outcome n octets o fits e d =
    record { prefix = []; suffix = octets; parts = refl; reached = ap need (sym e) ∙ omega arith; same = λ rest h. e; sooner = λ k h. absurd (omega arith) }

pub IsStable-open : (room before : ℕ) → IsStable room before (λ octets. Open)
IsStable-open room before octets o fits e d = absurd (not_open o e d)

-- a judgement that refuses the first octet
abbrev pub refusal : ℕ → Why → List ℕ → Outcome
refusal before reason [] = Open
refusal before reason (octet ∷ octets) = Bad before reason

pub IsStable-refusal : (room before : ℕ) (reason : Why) → IsStable room before (refusal before reason)
IsStable-refusal room before reason [] o fits e d = absurd (not_open o e d)
IsStable-refusal room before reason (octet ∷ octets) o fits e d =
    record { prefix = octet ∷ []; suffix = octets; parts = refl; reached = ap need (sym e) ∙ omega arith; same = λ rest h. e; sooner = λ k h. rw (zero_from_lt_one k h) }

-- ---- a judgement after another
pub IsStable-after : (room before : ℕ) (judge : List ℕ → Outcome) → IsStable room 0 judge → IsStable room before (λ octets. after before (judge octets))
IsStable-after room before judge p octets outcome fits e d = go (judge octets) refl
  where
    go : (o : Outcome) → judge octets ≡ o → Shown room before (λ octets. after before (judge octets)) octets outcome
    go Open f = absurd (not_open outcome (rw f at e) d)
    go (Bad offset reason) f =
        let s : Shown room 0 judge octets (Bad offset reason) = p octets (Bad offset reason) fits f tt in
        let g : Bad (before + offset) reason ≡ outcome = rw f at e in
        record { prefix = s.prefix; suffix = s.suffix; parts = s.parts; reached = ap need (sym g) ∙ omega (arith, s.reached); same = λ rest h. rw (s.same rest h) g; sooner = λ k h. rw (s.sooner k h) }
    go (Done count) f =
        let s : Shown room 0 judge octets (Done count) = p octets (Done count) fits f tt in
        let g : Done (before + count) ≡ outcome = rw f at e in
        record { prefix = s.prefix; suffix = s.suffix; parts = s.parts; reached = ap need (sym g) ∙ omega (arith, s.reached); same = λ rest h. rw (s.same rest h) g; sooner = λ k h. rw (s.sooner k h) }

pub length_parts : {outcome : Outcome} {judge : List ℕ → Outcome} (octets : List ℕ) (room before : ℕ) (s : Shown room before judge octets outcome) → length octets ≡ length s.prefix + length s.suffix
length_parts octets room before s = ap length s.parts ∙ length-append s.prefix s.suffix

-- ---- a judgement, and then another of the octets after it
module _ (room before : ℕ) (one : List ℕ → Outcome) (next : ℕ → List ℕ → Outcome) where
  abbrev both : List ℕ → Outcome
  both octets = then_after before (one octets) (λ count. next count (drop count octets))

  -- after the prefix that decides the first
  both-append : (octets : List ℕ) (count : ℕ) (s : Shown room 0 one octets (Done count)) (rest : List ℕ) → length (s.prefix ++ rest) ≤ room → both (s.prefix ++ rest) ≡ next count rest
  both-append octets count s rest h =
      let n : length s.prefix ≡ count = omega (arith, s.reached) in
      rw (s.same rest h, drop_at s.prefix rest count n)

  Shown-both : (octets : List ℕ) (outcome : Outcome) (count : ℕ) (s : Shown room 0 one octets (Done count)) (r : Shown (room - count) (before + count) (next count) s.suffix outcome) → length octets ≤ room → Shown room before both octets outcome
  Shown-both octets outcome count s r fits =
      let l : length octets ≡ length s.prefix + length s.suffix = length_parts octets room 0 s in
      let m : length s.suffix ≡ length r.prefix + length r.suffix = length_parts s.suffix (room - count) (before + count) r in
      record {
        prefix = s.prefix ++ r.prefix;
        suffix = r.suffix;
        parts = s.parts ∙ ap (λ l. s.prefix ++ l) r.parts ∙ sym (append_assoc s.prefix r.prefix r.suffix);
        reached = rw length-append (omega (arith, s.reached, r.reached));
        same = same;
        sooner = sooner;
      }
    where
      same : (rest : List ℕ) → length ((s.prefix ++ r.prefix) ++ rest) ≤ room → both ((s.prefix ++ r.prefix) ++ rest) ≡ outcome
      same rest h =
          rw (append_assoc s.prefix r.prefix rest)
          (both-append octets count s (r.prefix ++ rest) (rw (append_assoc s.prefix r.prefix rest) at h)
          ∙ r.same rest (omega (arith, s.reached, length-append (s.prefix ++ r.prefix) rest, length-append s.prefix r.prefix, length-append r.prefix rest)))

      sooner : (k : ℕ) → k < length (s.prefix ++ r.prefix) → both (take k (s.prefix ++ r.prefix)) ≡ Open
      sooner k h =
          elim (cases_lt k (length s.prefix)) [
            | inl l ↦ rw (take-append-le k s.prefix r.prefix (omega arith), s.sooner k l)
            | inr l ↦
                rw (take-append_right s.prefix r.prefix k l)
                (both-append octets count s (take (k - length s.prefix) r.prefix) (rw (length-append, length-take) (omega (arith, length_parts octets room 0 s, length_parts s.suffix (room - count) (before + count) r)))
                ∙ r.sooner (k - length s.prefix) (omega (arith, length-append s.prefix r.prefix)))
          ]

  pub IsStable-then_after : IsStable room 0 one → ((count : ℕ) → IsStable (room - count) (before + count) (next count)) → IsStable room before both
  IsStable-then_after p q octets outcome fits e d = go (one octets) refl
    where
      go : (o : Outcome) → one octets ≡ o → Shown room before both octets outcome
      go Open f = absurd (not_open outcome (rw f at e) d)
      go (Bad offset reason) f =
          let s : Shown room 0 one octets (Bad offset reason) = p octets (Bad offset reason) fits f tt in
          let g : Bad (before + offset) reason ≡ outcome = rw f at e in
          record { prefix = s.prefix; suffix = s.suffix; parts = s.parts; reached = ap need (sym g) ∙ omega (arith, s.reached); same = λ rest h. rw (s.same rest h) g; sooner = λ k h. rw (s.sooner k h) }
      go (Done count) f =
          let s : Shown room 0 one octets (Done count) = p octets (Done count) fits f tt in
          let g : next count (drop count octets) ≡ outcome = rw f at e in
          after_one count s g
        where
          after_one : (count : ℕ) (s : Shown room 0 one octets (Done count)) → next count (drop count octets) ≡ outcome → Shown room before both octets outcome
          after_one count s g =
              let n : length s.prefix ≡ count = omega (arith, s.reached) in
              let h : next count s.suffix ≡ outcome = rw (s.parts, drop_at s.prefix s.suffix count n) at g in
              Shown-both octets outcome count s (q count s.suffix outcome (omega (arith, length_parts octets room 0 s)) h d) fits
