-- The records of texts one after another.
use Rattle.std.proofs.Common.{◌≡◌, ◌∙◌, ℕ, suc, ◌+◌, ◌<◌, ◌==◌, Bool, true, false, List, [], ◌∷◌, ◌++◌, get_or, take, Option, Some, None, cond, append-nil, sym, refl, ap, subst, append_assoc, add-one, zero, inl, inr, ◌⊎◌, length-take, arith}
use Rattle.std.specs.List.{flat_map}
use Rattle.std.proofs.lemmas.Grind.{flat_map-append}
use Rattle.memchr.specs.Find.{IsFirstByte, is_byte}
use Rattle.std.proofs.lemmas.List.{get_or-take}
use Rattle.krb_choice.specs.Choices.{Choice, below}
use Rattle.krb_choosing.specs.inner.Chooser.{Begins, Moves}
use Rattle.krb_choosing.proofs.Writes.{begin-after, begin-more, move-on}
use Rattle.krb_choosing.specs.Listings.{HasNoFeed, begun_after, chosen_after, chosen_of, records_after, told_after, told_of}

pub begun-append : (begun xs ys : List ℕ) → begun_after begun (xs ++ ys) ≡ begun_after (begun_after begun xs) ys
begun-append begun [] ys = refl
begun-append begun (c ∷ others) ys =
    elim (c == 10) as (λ b. cond b (begun_after [] (others ++ ys)) (begun_after (begun ++ c ∷ []) (others ++ ys)) ≡ begun_after (cond b (begun_after [] others) (begun_after (begun ++ c ∷ []) others)) ys)
    [ true ↦ begun-append [] others ys | false ↦ begun-append (begun ++ c ∷ []) others ys ]

pub records-append : (begun xs ys : List ℕ) → records_after begun (xs ++ ys) ≡ records_after begun xs ++ records_after (begun_after begun xs) ys
records-append begun [] ys = refl
records-append begun (c ∷ others) ys =
    elim (c == 10) as (λ b. cond b (begun ∷ records_after [] (others ++ ys)) (records_after (begun ++ c ∷ []) (others ++ ys)) ≡ cond b (begun ∷ records_after [] others) (records_after (begun ++ c ∷ []) others) ++ records_after (cond b (begun_after [] others) (begun_after (begun ++ c ∷ []) others)) ys)
    [ true ↦ ap (λ l. begun ∷ l) (records-append [] others ys) | false ↦ records-append (begun ++ c ∷ []) others ys ]

-- ---- octets without a line feed
pub begun-none : (begun xs : List ℕ) → HasNoFeed xs → begun_after begun xs ≡ begun ++ xs
begun-none begun [] none = sym (append-nil begun)
begun-none begun (c ∷ others) none =
    ap (λ b. cond b (begun_after [] others) (begun_after (begun ++ c ∷ []) others)) (none 0 (omega arith))
    ∙ begun-none (begun ++ c ∷ []) others (λ k l. none (suc k) (omega (arith, l))) ∙ append_assoc begun (c ∷ []) others

pub records-none : (begun xs : List ℕ) → HasNoFeed xs → records_after begun xs ≡ []
records-none begun [] none = refl
records-none begun (c ∷ others) none =
    ap (λ b. cond b (begun ∷ records_after [] others) (records_after (begun ++ c ∷ []) others)) (none 0 (omega arith))
    ∙ records-none (begun ++ c ∷ []) others (λ k l. none (suc k) (omega (arith, l)))

-- a line ends the record that has begun
pub begun-line : (begun line : List ℕ) → HasNoFeed line → begun_after begun (line ++ 10 ∷ []) ≡ []
begun-line begun line none = begun-append begun line (10 ∷ [])

pub records-line : (begun line : List ℕ) → HasNoFeed line → records_after begun (line ++ 10 ∷ []) ≡ (begun ++ line) ∷ []
records-line begun line none =
    records-append begun line (10 ∷ []) ∙ ap (λ l. l ++ begun_after begun line ∷ []) (records-none begun line none) ∙ ap (λ b. b ∷ []) (begun-none begun line none)

module _ (c : Choice) (goes_on : Bool) where
  pub chosen-append : (begun xs ys : List ℕ) → chosen_after c goes_on begun (xs ++ ys) ≡ chosen_after c goes_on begun xs ++ chosen_after c goes_on (begun_after begun xs) ys
  chosen-append begun xs ys = ap (flat_map (chosen_of c goes_on)) (records-append begun xs ys) ∙ flat_map-append (chosen_of c goes_on) (records_after begun xs) (records_after (begun_after begun xs) ys)

  pub told-append : (told : List ℕ) (xs ys : List (List ℕ)) → told_after c goes_on told (xs ++ ys) ≡ told_after c goes_on (told_after c goes_on told xs) ys
  told-append told [] ys = refl
  told-append told (x ∷ xs) ys = told-append (told_of c goes_on x) xs ys

-- ---- rows below a number
nat_le_cases : (n m : ℕ) → n < suc m → (n ≡ m) ⊎ (n < m)
nat_le_cases n m l = grind arith

module _ (f : ℕ → List ℕ) where
  pub below-next : (n : ℕ) → flat_map f (below (n + 1)) ≡ flat_map f (below n) ++ f n
  below-next n =
      ap (λ k. flat_map f (below k)) (add-one n) ∙ flat_map-append f (below n) (n ∷ []) ∙ ap (λ l. flat_map f (below n) ++ l) (append-nil (f n))

  -- those below a greater number begin with those below a number and the next one
  pub below-more : (n count : ℕ) → n < count → (rest : List ℕ) × (flat_map f (below count) ≡ (flat_map f (below n) ++ f n) ++ rest)
  below-more n zero less = absurd (omega (arith, less))
  below-more n (suc count) less =
      elim (nat_le_cases n count less) [
        | inl same ↦ ([], ap (λ k. flat_map f (below k)) (sym (add-one count)) ∙ below-next count ∙ ap (λ k. flat_map f (below k) ++ f k) (sym same) ∙ sym (append-nil (flat_map f (below n) ++ f n)))
        | inr below_it ↦
            let r = below-more n count below_it in
            (r.0 ++ f count, ap (λ k. flat_map f (below k)) (sym (add-one count)) ∙ below-next count ∙ ap (λ l. l ++ f count) r.1 ∙ append_assoc (flat_map f (below n) ++ f n) r.0 (f count))
      ]

  pub rows-next : (b m a : Option (List ℕ)) (out out' out'' : List ℕ) (n : ℕ) → Moves b m out out' (flat_map f (below n)) → Moves m a out' out'' (f n) → Moves b a out out'' (flat_map f (below (n + 1)))
  rows-next b m a out out' out'' n p q =
      subst (λ (t : List ℕ). Moves b a out out'' t) (sym (below-next n)) (move-on b m a out out' out'' (flat_map f (below n)) (f n) p q)

  pub rows-failed : (b m a : Option (List ℕ)) (out out' : List ℕ) (n count : ℕ) → n < count → Moves b m out out' (flat_map f (below n)) → Begins m a (out' ++ f n) → Begins b a (out ++ flat_map f (below count))
  rows-failed b m a out out' n count less p q =
      let r = below-more n count less in
      let some = flat_map f (below n) ++ f n in
      subst (λ (t : List ℕ). Begins b a t) (append_assoc out some r.0 ∙ ap (λ l. out ++ l) (sym r.1))
      (begin-more b a (out ++ some) r.0 (begin-after b m a out out' (flat_map f (below n)) (f n) p q))

-- ---- what is found first
is_false : (b : Bool) → (b ≡ true → ⊥) → b ≡ false
is_false true never = absurd (never refl)
is_false false never = refl

pub no-feed : (text : List ℕ) → IsFirstByte (is_byte 10) text None → HasNoFeed text
no-feed text none = λ k l. is_false (get_or text k 0 == 10) (λ is. none k (omega arith) l is)

pub no-feed-before : (text : List ℕ) (end : ℕ) → IsFirstByte (is_byte 10) text (Some end) → HasNoFeed (take end text)
no-feed-before text end found = λ k l.
    let below_it : k < end = omega (arith, l, length-take end text) in
    is_false (get_or (take end text) k 0 == 10) (λ is. found.0.before k (omega arith) below_it (subst (λ (octet : ℕ). (octet == 10) ≡ true) (get_or-take end text k 0 below_it) is))
