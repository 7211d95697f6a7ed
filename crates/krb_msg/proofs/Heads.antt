-- The identifier and length octets of an item: what `head` accepts, and which octets decide it.
use Rattle.std.proofs.Common.{◌≡◌, ℕ, zero, suc, ◌+◌, ◌-◌, ◌*◌, ◌^◌, ◌<◌, ◌≤◌, ◌⊎◌, inl, inr, Bool, true, false, ◌&&◌, ◌||◌, ltb, eqb, List, [], ◌∷◌, ◌++◌, length, take, drop, refl, sym, ◌∙◌, ap, arith, length-append, ◌≢◌, length-take, take-append-drop, lt-ltb, le-ltb}
use Rattle.std.proofs.lemmas.Bool.{cases_lt, cases_order, cases_Bool, cond_both}
use Rattle.std.proofs.lemmas.Bool.Decides.{nat_tests}
use Rattle.std.proofs.lemmas.List.{length-take-le, take_at}
use Rattle.krb_der.specs.Octets.{number, length_octets, AreOctets}
use Rattle.krb_der.specs.declared.why.Why.{Why}
use Rattle.krb_der.specs.declared.why.Why.TheVariants as why
use Rattle.krb_der.specs.inner.Numbers.{spelled, IsShortest, IsShortest-spelled, AreOctets-spelled, AreOctets-take, number-fewest, number_from-ge, spelled-number, length-spelled-le}
use Rattle.krb_der.specs.inner.Items.{length_octets-short, length_octets-long}
use Rattle.krb_msg.specs.Judgement.{Head, Partial, Refused, Got, fitting, long_head, head}

-- ---- whether the contents fit in the room
fitting-got : (room header contents : ℕ) → header + contents ≤ room → fitting room header contents ≡ Got header contents
fitting-got room header contents h = rw (le-ltb room (header + contents) h)

abbrev pub need_of_head : Head → ℕ
need_of_head Partial = 0
need_of_head (Refused offset reason) = suc offset
need_of_head (Got header contents) = header

need-fitting : (room header contents : ℕ) → 0 < header → need_of_head (fitting room header contents) ≡ header
need-fitting room header contents h = cond_both (ltb room (header + contents)) _ _ (λ found. need_of_head found ≡ header) (λ t. omega arith) (λ t. refl)

got_from_fitting : (room k n header contents : ℕ) → fitting room k n ≡ Got header contents → (k ≡ header) × (n ≡ contents) × (header + contents ≤ room)
got_from_fitting room k n header contents e = grind (arith, nat_tests)

-- ---- the first two octets
data FirstTwo (room tag octet : ℕ) : Type 0 where
  Short : octet < 128 → ((rest : List ℕ) → head room (tag ∷ octet ∷ rest) ≡ fitting room 2 octet) → FirstTwo room tag octet
  Wrong : (reason : Why) → ((rest : List ℕ) → head room (tag ∷ octet ∷ rest) ≡ Refused 1 reason) → FirstTwo room tag octet
  Long : (k : ℕ) → octet ≡ 128 + k → 0 < k → k ≤ 4 → 2 + k ≤ room → ((rest : List ℕ) → head room (tag ∷ octet ∷ rest) ≡ long_head room k rest) → FirstTwo room tag octet

first_two : (room tag octet : ℕ) → FirstTwo room tag octet
first_two room tag octet = short (cases_lt octet 128)
  where
    room_for : 128 < octet → octet ≤ 132 → (room < 2 + (octet - 128)) ⊎ (2 + (octet - 128) ≤ room) → FirstTwo room tag octet
    room_for p q (inl h) = Wrong why.Overrun (λ rest. grind (arith, nat_tests))
    room_for p q (inr h) = Long (octet - 128) (omega arith) (omega arith) (omega arith) h (λ rest. grind (arith, nat_tests))

    wide : 128 ≤ octet → (octet ≡ 128) ⊎ ((octet < 128) ⊎ (128 < octet)) → (132 < octet) ⊎ (octet ≤ 132) → FirstTwo room tag octet
    wide p (inl h) c = Wrong why.Indefinite (λ rest. grind (arith, nat_tests))
    wide p (inr h) (inl c) = Wrong why.LengthWide (λ rest. grind (arith, nat_tests))
    wide p (inr h) (inr c) = room_for (omega arith) c (cases_lt room (2 + (octet - 128)))

    short : (octet < 128) ⊎ (128 ≤ octet) → FirstTwo room tag octet
    short (inl h) = Short h (λ rest. grind (arith, nat_tests))
    short (inr h) = wide h (cases_order octet 128) (cases_lt 132 octet)

-- ---- a long length
abbrev not_minimal : ℕ → ℕ → Bool
not_minimal k first = eqb first 0 || (eqb k 1 && ltb first 128)

long_head-refused : (room k first : ℕ) (rest : List ℕ) → not_minimal k first ≡ true → long_head room k (first ∷ rest) ≡ Refused 2 why.LengthNotMinimal
long_head-refused room k first rest t = rw t

long_head-partial : (room k first : ℕ) (rest : List ℕ) → not_minimal k first ≡ false → length (first ∷ rest) < k → long_head room k (first ∷ rest) ≡ Partial
long_head-partial room k first rest t h = rw (t, lt-ltb (length (first ∷ rest)) k h)

long_head-whole : (room k first : ℕ) (rest : List ℕ) → not_minimal k first ≡ false → k ≤ length (first ∷ rest) → long_head room k (first ∷ rest) ≡ fitting room (2 + k) (number (take k (first ∷ rest)))
long_head-whole room k first rest t h = rw (t, le-ltb (length (first ∷ rest)) k h)

minimal_from_shortest : (digits : List ℕ) (first : ℕ) → AreOctets (first ∷ digits) → IsShortest 256 (first ∷ digits) → 128 ≤ number (first ∷ digits) → not_minimal (length (first ∷ digits)) first ≡ false
minimal_from_shortest [] first a s h = grind (arith, nat_tests)
minimal_from_shortest (second ∷ digits) first a s h = let k : first ≢ 0 = omega (arith, a.1.0, s.1) in grind (arith, nat_tests)

shortest_from_minimal : (digits : List ℕ) (first : ℕ) → AreOctets (first ∷ digits) → not_minimal (length (first ∷ digits)) first ≡ false → IsShortest 256 (first ∷ digits) × (128 ≤ number (first ∷ digits))
shortest_from_minimal [] first a t = (a.0, grind (arith, nat_tests))
shortest_from_minimal (second ∷ digits) first a t =
    let k : first ≢ 0 = grind (arith, nat_tests) in
    ((a.0, omega (arith, k)), omega (arith, k, number_from-ge ((0 * 256 + first) * 256 + second) digits))

long_head-accepts : (room : ℕ) (digits rest : List ℕ) → AreOctets digits → IsShortest 256 digits → 128 ≤ number digits → 2 + length digits + number digits ≤ room → long_head room (length digits) (digits ++ rest) ≡ Got (2 + length digits) (number digits)
long_head-accepts room [] rest a s h fits = absurd s
long_head-accepts room (first ∷ digits) rest a s h fits =
    long_head-whole room (length (first ∷ digits)) first (digits ++ rest) (minimal_from_shortest digits first a s h) (omega (arith, length-append digits rest))
    ∙ rw (take_at (first ∷ digits) rest (length (first ∷ digits)) refl) (fitting-got room (2 + length (first ∷ digits)) (number (first ∷ digits)) fits)

head-long : (room tag k : ℕ) (rest : List ℕ) → 0 < k → k ≤ 4 → 2 + k ≤ room → head room (tag ∷ (128 + k) ∷ rest) ≡ long_head room k rest
head-long room tag k rest p q h =
    let e : 128 + k - 128 ≡ k = omega arith in
    rw e (grind (arith, nat_tests))

pub some_from_shortest : (digits : List ℕ) → IsShortest 256 digits → 0 < length digits
some_from_shortest [] s = absurd s
some_from_shortest (digit ∷ digits) s = omega arith

-- a length is read back, with any octets after it
pub head-length_octets : (room tag n : ℕ) (rest : List ℕ) → n < 2 ^ 32 → 1 + length (length_octets n) + n ≤ room → head room (tag ∷ (length_octets n ++ rest)) ≡ Got (1 + length (length_octets n)) n
head-length_octets room tag n rest small fits = go (cases_lt n 128)
  where
    go : (n < 128) ⊎ (128 ≤ n) → head room (tag ∷ (length_octets n ++ rest)) ≡ Got (1 + length (length_octets n)) n
    go (inl h) = rw (length_octets-short n h, lt-ltb n 128 h) (fitting-got room 2 n (rw (length_octets-short n h) at fits))
    go (inr h) =
        let digits : List ℕ = spelled 256 n in
        let e : number digits ≡ n = number-fewest n 256 n in
        let k : length digits ≤ 4 = length-spelled-le 256 3 n (omega arith) (omega arith) in
        let f : 1 + suc (length digits) + n ≤ room = rw (length_octets-long n h) at fits in
        rw (length_octets-long n h) (by_digits digits (AreOctets-spelled 256 n (omega arith) (omega arith)) (IsShortest-spelled 256 n (omega arith)) e k (omega arith))
      where
        by_digits : (digits : List ℕ) → AreOctets digits → IsShortest 256 digits → number digits ≡ n → length digits ≤ 4 → 2 + length digits + n ≤ room → head room (tag ∷ (128 + length digits) ∷ (digits ++ rest)) ≡ Got (1 + suc (length digits)) n
        by_digits digits a s e k f =
            head-long room tag (length digits) (digits ++ rest) (some_from_shortest digits s) k (omega arith)
            ∙ long_head-accepts room digits rest a s (omega arith) (omega arith)
            ∙ ap (λ m. Got (2 + length digits) m) e
            ∙ ap (λ m. Got m n) (omega arith)

-- ---- an accepted head
pub record IsHead (room header contents : ℕ) (octets : List ℕ) : Type 0 where
  pub tag : ℕ
  pub rest : List ℕ
  pub parts : octets ≡ tag ∷ (length_octets contents ++ rest)
  pub counted : header ≡ 1 + length (length_octets contents)
  pub within : header + contents ≤ room

IsHead-long : (room tag k : ℕ) (rest : List ℕ) (header contents : ℕ) → 0 < k → AreOctets rest → long_head room k rest ≡ Got header contents → IsHead room header contents (tag ∷ (128 + k) ∷ rest)
IsHead-long room tag k [] header contents p a e = absurd cc
IsHead-long room tag k (first ∷ rest) header contents p a e = go (cases_Bool (not_minimal k first)) (cases_lt (length (first ∷ rest)) k)
  where
    spelt : (digits rest : List ℕ) → AreOctets digits → IsShortest 256 digits → 128 ≤ number digits → fitting room (2 + length digits) (number digits) ≡ Got header contents → IsHead room header contents (tag ∷ (128 + length digits) ∷ (digits ++ rest))
    spelt digits rest a s h f =
        let g : (2 + length digits ≡ header) × (number digits ≡ contents) × (header + contents ≤ room) = got_from_fitting room (2 + length digits) (number digits) header contents f in
        let l : length_octets contents ≡ (128 + length digits) ∷ digits =
        rw (← g.1, length_octets-long (number digits) h, spelled-number 256 digits (omega arith) a s) in
        record { tag = tag; rest = rest; parts = rw l; counted = rw l (omega (arith, g.0)); within = g.2 }

    whole : (k : ℕ) → 0 < k → not_minimal k first ≡ false → k ≤ length (first ∷ rest) → fitting room (2 + k) (number (take k (first ∷ rest))) ≡ Got header contents → IsHead room header contents (tag ∷ (128 + k) ∷ (first ∷ rest))
    whole zero p t l f = absurd (omega arith)
    whole (suc k) p t l f =
        let n : length (take k rest) ≡ k = length-take-le k rest (omega arith) in
        let m : AreOctets (first ∷ take k rest) = (a.0, AreOctets-take k rest a.1) in
        let s : IsShortest 256 (first ∷ take k rest) × (128 ≤ number (first ∷ take k rest)) = shortest_from_minimal (take k rest) first m (rw n t) in
        let r : IsHead room header contents (tag ∷ (128 + suc (length (take k rest))) ∷ (first ∷ (take k rest ++ drop k rest))) = spelt (first ∷ take k rest) (drop k rest) m s.0 s.1 (rw n f) in
        rw (n, take-append-drop k rest) at r

    go : (not_minimal k first ≡ true) ⊎ (not_minimal k first ≡ false) → (length (first ∷ rest) < k) ⊎ (k ≤ length (first ∷ rest)) → IsHead room header contents (tag ∷ (128 + k) ∷ (first ∷ rest))
    go (inl t) c = let f : Refused 2 why.LengthNotMinimal ≡ Got header contents = sym (long_head-refused room k first rest t) ∙ e in absurd cc
    go (inr t) (inl l) = let f : Partial ≡ Got header contents = sym (long_head-partial room k first rest t l) ∙ e in absurd cc
    go (inr t) (inr l) = whole k p t l (sym (long_head-whole room k first rest t l) ∙ e)

pub IsHead-head : (room header contents : ℕ) (octets : List ℕ) → AreOctets octets → head room octets ≡ Got header contents → IsHead room header contents octets
IsHead-head room header contents [] a e = absurd cc
IsHead-head room header contents (tag ∷ []) a e = absurd cc
IsHead-head room header contents (tag ∷ octet ∷ rest) a e = go octet (first_two room tag octet) e
  where
    go : (octet : ℕ) → FirstTwo room tag octet → head room (tag ∷ octet ∷ rest) ≡ Got header contents → IsHead room header contents (tag ∷ octet ∷ rest)
    go octet (Short h f) e =
        let g : (2 ≡ header) × (octet ≡ contents) × (header + contents ≤ room) = got_from_fitting room 2 octet header contents (sym (f rest) ∙ e) in
        let l : length_octets contents ≡ octet ∷ [] = rw (← g.1, length_octets-short octet h) in
        record { tag = tag; rest = rest; parts = rw l; counted = rw l (omega (arith, g.0)); within = g.2 }
    go octet (Wrong reason f) e = let g : Refused 1 reason ≡ Got header contents = sym (f rest) ∙ e in absurd cc
    go octet (Long k o p q h f) e = rw o (IsHead-long room tag k rest header contents p a.1.1 (sym (f rest) ∙ e))

-- ---- the octets that decide a head
pub record HeadShown (room : ℕ) (octets : List ℕ) (found : Head) : Type 0 where
  pub prefix : List ℕ
  pub suffix : List ℕ
  pub parts : octets ≡ prefix ++ suffix
  pub reached : need_of_head found ≡ length prefix
  pub same : (rest : List ℕ) → head room (prefix ++ rest) ≡ found
  pub sooner : (k : ℕ) → k < length prefix → head room (take k prefix) ≡ Partial

pub zero_from_lt_one : (n : ℕ) → n < 1 → n ≡ 0
zero_from_lt_one n h = omega arith

head-short : (room : ℕ) (octets : List ℕ) → length octets < 2 → head room octets ≡ Partial
head-short room [] h = refl
head-short room (tag ∷ []) h = refl
head-short room (tag ∷ octet ∷ rest) h = absurd (omega arith)

-- two octets decide it
HeadShown-two : (room tag octet : ℕ) (rest : List ℕ) (found : Head) → need_of_head found ≡ 2 → ((rest : List ℕ) → head room (tag ∷ octet ∷ rest) ≡ found) → HeadShown room (tag ∷ octet ∷ rest) found
HeadShown-two room tag octet rest found n f = record {
  prefix = tag ∷ octet ∷ [];
  suffix = rest;
  parts = refl;
  reached = n;
  same = f;
  sooner = λ k h. head-short room (take k (tag ∷ octet ∷ [])) (rw length-take (omega arith));
}

-- two octets and the first n of a long length decide it
HeadShown-long : (room tag octet k : ℕ) (digits rest : List ℕ) (found : Head) → need_of_head found ≡ 2 + length digits → ((rest : List ℕ) → head room (tag ∷ octet ∷ rest) ≡ long_head room k rest) → ((rest : List ℕ) → long_head room k (digits ++ rest) ≡ found) → ((n : ℕ) → n < length digits → long_head room k (take n digits) ≡ Partial) → HeadShown room (tag ∷ octet ∷ (digits ++ rest)) found
HeadShown-long room tag octet k digits rest found n f same sooner = record {
  prefix = tag ∷ octet ∷ digits;
  suffix = rest;
  parts = refl;
  reached = omega (arith, n);
  same = λ rest. f (digits ++ rest) ∙ same rest;
  sooner = earlier;
}
  where
    earlier : (n : ℕ) → n < suc (suc (length digits)) → head room (take n (tag ∷ octet ∷ digits)) ≡ Partial
    earlier zero h = refl
    earlier (suc zero) h = refl
    earlier (suc (suc n)) h = f (take n digits) ∙ sooner n (omega arith)

HeadShown-long_head : (room tag octet k : ℕ) (rest : List ℕ) (found : Head) → 0 < k → ((rest : List ℕ) → head room (tag ∷ octet ∷ rest) ≡ long_head room k rest) → long_head room k rest ≡ found → (found ≡ Partial → ⊥) → HeadShown room (tag ∷ octet ∷ rest) found
HeadShown-long_head room tag octet k [] found p f e d = absurd (d (sym e))
HeadShown-long_head room tag octet k (first ∷ rest) found p f e d = go k p (cases_Bool (not_minimal k first)) (cases_lt (length (first ∷ rest)) k) f e
  where
    go : (k : ℕ) → 0 < k → (not_minimal k first ≡ true) ⊎ (not_minimal k first ≡ false) → (length (first ∷ rest) < k) ⊎ (k ≤ length (first ∷ rest)) → ((rest : List ℕ) → head room (tag ∷ octet ∷ rest) ≡ long_head room k rest) → long_head room k (first ∷ rest) ≡ found → HeadShown room (tag ∷ octet ∷ (first ∷ rest)) found
    go k p (inl t) c f e =
        let g : Refused 2 why.LengthNotMinimal ≡ found = sym (long_head-refused room k first rest t) ∙ e in
        HeadShown-long room tag octet k (first ∷ []) rest found (ap need_of_head (sym g)) f
        (λ rest. long_head-refused room k first rest t ∙ g)
        (λ n h. ap (λ m. long_head room k (take m (first ∷ []))) (zero_from_lt_one n h))
    go k p (inr t) (inl l) f e = absurd (d (sym (sym (long_head-partial room k first rest t l) ∙ e)))
    go zero p (inr t) (inr l) f e = absurd (omega arith)
    go (suc k) p (inr t) (inr l) f e =
        let g : fitting room (2 + suc k) (number (take (suc k) (first ∷ rest))) ≡ found = sym (long_head-whole room (suc k) first rest t l) ∙ e in
        let n : length (take k rest) ≡ k = length-take-le k rest (omega arith) in
        let s : HeadShown room (tag ∷ octet ∷ ((first ∷ take k rest) ++ drop k rest)) found =
        HeadShown-long room tag octet (suc k) (first ∷ take k rest) (drop k rest) found
        (ap need_of_head (sym g) ∙ need-fitting room (2 + suc k) _ (omega arith) ∙ omega (arith, n)) f
        (λ more. long_head-whole room (suc k) first (take k rest ++ more) t (omega (arith, n, length-append (take k rest) more))
        ∙ ap (λ l. fitting room (2 + suc k) (number (first ∷ l))) (take_at (take k rest) more k n) ∙ g)
        sooner in
        rw (take-append-drop k rest) at s
      where
        sooner : (n : ℕ) → n < suc (length (take k rest)) → long_head room (suc k) (take n (first ∷ take k rest)) ≡ Partial
        sooner zero h = refl
        sooner (suc n) h = long_head-partial room (suc k) first (take n (take k rest)) t (omega (arith, length-take n (take k rest), length-take k rest))

pub HeadShown-head : (room : ℕ) (octets : List ℕ) (found : Head) → head room octets ≡ found → (found ≡ Partial → ⊥) → HeadShown room octets found
HeadShown-head room [] found e d = absurd (d (sym e))
HeadShown-head room (tag ∷ []) found e d = absurd (d (sym e))
HeadShown-head room (tag ∷ octet ∷ rest) found e d = go (first_two room tag octet)
  where
    go : FirstTwo room tag octet → HeadShown room (tag ∷ octet ∷ rest) found
    go (Short h f) = HeadShown-two room tag octet rest found (ap need_of_head (sym (sym (f rest) ∙ e)) ∙ need-fitting room 2 octet (omega arith)) (λ more. f more ∙ (sym (f rest) ∙ e))
    go (Wrong reason f) = HeadShown-two room tag octet rest found (ap need_of_head (sym (sym (f rest) ∙ e))) (λ more. f more ∙ (sym (f rest) ∙ e))
    go (Long k o p q h f) = HeadShown-long_head room tag octet k rest found p f (sym (f rest) ∙ e) d

-- ---- all octets of the room decide it
pub head-decided : (room : ℕ) (octets : List ℕ) → 2 ≤ room → length octets ≡ room → head room octets ≡ Partial → ⊥
head-decided room [] p l e = omega arith
head-decided room (tag ∷ []) p l e = omega arith
head-decided room (tag ∷ octet ∷ rest) p l e = go (first_two room tag octet)
  where
    long : (k : ℕ) (rest : List ℕ) → 0 < k → k ≤ length rest → long_head room k rest ≡ Partial → ⊥
    long k [] p h f = omega arith
    long k (first ∷ rest) p h f = grind (arith, nat_tests)

    go : FirstTwo room tag octet → ⊥
    go (Short h f) = let g : fitting room 2 octet ≡ Partial = sym (f rest) ∙ e in grind (arith, nat_tests)
    go (Wrong reason f) = let g : Refused 1 reason ≡ Partial = sym (f rest) ∙ e in cc
    go (Long k o p q h f) = long k rest p (omega arith) (sym (f rest) ∙ e)

long_head-within : (room k : ℕ) (rest : List ℕ) (header contents : ℕ) → long_head room k rest ≡ Got header contents → header + contents ≤ room
long_head-within room k [] header contents e = absurd cc
long_head-within room k (first ∷ rest) header contents e = grind (arith, nat_tests)

-- an accepted length fits in the room
pub head-within : (room : ℕ) (octets : List ℕ) (header contents : ℕ) → head room octets ≡ Got header contents → header + contents ≤ room
head-within room [] header contents e = absurd cc
head-within room (tag ∷ []) header contents e = absurd cc
head-within room (tag ∷ octet ∷ rest) header contents e = go (first_two room tag octet)
  where
    go : FirstTwo room tag octet → header + contents ≤ room
    go (Short h f) = (got_from_fitting room 2 octet header contents (sym (f rest) ∙ e)).2
    go (Wrong reason f) = let g : Refused 1 reason ≡ Got header contents = sym (f rest) ∙ e in absurd cc
    go (Long k o p q h f) = long_head-within room k rest header contents (sym (f rest) ∙ e)

-- a head has octets
pub head-positive : (room : ℕ) (octets : List ℕ) (header contents : ℕ) → head room octets ≡ Got header contents → 0 < header
head-positive room octets header contents e =
    let s : HeadShown room octets (Got header contents) = HeadShown-head room octets (Got header contents) e (λ f. cc) in
    go s.prefix s.reached (s.same [])
  where
    go : (prefix : List ℕ) → header ≡ length prefix → head room (prefix ++ []) ≡ Got header contents → 0 < header
    go [] n f = absurd cc
    go (octet ∷ prefix) n f = omega arith
