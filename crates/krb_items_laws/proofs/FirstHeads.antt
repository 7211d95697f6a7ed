-- The head that an item of DER begins with is read.
use Rattle.std.proofs.Common.{◌≡◌, ℕ, ◌+◌, ◌-◌, ◌^◌, ◌<◌, ◌≤◌, ◌⊎◌, inl, inr, true, false, ◌&&◌, ◌||◌, ltb, eqb, List, [], ◌∷◌, ◌++◌, length, take, Some, arith, lt-ltb, le-ltb, ne_eqb}
use Rattle.std.proofs.lemmas.Bool.{cases_lt, cases_Bool}
use Rattle.std.proofs.lemmas.Bool.Decides.{nat_tests}
use Rattle.krb_der.specs.Octets.{length_octets, number}
use Rattle.krb_msg.specs.Judgement.{Got, fitting, head, long_head as judged_long}
use Rattle.krb_msg.proofs.Heads.{head-length_octets}
use Rattle.krb_items.specs.Heads.{head_in, long_head}

abbrev pub IsHead : List ℕ → (header size : ℕ) → Type 0
IsHead octets header size = head_in octets ≡ Some (record { header = header; size = size })

abbrev IsLong : (count : ℕ) → List ℕ → (header size : ℕ) → Type 0
IsLong count octets header size = long_head count octets ≡ Some (record { header = header; size = size })

fitting-got : (room k n header contents : ℕ) → fitting room k n ≡ Got header contents → (k ≡ header) × (n ≡ contents)
fitting-got room k n header contents e = grind (arith, nat_tests)

long-in : (room k : ℕ) (rest : List ℕ) (header contents : ℕ) → 0 < k → k ≤ 4 → judged_long room k rest ≡ Got header contents → IsLong k rest header contents
long-in room k [] header contents p q e = absurd cc
long-in room k (first ∷ rest) header contents p q e =
    let a : (eqb first 0 || (eqb k 1 && ltb first 128)) ≡ false = grind (arith, nat_tests) in
    let b : ltb (length (first ∷ rest)) k ≡ false = grind (arith, nat_tests) in
    let f : fitting room (2 + k) (number (take k (first ∷ rest))) ≡ Got header contents = grind (arith, nat_tests) in
    let g : (2 + k ≡ header) × (number (take k (first ∷ rest)) ≡ contents) = fitting-got room (2 + k) (number (take k (first ∷ rest))) header contents f in
    rw (ne_eqb k 0 (omega arith), le-ltb 4 k q, b, a) (λ i. Some (record { header = g.0 i; size = g.1 i }))

pub head-in : (room : ℕ) (octets : List ℕ) (header contents : ℕ) → head room octets ≡ Got header contents → IsHead octets header contents
head-in room [] header contents e = absurd cc
head-in room (tag ∷ []) header contents e = absurd cc
head-in room (tag ∷ first ∷ rest) header contents e = by (cases_lt first 128) (cases_Bool (eqb first 128)) (cases_lt 132 first)
  where
    by : (first < 128) ⊎ (128 ≤ first) → (eqb first 128 ≡ true) ⊎ (eqb first 128 ≡ false) → (132 < first) ⊎ (first ≤ 132) → IsHead (tag ∷ first ∷ rest) header contents
    by (inl h) c d =
        let f : fitting room 2 first ≡ Got header contents = grind (arith, nat_tests) in
        let g : (2 ≡ header) × (first ≡ contents) = fitting-got room 2 first header contents f in
        rw (lt-ltb first 128 h) (λ i. Some (record { header = g.0 i; size = g.1 i }))
    by (inr h) (inl c) d = absurd (grind (arith, nat_tests))
    by (inr h) (inr c) (inl d) = absurd (grind (arith, nat_tests))
    by (inr h) (inr c) (inr d) =
        let f : judged_long room (first - 128) rest ≡ Got header contents = grind (arith, nat_tests) in
        let n : 0 < first - 128 = grind (arith, nat_tests) in
        rw (le-ltb first 128 h) (long-in room (first - 128) rest header contents n (omega arith) f)

-- the head of a tag and a length
pub head-of-length : (tag n : ℕ) (rest : List ℕ) → n < 2 ^ 32 → IsHead (tag ∷ (length_octets n ++ rest)) (1 + length (length_octets n)) n
head-of-length tag n rest small = head-in (1 + length (length_octets n) + n) (tag ∷ (length_octets n ++ rest)) (1 + length (length_octets n)) n (head-length_octets (1 + length (length_octets n) + n) tag n rest small (omega arith))
