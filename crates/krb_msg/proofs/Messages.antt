-- The laws of the judgement of a message, which its tag chooses, by any messages.
use Rattle.std.proofs.Common.{◌≡◌, ℕ, ◌^◌, ◌<◌, ◌≤◌, ◌⊎◌, inl, inr, Bool, true, false, not, eqb, List, [], ◌∷◌, ◌++◌, length, refl, sym, ◌∙◌, ap, arith, eq-eqb, eqb-true}
use mathlib.Core.Path.{path_j}
use Rattle.std.proofs.lemmas.Bool.{cases_Bool, true≢false, and_parts, not-true}
use Rattle.std.specs.List.{list_all}
use Rattle.krb_der.specs.Octets.{AreOctets}
use Rattle.krb_der.specs.declared.why.Why.TheVariants as why
use Rattle.krb_msg.specs.Term.{Term, tag_of, Value, der, Fits}
use Rattle.krb_msg.specs.Shape.{is_unambiguous, IsOneOf, have_own_tags}
use Rattle.krb_msg.specs.Laws.{SomeValue}
use Rattle.krb_msg.specs.Judgement.{Outcome, Open, Bad, Done, item_outcome, message_outcome}
use Rattle.krb_msg.proofs.Stable.{IsDecided, IsStable, IsStable-refusal, refusal}
use Rattle.krb_msg.proofs.Items.{IsStable-first}
use Rattle.krb_msg.proofs.TermsStable.{IsStable-item_outcome}
use Rattle.krb_der.specs.inner.Items.{same_from_cons}
use Rattle.krb_msg.specs.inner.Values.{der-append, same_from_der}
use Rattle.krb_msg.proofs.Accepts.{item-accepted}
use Rattle.krb_msg.proofs.TermsDecided.{item_outcome-decided}
use Rattle.krb_msg.proofs.Laws.{Settles, Settles-stable, IsWhole, IsWhole-done}

-- ---- the term of a tag
-- a term whose tag is no earlier one's
abbrev pub IsChosen : Term → List Term → Type 0
IsChosen term [] = ⊥
IsChosen term (first ∷ terms) = (term ≡ first) ⊎ ((eqb (tag_of term) (tag_of first) ≡ false) × IsChosen term terms)

-- one of the terms, and none before it has its tag
pub one_of_chosen : (terms : List Term) (term : Term) → IsChosen term terms → IsOneOf term terms
one_of_chosen [] term c = absurd c
one_of_chosen (first ∷ terms) term (inl e) = inl e
one_of_chosen (first ∷ terms) term (inr c) = inr (one_of_chosen terms term c.1)

-- a test that all messages pass is passed by one of them
pub one_of_passes : (test : Term → Bool) (terms : List Term) (term : Term) → list_all test terms ≡ true → IsOneOf term terms → test term ≡ true
one_of_passes test [] term a o = absurd o
one_of_passes test (first ∷ terms) term a (inl e) = ap test e ∙ (and_parts _ _ a).0
one_of_passes test (first ∷ terms) term a (inr o) = one_of_passes test terms term (and_parts _ _ a).1 o

pub chosen_one_of : (terms : List Term) (term : Term) → have_own_tags terms ≡ true → IsOneOf term terms → IsChosen term terms
chosen_one_of [] term a o = absurd o
chosen_one_of (first ∷ terms) term a (inl e) = inl e
chosen_one_of (first ∷ terms) term a (inr o) =
    let t : (list_all (λ term. not (eqb (tag_of term) (tag_of first))) terms ≡ true) × (have_own_tags terms ≡ true) = and_parts _ _ a in
    inr (not-true _ (one_of_passes (λ term. not (eqb (tag_of term) (tag_of first))) terms term t.0 o), chosen_one_of terms term t.1 o)

message-first : (first : Term) (terms : List Term) (room octet : ℕ) (rest : List ℕ) → eqb octet (tag_of first) ≡ true → message_outcome (first ∷ terms) room (octet ∷ rest) ≡ item_outcome first room true (octet ∷ rest)
message-first first terms room octet rest t = rw t

message-later : (first : Term) (terms : List Term) (room octet : ℕ) (rest : List ℕ) → eqb octet (tag_of first) ≡ false → message_outcome (first ∷ terms) room (octet ∷ rest) ≡ message_outcome terms room (octet ∷ rest)
message-later first terms room octet rest t = rw t

pub message_outcome-chosen : (term : Term) (terms : List Term) (room : ℕ) (rest : List ℕ) → IsChosen term terms → message_outcome terms room (tag_of term ∷ rest) ≡ item_outcome term room true (tag_of term ∷ rest)
message_outcome-chosen term [] room rest c = absurd c
message_outcome-chosen term (first ∷ terms) room rest (inl e) =
    message-first first terms room (tag_of term) rest (eq-eqb (tag_of term) (tag_of first) (ap tag_of e))
    ∙ ap (λ t. item_outcome t room true (tag_of term ∷ rest)) (sym e)
message_outcome-chosen term (first ∷ terms) room rest (inr c) =
    message-later first terms room (tag_of term) rest c.0 ∙ message_outcome-chosen term terms room rest c.1

-- the outcome of the first octet
abbrev pub Choice : List Term → ℕ → Type 0
Choice terms octet =
    ((room : ℕ) (rest : List ℕ) → message_outcome terms room (octet ∷ rest) ≡ Bad 0 why.Tag)
    ⊎ ((term : Term) × (IsChosen term terms) × (octet ≡ tag_of term) × ((room : ℕ) (rest : List ℕ) → message_outcome terms room (octet ∷ rest) ≡ item_outcome term room true (octet ∷ rest)))

pub choice : (terms : List Term) (octet : ℕ) → Choice terms octet
choice [] octet = inl (λ room rest. refl)
choice (first ∷ terms) octet = by (cases_Bool (eqb octet (tag_of first))) (choice terms octet)
  where
    by : (eqb octet (tag_of first) ≡ true) ⊎ (eqb octet (tag_of first) ≡ false) → Choice terms octet → Choice (first ∷ terms) octet
    by (inl t) c = inr (first, inl refl, eqb-true octet (tag_of first) t, λ room rest. message-first first terms room octet rest t)
    by (inr t) (inl c) = inl (λ room rest. message-later first terms room octet rest t ∙ c room rest)
    by (inr t) (inr c) =
        inr (c.0, inr (ap (λ o. eqb o (tag_of first)) (sym c.2) ∙ t, c.1), c.2, λ room rest. message-later first terms room octet rest t ∙ c.3 room rest)

message_outcome-empty : (terms : List Term) (room : ℕ) → message_outcome terms room [] ≡ Open
message_outcome-empty terms room = refl

-- ---- accepts
pub message_outcome-der : (terms : List Term) (term : Term) → IsChosen term terms → is_unambiguous term ≡ true → (value : Value term) → Fits term value → length (der term value) < 2 ^ 32 → (rest : List ℕ) → message_outcome terms (length (der term value)) (der term value ++ rest) ≡ Done (length (der term value))
message_outcome-der terms term c u value f small rest =
    let e : message_outcome terms (length (der term value)) (der term value ++ rest) ≡ item_outcome term (length (der term value)) true (der term value ++ rest) =
    rw (der-append term value rest) (message_outcome-chosen term terms (length (der term value)) _ c) in
    e ∙ item-accepted term u value f small (length (der term value)) true rest (omega arith) (λ s. refl)

-- ---- stable
pub IsStable-message_outcome : (terms : List Term) (room : ℕ) → IsStable room 0 (message_outcome terms room)
IsStable-message_outcome terms room = IsStable-first room 0 (message_outcome terms room) (message_outcome-empty terms room) (λ octet. by octet (choice terms octet))
  where
    by : (octet : ℕ) → Choice terms octet → (other : List ℕ → Outcome) × (IsStable room 0 other) × (other [] ≡ Open) × ((rest : List ℕ) → message_outcome terms room (octet ∷ rest) ≡ other (octet ∷ rest))
    by octet (inl c) = (refusal 0 why.Tag, IsStable-refusal room 0 why.Tag, refl, λ rest. c room rest)
    by octet (inr c) = (item_outcome c.0 room true, IsStable-item_outcome c.0 room true, refl, λ rest. c.3 room rest)

pub Settles-message_outcome : (terms : List Term) (room : ℕ) (octets : List ℕ) (outcome : Outcome) → length octets ≤ room → message_outcome terms room octets ≡ outcome → IsDecided outcome → Settles room (message_outcome terms room) octets outcome
Settles-message_outcome terms room = Settles-stable room (message_outcome terms room) (IsStable-message_outcome terms room)

-- ---- whole
pub IsWhole-message : (terms : List Term) (room : ℕ) (octets : List ℕ) (count : ℕ) → AreOctets octets → message_outcome terms room octets ≡ Done count → (term : Term) × (IsChosen term terms) × (IsWhole term room true octets count)
IsWhole-message terms room [] count a e = absurd cc
IsWhole-message terms room (octet ∷ rest) count a e = by (choice terms octet)
  where
    by : Choice terms octet → (term : Term) × (IsChosen term terms) × (IsWhole term room true (octet ∷ rest) count)
    by (inl c) = let f : Bad 0 why.Tag ≡ Done count = sym (c room rest) ∙ e in absurd cc
    by (inr c) = (c.0, c.1, IsWhole-done c.0 room true (octet ∷ rest) count a (sym (c.3 room rest) ∙ e))

-- ---- decided
pub message_outcome-decided : (terms : List Term) (room : ℕ) (octets : List ℕ) → 0 < room → length octets ≡ room → message_outcome terms room octets ≡ Open → ⊥
message_outcome-decided terms room [] p l e = omega arith
message_outcome-decided terms room (octet ∷ rest) p l e = by (choice terms octet)
  where
    by : Choice terms octet → ⊥
    by (inl c) = let f : Bad 0 why.Tag ≡ Open = sym (c room rest) ∙ e in cc
    by (inr c) = item_outcome-decided c.0 room true (octet ∷ rest) p l (sym (c.3 room rest) ∙ e)

-- ---- injective
same_chosen : (s t : Term) (terms : List Term) → IsChosen s terms → IsChosen t terms → tag_of s ≡ tag_of t → s ≡ t
same_chosen s t [] c d e = absurd c
same_chosen s t (first ∷ terms) (inl c) (inl d) e = c ∙ sym d
same_chosen s t (first ∷ terms) (inl c) (inr d) e = absurd (true≢false (sym (eq-eqb (tag_of t) (tag_of first) (sym e ∙ ap tag_of c)) ∙ d.0))
same_chosen s t (first ∷ terms) (inr c) (inl d) e = absurd (true≢false (sym (eq-eqb (tag_of s) (tag_of first) (e ∙ ap tag_of d)) ∙ c.0))
same_chosen s t (first ∷ terms) (inr c) (inr d) e = same_chosen s t terms c.1 d.1 e

-- no message's DER begins another's, and different values of different terms have different DER
pub same_message : (terms : List Term) (s t : Term) → IsChosen s terms → IsChosen t terms → is_unambiguous s ≡ true → (v : Value s) (w : Value t) (x y : List ℕ) → der s v ++ x ≡ der t w ++ y → (◌≡◌ {A = SomeValue} (s, v) (t, w)) × (x ≡ y)
same_message terms s t c d u v w x y e =
    let tags : tag_of s ≡ tag_of t = (same_from_cons _ _ _ _ (sym (der-append s v x) ∙ e ∙ der-append t w y)).0 in
    at_term t (same_chosen s t terms c d tags) w e
  where
    at_same : (w : Value s) → der s v ++ x ≡ der s w ++ y → (◌≡◌ {A = SomeValue} (s, v) (s, w)) × (x ≡ y)
    at_same w e = let p : (v ≡ w) × (x ≡ y) = same_from_der s u v w x y e in (λ i. (s, p.0 i), p.1)

    at_term : (t : Term) → s ≡ t → (w : Value t) → der s v ++ x ≡ der t w ++ y → (◌≡◌ {A = SomeValue} (s, v) (t, w)) × (x ≡ y)
    at_term t same = path_j (λ (z : Term) (q : s ≡ z). (w : Value z) → der s v ++ x ≡ der z w ++ y → (◌≡◌ {A = SomeValue} (s, v) (z, w)) × (x ≡ y)) at_same same
