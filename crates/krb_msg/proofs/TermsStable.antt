-- Every term's judgement is stable.
use Rattle.std.proofs.Common.{◌≡◌, ℕ, zero, suc, ◌+◌, ◌-◌, ◌<◌, ◌⊎◌, inl, inr, Bool, true, false, ◌&&◌, ltb, leb, eqb, List, [], ◌∷◌, drop, refl, arith, ltb-true}
use Rattle.std.proofs.lemmas.Bool.{cases_Bool, and_parts}
use Rattle.krb_der.specs.declared.why.Why.TheVariants as why
use Rattle.krb_msg.specs.Term.{Term, Fields, Integer, Text, Octets, Time, Bits, Sequence, SequenceOf, Tagged, Application, End, Required, Optional, tag_of}
use Rattle.krb_msg.specs.Judgement.{Outcome, Open, Bad, Done, then_after, has_size, item_with, item_outcome, only_contents, items_contents, integer_contents, each_contents, text_octet, time_octet, any_contents, bits_contents, contents_outcome, fields_outcome}
use Rattle.krb_msg.proofs.Stable.{need, IsStable, IsStable-constant, IsStable-open, IsStable-refusal, IsStable-after, IsStable-then_after, refusal}
use Rattle.krb_msg.proofs.Leaves.{IsStable-any_contents, IsStable-integer_contents, IsStable-bits_contents, IsStable-each_contents}
use Rattle.krb_msg.proofs.Items.{IsStable-first, IsStable-item}

-- ---- items one after another, and a sole item
pub IsStable-items : (one : ℕ → List ℕ → Outcome) → ((left : ℕ) → IsStable left 0 (one left)) → (bound before room : ℕ) → IsStable room before (items_contents one bound before room)
IsStable-items one p zero before zero = IsStable-constant 0 before (Done before) refl
IsStable-items one p zero before (suc room) = IsStable-open (suc room) before
IsStable-items one p (suc bound) before zero = IsStable-constant 0 before (Done before) refl
IsStable-items one p (suc bound) before (suc room) =
    IsStable-then_after (suc room) before (one (suc room)) (λ count. items_contents one bound (before + count) (suc room - count))
    (p (suc room)) (λ count. IsStable-items one p bound (before + count) (suc room - count))

need-missing : (before : ℕ) → 0 < before → need (Bad (before - 1) why.Missing) ≡ before
need-missing before p = omega arith

pub IsStable-only : (inner : List ℕ → Outcome) (before room : ℕ) → 0 < before → IsStable room 0 inner → IsStable room before (λ octets. only_contents before room (inner octets))
IsStable-only inner before zero p s = IsStable-constant 0 before (Bad (before - 1) why.Missing) (need-missing before p)
IsStable-only inner before (suc room) p s = IsStable-after (suc room) before inner s

-- ---- fields
pub fields_outcome-empty : (fields : Fields) (before room : ℕ) → fields_outcome fields before (suc room) [] ≡ Open
fields_outcome-empty End before room = refl
fields_outcome-empty (Required term fields) before room = refl
fields_outcome-empty (Optional term fields) before room = refl

abbrev pub optional_first : Term → Fields → ℕ → ℕ → List ℕ → Outcome
optional_first term fields before room octets =
    then_after before (item_with (contents_outcome term) term room false octets) (λ count. fields_outcome fields (before + count) (room - count) (drop count octets))

module _ (term : Term) (fields : Fields) (before room : ℕ) where
  pub optional-present : (octet : ℕ) (rest : List ℕ) → eqb octet (tag_of term) ≡ true → fields_outcome (Optional term fields) before (suc room) (octet ∷ rest) ≡ optional_first term fields before (suc room) (octet ∷ rest)
  optional-present octet rest t = rw t

  pub optional-absent : (octet : ℕ) (rest : List ℕ) → eqb octet (tag_of term) ≡ false → fields_outcome (Optional term fields) before (suc room) (octet ∷ rest) ≡ fields_outcome fields before (suc room) (octet ∷ rest)
  optional-absent octet rest t = rw t

  IsStable-optional : IsStable (suc room) before (optional_first term fields before (suc room)) → IsStable (suc room) before (fields_outcome fields before (suc room)) → IsStable (suc room) before (fields_outcome (Optional term fields) before (suc room))
  IsStable-optional p q = IsStable-first (suc room) before (fields_outcome (Optional term fields) before (suc room)) refl (λ octet. by octet (cases_Bool (eqb octet (tag_of term))))
    where
      by : (octet : ℕ) → (eqb octet (tag_of term) ≡ true) ⊎ (eqb octet (tag_of term) ≡ false) → (other : List ℕ → Outcome) × (IsStable (suc room) before other) × (other [] ≡ Open) × ((rest : List ℕ) → fields_outcome (Optional term fields) before (suc room) (octet ∷ rest) ≡ other (octet ∷ rest))
      by octet (inl t) = (optional_first term fields before (suc room), p, refl, λ rest. optional-present octet rest t)
      by octet (inr t) = (fields_outcome fields before (suc room), q, fields_outcome-empty fields before room, λ rest. optional-absent octet rest t)

-- ---- every term
pub positive_from_size_integer : (contents limit : ℕ) → (ltb 0 contents && leb contents limit) ≡ true → 0 < contents
positive_from_size_integer contents limit h = ltb-true 0 contents (and_parts (ltb 0 contents) (leb contents limit) h).0

pub positive_from_size_bits : (least contents : ℕ) → has_size (Bits least) contents ≡ true → 0 < contents
positive_from_size_bits least contents h = ltb-true 0 contents (and_parts (ltb 0 contents) _ h).0

mutual
  pub IsStable-contents : (term : Term) (before room : ℕ) → 0 < before → has_size term room ≡ true → IsStable room before (contents_outcome term before room)
  IsStable-contents (Integer low high) before room p h = IsStable-after room before (integer_contents low high room) (IsStable-integer_contents low high room (positive_from_size_integer room _ h))
  IsStable-contents (Text greatest) before room p h = IsStable-after room before (each_contents (text_octet greatest) why.Charset room 0) (IsStable-each_contents (text_octet greatest) why.Charset room)
  IsStable-contents Octets before room p h = IsStable-after room before (any_contents room) (IsStable-any_contents room)
  IsStable-contents Time before room p h = IsStable-after room before (each_contents time_octet why.Time room 0) (IsStable-each_contents time_octet why.Time room)
  IsStable-contents (Bits least) before room p h = IsStable-after room before (bits_contents least room) (IsStable-bits_contents least room (positive_from_size_bits least room h))
  IsStable-contents (Sequence fields) before room p h = IsStable-fields fields before room p
  IsStable-contents (SequenceOf empty term) before room p h =
      IsStable-items (λ left. item_with (contents_outcome term) term left false)
      (λ left. IsStable-item (contents_outcome term) term left false (λ header contents q g. IsStable-contents term header contents q g)) room before room
  IsStable-contents (Tagged index term) before room p h =
      IsStable-only (item_with (contents_outcome term) term room true) before room p
      (IsStable-item (contents_outcome term) term room true (λ header contents q g. IsStable-contents term header contents q g))
  IsStable-contents (Application number term) before room p h =
      IsStable-only (item_with (contents_outcome term) term room true) before room p
      (IsStable-item (contents_outcome term) term room true (λ header contents q g. IsStable-contents term header contents q g))

  pub IsStable-fields : (fields : Fields) (before room : ℕ) → 0 < before → IsStable room before (fields_outcome fields before room)
  IsStable-fields End before zero p = IsStable-constant 0 before (Done before) refl
  IsStable-fields End before (suc room) p = IsStable-first (suc room) before (fields_outcome End before (suc room)) refl (λ octet. (refusal before why.Tag, IsStable-refusal (suc room) before why.Tag, refl, λ rest. refl))
  IsStable-fields (Required term fields) before zero p = IsStable-constant 0 before (Bad (before - 1) why.Missing) (need-missing before p)
  IsStable-fields (Required term fields) before (suc room) p =
      IsStable-then_after (suc room) before (item_with (contents_outcome term) term (suc room) false) (λ count. fields_outcome fields (before + count) (suc room - count))
      (IsStable-item (contents_outcome term) term (suc room) false (λ header contents q g. IsStable-contents term header contents q g))
      (λ count. IsStable-fields fields (before + count) (suc room - count) (omega arith))
  IsStable-fields (Optional term fields) before zero p = IsStable-fields fields before zero p
  IsStable-fields (Optional term fields) before (suc room) p =
      IsStable-optional term fields before room
      (IsStable-then_after (suc room) before (item_with (contents_outcome term) term (suc room) false) (λ count. fields_outcome fields (before + count) (suc room - count))
      (IsStable-item (contents_outcome term) term (suc room) false (λ header contents q g. IsStable-contents term header contents q g))
      (λ count. IsStable-fields fields (before + count) (suc room - count) (omega arith)))
      (IsStable-fields fields before (suc room) p)

pub IsStable-item_outcome : (term : Term) (room : ℕ) (sole : Bool) → IsStable room 0 (item_outcome term room sole)
IsStable-item_outcome term room sole = IsStable-item (contents_outcome term) term room sole (λ header contents q g. IsStable-contents term header contents q g)
