-- Which reasons the octets of an item are refused for.
use Rattle.std.proofs.Common.{◌≡◌, ℕ, zero, suc, ◌+◌, ◌-◌, ◌⊎◌, inl, inr, Bool, true, false, ◌&&◌, ltb, leb, eqb, cond, ℤ, List, [], ◌∷◌, length, take, drop, refl, arith, le-leb, leb-true}
use Rattle.std.proofs.lemmas.Bool.{and_parts}
use Rattle.std.proofs.lemmas.Bool.Decides.{nat_tests}
use Rattle.std.specs.List.{list_all}
use Rattle.krb_der.specs.Octets.{when, AreOctets, integer_value}
use Rattle.krb_der.specs.inner.Numbers.{AreOctets-take, AreOctets-drop}
use Rattle.krb_der.specs.declared.why.Why.{Why}
use Rattle.krb_der.specs.declared.why.Why.TheVariants as why
use Rattle.krb_der.specs.declared.profile.Profile.TheVariants.{Lenient}
use Rattle.krb_msg.specs.Grammar.{messages}
use Rattle.krb_msg.specs.Laws.{IsRefusedFor}
use Rattle.krb_msg.proofs.Grammars.{refused_outcome}
use Rattle.krb_msg.specs.Term.{Term, Fields, Integer, Text, Octets, Time, Bits, Sequence, SequenceOf, Tagged, Application, End, Required, Optional, tag_of}
use Rattle.krb_msg.specs.Judgement.{Outcome, Open, Bad, Done, after, then_after, Head, Partial, Refused, Got, fitting, long_head, short_head, head, has_size, is_padded, int_le, integer_contents, each_contents, text_octet, time_octet, bits_contents, any_contents, items_contents, only_contents, of_head, item_with, item_outcome, contents_outcome, fields_outcome, message_outcome, verdict_of, judgement_by, judgement, term_judgement}

-- whether a reason is one of those for which octets of any term may be refused. Charset is for strings, and the others are for frames
abbrev pub is_common : Why → Bool
is_common why.HighBit = false
is_common why.TooLong = false
is_common why.Empty = false
is_common why.Truncated = false
is_common why.Charset = false
is_common reason = true

abbrev mutual
  -- whether each string of a term may have any octets
  pub allows_any_octet : Term → Bool
  allows_any_octet (Text greatest) = leb 255 greatest
  allows_any_octet (Sequence fields) = allow_any_octet fields
  allows_any_octet (SequenceOf empty term) = allows_any_octet term
  allows_any_octet (Tagged index term) = allows_any_octet term
  allows_any_octet (Application number term) = allows_any_octet term
  allows_any_octet other = true

  pub allow_any_octet : Fields → Bool
  allow_any_octet End = true
  allow_any_octet (Required term fields) = allows_any_octet term && allow_any_octet fields
  allow_any_octet (Optional term fields) = allows_any_octet term && allow_any_octet fields

-- ---- tag and length
fitting-common : (room header contents offset : ℕ) (reason : Why) → fitting room header contents ≡ Refused offset reason → is_common reason ≡ true
fitting-common room header contents offset reason e = grind (arith, nat_tests)

long_head-common : (room k : ℕ) (octets : List ℕ) (offset : ℕ) (reason : Why) → long_head room k octets ≡ Refused offset reason → is_common reason ≡ true
long_head-common room k [] offset reason e = absurd cc
long_head-common room k (first ∷ octets) offset reason e = grind (arith, nat_tests, fitting-common)

short_head-common : (room octet : ℕ) (octets : List ℕ) (offset : ℕ) (reason : Why) → short_head room octet octets ≡ Refused offset reason → is_common reason ≡ true
short_head-common room octet octets offset reason e = grind (arith, nat_tests, fitting-common, long_head-common)

head-common : (room tag : ℕ) (octets : List ℕ) (offset : ℕ) (reason : Why) → head room (tag ∷ octets) ≡ Refused offset reason → is_common reason ≡ true
head-common room tag [] offset reason e = absurd cc
head-common room tag (octet ∷ octets) offset reason e = short_head-common room octet octets offset reason e

-- ---- octets and bit strings
any-common : (room : ℕ) (octets : List ℕ) (offset : ℕ) (reason : Why) → any_contents room octets ≡ Bad offset reason → is_common reason ≡ true
any-common room octets offset reason e = grind (arith, nat_tests)

bits-common : (least room : ℕ) (octets : List ℕ) (offset : ℕ) (reason : Why) → bits_contents least room octets ≡ Bad offset reason → is_common reason ≡ true
bits-common least room [] offset reason e = absurd cc
bits-common least room (unused ∷ octets) offset reason e = grind (arith, nat_tests)

-- ---- items
-- Some reasons, each common one among them.
module _ (Holds : Why → Type 0) (common : (reason : Why) → is_common reason ≡ true → Holds reason) where
  -- if an outcome is a refusal, it is for one of the reasons
  abbrev pub Keeps : Outcome → Type 0
  Keeps Open = Unit {0}
  Keeps (Bad offset reason) = Holds reason
  Keeps (Done count) = Unit {0}

  abbrev KeepsHead : Head → Type 0
  KeepsHead Partial = Unit {0}
  KeepsHead (Refused offset reason) = Holds reason
  KeepsHead (Got header contents) = Unit {0}

  Keeps-common : (outcome : Outcome) → ((offset : ℕ) (reason : Why) → outcome ≡ Bad offset reason → is_common reason ≡ true) → Keeps outcome
  Keeps-common Open c = tt
  Keeps-common (Bad offset reason) c = common reason (c offset reason refl)
  Keeps-common (Done count) c = tt

  Keeps-either : (b : Bool) (x y : Outcome) → Keeps x → Keeps y → Keeps (cond b x y)
  Keeps-either true x y p q = p
  Keeps-either false x y p q = q

  Keeps-when : (b : Bool) (x y : Outcome) → Keeps x → Keeps y → Keeps (when b (λ _. x) (λ _. y))
  Keeps-when true x y p q = p
  Keeps-when false x y p q = q

  Keeps-after : (before : ℕ) (outcome : Outcome) → Keeps outcome → Keeps (after before outcome)
  Keeps-after before Open k = tt
  Keeps-after before (Bad offset reason) k = k
  Keeps-after before (Done count) k = tt

  Keeps-then_after : (before : ℕ) (outcome : Outcome) (next : ℕ → Outcome) → Keeps outcome → ((count : ℕ) → Keeps (next count)) → Keeps (then_after before outcome next)
  Keeps-then_after before Open next k n = tt
  Keeps-then_after before (Bad offset reason) next k n = k
  Keeps-then_after before (Done count) next k n = n count

  KeepsHead-common : (found : Head) → ((offset : ℕ) (reason : Why) → found ≡ Refused offset reason → is_common reason ≡ true) → KeepsHead found
  KeepsHead-common Partial c = tt
  KeepsHead-common (Refused offset reason) c = common reason (c offset reason refl)
  KeepsHead-common (Got header contents) c = tt

  -- ---- contents that are no items
  Keeps-integer : (low high : ℤ) (room : ℕ) (octets : List ℕ) → Keeps (integer_contents low high room octets)
  Keeps-integer low high room octets =
      Keeps-either (is_padded octets) (Bad 1 why.IntegerNotMinimal) _ (common why.IntegerNotMinimal refl)
      (Keeps-either (ltb (length octets) room) Open _ tt
      (Keeps-either (int_le low (integer_value octets) && int_le (integer_value octets) high) (Done room) (Bad (room - 1) why.Range) tt (common why.Range refl)))

  Keeps-each : (passes : ℕ → ℕ → Bool) (reason : Why) → Holds reason → (room place : ℕ) (octets : List ℕ) → Keeps (each_contents passes reason room place octets)
  Keeps-each passes reason h room place [] = Keeps-either (ltb place room) Open (Done room) tt tt
  Keeps-each passes reason h room place (octet ∷ octets) = Keeps-either (passes place octet) _ (Bad place reason) (Keeps-each passes reason h room (place + 1) octets) h

  -- a string that may have any octets refuses none
  Keeps-text : (greatest room place : ℕ) (octets : List ℕ) → leb 255 greatest ≡ true → AreOctets octets → Keeps (each_contents (text_octet greatest) why.Charset room place octets)
  Keeps-text greatest room place [] t a = Keeps-either (ltb place room) Open (Done room) tt tt
  Keeps-text greatest room place (octet ∷ octets) t a =
      rw (le-leb octet greatest (omega (arith, leb-true 255 greatest t, a.0))) (Keeps-text greatest room (place + 1) octets t a.1)

  -- ---- strings
  -- Charset is one of the reasons, or strings may have any octets and these are octets
  abbrev pub IsAllowed : Bool → List ℕ → Type 0
  IsAllowed any octets = Holds why.Charset ⊎ ((any ≡ true) × AreOctets octets)

  IsAllowed-take : (any : Bool) (k : ℕ) (octets : List ℕ) → IsAllowed any octets → IsAllowed any (take k octets)
  IsAllowed-take any k octets (inl h) = inl h
  IsAllowed-take any k octets (inr h) = inr (h.0, AreOctets-take k octets h.1)

  IsAllowed-drop : (any : Bool) (k : ℕ) (octets : List ℕ) → IsAllowed any octets → IsAllowed any (drop k octets)
  IsAllowed-drop any k octets (inl h) = inl h
  IsAllowed-drop any k octets (inr h) = inr (h.0, AreOctets-drop k octets h.1)

  IsAllowed-first : (any other : Bool) (octets : List ℕ) → IsAllowed (any && other) octets → IsAllowed any octets
  IsAllowed-first any other octets (inl h) = inl h
  IsAllowed-first any other octets (inr h) = inr ((and_parts any other h.0).0, h.1)

  IsAllowed-rest : (any other : Bool) (octets : List ℕ) → IsAllowed (any && other) octets → IsAllowed other octets
  IsAllowed-rest any other octets (inl h) = inl h
  IsAllowed-rest any other octets (inr h) = inr ((and_parts any other h.0).1, h.1)

  Keeps-string : (greatest room : ℕ) (octets : List ℕ) → IsAllowed (leb 255 greatest) octets → Keeps (each_contents (text_octet greatest) why.Charset room 0 octets)
  Keeps-string greatest room octets (inl h) = Keeps-each (text_octet greatest) why.Charset h room 0 octets
  Keeps-string greatest room octets (inr h) = Keeps-text greatest room 0 octets h.0 h.1

  -- ---- items
  abbrev KeepsContents : Term → Type 0
  KeepsContents term = (before room : ℕ) (octets : List ℕ) → IsAllowed (allows_any_octet term) octets → Keeps (contents_outcome term before room octets)

  abbrev KeepsFields : Fields → Type 0
  KeepsFields fields = (before room : ℕ) (octets : List ℕ) → IsAllowed (allow_any_octet fields) octets → Keeps (fields_outcome fields before room octets)

  Keeps-of_head : (term : Term) (found : Head) (room : ℕ) (sole : Bool) (octets : List ℕ) (contents_of : ℕ → ℕ → List ℕ → Outcome) → KeepsHead found → ((header contents : ℕ) → Keeps (contents_of header contents (take contents (drop header octets)))) → Keeps (of_head term found room sole octets contents_of)
  Keeps-of_head term Partial room sole octets contents_of h k = tt
  Keeps-of_head term (Refused offset reason) room sole octets contents_of h k = h
  Keeps-of_head term (Got header contents) room sole octets contents_of h k =
      Keeps-either (sole && ltb (header + contents) room) (Bad (header - 1) why.Loose) _ (common why.Loose refl)
      (Keeps-either (has_size term contents) (contents_of header contents (take contents (drop header octets))) (Bad (header - 1) why.Size) (k header contents) (common why.Size refl))

  Keeps-item : (term : Term) → KeepsContents term → (room : ℕ) (sole : Bool) (octets : List ℕ) → IsAllowed (allows_any_octet term) octets → Keeps (item_with (contents_outcome term) term room sole octets)
  Keeps-item term k room sole [] a = tt
  Keeps-item term k room sole (octet ∷ octets) a =
      Keeps-when (eqb octet (tag_of term)) _ (Bad 0 why.Tag)
      (Keeps-either (eqb room 1) (Bad 0 why.Overrun) _ (common why.Overrun refl)
      (Keeps-of_head term (head room (octet ∷ octets)) room sole (octet ∷ octets) (contents_outcome term) (KeepsHead-common (head room (octet ∷ octets)) (λ offset reason. head-common room octet octets offset reason))
      (λ header contents. k header contents (take contents (drop header (octet ∷ octets))) (IsAllowed-take _ contents _ (IsAllowed-drop _ header (octet ∷ octets) a)))))
      (common why.Tag refl)

  Keeps-items : (term : Term) → KeepsContents term → (bound before room : ℕ) (octets : List ℕ) → IsAllowed (allows_any_octet term) octets → Keeps (items_contents (λ left. item_with (contents_outcome term) term left false) bound before room octets)
  Keeps-items term k bound before zero octets a = tt
  Keeps-items term k zero before (suc room) octets a = tt
  Keeps-items term k (suc bound) before (suc room) octets a =
      Keeps-then_after before _ _ (Keeps-item term k (suc room) false octets a)
      (λ count. Keeps-items term k bound (before + count) (suc room - count) (drop count octets) (IsAllowed-drop _ count octets a))

  Keeps-only : (term : Term) → KeepsContents term → (before room : ℕ) (octets : List ℕ) → IsAllowed (allows_any_octet term) octets → Keeps (only_contents before room (item_with (contents_outcome term) term room true octets))
  Keeps-only term k before zero octets a = common why.Missing refl
  Keeps-only term k before (suc room) octets a = Keeps-after before _ (Keeps-item term k (suc room) true octets a)

  Keeps-field : (term : Term) (fields : Fields) → KeepsContents term → KeepsFields fields → (before room : ℕ) (octets : List ℕ) → IsAllowed (allows_any_octet term && allow_any_octet fields) octets → Keeps (then_after before (item_with (contents_outcome term) term (suc room) false octets) (λ count. fields_outcome fields (before + count) (suc room - count) (drop count octets)))
  Keeps-field term fields k n before room octets a =
      Keeps-then_after before _ _ (Keeps-item term k (suc room) false octets (IsAllowed-first _ _ octets a))
      (λ count. n (before + count) (suc room - count) (drop count octets) (IsAllowed-drop _ count octets (IsAllowed-rest _ _ octets a)))

  mutual
    pub Keeps-contents : (term : Term) → KeepsContents term
    Keeps-contents (Integer low high) before room octets a = Keeps-after before (integer_contents low high room octets) (Keeps-integer low high room octets)
    Keeps-contents (Text greatest) before room octets a = Keeps-after before _ (Keeps-string greatest room octets a)
    Keeps-contents Octets before room octets a = Keeps-after before (any_contents room octets) (Keeps-common (any_contents room octets) (λ offset reason. any-common room octets offset reason))
    Keeps-contents Time before room octets a = Keeps-after before _ (Keeps-each time_octet why.Time (common why.Time refl) room 0 octets)
    Keeps-contents (Bits least) before room octets a = Keeps-after before (bits_contents least room octets) (Keeps-common (bits_contents least room octets) (λ offset reason. bits-common least room octets offset reason))
    Keeps-contents (Sequence fields) before room octets a = Keeps-fields fields before room octets a
    Keeps-contents (SequenceOf empty term) before room octets a = Keeps-items term (Keeps-contents term) room before room octets a
    Keeps-contents (Tagged index term) before room octets a = Keeps-only term (Keeps-contents term) before room octets a
    Keeps-contents (Application number term) before room octets a = Keeps-only term (Keeps-contents term) before room octets a

    pub Keeps-fields : (fields : Fields) → KeepsFields fields
    Keeps-fields End before zero octets a = tt
    Keeps-fields End before (suc room) [] a = tt
    Keeps-fields End before (suc room) (octet ∷ octets) a = common why.Tag refl
    Keeps-fields (Required term fields) before zero octets a = common why.Missing refl
    Keeps-fields (Required term fields) before (suc room) octets a = Keeps-field term fields (Keeps-contents term) (Keeps-fields fields) before room octets a
    Keeps-fields (Optional term fields) before zero octets a = Keeps-fields fields before zero octets (IsAllowed-rest _ _ octets a)
    Keeps-fields (Optional term fields) before (suc room) [] a = tt
    Keeps-fields (Optional term fields) before (suc room) (octet ∷ octets) a =
        Keeps-when (eqb octet (tag_of term)) _ (fields_outcome fields before (suc room) (octet ∷ octets))
        (Keeps-field term fields (Keeps-contents term) (Keeps-fields fields) before room (octet ∷ octets) a)
        (Keeps-fields fields before (suc room) (octet ∷ octets) (IsAllowed-rest _ _ (octet ∷ octets) a))

  -- an item of a term
  pub Keeps-item_outcome : (term : Term) (room : ℕ) (sole : Bool) (octets : List ℕ) → IsAllowed (allows_any_octet term) octets → Keeps (item_outcome term room sole octets)
  Keeps-item_outcome term room sole octets a = Keeps-item term (Keeps-contents term) room sole octets a

  -- a message that is one of some terms
  pub Keeps-message_outcome : (terms : List Term) (room : ℕ) (octets : List ℕ) → IsAllowed (list_all allows_any_octet terms) octets → Keeps (message_outcome terms room octets)
  Keeps-message_outcome terms room [] a = tt
  Keeps-message_outcome [] room (octet ∷ octets) a = common why.Tag refl
  Keeps-message_outcome (term ∷ terms) room (octet ∷ octets) a =
      Keeps-when (eqb octet (tag_of term)) (item_outcome term room true (octet ∷ octets)) (message_outcome terms room (octet ∷ octets))
      (Keeps-item_outcome term room true (octet ∷ octets) (IsAllowed-first _ _ (octet ∷ octets) a))
      (Keeps-message_outcome terms room (octet ∷ octets) (IsAllowed-rest _ _ (octet ∷ octets) a))

-- ---- a reason for which nothing is refused
-- a reason other than this one
abbrev IsOther : Why → Why → Type 0
IsOther reason other = other ≡ reason → ⊥

not_truncated : (other : Why) → is_common other ≡ true → IsOther why.Truncated other
not_truncated other c e = cc

not_charset : (other : Why) → is_common other ≡ true → IsOther why.Charset other
not_charset other c e = cc

-- an outcome that is no refusal for a reason
refused_never : (reason : Why) (common : (other : Why) → is_common other ≡ true → IsOther reason other) (outcome : Outcome) → Keeps (IsOther reason) common outcome → IsRefusedFor reason (verdict_of outcome) → ⊥
refused_never reason common outcome k (place, e) = rw (refused_outcome outcome place reason e) at k refl

pub item_is_not_truncated : (term : Term) (n : ℕ) (octets : List ℕ) → IsRefusedFor why.Truncated (term_judgement term n octets) → ⊥
item_is_not_truncated term n octets =
    refused_never why.Truncated not_truncated (item_outcome term n true octets) (Keeps-item_outcome (IsOther why.Truncated) not_truncated term n true octets (inl (λ e. cc)))

pub refusal_is_not_truncated : (messages : List Term) (n : ℕ) (octets : List ℕ) → IsRefusedFor why.Truncated (judgement_by messages n octets) → ⊥
refusal_is_not_truncated messages n octets =
    refused_never why.Truncated not_truncated (message_outcome messages n octets) (Keeps-message_outcome (IsOther why.Truncated) not_truncated messages n octets (inl (λ e. cc)))

lenient_allows_any_octet : list_all allows_any_octet (messages Lenient) ≡ true
lenient_allows_any_octet = refl

pub lenient_has_no_charset : (n : ℕ) (octets : List ℕ) → AreOctets octets → IsRefusedFor why.Charset (judgement Lenient n octets) → ⊥
lenient_has_no_charset n octets a =
    refused_never why.Charset not_charset (message_outcome (messages Lenient) n octets) (Keeps-message_outcome (IsOther why.Charset) not_charset (messages Lenient) n octets (inr (lenient_allows_any_octet, a)))
