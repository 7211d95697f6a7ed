-- The heads of two lists of octets that are the same where the heads are.
use Rattle.std.proofs.Common.{◌≡◌, ℕ, zero, suc, ◌+◌, ◌-◌, ◌<◌, ◌≤◌, Bool, true, false, ◌&&◌, ◌||◌, ◌==◌, nat_lt, if◌then◌else◌, List, [], ◌∷◌, length, take, drop, get_or, Option, Some, None, refl, sym, ◌∙◌, ap, subst, arith, cond}
use Rattle.krb_der.specs.Octets.{begins_with, number, when}
use Rattle.krb_items.specs.Heads.{Begun, Headed, head_in, headed, headed_by, long_head, octet_of, stopped, with_head, with_unknown}
use Rattle.krb_items.specs.declared.tag.Tag.{Tag}

-- a head
abbrev TypeIn : (A : Type 0) → Option A → Type 0
TypeIn A found = A

abbrev pub Head : Type 0
Head = TypeIn _ (head_in [])

-- ---- lists
pub same-lists : (octets others : List ℕ) → length octets ≡ length others → ((i : ℕ) → i < length octets → get_or octets i 0 ≡ get_or others i 0) → octets ≡ others
same-lists [] [] l p = refl
same-lists [] (b ∷ others) l p = absurd (omega (arith, l))
same-lists (a ∷ octets) [] l p = absurd (omega (arith, l))
same-lists (a ∷ octets) (b ∷ others) l p =
    let first : a ≡ b = p 0 (omega arith) in
    let rest : octets ≡ others = same-lists octets others (omega (arith, l)) (λ i h. p (suc i) (omega (arith, h))) in
    λ i. first i ∷ rest i

-- ---- one head
abbrev long_by : (count first size : ℕ) → List ℕ → Option Head
long_by count first size octets =
    if (count == 0) || nat_lt 4 count || nat_lt size count then None
    else if (first == 0) || ((count == 1) && nat_lt first 0x80) then None
    else Some (record { header = 2 + count; size = number octets })

long-facts : (count : ℕ) (octets : List ℕ) (h : Head) → long_head count octets ≡ Some h → (h.header ≡ 2 + count) × (count ≤ length octets)
long-facts count [] h e = absurd cc
long-facts count (first ∷ octets) h e = by ((count == 0) || nat_lt 4 count) (nat_lt (length (first ∷ octets)) count) refl ((first == 0) || ((count == 1) && nat_lt first 0x80)) e
  where
    by : (a b : Bool) → nat_lt (length (first ∷ octets)) count ≡ b → (c : Bool) → cond (a || b) None (cond c None (Some (record { header = 2 + count; size = number (take count (first ∷ octets)) }))) ≡ Some h → (h.header ≡ 2 + count) × (count ≤ length (first ∷ octets))
    by true b l c e = absurd cc
    by false true l c e = absurd cc
    by false false l true e = absurd cc
    by false false l false e = let g : record { header = 2 + count; size = number (take count (first ∷ octets)) } ≡ h = cc in (sym (ap (λ (h : Head). h.header) g), grind (arith, l))

long-same : (count : ℕ) (octets others : List ℕ) (h : Head) → long_head count octets ≡ Some h → length octets ≡ length others → take count octets ≡ take count others → long_head count others ≡ Some h
long-same count [] others h e l t = absurd cc
long-same count (a ∷ octets) [] h e l t = absurd (omega (arith, l))
long-same zero (a ∷ octets) (b ∷ others) h e l t = absurd cc
long-same (suc count) (a ∷ octets) (b ∷ others) h e l t =
    let first : a ≡ b = ap (λ (o : List ℕ). get_or o 0 0) t in
    sym (λ i. long_by (suc count) (first i) (l i) (t i)) ∙ e

-- a head is all there, and has two octets or more
pub head-facts : (octets : List ℕ) (h : Head) → head_in octets ≡ Some h → (1 < h.header) × (h.header ≤ length octets)
head-facts [] h e = absurd cc
head-facts (tag ∷ []) h e = absurd cc
head-facts (tag ∷ first ∷ octets) h e = by (nat_lt first 0x80) e
  where
    by : (b : Bool) → cond b (Some (record { header = 2; size = first })) (long_head (first - 0x80) octets) ≡ Some h → (1 < h.header) × (h.header ≤ length (tag ∷ first ∷ octets))
    by true e =
        let g : record { header = 2; size = first } ≡ h = cc in
        let two : 2 ≡ h.header = ap (λ (h : Head). h.header) g in
        (omega (arith, two), omega (arith, two))
    by false e = let f = long-facts (first - 0x80) octets h e in (omega (arith, f.0), omega (arith, f.0, f.1))

pub head-same : (octets others : List ℕ) (h : Head) → head_in octets ≡ Some h → length octets ≡ length others → take h.header octets ≡ take h.header others → head_in others ≡ Some h
head-same [] others h e l t = absurd cc
head-same (tag ∷ []) others h e l t = absurd cc
head-same (tag ∷ first ∷ octets) [] h e l t = absurd (omega (arith, l))
head-same (tag ∷ first ∷ octets) (b ∷ []) h e l t = absurd (omega (arith, l))
head-same (tag ∷ first ∷ octets) (b ∷ second ∷ others) h e l t = by h.header refl (nat_lt first 0x80) refl e
  where
    facts : (1 < h.header) × (h.header ≤ length (tag ∷ first ∷ octets))
    facts = head-facts (tag ∷ first ∷ octets) h e

    by : (header : ℕ) → h.header ≡ header → (short : Bool) → nat_lt first 0x80 ≡ short → cond short (Some (record { header = 2; size = first })) (long_head (first - 0x80) octets) ≡ Some h → head_in (b ∷ second ∷ others) ≡ Some h
    by zero is short s e = absurd (omega (arith, is, facts.0))
    by (suc zero) is short s e = absurd (omega (arith, is, facts.0))
    by (suc (suc count)) is short s e =
        let taken : tag ∷ first ∷ take count octets ≡ b ∷ second ∷ take count others = subst (λ (n : ℕ). take n (tag ∷ first ∷ octets) ≡ take n (b ∷ second ∷ others)) is t in
        let f : first ≡ second = ap (λ (o : List ℕ). get_or o 1 0) taken in
        subst (λ (f : ℕ). cond (nat_lt f 0x80) (Some (record { header = 2; size = f })) (long_head (f - 0x80) others) ≡ Some h) f (of short s e (ap (drop 2) taken))
      where
        of : (short : Bool) → nat_lt first 0x80 ≡ short → cond short (Some (record { header = 2; size = first })) (long_head (first - 0x80) octets) ≡ Some h → take count octets ≡ take count others
            → cond (nat_lt first 0x80) (Some (record { header = 2; size = first })) (long_head (first - 0x80) others) ≡ Some h
        of true s e t = rw s e
        of false s e t =
            let c : count ≡ first - 0x80 = omega (arith, is, (long-facts (first - 0x80) octets h e).0) in
            rw s (long-same (first - 0x80) octets others h e (omega (arith, l)) (subst (λ (n : ℕ). take n octets ≡ take n others) c t))

-- ---- the heads of an item
-- one head is read, and then others
pub record Step (limit : ℕ) (begun : Begun) (tag : Tag) (tags : List Tag) (octets : List ℕ) : Type 0 where
  pub head : Head
  pub begins : begins_with (octet_of tag) octets ≡ true
  pub is : head_in octets ≡ Some head
  pub within : nat_lt limit (begun.next + length (take head.header octets)) ≡ false

pub step-is : (limit : ℕ) (begun : Begun) (tag : Tag) (tags : List Tag) (octets : List ℕ) (s : Step limit begun tag tags octets)
    → headed limit begun (tag ∷ tags) octets ≡ headed limit (with_head begun tag (take s.head.header octets) (Some s.head.size)) tags (take s.head.size (drop s.head.header octets))
step-is limit begun tag tags octets s = rw (s.begins, s.is, s.within) refl

pub step-of : (limit : ℕ) (begun : Begun) (tag : Tag) (tags : List Tag) (octets contents : List ℕ) → (headed limit begun (tag ∷ tags) octets).contents ≡ Some contents → Step limit begun tag tags octets
step-of limit begun tag tags octets contents e = by (begins_with (octet_of tag) octets) refl e
  where
    next : Begun → List ℕ → Headed
    next begun rest = headed limit begun tags rest

    of : begins_with (octet_of tag) octets ≡ true → (h : Head) → head_in octets ≡ Some h → (b : Bool) → nat_lt limit (begun.next + length (take h.header octets)) ≡ b
        → (when b (λ _. stopped (with_head begun tag (take h.header octets) (Some h.size))) (λ _. next (with_head begun tag (take h.header octets) (Some h.size)) (take h.size (drop h.header octets)))).contents ≡ Some contents
        → Step limit begun tag tags octets
    of begins h is true w e = absurd cc
    of begins h is false w e = record { head = h; begins = begins; is = is; within = w }

    found : begins_with (octet_of tag) octets ≡ true → (f : Option Head) → head_in octets ≡ f → (headed_by limit begun tag octets f next).contents ≡ Some contents → Step limit begun tag tags octets
    found begins None is e = absurd cc
    found begins (Some h) is e = of begins h is (nat_lt limit (begun.next + length (take h.header octets))) refl e

    by : (b : Bool) → begins_with (octet_of tag) octets ≡ b → (when b (λ _. headed_by limit begun tag octets (head_in octets) next) (λ _. stopped (with_unknown begun octets))).contents ≡ Some contents → Step limit begun tag tags octets
    by true begins e = found begins (head_in octets) refl e
    by false begins e = absurd (no (with_unknown begun octets) e)
      where
        no : (b : Begun) → (stopped b).contents ≡ Some contents → ⊥
        no b e = absurd cc
