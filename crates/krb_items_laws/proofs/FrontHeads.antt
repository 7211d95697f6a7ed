-- Octets that were cut have the first items of the whole ones.
use Rattle.std.proofs.Common.{◌≡◌, ℕ, zero, suc, ◌+◌, ◌-◌, ◌<◌, ◌≤◌, ◌⊎◌, inl, inr, min, Bool, true, false, ◌&&◌, ◌||◌, ◌==◌, nat_lt, List, [], ◌∷◌, ◌++◌, length, take, drop, Option, Some, None, refl, sym, ◌∙◌, ap, subst, arith, append_assoc, length-take, lt-ltb, le-ltb}
use Rattle.std.proofs.lemmas.Bool.{and_parts, cases_lt}
use Rattle.std.proofs.lemmas.List.{drop-take, take-take, take_all}
use Rattle.krb_der.specs.Octets.{begins_with, number}
use Rattle.krb_items.specs.Heads.{Begun, Headed, contents_by, contents_in, count_by, count_in, head_in, headed, headed_by, long_head, octet_of, size_of, with_head}
use Rattle.krb_der.specs.declared.verdict.Refusal.{Refusal}
use Rattle.krb_items.specs.Items.{Here, Item, Items, Limits, Part, after_item, begun_here, contents_items, cut_in, followed_by, goes_on, item_items, of_contents}
use Rattle.krb_items.specs.Shapes.{ItemType}
use Rattle.krb_items.specs.declared.tag.Tag.{Tag}
use Rattle.krb_items_laws.specs.Fronts.{AreFirst}
use Rattle.krb_items_laws.proofs.Filling.{goes-then}
use Rattle.krb_items_laws.proofs.Types.{shape_nests}

-- ---- items that are the first of others
abbrev pub IsCut : Option Part → Type 0
IsCut None = ⊥
IsCut (Some part) = Unit {0}

pub data Front (items others : Items) : Type 0 where
  Same : items.cut ≡ None → items ≡ others → Front items others
  Cut : IsCut items.cut → AreFirst items.items others.items → Front items others

pub front-cut : (name : Option (List ℕ)) (begun : Begun) (counted : Bool) (others : Items) → Front (cut_in name begun counted) others
front-cut name begun counted others = Cut tt (others.items, refl)

pub front-after : (item : Item) (items others : Items) → Front items others → Front (after_item item items) (after_item item others)
front-after item items others (Same w e) = Same w (ap (after_item item) e)
front-after item items others (Cut c p) = Cut c (p.0, ap (λ l. item ∷ l) p.1)

added : (first items others : Items) (before : List Item) → Front items others → Front (record { items = before ++ items.items; cut = items.cut }) (record { items = before ++ others.items; cut = others.cut })
added first items others before (Same w e) = Same w (λ i. record { items = before ++ (e i).items; cut = (e i).cut })
added first items others before (Cut c p) = Cut c (p.0, ap (λ l. before ++ l) p.1 ∙ sym (append_assoc before items.items p.0))

stays-cut : (items : List Item) (cut : Option Part) (next : Unit {0} → Items) → IsCut cut → (IsCut (goes_on items cut next).cut) × ((goes_on items cut next).items ≡ items)
stays-cut items None next c = absurd c
stays-cut items (Some part) next c = (tt, refl)

first-still : (items others : List Item) (cut : Option Part) (next : Unit {0} → Items) → AreFirst items others → AreFirst items (goes_on others cut next).items
first-still items others None next p = (p.0 ++ (next tt).items, ap (λ l. l ++ (next tt).items) p.1 ∙ append_assoc items p.0 (next tt).items)
first-still items others (Some part) next p = p

pub front-then : (first other : Items) (next after : Unit {0} → Items) → Front first other → (first.cut ≡ None → Front (next tt) (after tt)) → Front (followed_by first next) (followed_by other after)
front-then first other next after (Same w e) f =
    subst (λ (o : Items). Front (followed_by first next) (followed_by o after)) e
    (subst (λ (a : Items). Front a (followed_by first after)) (sym (goes-then first.items first.cut next w))
    (subst (λ (a : Items). Front (record { items = first.items ++ (next tt).items; cut = (next tt).cut }) a) (sym (goes-then first.items first.cut after w)) (added first (next tt) (after tt) first.items (f w))))
front-then first other next after (Cut c p) f =
    let s = stays-cut first.items first.cut next c in
    Cut s.0 (subst (λ (l : List Item). AreFirst l (followed_by other after).items) (sym s.1) (first-still first.items other.items other.cut after p))

-- ---- heads
-- a head that is read of the first octets is that of all
pub record HeadKept (k : ℕ) (octets : List ℕ) : Type 0 where
  pub header : ℕ
  pub size : ℕ
  pub front : head_in (take k octets) ≡ Some (record { header = header; size = size })
  pub all : head_in octets ≡ Some (record { header = header; size = size })
  pub fits : header ≤ k
  pub there : header ≤ length octets

long-front : (count k : ℕ) (octets : List ℕ) → (long_head count (take k octets) ≡ None) ⊎ ((count ≤ k) × (count ≤ length octets) × (size : ℕ) × (long_head count (take k octets) ≡ Some (record { header = 2 + count; size = size })) × (long_head count octets ≡ Some (record { header = 2 + count; size = size })))
long-front count zero octets = inl refl
long-front count (suc k) [] = inl refl
long-front count (suc k) (first ∷ octets) = by ((count == 0) || nat_lt 4 count) refl (cases_lt (length (first ∷ take k octets)) count) ((first == 0) || ((count == 1) && nat_lt first 0x80)) refl
  where
    by : (wide : Bool) → ((count == 0) || nat_lt 4 count) ≡ wide → (length (first ∷ take k octets) < count) ⊎ (count ≤ length (first ∷ take k octets)) → (loose : Bool) → ((first == 0) || ((count == 1) && nat_lt first 0x80)) ≡ loose
        → (long_head count (first ∷ take k octets) ≡ None) ⊎ ((count ≤ suc k) × (count ≤ length (first ∷ octets)) × (size : ℕ) × (long_head count (first ∷ take k octets) ≡ Some (record { header = 2 + count; size = size })) × (long_head count (first ∷ octets) ≡ Some (record { header = 2 + count; size = size })))
    by true e c loose y = inl (rw e refl)
    by false e (inl h) loose y = inl (rw (e, lt-ltb (length (first ∷ take k octets)) count h) refl)
    by false e (inr h) true y = inl (rw (e, le-ltb (length (first ∷ take k octets)) count h, y) refl)
    by false e (inr h) false y =
        let one : count ≤ suc k = omega (arith, h, length-take k octets) in
        let two : count ≤ length (first ∷ octets) = omega (arith, h, length-take k octets) in
        let same : take count (first ∷ take k octets) ≡ take count (first ∷ octets) = take-take count (suc k) (first ∷ octets) one in
        inr (one, two, number (take count (first ∷ octets)), rw (e, le-ltb (length (first ∷ take k octets)) count h, y) (λ i. Some (record { header = 2 + count; size = number (same i) })), rw (e, le-ltb (length (first ∷ octets)) count two, y) refl)

pub head-front : (k : ℕ) (octets : List ℕ) → (head_in (take k octets) ≡ None) ⊎ HeadKept k octets
head-front zero octets = inl refl
head-front (suc zero) [] = inl refl
head-front (suc zero) (tag ∷ octets) = inl refl
head-front (suc (suc k)) [] = inl refl
head-front (suc (suc k)) (tag ∷ []) = inl refl
head-front (suc (suc k)) (tag ∷ first ∷ octets) = by (cases_lt first 0x80) (long-front (first - 0x80) k octets)
  where
    by : (first < 0x80) ⊎ (0x80 ≤ first) → (long_head (first - 0x80) (take k octets) ≡ None) ⊎ ((first - 0x80 ≤ k) × (first - 0x80 ≤ length octets) × (size : ℕ) × (long_head (first - 0x80) (take k octets) ≡ Some (record { header = 2 + (first - 0x80); size = size })) × (long_head (first - 0x80) octets ≡ Some (record { header = 2 + (first - 0x80); size = size })))
        → (head_in (tag ∷ first ∷ take k octets) ≡ None) ⊎ HeadKept (suc (suc k)) (tag ∷ first ∷ octets)
    by (inl h) l = inr (record { header = 2; size = first; front = rw (lt-ltb first 0x80 h) refl; all = rw (lt-ltb first 0x80 h) refl; fits = omega arith; there = omega arith })
    by (inr h) (inl e) = inl (rw (le-ltb first 0x80 h) e)
    by (inr h) (inr l) = inr (record { header = 2 + (first - 0x80); size = l.2; front = rw (le-ltb first 0x80 h) l.3; all = rw (le-ltb first 0x80 h) l.4; fits = omega (arith, l.0); there = omega (arith, l.1) })

-- ---- the octets in heads
take-both : (m n : ℕ) (octets : List ℕ) → take m (take n octets) ≡ take n (take m octets)
take-both m n octets = by (cases_lt n m)
  where
    by : (n < m) ⊎ (m ≤ n) → take m (take n octets) ≡ take n (take m octets)
    by (inl h) = take_all m (take n octets) (omega (arith, length-take n octets)) ∙ sym (take-take n m octets (omega (arith, h)))
    by (inr h) = take-take m n octets h ∙ sym (take_all n (take m octets) (omega (arith, length-take m octets, h)))

inner-front : (k header size : ℕ) (octets : List ℕ) → header ≤ k → take size (drop header (take k octets)) ≡ take (k - header) (take size (drop header octets))
inner-front k header size octets h =
    ap (take size) (ap (λ m. drop header (take m octets)) (omega (arith, h)) ∙ drop-take header (k - header) octets) ∙ take-both size (k - header) (drop header octets)

pub begins-front : (tag k : ℕ) (octets : List ℕ) → begins_with tag (take k octets) ≡ true → begins_with tag octets ≡ true
begins-front tag zero octets e = absurd cc
begins-front tag (suc k) [] e = absurd cc
begins-front tag (suc k) (octet ∷ octets) e = e

-- heads are read of the octets that are there as they are of all, or one of them ends there
pub record HeadsKept (limit : ℕ) (front all : Headed) : Type 0 where
  pub done : Begun
  pub contents : List ℕ
  pub front_is : front ≡ record { begun = done; contents = Some (take (limit - done.next) contents) }
  pub all_is : all ≡ record { begun = done; contents = Some contents }
  pub within : done.next ≤ limit
  pub sized : length contents ≤ size_of done.size

module _ (limit all : ℕ) (less : limit ≤ all) where
  by-front : (begun : Begun) (tag : Tag) (octets : List ℕ) (next other : Begun → List ℕ → Headed) → begun.next ≤ limit
      → ((done : Begun) (rest : List ℕ) → done.next ≤ limit → length rest ≤ size_of done.size → ((next done (take (limit - done.next) rest)).contents ≡ None) ⊎ HeadsKept limit (next done (take (limit - done.next) rest)) (other done rest))
      → ((headed_by limit begun tag (take (limit - begun.next) octets) (head_in (take (limit - begun.next) octets)) next).contents ≡ None)
      ⊎ HeadsKept limit (headed_by limit begun tag (take (limit - begun.next) octets) (head_in (take (limit - begun.next) octets)) next) (headed_by all begun tag octets (head_in octets) other)
  by-front begun tag octets next other within then = by (head-front (limit - begun.next) octets)
    where
      by : (head_in (take (limit - begun.next) octets) ≡ None) ⊎ HeadKept (limit - begun.next) octets
          → ((headed_by limit begun tag (take (limit - begun.next) octets) (head_in (take (limit - begun.next) octets)) next).contents ≡ None)
          ⊎ HeadsKept limit (headed_by limit begun tag (take (limit - begun.next) octets) (head_in (take (limit - begun.next) octets)) next) (headed_by all begun tag octets (head_in octets) other)
      by (inl e) = inl (rw e refl)
      by (inr k) =
          let head : List ℕ = take k.header octets in
          let long : length (take k.header octets) ≡ k.header = omega (arith, length-take k.header octets, k.there) in
          let done : Begun = with_head begun tag (take k.header octets) (Some k.size) in
          let taken : take k.header (take (limit - begun.next) octets) ≡ take k.header octets = take-take k.header (limit - begun.next) octets k.fits in
          let rest : take k.size (drop k.header (take (limit - begun.next) octets)) ≡ take (limit - (begun.next + length (take k.header octets))) (take k.size (drop k.header octets)) =
          inner-front (limit - begun.next) k.header k.size octets k.fits ∙ ap (λ n. take n (take k.size (drop k.header octets))) (omega (arith, long, k.fits, within)) in
          rw (k.front, k.all, taken, rest, le-ltb limit (begun.next + length (take k.header octets)) (omega (arith, long, k.fits, within)), le-ltb all (begun.next + length (take k.header octets)) (omega (arith, long, k.fits, within, less)))
          (then (with_head begun tag (take k.header octets) (Some k.size)) (take k.size (drop k.header octets)) (omega (arith, long, k.fits, within)) (omega (arith, length-take k.size (drop k.header octets))))

  abbrev pub Kept : List Tag → Begun → List ℕ → Type 0
  Kept wanted begun octets = ((headed limit begun wanted (take (limit - begun.next) octets)).contents ≡ None) ⊎ HeadsKept limit (headed limit begun wanted (take (limit - begun.next) octets)) (headed all begun wanted octets)

  step-front : (begun : Begun) (tag : Tag) (wanted : List Tag) (octets : List ℕ) → begun.next ≤ limit → ((done : Begun) (rest : List ℕ) → done.next ≤ limit → length rest ≤ size_of done.size → Kept wanted done rest) → Kept (tag ∷ wanted) begun octets
  step-front begun tag wanted octets within then = by (begins_with (octet_of tag) (take (limit - begun.next) octets)) refl
    where
      by : (begins : Bool) → begins_with (octet_of tag) (take (limit - begun.next) octets) ≡ begins → Kept (tag ∷ wanted) begun octets
      by false e = inl (rw e refl)
      by true e =
          rw (e, begins-front (octet_of tag) (limit - begun.next) octets e)
          (by-front begun tag octets (λ next rest. headed limit next wanted rest) (λ next rest. headed all next wanted rest) within then)

  rest-front : (wanted : List Tag) (done : Begun) (rest : List ℕ) → done.next ≤ limit → length rest ≤ size_of done.size → Kept wanted done rest
  rest-front [] done rest w z = inr (record { done = done; contents = rest; front_is = refl; all_is = refl; within = w; sized = z })
  rest-front (tag ∷ wanted) done rest w z = step-front done tag wanted rest w (rest-front wanted)

  pub headed-front : (begun : Begun) (tag : Tag) (wanted : List Tag) (octets : List ℕ) → begun.next ≤ limit → Kept (tag ∷ wanted) begun octets
  headed-front begun tag wanted octets within = step-front begun tag wanted octets within (rest-front wanted)

-- ---- how many octets an item has
-- as many of them as of all, with the same contents, or all that are there and not all
pub record SameCount (k : ℕ) (wanted : List Tag) (octets : List ℕ) : Type 0 where
  pub count : count_in (take k octets) ≡ count_in octets
  pub within : count_in octets ≤ k
  pub contents : contents_in wanted (take k octets) ≡ contents_in wanted octets

pub record Exhausted (k : ℕ) (octets : List ℕ) : Type 0 where
  pub count : count_in (take k octets) ≡ k
  pub more : k < length octets

pub count-front : (k : ℕ) (tag : Tag) (wanted : List Tag) (octets : List ℕ) → HeadKept k octets → SameCount k (tag ∷ wanted) octets ⊎ Exhausted k octets
count-front k tag wanted octets h = by (cases_lt k (h.header + h.size)) (cases_lt k (length octets))
  where
    here : count_in (take k octets) ≡ min (length (take k octets)) (h.header + h.size)
    here = ap (λ f. count_by f (take k octets)) h.front

    there : count_in octets ≡ min (length octets) (h.header + h.size)
    there = ap (λ f. count_by f octets) h.all

    same : contents_by (head_in (take k octets)) (take k octets) ≡ take h.size (drop h.header (take k octets))
    same = ap (λ f. contents_by f (take k octets)) h.front

    whole-contents : contents_by (head_in octets) octets ≡ take h.size (drop h.header octets)
    whole-contents = ap (λ f. contents_by f octets) h.all

    by : (k < h.header + h.size) ⊎ (h.header + h.size ≤ k) → (k < length octets) ⊎ (length octets ≤ k) → SameCount k (tag ∷ wanted) octets ⊎ Exhausted k octets
    by c (inr l) =
        let e : take k octets ≡ octets = take_all k octets l in
        inl (record { count = ap count_in e; within = omega (arith, there, l); contents = ap (contents_in (tag ∷ wanted)) e })
    by (inl c) (inl l) = inr (record { count = omega (arith, here, length-take k octets, c, l); more = l })
    by (inr c) (inl l) = inl (record {
      count = omega (arith, here, there, length-take k octets, c, l);
      within = omega (arith, there, c);
      contents = ap (contents_in wanted) (same ∙ inner-front k h.header h.size octets h.fits ∙ take_all (k - h.header) (take h.size (drop h.header octets)) (omega (arith, length-take h.size (drop h.header octets), c)) ∙ sym whole-contents);
    })

-- ---- types whose items begin with a tag
abbrev pub has_tags : List Tag → Bool
has_tags [] = false
has_tags (tag ∷ wanted) = true

abbrev pub fronts : ℕ → ItemType → Bool
fronts zero of = false
fronts (suc levels) of = has_tags of.tags && shape_nests (fronts levels) of.shape

-- the items of an item of which some octets are there
abbrev pub cut_at : ℕ → Option Refusal → Limits
cut_at limit fault = record { limit = limit; fault = fault }

abbrev pub FrontOf : (limit all : ℕ) (fault other : Option Refusal) → ℕ → Type 0
FrontOf limit all fault other levels = (here : Here) (of : ItemType) (octets : List ℕ) → fronts levels of ≡ true → here.place ≤ limit
    → Front (item_items levels (cut_at limit fault) here of (take (limit - here.place) octets)) (item_items levels (cut_at all other) here of octets)

-- an item of which no head is there is cut
headless-by : (limit : ℕ) (begun : Begun) (tag : Tag) (octets : List ℕ) (next : Begun → List ℕ → Headed) → head_in octets ≡ None → (headed_by limit begun tag octets (head_in octets) next).contents ≡ None
headless-by limit begun tag octets next e = rw e refl

headless : (limit : ℕ) (begun : Begun) (tag : Tag) (wanted : List Tag) (octets : List ℕ) → head_in octets ≡ None → (headed limit begun (tag ∷ wanted) octets).contents ≡ None
headless limit begun tag wanted octets e = by (begins_with (octet_of tag) octets) refl
  where
    by : (begins : Bool) → begins_with (octet_of tag) octets ≡ begins → (headed limit begun (tag ∷ wanted) octets).contents ≡ None
    by true b = rw b (headless-by limit begun tag octets (λ next rest. headed limit next wanted rest) e)
    by false b = rw b refl

pub none-cut : (name : List ℕ) (begun : Begun) (found : Option (List ℕ)) (next : Begun → List ℕ → Items) → found ≡ None → of_contents name begun found next ≡ cut_in (Some name) begun false
none-cut name begun found next e = ap (λ f. of_contents name begun f next) e

pub whole-head : (levels limit : ℕ) (fault : Option Refusal) (here : Here) (of : ItemType) (octets : List ℕ) → fronts (suc levels) of ≡ true → (item_items (suc levels) (cut_at limit fault) here of octets).cut ≡ None → head_in octets ≡ None → ⊥
whole-head levels limit fault here of octets f w e = by of.tags refl
  where
    by : (wanted : List Tag) → of.tags ≡ wanted → ⊥
    by [] t = let g : has_tags of.tags ≡ true = (and_parts _ _ f).0 in absurd (let h : false ≡ true = ap has_tags (sym t) ∙ g in cc)
    by (tag ∷ wanted) t =
        let n : (headed limit (begun_here here) of.tags octets).contents ≡ None = ap (λ w. (headed limit (begun_here here) w octets).contents) t ∙ headless limit (begun_here here) tag wanted octets e in
        let c = none-cut here.name (headed limit (begun_here here) of.tags octets).begun (headed limit (begun_here here) of.tags octets).contents (contents_items (item_items levels (cut_at limit fault)) (cut_at limit fault) here of.shape) n in
        let g : Some _ ≡ None = sym (ap (λ (i : Items). i.cut) c) ∙ w in
        cc
