-- Items that fill octets, one after another and in one another.
use Rattle.std.proofs.Common.{◌≡◌, ℕ, ◌+◌, ◌<◌, ◌≤◌, ◌⊎◌, inl, inr, true, false, List, [], ◌∷◌, ◌++◌, length, take, drop, Option, Some, None, refl, sym, ◌∙◌, ap, subst, arith, lt-ltb, le-ltb, append_assoc, length-append, take_at, drop_at, take-append-drop, drop_of_length-le, cond}
use Rattle.std.proofs.lemmas.Bool.{cases_Bool}
use Rattle.std.proofs.lemmas.List.{drop-drop}
use Rattle.krb_items.specs.Heads.{Begun, size_of}
use Rattle.krb_items.specs.Items.{Item, Items, Part, after_item, followed_by, goes_on, whole}
use Rattle.krb_items_laws.specs.Covers.{AreInOrder, BeginsAt, covered, end_of, head_octets, holds_items, octets_at, own_contents}

-- ---- where octets are
-- octets are among all, from a place on
pub record AreAt (all : List ℕ) (place : ℕ) (octets : List ℕ) : Type 0 where
  pub before : List ℕ
  pub after : List ℕ
  pub parts : all ≡ before ++ (octets ++ after)
  pub counted : length before ≡ place

pub at-first : (all : List ℕ) (place : ℕ) (octets others : List ℕ) → AreAt all place (octets ++ others) → AreAt all place octets
at-first all place octets others l = record { before = l.before; after = others ++ l.after; parts = l.parts ∙ ap (λ o. l.before ++ o) (append_assoc octets others l.after); counted = l.counted }

pub at-rest : (all : List ℕ) (place : ℕ) (octets others : List ℕ) → AreAt all place (octets ++ others) → AreAt all (place + length octets) others
at-rest all place octets others l = record {
  before = l.before ++ octets;
  after = l.after;
  parts = l.parts ∙ ap (λ o. l.before ++ o) (append_assoc octets others l.after) ∙ sym (append_assoc l.before octets (others ++ l.after));
  counted = omega (arith, length-append l.before octets, l.counted);
}

pub at-octets : (all : List ℕ) (place : ℕ) (octets : List ℕ) → AreAt all place octets → octets ≡ octets_at place (length octets) all
at-octets all place octets l =
    sym (ap (take (length octets)) (ap (drop place) l.parts ∙ drop_at l.before (octets ++ l.after) place l.counted) ∙ take_at octets l.after (length octets) refl)

pub at-within : (all : List ℕ) (place : ℕ) (octets : List ℕ) → AreAt all place octets → place + length octets ≤ length all
at-within all place octets l = omega (arith, ap length l.parts, length-append l.before (octets ++ l.after), length-append octets l.after, l.counted)

-- ---- items that fill octets
abbrev pub BeginDeep : ℕ → List Item → Type 0
BeginDeep depth [] = Unit {0}
BeginDeep depth (item ∷ items) = item.begun.depth ≡ depth

abbrev pub AreShallow : ℕ → List Item → Type 0
AreShallow depth [] = Unit {0}
AreShallow depth (item ∷ items) = item.begun.depth ≤ depth

-- items at a depth are octets from a place on, whatever follows that is not deeper
pub record Fills (all : List ℕ) (place depth : ℕ) (octets : List ℕ) (items : Items) : Type 0 where
  pub whole : items.cut ≡ None
  pub first : BeginDeep depth items.items
  pub follows : (others : List Item) → AreShallow depth others → AreInOrder all (place + length octets) others → AreInOrder all place (items.items ++ others)

shallow-deeper : (depth : ℕ) (items : List Item) → AreShallow depth items → AreShallow (depth + 1) items
shallow-deeper depth [] s = tt
shallow-deeper depth (item ∷ items) s = omega (arith, s)

shallow-append : (depth : ℕ) (items others : List Item) → BeginDeep depth items → AreShallow depth others → AreShallow depth (items ++ others)
shallow-append depth [] others b s = s
shallow-append depth (item ∷ items) others b s = omega (arith, b)

deep-append : (depth : ℕ) (items others : List Item) → BeginDeep depth items → BeginDeep depth others → BeginDeep depth (items ++ others)
deep-append depth [] others b s = s
deep-append depth (item ∷ items) others b s = b

pub fills-same : (all : List ℕ) (place depth : ℕ) (octets : List ℕ) (items others : Items) → items ≡ others → Fills all place depth octets others → Fills all place depth octets items
fills-same all place depth octets items others same fills = subst (λ (i : Items). Fills all place depth octets i) (sym same) fills

pub fills-of : (all : List ℕ) (place depth : ℕ) (octets others : List ℕ) (items : Items) → octets ≡ others → Fills all place depth others items → Fills all place depth octets items
fills-of all place depth octets others items same fills = subst (λ (o : List ℕ). Fills all place depth o items) (sym same) fills

pub fills-at : (all : List ℕ) (place other depth : ℕ) (octets : List ℕ) (items : Items) → place ≡ other → Fills all other depth octets items → Fills all place depth octets items
fills-at all place other depth octets items same fills = subst (λ (p : ℕ). Fills all p depth octets items) (sym same) fills

pub fills-none : (all : List ℕ) (place depth : ℕ) → Fills all place depth [] (whole [])
fills-none all place depth = record { whole = refl; first = tt; follows = λ others s o. subst (λ (p : ℕ). AreInOrder all p others) (omega arith) o }

pub goes-then : (items : List Item) (cut : Option Part) (next : Unit {0} → Items) → cut ≡ None → goes_on items cut next ≡ record { items = items ++ (next tt).items; cut = (next tt).cut }
goes-then items cut next is = ap (λ c. goes_on items c next) is

-- items, and those after them
pub fills-then : (all : List ℕ) (place depth : ℕ) (octets others : List ℕ) (first : Items) (next : Unit {0} → Items) → Fills all place depth octets first → Fills all (place + length octets) depth others (next tt)
    → Fills all place depth (octets ++ others) (followed_by first next)
fills-then all place depth octets others first next f n =
    fills-same all place depth (octets ++ others) _ _ (goes-then first.items first.cut next f.whole)
    (record {
      whole = n.whole;
      first = deep-append depth first.items (next tt).items f.first n.first;
      follows = λ after s o.
          subst (AreInOrder all place) (sym (append_assoc first.items (next tt).items after))
          (f.follows ((next tt).items ++ after) (shallow-append depth (next tt).items after n.first s)
          (n.follows after s (subst (λ (p : ℕ). AreInOrder all p after) (omega (arith, length-append octets others)) o)));
    })

-- ---- an item
end-none : (item : Item) (items : List Item) (depth : ℕ) → item.begun.depth ≡ depth → AreShallow depth items → end_of item items ≡ item.begun.next + size_of item.begun.size
end-none item [] depth d s = refl
end-none item (next ∷ items) depth d s = rw (le-ltb item.begun.depth next.begun.depth (omega (arith, s, d))) refl

end-some : (item next : Item) (items : List Item) → item.begun.depth < next.begun.depth → end_of item (next ∷ items) ≡ item.begun.next
end-some item next items h = rw (lt-ltb item.begun.depth next.begun.depth h) refl

-- what follows the heads of an item
inner-order : (all : List ℕ) (item : Item) (depth size : ℕ) (items others : List Item) → item.begun.depth ≡ depth → size_of item.begun.size ≡ size → BeginDeep (depth + 1) items → AreShallow depth others
    → AreInOrder all (item.begun.next + size) others → ((after : List Item) → AreShallow (depth + 1) after → AreInOrder all (item.begun.next + size) after → AreInOrder all item.begun.next (items ++ after))
    → AreInOrder all (end_of item (items ++ others)) (items ++ others)
inner-order all item depth size [] others d z b s o f = subst (λ (p : ℕ). AreInOrder all p others) (sym (end-none item others depth d s ∙ ap (λ n. item.begun.next + n) z)) o
inner-order all item depth size (next ∷ items) others d z b s o f =
    subst (λ (p : ℕ). AreInOrder all p (next ∷ (items ++ others))) (sym (end-some item next (items ++ others) (omega (arith, b, d)))) (f others (shallow-deeper depth others s) o)

-- an item begins at a place and a depth, and has contents of these octets after its heads
pub record IsHeaded (all : List ℕ) (place depth : ℕ) (contents : List ℕ) (begun : Begun) : Type 0 where
  pub at : begun.at ≡ place
  pub depth_is : begun.depth ≡ depth
  pub next : begun.next ≡ place + length (head_octets begun)
  pub size : begun.size ≡ Some (length contents)
  pub lie : AreAt all place (head_octets begun ++ contents)

begins : (all : List ℕ) (place depth : ℕ) (contents : List ℕ) (item : Item) → IsHeaded all place depth contents item.begun → BeginsAt all place item
begins all place depth contents item h = record { at = h.at; contents = h.next; heads = at-octets all place (head_octets item.begun) (at-first all place (head_octets item.begun) contents h.lie) }

size-is : (all : List ℕ) (place depth : ℕ) (contents : List ℕ) (begun : Begun) → IsHeaded all place depth contents begun → size_of begun.size ≡ length contents
size-is all place depth contents begun h = ap size_of h.size

after-is : (all : List ℕ) (place depth : ℕ) (contents : List ℕ) (begun : Begun) → IsHeaded all place depth contents begun → place + length (head_octets begun ++ contents) ≡ begun.next + length contents
after-is all place depth contents begun h = omega (arith, length-append (head_octets begun) contents, h.next)

pub fills-item : (all : List ℕ) (place depth : ℕ) (contents : List ℕ) (item : Item) (inner : Items) → IsHeaded all place depth contents item.begun → Fills all item.begun.next (depth + 1) contents inner
    → Fills all place depth (head_octets item.begun ++ contents) (after_item item inner)
fills-item all place depth contents item inner h f = record {
  whole = f.whole;
  first = h.depth_is;
  follows = λ others s o. (
    begins all place depth contents item h,
    inner-order all item depth (length contents) inner.items others h.depth_is (size-is all place depth contents item.begun h) f.first s
        (subst (λ (p : ℕ). AreInOrder all p others) (after-is all place depth contents item.begun h) o) f.follows,
  );
}

pub fills-leaf : (all : List ℕ) (place depth : ℕ) (contents : List ℕ) (item : Item) → IsHeaded all place depth contents item.begun → Fills all place depth (head_octets item.begun ++ contents) (whole (item ∷ []))
fills-leaf all place depth contents item h = record {
  whole = refl;
  first = h.depth_is;
  follows = λ others s o. (
    begins all place depth contents item h,
    subst (λ (p : ℕ). AreInOrder all p others) (after-is all place depth contents item.begun h ∙ ap (λ n. item.begun.next + n) (sym (size-is all place depth contents item.begun h)) ∙ sym (end-none item others depth h.depth_is s)) o,
  );
}

-- ---- what is in order is all of the octets
two-parts : (place count : ℕ) (octets : List ℕ) → octets_at place count octets ++ drop (place + count) octets ≡ drop place octets
two-parts place count octets = ap (λ o. octets_at place count octets ++ o) (sym (drop-drop count place octets)) ∙ take-append-drop count (drop place octets)

pub covered-rest : (all : List ℕ) (items : List Item) (place : ℕ) → AreInOrder all place items → covered all items ≡ drop place all
covered-rest all [] place o = sym (drop_of_length-le all (omega (arith, o)))
covered-rest all (item ∷ items) place (b, o) =
    ap (λ h. h ++ (own_contents all item items ++ covered all items)) b.heads
    ∙ ap (λ l. octets_at place (length (head_octets item.begun)) all ++ l) (inner (cases_Bool (holds_items item items)) (covered-rest all items (end_of item items) o))
    ∙ ap (λ n. octets_at place (length (head_octets item.begun)) all ++ drop n all) b.contents
    ∙ two-parts place (length (head_octets item.begun)) all
  where
    inner : (holds_items item items ≡ true) ⊎ (holds_items item items ≡ false) → covered all items ≡ drop (end_of item items) all → own_contents all item items ++ covered all items ≡ drop item.begun.next all
    inner (inl t) e = ap (λ b. cond b [] (octets_at item.begun.next (size_of item.begun.size) all) ++ covered all items) t ∙ e ∙ ap (λ b. drop (cond b item.begun.next (item.begun.next + size_of item.begun.size)) all) t
    inner (inr t) e =
        ap (λ b. cond b [] (octets_at item.begun.next (size_of item.begun.size) all) ++ covered all items) t
        ∙ ap (λ l. octets_at item.begun.next (size_of item.begun.size) all ++ l) (e ∙ ap (λ b. drop (cond b item.begun.next (item.begun.next + size_of item.begun.size)) all) t)
        ∙ two-parts item.begun.next (size_of item.begun.size) all
