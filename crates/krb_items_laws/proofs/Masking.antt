-- The items of octets that differ in ciphers and checksums alone are told in the same way.
use Rattle.std.proofs.Common.{◌≡◌, ℕ, ℤ, zero, suc, ◌+◌, ◌-◌, ◌≤◌, ◌⊎◌, inl, inr, pos, Bool, true, false, ◌&&◌, nat_lt, List, [], ◌∷◌, ◌++◌, length, take, drop, map, codes, Option, Some, None, refl, sym, ◌∙◌, ap, subst, arith, cond}
use Rattle.std.proofs.lemmas.Bool.{and_parts}
use Rattle.std.proofs.lemmas.List.{map-append, length-drop}
use Rattle.std.specs.List.{AllByRecursion, list_all}
use Rattle.krb_der.specs.Octets.{when}
use Rattle.krb_record.specs.Values.{Value, Number}
use Rattle.krb_items.specs.Heads.{Begun, Headed, count_in, headed, size_of}
use Rattle.krb_items.specs.Held.{leaf_after, number_after, number_by, opened}
use Rattle.krb_items.specs.Items.{Here, Item, Items, Limits, Part, begins_as, begun_here, container, contents_items, cut_in, element_items, ended, field_items, followed_by, goes_on, here_in, is_counted, item_items, leaf_items, missing, named, not_there, of_contents, of_headed, opened_items, passed}
use Rattle.krb_items.specs.Names.{element_path, field_path}
use Rattle.krb_items.specs.Records.{is_hidden, item_value}
use Rattle.krb_items.specs.Shapes.{Field, ItemType, fields_of, item_of}
use Rattle.krb_items.specs.declared.shape.Held.{Held}
use Rattle.krb_items.specs.declared.shape.Leaf.{Leaf}
use Rattle.krb_items.specs.declared.shape.Leaf.TheVariants as leaves
use Rattle.krb_items.specs.declared.shape.Shape.{Shape}
use Rattle.krb_items.specs.declared.shape.Shape.TheVariants as shapes
use Rattle.krb_items.specs.declared.tag.Tag.{Tag}
use Rattle.krb_items_laws.specs.Masked.{AreSame, IsKept, is_masked_name}
use Rattle.krb_items_laws.proofs.MaskedNames.{is_other, other-name, other-path}
use Rattle.krb_items_laws.proofs.MaskedSlices.{AreFirst, AreRead, Ends, FirstSame, ReadSame, Slice, begins-as-first, first-same, heads-same, read-contents, read-ends, read-size, slice-drop, slice-same}

-- ---- what is told of an item
abbrev pub told : Item → (List ℕ × Begun) × (Value × Bool)
told item = ((item.name, item.begun), (item_value item.shown, is_hidden item.shown))

-- ---- types
-- the number before says what such contents are, and they are no cipher
abbrev pub is_clear : Shape → List ℕ → Bool
is_clear (shapes.Leaf (leaves.Holder holder)) name = is_other name
is_clear shape name = true

abbrev is_plain : Shape → Bool
is_plain (shapes.Leaf (leaves.Holder holder)) = false
is_plain shape = true

plain-clear : (shape : Shape) (name : List ℕ) → is_plain shape ≡ true → is_clear shape name ≡ true
plain-clear (shapes.Leaf (leaves.Holder holder)) name e = absurd cc
plain-clear (shapes.Leaf other) name e = refl
plain-clear other name e = refl

abbrev has_tags : List Tag → Bool
has_tags [] = false
has_tags (tag ∷ tags) = true

abbrev is_walked_field : (ItemType → Bool) → Field → Bool
is_walked_field inner field = is_clear field.of.shape (codes "." ++ field.name) && inner field.of

abbrev is_walked_shape : (ItemType → Bool) → Shape → Bool
is_walked_shape inner (shapes.Leaf leaf) = true
is_walked_shape inner (shapes.Sequence sequence) = list_all (is_walked_field inner) (fields_of sequence)
is_walked_shape inner (shapes.List list) = is_plain (item_of list).shape && inner (item_of list)
is_walked_shape inner shape = false

-- no more items than these are in one another, and no token is among them
abbrev pub is_walked : ℕ → ItemType → Bool
is_walked zero of = false
is_walked (suc levels) of = has_tags of.tags && is_walked_shape (is_walked levels) of.shape

field-clear : (shape : Shape) (path name : List ℕ) → is_clear shape (codes "." ++ name) ≡ true → is_clear shape (field_path path name) ≡ true
field-clear (shapes.Leaf (leaves.Holder holder)) path name e = other-path path name e
field-clear (shapes.Leaf other) path name e = refl
field-clear other path name e = refl

-- ---- items, and those after them
goes-cut : (items : List Item) (cut : Option Part) (next : Unit {0} → Items) → (goes_on items cut next).cut ≡ None → (cut ≡ None) × ((next tt).cut ≡ None)
goes-cut items None next e = (refl, e)
goes-cut items (Some part) next e = absurd cc

goes-items : (items : List Item) (cut : Option Part) (next : Unit {0} → Items) → cut ≡ None → goes_on items cut next ≡ record { items = items ++ (next tt).items; cut = (next tt).cut }
goes-items items cut next e = ap (λ c. goes_on items c next) e

module _ (all more : List ℕ) where
  abbrev pub AreKept : List Item → Type 0
  AreKept items = AllByRecursion (IsKept all more) items

  kept-parts : (items others : List Item) → AreKept (items ++ others) → AreKept items × AreKept others
  kept-parts [] others k = (tt, k)
  kept-parts (item ∷ items) others k = let r = kept-parts items others k.1 in ((k.0, r.0), r.1)

  -- items are told in the same way, to the end
  pub record ToldSame (items others : Items) : Type 0 where
    pub same : map told items.items ≡ map told others.items
    pub ends : others.cut ≡ None

  told-equal : (items others : Items) → items ≡ others → items.cut ≡ None → ToldSame items others
  told-equal items others e c = subst (λ (o : Items). ToldSame items o) e (record { same = refl; ends = c })

  told-of : (items others first second : Items) → items ≡ first → others ≡ second → ToldSame first second → ToldSame items others
  told-of items others first second e f t = record { same = ap (λ (i : Items). map told i.items) e ∙ t.same ∙ sym (ap (λ (i : Items). map told i.items) f); ends = ap (λ (i : Items). i.cut) f ∙ t.ends }

  told-then : (first second : Items) (next after : Unit {0} → Items) → first.cut ≡ None → ToldSame first second → ToldSame (next tt) (after tt) → ToldSame (followed_by first next) (followed_by second after)
  told-then first second next after c f n =
      told-of (followed_by first next) (followed_by second after) _ _ (goes-items first.items first.cut next c) (goes-items second.items second.cut after f.ends)
      (record {
        same = map-append told first.items (next tt).items ∙ (λ i. f.same i ++ n.same i) ∙ sym (map-append told second.items (after tt).items);
        ends = n.ends;
      })

  -- ---- one item
  pub record OneTold (of : ItemType) (octets others : List ℕ) (items second : Items) : Type 0 where
    pub told_same : ToldSame items second
    pub first : AreFirst octets others
    pub count : count_in octets ≡ count_in others
    pub number : (before : Option ℤ) → number_after of octets before ≡ number_after of others before

  abbrev pub ItemsTold : (ItemType → Bool) → (Here → ItemType → List ℕ → Items) → Type 0
  ItemsTold inner item = (here : Here) (of : ItemType) (octets others : List ℕ) → inner of ≡ true → is_clear of.shape here.name ≡ true → Slice all more here.place octets others → AreKept (item here of octets).items → (item here of octets).cut ≡ None
      → OneTold of octets others (item here of octets) (item here of others)

  -- the items that are left of a container
  pub record RestTold (octets others : List ℕ) (items second : Items) : Type 0 where
    pub told_same : ToldSame items second
    pub first : AreFirst octets others

  no-octets : (octets others : List ℕ) → length octets ≤ 0 → length octets ≡ length others → (octets ≡ []) × (others ≡ [])
  no-octets [] [] h l = (refl, refl)
  no-octets [] (b ∷ others) h l = absurd (omega (arith, l))
  no-octets (a ∷ octets) others h l = absurd (omega (arith, h))

  ended-told : (here : Here) (room : ℕ) (octets others : List ℕ) → length octets ≤ room → length octets ≡ length others → (ended here room octets).cut ≡ None → RestTold octets others (ended here room octets) (ended here room others)
  ended-told here zero octets others h l c =
      let n = no-octets octets others h l in
      record { told_same = record { same = refl; ends = refl }; first = ap (take 1) n.0 ∙ sym (ap (take 1) n.1) }
  ended-told here (suc room) octets others h l c = absurd cc

  module _ (limits : Limits) (inner : ItemType → Bool) (item : Here → ItemType → List ℕ → Items) (told-items : ItemsTold inner item) where
    -- an item of a container, and what follows it
    next-told : (here : Here) (name : List ℕ) (of : ItemType) (octets others : List ℕ) (rest : ℕ → Option ℤ → List ℕ → Items)
        → inner of ≡ true → is_clear of.shape name ≡ true → Slice all more here.place octets others
        → AreKept (followed_by (item (named here name) of octets) (λ _. rest (count_in octets) (number_after of octets here.number) (drop (count_in octets) octets))).items
        → (followed_by (item (named here name) of octets) (λ _. rest (count_in octets) (number_after of octets here.number) (drop (count_in octets) octets))).cut ≡ None
        → (AreKept (rest (count_in octets) (number_after of octets here.number) (drop (count_in octets) octets)).items → (rest (count_in octets) (number_after of octets here.number) (drop (count_in octets) octets)).cut ≡ None
        → ToldSame (rest (count_in octets) (number_after of octets here.number) (drop (count_in octets) octets)) (rest (count_in octets) (number_after of octets here.number) (drop (count_in octets) others)))
        → RestTold octets others (followed_by (item (named here name) of octets) (λ _. rest (count_in octets) (number_after of octets here.number) (drop (count_in octets) octets)))
        (followed_by (item (named here name) of others) (λ _. rest (count_in others) (number_after of others here.number) (drop (count_in others) others)))
    next-told here name of octets others rest i clear slice kept cut then =
        let after : Items = rest (count_in octets) (number_after of octets here.number) (drop (count_in octets) octets) in
        let one : Items = item (named here name) of octets in
        let cuts : (one.cut ≡ None) × (after.cut ≡ None) = goes-cut one.items one.cut (λ _. after) cut in
        let parts : AreKept one.items × AreKept after.items = kept-parts one.items after.items (subst (λ (i : Items). AreKept i.items) (goes-items one.items one.cut (λ _. after) cuts.0) kept) in
        let o : OneTold of octets others one (item (named here name) of others) = told-items (named here name) of octets others i clear slice parts.0 cuts.0 in
        let same : rest (count_in octets) (number_after of octets here.number) (drop (count_in octets) others) ≡ rest (count_in others) (number_after of others here.number) (drop (count_in others) others) =
        (λ i. rest (o.count i) (o.number here.number i) (drop (o.count i) others)) in
        record {
          told_same = told-then one (item (named here name) of others) (λ _. after) (λ _. rest (count_in others) (number_after of others here.number) (drop (count_in others) others)) cuts.0 o.told_same
              (subst (λ (r : Items). ToldSame after r) same (then parts.1 cuts.1));
          first = o.first;
        }

    absent-told : (field : Field) (here : Here) (room : ℕ) (octets others : List ℕ) (next after : Unit {0} → Items) → length octets ≤ room → length octets ≡ length others → (not_there field here room octets next).cut ≡ None → AreKept (not_there field here room octets next).items
        → ((next tt).cut ≡ None → AreKept (next tt).items → RestTold octets others (next tt) (after tt)) → RestTold octets others (not_there field here room octets next) (not_there field here room others after)
    absent-told field here zero octets others next after h l c k then = by field.required c k
      where
        by : (b : Bool) → (cond b (missing here field.name) (next tt)).cut ≡ None → AreKept (cond b (missing here field.name) (next tt)).items → RestTold octets others (cond b (missing here field.name) (next tt)) (cond b (missing here field.name) (after tt))
        by true c k = absurd cc
        by false c k = then c k
    absent-told field here (suc room) [] others next after h l c k then = absurd cc
    absent-told field here (suc room) (a ∷ octets) [] next after h l c k then = absurd (omega (arith, l))
    absent-told field here (suc room) (a ∷ octets) (b ∷ others) next after h l c k then = by field.required c k
      where
        by : (r : Bool) → (cond r (ended here (suc room) (a ∷ octets)) (next tt)).cut ≡ None → AreKept (cond r (ended here (suc room) (a ∷ octets)) (next tt)).items
            → RestTold (a ∷ octets) (b ∷ others) (cond r (ended here (suc room) (a ∷ octets)) (next tt)) (cond r (ended here (suc room) (b ∷ others)) (after tt))
        by true c k = absurd cc
        by false c k = then c k

    -- both begin so, or none does
    when-told : (tags : List Tag) (octets others : List ℕ) (chosen left chosen_of left_of : Unit {0} → Items) → (when (begins_as tags octets) chosen left).cut ≡ None → AreKept (when (begins_as tags octets) chosen left).items
        → ((chosen tt).cut ≡ None → AreKept (chosen tt).items → RestTold octets others (chosen tt) (chosen_of tt)) → ((left tt).cut ≡ None → AreKept (left tt).items → RestTold octets others (left tt) (left_of tt))
        → RestTold octets others (when (begins_as tags octets) chosen left) (when (begins_as tags others) chosen_of left_of)
    when-told tags octets others chosen left chosen_of left_of c k y n = by (begins_as tags octets) refl c k
      where
        by : (b : Bool) → begins_as tags octets ≡ b → (when b chosen left).cut ≡ None → AreKept (when b chosen left).items → RestTold octets others (when b chosen left) (when (begins_as tags others) chosen_of left_of)
        by true e c k =
            let r : RestTold octets others (chosen tt) (chosen_of tt) = y c k in
            subst (λ (b : Bool). RestTold octets others (chosen tt) (when b chosen_of left_of)) (sym e ∙ begins-as-first tags octets others r.first) r
        by false e c k =
            let r : RestTold octets others (left tt) (left_of tt) = n c k in
            subst (λ (b : Bool). RestTold octets others (left tt) (when b chosen_of left_of)) (sym e ∙ begins-as-first tags octets others r.first) r

    fields-told : (here : Here) (fields : List Field) (room : ℕ) (octets others : List ℕ) → list_all (is_walked_field inner) fields ≡ true → Slice all more here.place octets others → length octets ≤ room
        → (field_items item here fields room octets).cut ≡ None → AreKept (field_items item here fields room octets).items → RestTold octets others (field_items item here fields room octets) (field_items item here fields room others)
    fields-told here [] room octets others w s h c k = ended-told here room octets others h s.as_many c
    fields-told here (field ∷ fields) room octets others w s h c k =
        let walked = and_parts (is_walked_field inner field) (list_all (is_walked_field inner) fields) w in
        let this = and_parts (is_clear field.of.shape (codes "." ++ field.name)) (inner field.of) walked.0 in
        when-told field.of.tags octets others _ _ _ _ c k
        (λ c k. next-told here (field_path here.name field.name) field.of octets others (λ count number octets. field_items item (passed here count number) fields (room - count) octets) this.1 (field-clear field.of.shape here.name field.name this.0) s k c
        (λ k c. (fields-told (passed here (count_in octets) (number_after field.of octets here.number)) fields (room - count_in octets) (drop (count_in octets) octets) (drop (count_in octets) others) walked.1
        (slice-drop all more here.place (count_in octets) octets others s) (omega (arith, h, length-drop (count_in octets) octets)) c k).told_same))
        (λ c k. absent-told field here room octets others _ _ h s.as_many c k (λ c k. fields-told here fields room octets others walked.1 s h c k))

    elements-told : (of : ItemType) (bound index : ℕ) (here : Here) (room : ℕ) (octets others : List ℕ) → is_plain of.shape ≡ true → inner of ≡ true → Slice all more here.place octets others → length octets ≤ room
        → (element_items item of bound index here room octets).cut ≡ None → AreKept (element_items item of bound index here room octets).items → RestTold octets others (element_items item of bound index here room octets) (element_items item of bound index here room others)
    elements-told of zero index here room octets others p i s h c k = ended-told here room octets others h s.as_many c
    elements-told of (suc bound) index here room octets others p i s h c k =
        when-told of.tags octets others _ _ _ _ c k
        (λ c k. next-told here (element_path here.name index) of octets others (λ count number octets. element_items item of bound (index + 1) (passed here count here.number) (room - count) octets) i (plain-clear of.shape (element_path here.name index) p) s k c
        (λ k c. (elements-told of bound (index + 1) (passed here (count_in octets) here.number) (room - count_in octets) (drop (count_in octets) octets) (drop (count_in octets) others) p i
        (slice-drop all more here.place (count_in octets) octets others s) (omega (arith, h, length-drop (count_in octets) octets)) c k).told_same))
        (λ c k. ended-told here room octets others h s.as_many c)

    -- ---- contents
    pub record ContentsTold (shape : Shape) (octets others : List ℕ) (items second : Items) : Type 0 where
      pub told_same : ToldSame items second
      pub number : (before : Option ℤ) → number_by shape octets before ≡ number_by shape others before

    abbrev Contents : Here → Shape → Begun → List ℕ → Items
    Contents here shape begun octets = contents_items item limits here shape begun octets

    same-told : (here : Here) (shape : Shape) (begun : Begun) (octets others : List ℕ) → (Contents here shape begun octets).cut ≡ None → octets ≡ others → ContentsTold shape octets others (Contents here shape begun octets) (Contents here shape begun others)
    same-told here shape begun octets others c e =
        subst (λ (o : List ℕ). ContentsTold shape octets o (Contents here shape begun octets) (Contents here shape begun o)) e (record { told_same = record { same = refl; ends = c }; number = λ b. refl })

    -- the first item, if all of a leaf is there
    pub record LeafFirst (here : Here) (begun : Begun) (leaf : Leaf) (octets : List ℕ) (items : Items) : Type 0 where
      pub enough : nat_lt limits.limit (begun.next + size_of begun.size) ≡ false
      pub shown : Leaf
      pub others : List Item
      pub is : items.items ≡ record { name = here.name; begun = begun; shown = Some (shown, octets) } ∷ others
      pub counted : (is_counted shown ≡ false) ⊎ (shown ≡ leaf_after here.number leaf)

    leaf-first : (here : Here) (begun : Begun) (leaf : Leaf) (octets : List ℕ) → (leaf_items item limits here begun leaf octets).cut ≡ None → LeafFirst here begun leaf octets (leaf_items item limits here begun leaf octets)
    leaf-first here begun leaf octets c = by (nat_lt limits.limit (begun.next + size_of begun.size)) refl c
      where
        Cut : Items
        Cut = cut_in (Some here.name) begun (is_counted (leaf_after here.number leaf))

        of : nat_lt limits.limit (begun.next + size_of begun.size) ≡ false → (found : Option Held) → LeafFirst here begun leaf octets (opened_items item here.name begun (leaf_after here.number leaf) octets found)
        of e None = record { enough = e; shown = leaf_after here.number leaf; others = []; is = refl; counted = inr refl }
        of e (Some held) = record { enough = e; shown = leaves.Opened; others = _; is = refl; counted = inl refl }

        by : (b : Bool) → nat_lt limits.limit (begun.next + size_of begun.size) ≡ b → (cond b Cut (opened_items item here.name begun (leaf_after here.number leaf) octets (opened here.number leaf octets))).cut ≡ None
            → LeafFirst here begun leaf octets (cond b Cut (opened_items item here.name begun (leaf_after here.number leaf) octets (opened here.number leaf octets)))
        by true e c = absurd cc
        by false e c = of e (opened here.number leaf octets)

    -- the contents of a leaf that is no cipher are kept
    leaf-kept : (here : Here) (begun : Begun) (leaf : Leaf) (octets : List ℕ) → (leaf_items item limits here begun leaf octets).cut ≡ None → AreKept (leaf_items item limits here begun leaf octets).items
        → ((number : Option ℤ) → (is_counted (leaf_after number leaf) && is_masked_name here.name) ≡ false) → AreSame all more begun.next (begun.next + size_of begun.size)
    leaf-kept here begun leaf octets c k not_masked =
        let f : LeafFirst here begun leaf octets (leaf_items item limits here begun leaf octets) = leaf-first here begun leaf octets c in
        let first = subst AreKept f.is k in
        first.0.contents refl (masked f.shown f.counted)
      where
        masked : (shown : Leaf) → (is_counted shown ≡ false) ⊎ (shown ≡ leaf_after here.number leaf) → (is_counted shown && is_masked_name here.name) ≡ false
        masked shown (inl e) = rw e refl
        masked shown (inr e) = ap (λ (l : Leaf). is_counted l && is_masked_name here.name) e ∙ not_masked here.number

    and-false : (a b : Bool) → b ≡ false → (a && b) ≡ false
    and-false true b e = e
    and-false false b e = refl

    leaf-told : (here : Here) (leaf : Leaf) (begun : Begun) (octets others : List ℕ) → is_clear (shapes.Leaf leaf) here.name ≡ true → Slice all more begun.next octets others → length octets ≤ size_of begun.size → (Contents here (shapes.Leaf leaf) begun octets).cut ≡ None
        → AreKept (Contents here (shapes.Leaf leaf) begun octets).items → ContentsTold (shapes.Leaf leaf) octets others (Contents here (shapes.Leaf leaf) begun octets) (Contents here (shapes.Leaf leaf) begun others)
    leaf-told here leaves.Hidden begun octets others w s h c k =
        let f : LeafFirst here begun leaves.Hidden octets (leaf_items item limits here begun leaves.Hidden octets) = leaf-first here begun leaves.Hidden octets c in
        record { told_same = told f.enough; number = λ b. refl }
      where
        told : nat_lt limits.limit (begun.next + size_of begun.size) ≡ false → ToldSame (leaf_items item limits here begun leaves.Hidden octets) (leaf_items item limits here begun leaves.Hidden others)
        told e = rw e (record { same = ap (λ (n : ℕ). ((here.name, begun), (Number (pos n), true)) ∷ []) s.as_many; ends = refl })
    leaf-told here (leaves.Holder holder) begun octets others w s h c k =
        same-told here (shapes.Leaf (leaves.Holder holder)) begun octets others c
        (slice-same all more begun.next (begun.next + size_of begun.size) octets others s (omega (arith, h))
        (leaf-kept here begun (leaves.Holder holder) octets c k (λ number. and-false (is_counted (leaf_after number (leaves.Holder holder))) (is_masked_name here.name) (other-name here.name w))))
    leaf-told here other begun octets others w s h c k =
        same-told here (shapes.Leaf other) begun octets others c (slice-same all more begun.next (begun.next + size_of begun.size) octets others s (omega (arith, h)) (leaf-kept here begun other octets c k (λ number. refl)))

    contents-told : (here : Here) (shape : Shape) (begun : Begun) (octets others : List ℕ) → is_walked_shape inner shape ≡ true → is_clear shape here.name ≡ true → Slice all more begun.next octets others → length octets ≤ size_of begun.size
        → (Contents here shape begun octets).cut ≡ None → AreKept (Contents here shape begun octets).items → ContentsTold shape octets others (Contents here shape begun octets) (Contents here shape begun others)
    contents-told here (shapes.Leaf leaf) begun octets others w clear s h c k = leaf-told here leaf begun octets others clear s h c k
    contents-told here (shapes.Sequence sequence) begun octets others w clear s h c k =
        let r = fields-told (here_in here.name begun) (fields_of sequence) (size_of begun.size) octets others w s h c k.1 in
        record { told_same = record { same = ap (λ t. told (container here.name begun) ∷ t) r.told_same.same; ends = r.told_same.ends }; number = λ b. refl }
    contents-told here (shapes.List list) begun octets others w clear s h c k =
        let walked = and_parts (is_plain (item_of list).shape) (inner (item_of list)) w in
        let r = elements-told (item_of list) (length octets) 0 (here_in here.name begun) (size_of begun.size) octets others walked.0 walked.1 s h c k.1 in
        let t : ToldSame (element_items item (item_of list) (length octets) 0 (here_in here.name begun) (size_of begun.size) octets) (element_items item (item_of list) (length others) 0 (here_in here.name begun) (size_of begun.size) others) =
        subst (λ (n : ℕ). ToldSame (element_items item (item_of list) (length octets) 0 (here_in here.name begun) (size_of begun.size) octets) (element_items item (item_of list) n 0 (here_in here.name begun) (size_of begun.size) others)) s.as_many r.told_same in
        record { told_same = record { same = ap (λ t. told (container here.name begun) ∷ t) t.same; ends = t.ends }; number = λ b. refl }
    contents-told here other begun octets others w clear s h c k = absurd cc

    -- the heads of the first item are kept
    first-heads : (here : Here) (shape : Shape) (begun : Begun) (octets : List ℕ) → is_walked_shape inner shape ≡ true → (Contents here shape begun octets).cut ≡ None → AreKept (Contents here shape begun octets).items → AreSame all more begun.at begun.next
    first-heads here (shapes.Leaf leaf) begun octets w c k = (subst AreKept (leaf-first here begun leaf octets c).is k).0.heads
    first-heads here (shapes.Sequence sequence) begun octets w c k = k.0.heads
    first-heads here (shapes.List list) begun octets w c k = k.0.heads
    first-heads here other begun octets w c k = absurd cc

    -- ---- an item
    one-told : (here : Here) (tag : Tag) (tags : List Tag) (shape : Shape) (octets others : List ℕ) (done : Begun) (contents : List ℕ) → is_walked_shape inner shape ≡ true → is_clear shape here.name ≡ true → Slice all more here.place octets others
        → AreRead limits.limit (begun_here here) (tag ∷ tags) octets done contents → (Contents here shape done contents).cut ≡ None → AreKept (Contents here shape done contents).items
        → OneTold (record { tags = tag ∷ tags; shape = shape }) octets others (Contents here shape done contents) (of_headed here.name (headed limits.limit (begun_here here) (tag ∷ tags) others) (contents_items item limits here shape))
    one-told here tag tags shape octets others done contents w clear s e c k =
        let ends : Ends all more (begun_here here) done = read-ends all more limits.limit (begun_here here) (tag ∷ tags) octets done contents e in
        let heads : AreSame all more done.at done.next = first-heads here shape done contents w c k in
        let same : AreSame all more here.place done.next = subst (λ (p : ℕ). AreSame all more p done.next) ends.at heads in
        let r : ReadSame all more limits.limit (begun_here here) (tag ∷ tags) others done contents = heads-same all more limits.limit (begun_here here) (tag ∷ tags) octets others done contents e s same in
        let f : FirstSame all more octets others = first-same all more limits.limit (begun_here here) tag tags octets others done contents e s same in
        let t : ContentsTold shape contents r.inside (Contents here shape done contents) (Contents here shape done r.inside) =
        contents-told here shape done contents r.inside w clear r.slice (read-size all more limits.limit (begun_here here) tag tags octets done contents e) c k in
        record {
          told_same = subst (λ (h : Headed). ToldSame (Contents here shape done contents) (of_headed here.name h (contents_items item limits here shape))) (sym r.is) t.told_same;
          first = f.first;
          count = f.count;
          number = λ before.
              ap (λ o. number_by shape o before) (read-contents all more limits.limit (begun_here here) (tag ∷ tags) octets done contents e)
              ∙ t.number before
              ∙ sym (ap (λ o. number_by shape o before) (read-contents all more limits.limit (begun_here here) (tag ∷ tags) others done r.inside r.is));
        }

    item-told : (here : Here) (tags : List Tag) (shape : Shape) (octets others : List ℕ) → (has_tags tags && is_walked_shape inner shape) ≡ true → is_clear shape here.name ≡ true → Slice all more here.place octets others
        → AreKept (of_headed here.name (headed limits.limit (begun_here here) tags octets) (contents_items item limits here shape)).items → (of_headed here.name (headed limits.limit (begun_here here) tags octets) (contents_items item limits here shape)).cut ≡ None
        → OneTold (record { tags = tags; shape = shape }) octets others (of_headed here.name (headed limits.limit (begun_here here) tags octets) (contents_items item limits here shape)) (of_headed here.name (headed limits.limit (begun_here here) tags others) (contents_items item limits here shape))
    item-told here [] shape octets others w clear s k c = absurd cc
    item-told here (tag ∷ tags) shape octets others w clear s k c = by (headed limits.limit (begun_here here) (tag ∷ tags) octets).begun (headed limits.limit (begun_here here) (tag ∷ tags) octets).contents refl c k
      where
        by : (done : Begun) (found : Option (List ℕ)) → headed limits.limit (begun_here here) (tag ∷ tags) octets ≡ record { begun = done; contents = found } → (of_contents here.name done found (contents_items item limits here shape)).cut ≡ None
            → AreKept (of_contents here.name done found (contents_items item limits here shape)).items
            → OneTold (record { tags = tag ∷ tags; shape = shape }) octets others (of_contents here.name done found (contents_items item limits here shape)) (of_headed here.name (headed limits.limit (begun_here here) (tag ∷ tags) others) (contents_items item limits here shape))
        by done None e c k = absurd cc
        by done (Some contents) e c k = one-told here tag tags shape octets others done contents w clear s e c k

  pub items-told : (limits : Limits) (levels : ℕ) → ItemsTold (is_walked levels) (item_items levels limits)
  items-told limits zero here of octets others w clear s k c = absurd cc
  items-told limits (suc levels) here of octets others w clear s k c =
      item-told limits (is_walked levels) (item_items levels limits) (items-told limits levels) here of.tags of.shape octets others w clear s k c
