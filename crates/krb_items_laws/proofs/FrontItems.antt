-- The items of messages and Tickets that were cut are the first of the whole ones.
use Rattle.std.proofs.Common.{◌≡◌, ℕ, ℤ, zero, suc, ◌+◌, ◌-◌, ◌<◌, ◌≤◌, ◌⊎◌, inl, inr, Bool, true, false, List, [], ◌∷◌, length, take, drop, Option, Some, None, refl, sym, ◌∙◌, ap, subst, arith, cond, length-take, length-drop, lt-ltb, le-ltb}
use Rattle.std.proofs.lemmas.Bool.{and_parts, cases_lt}
use Rattle.std.proofs.lemmas.List.{drop-take, take_all}
use Rattle.std.specs.List.{list_all}
use Rattle.krb_der.specs.Octets.{when}
use Rattle.krb_der.specs.declared.verdict.Refusal.{Refusal}
use Rattle.krb_items.specs.Heads.{Begun, contents_in, count_in, head_in, octet_of, size_of, with_unknown}
use Rattle.krb_items.specs.Held.{held_name, leaf_after, number_after, number_by, opened}
use Rattle.krb_items.specs.Items.{Here, Items, begins_as, begun_here, container, contents_items, element_items, ended, field_items, here_in, item_items, leaf_items, missing, named, not_there, opened_items, passed}
use Rattle.krb_items.specs.Names.{element_path, field_path}
use Rattle.krb_items.specs.Shapes.{Field, ItemType, fields_of, held_type, item_of}
use Rattle.krb_items.specs.declared.shape.Held.{Held}
use Rattle.krb_items.specs.declared.shape.Leaf.{Leaf}
use Rattle.krb_items.specs.declared.shape.Leaf.TheVariants as leaves
use Rattle.krb_items.specs.declared.shape.Shape.{Shape}
use Rattle.krb_items.specs.declared.shape.Shape.TheVariants as shapes
use Rattle.krb_items.specs.declared.tag.Tag.{Tag}
use Rattle.krb_items_laws.proofs.FrontHeads.{Exhausted, Front, FrontOf, HeadKept, Kept, Same, SameCount, begins-front, count-front, cut_at, front-after, front-cut, front-then, fronts, has_tags, head-front, headed-front, none-cut, whole-head}
use Rattle.krb_items_laws.proofs.Types.{leaf-holds, leaf_nests, shape_nests}

begins-none : (tags : List Tag) → begins_as tags [] ≡ false
begins-none [] = refl
begins-none (tag ∷ tags) = refl

begins-first : (tags : List Tag) (octet : ℕ) (octets others : List ℕ) → begins_as tags (octet ∷ octets) ≡ begins_as tags (octet ∷ others)
begins-first [] octet octets others = refl
begins-first (tag ∷ tags) octet octets others = refl

begins-as-front : (tags : List Tag) (k : ℕ) (octets : List ℕ) → begins_as tags (take k octets) ≡ true → begins_as tags octets ≡ true
begins-as-front [] k octets e = absurd cc
begins-as-front (tag ∷ tags) k octets e = begins-front (octet_of tag) k octets e

ended-front : (here : Here) (room : ℕ) (octets others : List ℕ) → Front (ended here room octets) (ended here room others)
ended-front here zero octets others = Same refl refl
ended-front here (suc room) octets others = front-cut (Some here.name) (with_unknown (begun_here here) octets) false _

missing-or : (required : Bool) (here : Here) (name : List ℕ) (items others other : Items) → Front items others → Front (cond required (missing here name) items) (cond required other others)
missing-or true here name items others other f = front-cut (Some (field_path here.name name)) (begun_here here) false other
missing-or false here name items others other f = f

ended-or : (required : Bool) (here : Here) (room : ℕ) (octets more : List ℕ) (items others : Items) → Front items others → Front (cond required (ended here room octets) items) (cond required (ended here room more) others)
ended-or true here room octets more items others f = ended-front here room octets more
ended-or false here room octets more items others f = f

tags-some : (levels : ℕ) (of : ItemType) → fronts levels of ≡ true → (tag : Tag) × (wanted : List Tag) × (of.tags ≡ tag ∷ wanted)
tags-some zero of f = absurd cc
tags-some (suc levels) of f = by of.tags refl (and_parts (has_tags of.tags) (shape_nests (fronts levels) of.shape) f).0
  where
    by : (tags : List Tag) → of.tags ≡ tags → has_tags of.tags ≡ true → (tag : Tag) × (wanted : List Tag) × (of.tags ≡ tag ∷ wanted)
    by [] t h = absurd (let g : false ≡ true = ap has_tags (sym t) ∙ h in cc)
    by (tag ∷ wanted) t h = (tag, wanted, t)

count-of : (levels limit k : ℕ) (fault : Option Refusal) (here : Here) (of : ItemType) (octets : List ℕ) → fronts levels of ≡ true → (item_items levels (cut_at limit fault) here of (take k octets)).cut ≡ None → SameCount k of.tags octets ⊎ Exhausted k octets
count-of zero limit k fault here of octets f w = absurd cc
count-of (suc levels) limit k fault here of octets f w = by (head-front k octets) (tags-some (suc levels) of f)
  where
    by : (head_in (take k octets) ≡ None) ⊎ HeadKept k octets → (tag : Tag) × (wanted : List Tag) × (of.tags ≡ tag ∷ wanted) → SameCount k of.tags octets ⊎ Exhausted k octets
    by (inl e) t = absurd (whole-head levels limit fault here of (take k octets) f w e)
    by (inr h) t = subst (λ (tags : List Tag). SameCount k tags octets ⊎ Exhausted k octets) (sym t.2) (count-front k t.0 t.1 octets h)

module _ (limit all : ℕ) (fault other : Option Refusal) (less : limit ≤ all) (levels : ℕ) (front : FrontOf limit all fault other levels) where
  abbrev cut : Here → ItemType → List ℕ → Items
  cut = item_items levels (cut_at limit fault)

  abbrev uncut : Here → ItemType → List ℕ → Items
  uncut = item_items levels (cut_at all other)

  leaf-front : (here : Here) (begun : Begun) (leaf : Leaf) (octets : List ℕ) → begun.next ≤ limit → length octets ≤ size_of begun.size → leaf_nests (fronts levels) leaf ≡ true
      → Front (leaf_items cut (cut_at limit fault) here begun leaf (take (limit - begun.next) octets)) (leaf_items uncut (cut_at all other) here begun leaf octets)
  leaf-front here begun leaf octets w z n = by (cases_lt limit (begun.next + size_of begun.size))
    where
      opens : (found : Option Held) → opened here.number leaf octets ≡ found → take (limit - begun.next) octets ≡ octets → Front (opened_items cut here.name begun (leaf_after here.number leaf) octets found) (opened_items uncut here.name begun (leaf_after here.number leaf) octets found)
      opens None e t = Same refl refl
      opens (Some held) e t =
          front-after (record { name = here.name; begun = begun; shown = Some (leaves.Opened, octets) }) _ _
          (subst (λ (o : List ℕ). Front (cut (here_in (field_path here.name (held_name held)) begun) (held_type held) o) (uncut (here_in (field_path here.name (held_name held)) begun) (held_type held) octets)) t
          (front (here_in (field_path here.name (held_name held)) begun) (held_type held) octets (leaf-holds (fronts levels) here.number leaf octets held n e) w))

      by : (limit < begun.next + size_of begun.size) ⊎ (begun.next + size_of begun.size ≤ limit) → Front (leaf_items cut (cut_at limit fault) here begun leaf (take (limit - begun.next) octets)) (leaf_items uncut (cut_at all other) here begun leaf octets)
      by (inl h) = rw (lt-ltb limit (begun.next + size_of begun.size) h) (front-cut (Some here.name) begun _ _)
      by (inr h) =
          let e : take (limit - begun.next) octets ≡ octets = take_all (limit - begun.next) octets (omega (arith, h, z)) in
          rw (e, le-ltb limit (begun.next + size_of begun.size) h, le-ltb all (begun.next + size_of begun.size) (omega (arith, h, less))) (opens (opened here.number leaf octets) refl e)

  -- what follows an item that is whole
  abbrev Later : (Here → ℕ → List ℕ → Items) → (Here → ℕ → List ℕ → Items) → Type 0
  Later items others = (after : Here) (room : ℕ) (rest : List ℕ) → after.place ≤ limit → length rest ≤ room → Front (items after room (take (limit - after.place) rest)) (others after room rest)

  pub later-front : (here own : Here) (of : ItemType) (number : ItemType → List ℕ → Option ℤ) (octets : List ℕ) (room : ℕ) (items others : Here → ℕ → List ℕ → Items) → fronts levels of ≡ true → here.place ≤ limit → length octets ≤ room
      → ((o p : List ℕ) → contents_in of.tags o ≡ contents_in of.tags p → number of o ≡ number of p) → (cut own of (take (limit - here.place) octets)).cut ≡ None → Later items others → ((after : Here) (room : ℕ) (result : Items) → 0 < room → Front (items after room []) result)
      → Front (items (passed here (count_in (take (limit - here.place) octets)) (number of (take (limit - here.place) octets))) (room - count_in (take (limit - here.place) octets)) (drop (count_in (take (limit - here.place) octets)) (take (limit - here.place) octets)))
      (others (passed here (count_in octets) (number of octets)) (room - count_in octets) (drop (count_in octets) octets))
  later-front here own of number octets room items others f w l same whole later ends = by (count-of levels limit (limit - here.place) fault own of octets f whole)
    where
      by : SameCount (limit - here.place) of.tags octets ⊎ Exhausted (limit - here.place) octets
          → Front (items (passed here (count_in (take (limit - here.place) octets)) (number of (take (limit - here.place) octets))) (room - count_in (take (limit - here.place) octets)) (drop (count_in (take (limit - here.place) octets)) (take (limit - here.place) octets)))
          (others (passed here (count_in octets) (number of octets)) (room - count_in octets) (drop (count_in octets) octets))
      by (inl s) =
          let d : drop (count_in octets) (take (limit - here.place) octets) ≡ take (limit - (here.place + count_in octets)) (drop (count_in octets) octets) =
          ap (λ m. drop (count_in octets) (take m octets)) (omega (arith, s.within, w)) ∙ drop-take (count_in octets) (limit - (here.place + count_in octets)) octets in
          rw (s.count, same (take (limit - here.place) octets) octets s.contents, d)
          (later (passed here (count_in octets) (number of octets)) (room - count_in octets) (drop (count_in octets) octets) (omega (arith, s.within, w)) (omega (arith, length-drop (count_in octets) octets, l)))
      by (inr e) =
          let d : drop (count_in (take (limit - here.place) octets)) (take (limit - here.place) octets) ≡ [] =
          ap (λ m. drop m (take (limit - here.place) octets)) e.count ∙ nothing-left (limit - here.place) octets in
          rw d (ends _ _ _ (omega (arith, e.count, e.more, l)))
        where
          nothing-left : (k : ℕ) (octets : List ℕ) → drop k (take k octets) ≡ []
          nothing-left zero octets = refl
          nothing-left (suc k) [] = refl
          nothing-left (suc k) (octet ∷ octets) = nothing-left k octets

  -- ---- the fields of a SEQUENCE
  fields-end : (fields : List Field) (after : Here) (room : ℕ) (result : Items) → 0 < room → Front (field_items cut after fields room []) result
  fields-end fields after zero result h = absurd (omega (arith, h))
  fields-end [] after (suc room) result h = front-cut (Some after.name) (begun_here after) false result
  fields-end (field ∷ fields) after (suc room) result h = rw (begins-none field.of.tags) (front-cut (Some after.name) (begun_here after) false result)

  -- a field with which the octets that are there do not begin
  absent-front : (field : Field) (here : Here) (room k : ℕ) (octets : List ℕ) (there next other : Unit {0} → Items) → length octets ≤ room → Front (next tt) (other tt) → begins_as field.of.tags (take k octets) ≡ false
      → Front (not_there field here room (take k octets) next) (when (begins_as field.of.tags octets) there (λ _. not_there field here room octets other))
  absent-front field here zero k (octet ∷ octets) there next other l f b = absurd (omega (arith, l))
  absent-front field here zero zero [] there next other l f b = rw (begins-none field.of.tags) (missing-or field.required here field.name (next tt) (other tt) (missing here field.name) f)
  absent-front field here zero (suc k) [] there next other l f b = rw (begins-none field.of.tags) (missing-or field.required here field.name (next tt) (other tt) (missing here field.name) f)
  absent-front field here (suc room) zero octets there next other l f b = front-cut (Some here.name) (begun_here here) false _
  absent-front field here (suc room) (suc k) [] there next other l f b = front-cut (Some here.name) (begun_here here) false _
  absent-front field here (suc room) (suc k) (octet ∷ octets) there next other l f b =
      rw (begins-first field.of.tags octet octets (take k octets) ∙ b) (ended-or field.required here (suc room) (octet ∷ take k octets) (octet ∷ octets) (next tt) (other tt) f)

  fields-front : (fields : List Field) → list_all (λ field. fronts levels field.of) fields ≡ true → (here : Here) (room : ℕ) (octets : List ℕ) → here.place ≤ limit → length octets ≤ room
      → Front (field_items cut here fields room (take (limit - here.place) octets)) (field_items uncut here fields room octets)
  fields-front [] n here room octets w l = ended-front here room (take (limit - here.place) octets) octets
  fields-front (field ∷ fields) n here room octets w l =
      let f = and_parts (fronts levels field.of) (list_all (λ field. fronts levels field.of) fields) n in
      by f.0 (fields-front fields f.1) (begins_as field.of.tags (take (limit - here.place) octets)) refl
    where
      by : fronts levels field.of ≡ true → Later (λ here room octets. field_items cut here fields room octets) (λ here room octets. field_items uncut here fields room octets) → (begins : Bool) → begins_as field.of.tags (take (limit - here.place) octets) ≡ begins
          → Front (field_items cut here (field ∷ fields) room (take (limit - here.place) octets)) (field_items uncut here (field ∷ fields) room octets)
      by f others true e =
          rw (e, begins-as-front field.of.tags (limit - here.place) octets e)
          (front-then _ _ _ _ (front (named here (field_path here.name field.name)) field.of octets f w)
          (λ whole. later-front here (named here (field_path here.name field.name)) field.of (λ of octets. number_after of octets here.number) octets room
          (λ here room octets. field_items cut here fields room octets) (λ here room octets. field_items uncut here fields room octets) f w l
          (λ o p same. ap (λ c. number_by field.of.shape c here.number) same) whole others (fields-end fields)))
      by f others false e =
          rw e
          (absent-front field here room (limit - here.place) octets _ (λ _. field_items cut here fields room (take (limit - here.place) octets)) (λ _. field_items uncut here fields room octets) l (others here room octets w l) e)

  -- ---- the items of a SEQUENCE OF
  elements-end : (of : ItemType) (bound index : ℕ) (after : Here) (room : ℕ) (result : Items) → 0 < room → Front (element_items cut of bound index after room []) result
  elements-end of bound index after zero result h = absurd (omega (arith, h))
  elements-end of zero index after (suc room) result h = front-cut (Some after.name) (begun_here after) false result
  elements-end of (suc bound) index after (suc room) result h = rw (begins-none of.tags) (front-cut (Some after.name) (begun_here after) false result)

  stop-front : (of : ItemType) (more index : ℕ) (here : Here) (room : ℕ) (octets others : List ℕ) → length others ≤ room → Front (ended here room octets) (element_items uncut of more index here room others)
  stop-front of more index here (suc room) octets others l = front-cut (Some here.name) (with_unknown (begun_here here) octets) false _
  stop-front of more index here zero octets (other ∷ others) l = absurd (omega (arith, l))
  stop-front of zero index here zero octets [] l = Same refl refl
  stop-front of (suc more) index here zero octets [] l = rw (begins-none of.tags) (Same refl refl)

  elements-front : (of : ItemType) → fronts levels of ≡ true → (bound more index : ℕ) → bound ≤ more → (here : Here) (room : ℕ) (octets : List ℕ) → here.place ≤ limit → length octets ≤ room
      → Front (element_items cut of bound index here room (take (limit - here.place) octets)) (element_items uncut of more index here room octets)
  elements-front of f zero more index b here room octets w l = stop-front of more index here room (take (limit - here.place) octets) octets l
  elements-front of f (suc bound) zero index b here room octets w l = absurd (omega (arith, b))
  elements-front of f (suc bound) (suc more) index b here room octets w l = by (elements-front of f bound more (index + 1) (omega (arith, b))) (begins_as of.tags (take (limit - here.place) octets)) refl
    where
      by : Later (λ here room octets. element_items cut of bound (index + 1) here room octets) (λ here room octets. element_items uncut of more (index + 1) here room octets) → (begins : Bool) → begins_as of.tags (take (limit - here.place) octets) ≡ begins
          → Front (element_items cut of (suc bound) index here room (take (limit - here.place) octets)) (element_items uncut of (suc more) index here room octets)
      by others true e =
          rw (e, begins-as-front of.tags (limit - here.place) octets e)
          (front-then _ _ _ _ (front (named here (element_path here.name index)) of octets f w)
          (λ whole. later-front here (named here (element_path here.name index)) of (λ of octets. here.number) octets room
          (λ here room octets. element_items cut of bound (index + 1) here room octets) (λ here room octets. element_items uncut of more (index + 1) here room octets) f w l
          (λ o p same. refl) whole others (elements-end of bound (index + 1))))
      by others false e = rw e (stop-front of (suc more) index here room (take (limit - here.place) octets) octets l)

  -- ---- contents
  contents-front : (here : Here) (shape : Shape) (begun : Begun) (octets : List ℕ) → begun.next ≤ limit → length octets ≤ size_of begun.size → shape_nests (fronts levels) shape ≡ true
      → Front (contents_items cut (cut_at limit fault) here shape begun (take (limit - begun.next) octets)) (contents_items uncut (cut_at all other) here shape begun octets)
  contents-front here (shapes.Leaf leaf) begun octets w z n = leaf-front here begun leaf octets w z n
  contents-front here shapes.Token begun octets w z n = absurd cc
  contents-front here shapes.Hints begun octets w z n = absurd cc
  contents-front here (shapes.Sequence sequence) begun octets w z n =
      front-after (container here.name begun) _ _ (fields-front (fields_of sequence) n (here_in here.name begun) (size_of begun.size) octets w z)
  contents-front here (shapes.List list) begun octets w z n =
      front-after (container here.name begun) _ _
      (elements-front (item_of list) n (length (take (limit - begun.next) octets)) (length octets) 0 (omega (arith, length-take (limit - begun.next) octets)) (here_in here.name begun) (size_of begun.size) octets w z)

  -- ---- an item
  pub front-item : FrontOf limit all fault other (suc levels)
  front-item here of octets f w = by (tags-some (suc levels) of f)
    where
      kept : Kept limit all less of.tags (begun_here here) octets → Front (item_items (suc levels) (cut_at limit fault) here of (take (limit - here.place) octets)) (item_items (suc levels) (cut_at all other) here of octets)
      kept (inl e) = subst (λ (i : Items). Front i (item_items (suc levels) (cut_at all other) here of octets)) (sym (none-cut here.name _ _ _ e)) (front-cut (Some here.name) _ false _)
      kept (inr k) = rw (k.front_is, k.all_is) (contents-front here of.shape k.done k.contents k.within k.sized (and_parts (has_tags of.tags) (shape_nests (fronts levels) of.shape) f).1)

      by : (tag : Tag) × (wanted : List Tag) × (of.tags ≡ tag ∷ wanted) → Front (item_items (suc levels) (cut_at limit fault) here of (take (limit - here.place) octets)) (item_items (suc levels) (cut_at all other) here of octets)
      by t = kept (subst (λ (tags : List Tag). Kept limit all less tags (begun_here here) octets) (sym t.2) (headed-front limit all less (begun_here here) t.0 t.1 octets w))

-- ---- all
pub items-front : (limit all : ℕ) (fault other : Option Refusal) → limit ≤ all → (levels : ℕ) → FrontOf limit all fault other levels
items-front limit all fault other less zero = λ here of octets f w. absurd cc
items-front limit all fault other less (suc levels) = front-item limit all fault other less levels (items-front limit all fault other less levels)
