-- The items of what is accepted are all of its octets.
use Rattle.std.proofs.Common.{◌≡◌, ℕ, zero, suc, ◌+◌, ◌-◌, ◌^◌, ◌<◌, ◌≤◌, Bool, true, false, ◌==◌, not, List, [], ◌∷◌, ◌++◌, length, drop, Option, Some, None, ℤ, refl, sym, ◌∙◌, ap, subst, arith, le-ltb, length-append, drop_at, eqb-true, true≢false}
use Rattle.std.proofs.lemmas.Bool.{and_parts, not-true}
use Rattle.std.specs.List.{list_all, flat_map, AllByRecursion}
use Rattle.krb_der.specs.Octets.{AreOctets, begins_with, when}
use Rattle.krb_msg.specs.Term.{Term, Fields, Integer, Text, Octets, Time, Bits, Sequence, SequenceOf, Tagged, Application, End, Required, Optional, tag_of, Value, Values, der, der_of_fields, Fits, AllFit}
use Rattle.krb_msg.specs.Shape.{is_unambiguous, are_unambiguous, may_begin}
use Rattle.krb_msg.specs.inner.Values.{contents, der_begins, may_begin_from_der}
use Rattle.krb_judge.specs.declared.locating.names.Names.{Names}
use Rattle.krb_items.specs.Heads.{Begun, size_of, count_in}
use Rattle.krb_items.specs.Held.{is_held, leaf_after, number_after, opened, held_name}
use Rattle.krb_items.specs.Items.{Here, Items, Limits, after_item, begins_as, begun_here, container, contents_items, ended, element_items, field_items, followed_by, here_in, item_items, leaf_items, named, not_there, of_headed, opened_items, passed}
use Rattle.krb_items.specs.Names.{element_path, field_path}
use Rattle.krb_items.specs.Shapes.{Field, ItemType, fields_of, held_type, item_of}
use Rattle.krb_items.specs.Terms.{are_of, is_leaf, is_of, names_in}
use Rattle.krb_items.specs.declared.shape.Held.{Held}
use Rattle.krb_items.specs.declared.shape.Leaf.{Leaf}
use Rattle.krb_items.specs.declared.shape.Leaf.TheVariants as leaves
use Rattle.krb_items.specs.declared.shape.Shape.{Shape}
use Rattle.krb_items.specs.declared.shape.Shape.TheVariants as shapes
use Rattle.krb_items.specs.declared.tag.Tag.{Tag}
use Rattle.krb_items_laws.specs.Covers.{head_octets}
use Rattle.krb_items_laws.proofs.Filling.{AreAt, Fills, IsHeaded, at-first, at-rest, at-within, fills-item, fills-leaf, fills-none, fills-of, fills-same, fills-then}
use Rattle.krb_items_laws.proofs.ReadHeads.{Reads, flat}
use Rattle.krb_items_laws.proofs.Types.{Inside, Opens, begins-as, begins-with, count-der, inside, is_plain, leaf-opens, leaf_nests, nests, shape_nests, is_small}

-- nothing is refused of so many octets
abbrev pub all_of : List ℕ → Limits
all_of all = record { limit = length all; fault = None }

-- the items of an item of a type, of any octets that are accepted as one, are these octets
abbrev pub Fill : List ℕ → ℕ → Type 0
Fill all levels = (here : Here) (of : ItemType) (names : Option Names) (term : Term) (value : Value term) (more : List ℕ) → nests levels of ≡ true → is_of of.tags of.shape names term ≡ true → is_unambiguous term ≡ true → Fits term value
    → AreAt all here.place (der term value) → Fills all here.place here.depth (der term value) (item_items levels (all_of all) here of (der term value ++ more))

-- what octets hold is so, too
abbrev pub FillHeld : List ℕ → ℕ → Type 0
FillHeld all levels = (here : Here) (held : Held) (octets : List ℕ) → nests levels (held_type held) ≡ true → AreOctets octets → is_held held octets ≡ true → AreAt all here.place octets → Fills all here.place here.depth octets (item_items levels (all_of all) here (held_type held) octets)

small-tags : (levels : ℕ) (of : ItemType) → nests levels of ≡ true → list_all is_small of.tags ≡ true
small-tags zero of n = absurd cc
small-tags (suc levels) of n = (and_parts (list_all is_small of.tags) (shape_nests (nests levels) of.shape) n).0

begins-none : (tags : List Tag) → begins_as tags [] ≡ false
begins-none [] = refl
begins-none (tag ∷ tags) = refl

-- the fields after one that is left out do not begin as it does
none-begins : (tags : List Tag) (shape : Shape) (names : Option Names) (term : Term) (terms : Fields) (values : Values terms) → list_all is_small tags ≡ true → is_of tags shape names term ≡ true → may_begin (tag_of term) terms ≡ false → begins_as tags (der_of_fields terms values) ≡ false
none-begins tags shape names term terms values small is not = begins-with tags shape names term (der_of_fields terms values) small is ∙ by (der_of_fields terms values) refl
  where
    other : (octet : ℕ) (rest : List ℕ) → der_of_fields terms values ≡ octet ∷ rest → (is : Bool) → (octet == tag_of term) ≡ is → is ≡ false
    other octet rest e true same =
        let t : may_begin (tag_of term) terms ≡ true = subst (λ (o : ℕ). may_begin o terms ≡ true) (eqb-true octet (tag_of term) same) (may_begin_from_der terms values octet rest e) in
        absurd (true≢false (sym t ∙ not))
    other octet rest e false same = refl

    by : (octets : List ℕ) → der_of_fields terms values ≡ octets → begins_with (tag_of term) octets ≡ false
    by [] e = refl
    by (octet ∷ rest) e = other octet rest e (octet == tag_of term) refl

-- ---- contents
pub inner-at : (all : List ℕ) (here : Here) (begun : Begun) (octets : List ℕ) → IsHeaded all here.place here.depth octets begun → AreAt all begun.next octets
inner-at all here begun octets h = subst (λ (p : ℕ). AreAt all p octets) (sym h.next) (at-rest all here.place (head_octets begun) octets h.lie)

pub container-fill : (all : List ℕ) (here : Here) (begun : Begun) (octets : List ℕ) (inner : ℕ → Items) → IsHeaded all here.place here.depth octets begun → Fills all begun.next (begun.depth + 1) octets (inner (length octets))
    → Fills all here.place here.depth (head_octets begun ++ octets) (after_item (container here.name begun) (inner (size_of begun.size)))
container-fill all here begun octets inner h f =
    fills-item all here.place here.depth octets (container here.name begun) (inner (size_of begun.size)) h
    (subst (λ (d : ℕ). Fills all begun.next (d + 1) octets (inner (size_of begun.size))) h.depth_is
    (subst (λ (n : ℕ). Fills all begun.next (begun.depth + 1) octets (inner n)) (sym (ap size_of h.size)) f))

pub leaf-enough : (all : List ℕ) (levels : ℕ) (here : Here) (begun : Begun) (leaf : Leaf) (octets : List ℕ) → IsHeaded all here.place here.depth octets begun
    → leaf_items (item_items levels (all_of all)) (all_of all) here begun leaf octets ≡ opened_items (item_items levels (all_of all)) here.name begun (leaf_after here.number leaf) octets (opened here.number leaf octets)
leaf-enough all levels here begun leaf octets h = rw (le-ltb (length all) (begun.next + size_of begun.size) within) refl
  where
    within : begun.next + size_of begun.size ≤ length all
    within = omega (arith, at-within all here.place (head_octets begun ++ octets) h.lie, length-append (head_octets begun) octets, ap size_of h.size, h.next)

-- an item whose heads are read, and what is in them
pub reads-fill : (all : List ℕ) (levels : ℕ) (here : Here) (of : ItemType) (own more octets : List ℕ) (reads : Reads (length all) (begun_here here) of.tags own more octets) → AreAt all here.place own
    → (IsHeaded all here.place here.depth octets reads.done → Fills all here.place here.depth (head_octets reads.done ++ octets) (contents_items (item_items levels (all_of all)) (all_of all) here of.shape reads.done octets))
    → Fills all here.place here.depth own (item_items (suc levels) (all_of all) here of (own ++ more))
reads-fill all levels here of own more octets reads at inner =
    let heads : head_octets reads.done ≡ flat reads.heads = ap flat reads.added in
    let form : own ≡ head_octets reads.done ++ octets = reads.form ∙ ap (λ h. h ++ octets) (sym heads) in
    fills-of all here.place here.depth own _ _ form
    (fills-same all here.place here.depth _ _ _ (ap (λ h. of_headed here.name h (contents_items (item_items levels (all_of all)) (all_of all) here of.shape)) reads.is)
    (inner (record { at = reads.at; depth_is = reads.depth; next = reads.next ∙ ap (λ h. here.place + length h) (sym heads); size = reads.size; lie = subst (AreAt all here.place) form at })))

module _ (all : List ℕ) (levels : ℕ) (short : length all < 2 ^ 32) (fill : Fill all levels) (fill-held : FillHeld all levels) where
  -- ---- a value
  leaf-fill : (here : Here) (begun : Begun) (leaf : Leaf) (term : Term) (value : Value term) → IsHeaded all here.place here.depth (contents term value) begun → leaf_nests (nests levels) leaf ≡ true → is_leaf leaf term ≡ true → Fits term value
      → Fills all here.place here.depth (head_octets begun ++ contents term value) (leaf_items (item_items levels (all_of all)) (all_of all) here begun leaf (contents term value))
  leaf-fill here begun leaf term value h n l f =
      fills-same all here.place here.depth _ _ _ (leaf-enough all levels here begun leaf (contents term value) h) (by (opened here.number leaf (contents term value)) refl)
    where
      octets-of : (term : Term) (value : Value term) → Fits term value → term ≡ Octets → AreOctets (contents term value)
      octets-of Octets value f e = f
      octets-of other value f e = absurd cc

      by : (found : Option Held) → opened here.number leaf (contents term value) ≡ found
          → Fills all here.place here.depth (head_octets begun ++ contents term value) (opened_items (item_items levels (all_of all)) here.name begun (leaf_after here.number leaf) (contents term value) found)
      by None e = fills-leaf all here.place here.depth (contents term value) (record { name = here.name; begun = begun; shown = Some (leaf_after here.number leaf, contents term value) }) h
      by (Some held) e =
          let o : Opens (nests levels) term (contents term value) held = leaf-opens (nests levels) here.number leaf term (contents term value) held n l e in
          fills-item all here.place here.depth (contents term value) (record { name = here.name; begun = begun; shown = Some (leaves.Opened, contents term value) }) _ h
          (subst (λ (d : ℕ). Fills all begun.next (d + 1) (contents term value) (item_items levels (all_of all) (here_in (field_path here.name (held_name held)) begun) (held_type held) (contents term value))) h.depth_is
          (fill-held (here_in (field_path here.name (held_name held)) begun) held (contents term value) o.nested (octets-of term value f o.octet_string) o.is
          (inner-at all here begun (contents term value) h)))

  -- ---- fields
  -- an item of a container, and what follows it
  first-fill : (here : Here) (name : List ℕ) (of : ItemType) (names : Option Names) (term : Term) (value : Value term) (number : Option ℤ) (rest : List ℕ) (room : ℕ) (others : Here → ℕ → List ℕ → Items) → nests levels of ≡ true → is_of of.tags of.shape names term ≡ true → is_unambiguous term ≡ true → Fits term value
      → AreAt all here.place (der term value ++ rest) → room ≡ length (der term value ++ rest)
      → Fills all (here.place + length (der term value)) here.depth rest (others (passed here (length (der term value)) number) (length rest) rest)
      → Fills all here.place here.depth (der term value ++ rest)
      (followed_by (item_items levels (all_of all) (named here name) of (der term value ++ rest))
      (λ _. others (passed here (count_in (der term value ++ rest)) number) (room - count_in (der term value ++ rest)) (drop (count_in (der term value ++ rest)) (der term value ++ rest))))
  first-fill here name of names term value number rest room others n is clear f at r o =
      let small : length (der term value) < 2 ^ 32 = omega (arith, short, at-within all here.place (der term value ++ rest) at, length-append (der term value) rest) in
      let c : count_in (der term value ++ rest) ≡ length (der term value) = count-der term value rest small in
      let d : drop (count_in (der term value ++ rest)) (der term value ++ rest) ≡ rest = drop_at (der term value) rest (count_in (der term value ++ rest)) (sym c) in
      let e : room - count_in (der term value ++ rest) ≡ length rest = omega (arith, c, r, length-append (der term value) rest) in
      fills-then all here.place here.depth (der term value) rest _ _ (fill (named here name) of names term value rest n is clear f (at-first all here.place (der term value) rest at))
      (fills-same all (here.place + length (der term value)) here.depth rest _ _ (λ i. others (passed here (c i) number) (e i) (d i)) o)

  -- a field that is there
  field-there : (field : Field) (fields : List Field) (names : Option Names) (term : Term) (value : Value term) (rest : List ℕ) (here : Here) → nests levels field.of ≡ true → is_of field.of.tags field.of.shape names term ≡ true → is_unambiguous term ≡ true → Fits term value → AreAt all here.place (der term value ++ rest)
      → ((number : Option ℤ) → Fills all (here.place + length (der term value)) here.depth rest (field_items (item_items levels (all_of all)) (passed here (length (der term value)) number) fields (length rest) rest))
      → Fills all here.place here.depth (der term value ++ rest) (field_items (item_items levels (all_of all)) here (field ∷ fields) (length (der term value ++ rest)) (der term value ++ rest))
  field-there field fields names term value rest here n is clear f at next =
      fills-same all here.place here.depth (der term value ++ rest) _ _
      (ap (λ b. when b
      (λ _. followed_by (item_items levels (all_of all) (named here (field_path here.name field.name)) field.of (der term value ++ rest))
      (λ _. field_items (item_items levels (all_of all)) (passed here (count_in (der term value ++ rest)) (number_after field.of (der term value ++ rest) here.number)) fields (length (der term value ++ rest) - count_in (der term value ++ rest)) (drop (count_in (der term value ++ rest)) (der term value ++ rest))))
      (λ _. not_there field here (length (der term value ++ rest)) (der term value ++ rest) (λ _. field_items (item_items levels (all_of all)) here fields (length (der term value ++ rest)) (der term value ++ rest))))
      (begins-as field.of.tags field.of.shape names term value rest (small-tags levels field.of n) is))
      (first-fill here (field_path here.name field.name) field.of names term value (number_after field.of (der term value ++ rest) here.number) rest (length (der term value ++ rest)) (λ here room octets. field_items (item_items levels (all_of all)) here fields room octets) n is clear f at refl (next (number_after field.of (der term value ++ rest) here.number)))

  -- a field that is left out
  field-absent : (field : Field) (fields : List Field) (here : Here) (octets : List ℕ) → begins_as field.of.tags octets ≡ false → field.required ≡ false
      → field_items (item_items levels (all_of all)) here (field ∷ fields) (length octets) octets ≡ field_items (item_items levels (all_of all)) here fields (length octets) octets
  field-absent field fields here [] b r = rw (b, r) refl
  field-absent field fields here (octet ∷ octets) b r = rw (b, r) refl

  fields-fill : (fields : List Field) (names : Option Names) (index : ℕ) (terms : Fields) (values : Values terms) (here : Here) → list_all (λ field. nests levels field.of) fields ≡ true → are_of fields names index terms ≡ true → are_unambiguous terms ≡ true → AllFit terms values
      → AreAt all here.place (der_of_fields terms values) → Fills all here.place here.depth (der_of_fields terms values) (field_items (item_items levels (all_of all)) here fields (length (der_of_fields terms values)) (der_of_fields terms values))
  fields-fill [] names index End values here n is clear f at = fills-none all here.place here.depth
  fields-fill (field ∷ fields) names index (Required term terms) values here n is clear f at =
      let i = and_parts _ _ is in
      let j = and_parts _ _ i.0 in
      field-there field fields (names_in names index) term values.0 (der_of_fields terms values.1) here (and_parts _ _ n).0 j.1 (and_parts _ _ clear).0 f.0 at
      (λ number. fields-fill fields names (index + 1) terms values.1 (passed here (length (der term values.0)) number) (and_parts _ _ n).1 i.1 (and_parts _ _ clear).1 f.1 (at-rest all here.place (der term values.0) (der_of_fields terms values.1) at))
  fields-fill (field ∷ fields) names index (Optional term terms) (Some value, values) here n is clear f at =
      let i = and_parts _ _ is in
      let j = and_parts _ _ i.0 in
      let c = and_parts _ _ (and_parts _ _ clear).1 in
      field-there field fields (names_in names index) term value (der_of_fields terms values) here (and_parts _ _ n).0 j.1 c.0 f.0 at
      (λ number. fields-fill fields names (index + 1) terms values (passed here (length (der term value)) number) (and_parts _ _ n).1 i.1 c.1 f.1 (at-rest all here.place (der term value) (der_of_fields terms values) at))
  fields-fill (field ∷ fields) names index (Optional term terms) (None, values) here n is clear f at =
      let i = and_parts _ _ is in
      let j = and_parts _ _ i.0 in
      let c = and_parts _ _ clear in
      fills-same all here.place here.depth (der_of_fields terms values) _ _
      (field-absent field fields here (der_of_fields terms values)
      (none-begins field.of.tags field.of.shape (names_in names index) term terms values (small-tags levels field.of (and_parts _ _ n).0) j.1 (not-true _ c.0)) (not-true _ (and_parts _ _ j.0).0))
      (fields-fill fields names (index + 1) terms values here (and_parts _ _ n).1 i.1 (and_parts _ _ c.1).1 f.1 at)
  fields-fill [] names index (Required term terms) values here n is clear f at = absurd cc
  fields-fill [] names index (Optional term terms) values here n is clear f at = absurd cc
  fields-fill (field ∷ fields) names index End values here n is clear f at = absurd cc

  -- ---- the items of a SEQUENCE OF
  elements-fill : (of : ItemType) (names : Option Names) (term : Term) (values : List (Value term)) (bound index : ℕ) (here : Here) → nests levels of ≡ true → is_of of.tags of.shape names term ≡ true → is_unambiguous term ≡ true → AllByRecursion (Fits term) values
      → length (flat_map (der term) values) ≤ bound → AreAt all here.place (flat_map (der term) values)
      → Fills all here.place here.depth (flat_map (der term) values) (element_items (item_items levels (all_of all)) of bound index here (length (flat_map (der term) values)) (flat_map (der term) values))
  elements-fill of names term [] zero index here n is clear f h at = fills-none all here.place here.depth
  elements-fill of names term [] (suc bound) index here n is clear f h at =
      fills-same all here.place here.depth [] _ _ (rw (begins-none of.tags) refl) (fills-none all here.place here.depth)
  elements-fill of names term (value ∷ values) zero index here n is clear f h at = absurd (omega (arith, h, length-append (der term value) (flat_map (der term) values), der_begins term value))
  elements-fill of names term (value ∷ values) (suc bound) index here n is clear f h at =
      let rest : List ℕ = flat_map (der term) values in
      fills-same all here.place here.depth (der term value ++ flat_map (der term) values) _ _
      (ap (λ b. when b
      (λ _. followed_by (item_items levels (all_of all) (named here (element_path here.name index)) of (der term value ++ flat_map (der term) values))
      (λ _. element_items (item_items levels (all_of all)) of bound (index + 1) (passed here (count_in (der term value ++ flat_map (der term) values)) here.number) (length (der term value ++ flat_map (der term) values) - count_in (der term value ++ flat_map (der term) values)) (drop (count_in (der term value ++ flat_map (der term) values)) (der term value ++ flat_map (der term) values))))
      (λ _. ended here (length (der term value ++ flat_map (der term) values)) (der term value ++ flat_map (der term) values)))
      (begins-as of.tags of.shape names term value (flat_map (der term) values) (small-tags levels of n) is))
      (first-fill here (element_path here.name index) of names term value here.number (flat_map (der term) values) (length (der term value ++ flat_map (der term) values)) (λ here room octets. element_items (item_items levels (all_of all)) of bound (index + 1) here room octets) n is clear f.0 at refl
      (elements-fill of names term values bound (index + 1) (passed here (length (der term value)) here.number) n is clear f.1
      (omega (arith, h, length-append (der term value) (flat_map (der term) values), der_begins term value)) (at-rest all here.place (der term value) (flat_map (der term) values) at)))

  -- ---- contents
  contents-fill : (here : Here) (begun : Begun) (last : Tag) (shape : Shape) (names : Option Names) (term : Term) (value : Value term) → is_plain term ≡ true → is_of (last ∷ []) shape names term ≡ true → shape_nests (nests levels) shape ≡ true → is_unambiguous term ≡ true → Fits term value
      → IsHeaded all here.place here.depth (contents term value) begun
      → Fills all here.place here.depth (head_octets begun ++ contents term value) (contents_items (item_items levels (all_of all)) (all_of all) here shape begun (contents term value))
  contents-fill here begun last (shapes.Leaf leaf) names (Integer low high) value p is n clear f h = leaf-fill here begun leaf (Integer low high) value h n (and_parts _ _ is).1 f
  contents-fill here begun last (shapes.Leaf leaf) names (Text greatest) value p is n clear f h = leaf-fill here begun leaf (Text greatest) value h n (and_parts _ _ is).1 f
  contents-fill here begun last (shapes.Leaf leaf) names Octets value p is n clear f h = leaf-fill here begun leaf Octets value h n (and_parts _ _ is).1 f
  contents-fill here begun last (shapes.Leaf leaf) names Time value p is n clear f h = leaf-fill here begun leaf Time value h n (and_parts _ _ is).1 f
  contents-fill here begun last (shapes.Leaf leaf) names (Bits least) value p is n clear f h = leaf-fill here begun leaf (Bits least) value h n (and_parts _ _ is).1 f
  contents-fill here begun last (shapes.Leaf leaf) names (Sequence fields) value p is n clear f h = leaf-fill here begun leaf (Sequence fields) value h n (and_parts _ _ is).1 f
  contents-fill here begun last (shapes.Leaf leaf) names (SequenceOf empty term) value p is n clear f h = leaf-fill here begun leaf (SequenceOf empty term) value h n (and_parts _ _ is).1 f
  contents-fill here begun last (shapes.Sequence sequence) names (Sequence fields) value p is n clear f h =
      container-fill all here begun (der_of_fields fields value) (λ room. field_items (item_items levels (all_of all)) (here_in here.name begun) (fields_of sequence) room (der_of_fields fields value)) h
      (fields-fill (fields_of sequence) names 0 fields value (here_in here.name begun) n (and_parts _ _ is).1 clear f (inner-at all here begun (der_of_fields fields value) h))
  contents-fill here begun last (shapes.List list) names (SequenceOf empty term) value p is n clear f h =
      container-fill all here begun (flat_map (der term) value) (λ room. element_items (item_items levels (all_of all)) (item_of list) (length (flat_map (der term) value)) 0 (here_in here.name begun) room (flat_map (der term) value)) h
      (elements-fill (item_of list) names term value (length (flat_map (der term) value)) 0 (here_in here.name begun) n (and_parts _ _ is).1 clear f.1 (omega arith) (inner-at all here begun (flat_map (der term) value) h))
  contents-fill here begun last shape names (Integer low high) value p is n clear f h = absurd cc
  contents-fill here begun last shape names (Text greatest) value p is n clear f h = absurd cc
  contents-fill here begun last shape names Octets value p is n clear f h = absurd cc
  contents-fill here begun last shape names Time value p is n clear f h = absurd cc
  contents-fill here begun last shape names (Bits least) value p is n clear f h = absurd cc
  contents-fill here begun last shape names (Sequence fields) value p is n clear f h = absurd cc
  contents-fill here begun last shape names (SequenceOf empty term) value p is n clear f h = absurd cc
  contents-fill here begun last shape names (Tagged index term) value p is n clear f h = absurd cc
  contents-fill here begun last shape names (Application number term) value p is n clear f h = absurd cc

  -- ---- an item
  pub fill-item : Fill all (suc levels)
  fill-item here of names term value more n is clear f at =
      let p = and_parts (list_all is_small of.tags) (shape_nests (nests levels) of.shape) n in
      let within : here.place + length (der term value) ≤ length all = at-within all here.place (der term value) at in
      by p.1 (inside (length all) (begun_here here) of.tags of.shape names term value more p.0 is clear f (omega (arith, short, within)) within)
    where
      by : shape_nests (nests levels) of.shape ≡ true → Inside (length all) (begun_here here) of.tags of.shape names term value more → Fills all here.place here.depth (der term value) (item_items (suc levels) (all_of all) here of (der term value ++ more))
      by s i =
          reads-fill all levels here of (der term value) more (contents i.inner i.inner_value) i.reads at
          (λ h. contents-fill here i.reads.done i.last of.shape names i.inner i.inner_value i.plain i.is s i.clear i.fits h)
