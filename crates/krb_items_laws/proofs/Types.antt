-- The types of items and the terms of the grammar: what an item of a type begins with, and how deep items nest.
use Rattle.std.proofs.Common.{◌≡◌, ℕ, zero, suc, ◌+◌, ◌^◌, ◌<◌, ◌≤◌, Bool, true, false, ◌&&◌, ◌||◌, ◌==◌, nat_lt, List, [], ◌∷◌, ◌++◌, length, Option, Some, None, ℤ, pos, refl, sym, ◌∙◌, ap, subst, arith, ltb-true, eqb-true, eq-eqb, cond}
use Rattle.std.proofs.lemmas.Bool.{and_parts}
use Rattle.std.specs.List.{list_all}
use Rattle.krb_der.specs.Octets.{begins_with, item, length_octets}
use Rattle.krb_der.specs.inner.Items.{length-item}
use Rattle.krb_msg.specs.Term.{Term, Integer, Text, Octets, Time, Bits, Sequence, SequenceOf, Tagged, Application, tag_of, Value, der, Fits}
use Rattle.krb_msg.specs.Shape.{is_unambiguous}
use Rattle.krb_msg.specs.inner.Values.{contents, der_is}
use Rattle.krb_judge.specs.declared.locating.names.Names.{Names}
use Rattle.krb_items.specs.Heads.{Begun, octet_of, with_head, count_in}
use Rattle.krb_items.specs.Held.{held_after, held_by, is_held, opened, opened_if, padata_held}
use Rattle.krb_items.specs.Items.{begins_as}
use Rattle.krb_items.specs.Shapes.{ItemType, fields_of, held_type, item_of}
use Rattle.krb_items.specs.Terms.{is_leaf, is_of, is_tag}
use Rattle.krb_items.specs.declared.shape.Held.{Held}
use Rattle.krb_items.specs.declared.shape.Held.TheVariants as helds
use Rattle.krb_items.specs.declared.shape.Holder.{Holder}
use Rattle.krb_items.specs.declared.shape.Holder.TheVariants as holders
use Rattle.krb_items.specs.declared.shape.Leaf.{Leaf}
use Rattle.krb_items.specs.declared.shape.Leaf.TheVariants as leaves
use Rattle.krb_items.specs.declared.shape.Shape.{Shape}
use Rattle.krb_items.specs.declared.shape.Shape.TheVariants as shapes
use Rattle.krb_items.specs.declared.tag.Tag.{Tag}
use Rattle.krb_items.specs.declared.tag.Tag.TheVariants as tags
use Rattle.krb_items_laws.proofs.ReadHeads.{Reads, count-item, head_of, reads-last, reads-more}

-- ---- how deep items of a type nest
-- a tag of one octet
abbrev pub is_small : Tag → Bool
is_small (tags.Context index) = nat_lt index 32
is_small (tags.Application number) = nat_lt number 32
is_small tag = true

abbrev padata_helds : Held → List Held
padata_helds fast = helds.TgsReq ∷ helds.EncTimestamp ∷ helds.Salt ∷ helds.EtypeInfo ∷ helds.EtypeInfo2 ∷ helds.PacRequest ∷ helds.ForUser ∷ fast ∷ helds.EncryptedChallenge ∷ helds.PacOptions ∷ []

abbrev helds_of : Holder → List Held
helds_of holders.RequestPadata = padata_helds helds.FastRequest
helds_of holders.Padata = padata_helds helds.FastReply
helds_of holders.ErrorData = helds.MethodData ∷ []
helds_of holders.Armor = helds.ApReq ∷ []

abbrev pub leaf_nests : (ItemType → Bool) → Leaf → Bool
leaf_nests inner (leaves.Holder holder) = list_all (λ held. inner (held_type held)) (helds_of holder)
leaf_nests inner leaf = true

abbrev pub shape_nests : (ItemType → Bool) → Shape → Bool
shape_nests inner (shapes.Leaf leaf) = leaf_nests inner leaf
shape_nests inner (shapes.Sequence sequence) = list_all (λ field. inner field.of) (fields_of sequence)
shape_nests inner (shapes.List list) = inner (item_of list)
shape_nests inner shape = false

-- no more items than these are in one another
abbrev pub nests : ℕ → ItemType → Bool
nests zero of = false
nests (suc levels) of = list_all is_small of.tags && shape_nests (nests levels) of.shape

-- ---- what octets hold is one of few
one-of-them : (test : Held → Bool) (found : Bool) (first : Held) (others : Option Held) (held : Held) → test first ≡ true → (others ≡ Some held → test held ≡ true) → cond found (Some first) others ≡ Some held → test held ≡ true
one-of-them test true first others held t next e = let same : first ≡ held = cc in subst (λ (h : Held). test h ≡ true) same t
one-of-them test false first others held t next e = next e

held-of-padata : (test : Held → Bool) (fast : Held) (number : ℕ) (held : Held) → list_all test (padata_helds fast) ≡ true → padata_held fast number ≡ Some held → test held ≡ true
unfolding padata_held
held-of-padata test fast number held all e =
    let a = and_parts _ _ all in
    let b = and_parts _ _ a.1 in
    let c = and_parts _ _ b.1 in
    let d = and_parts _ _ c.1 in
    let f = and_parts _ _ d.1 in
    let g = and_parts _ _ f.1 in
    let h = and_parts _ _ g.1 in
    let i = and_parts _ _ h.1 in
    let j = and_parts _ _ i.1 in
    let k = and_parts _ _ j.1 in
    one-of-them test (number == 1) helds.TgsReq _ held a.0
    (one-of-them test (number == 2) helds.EncTimestamp _ held b.0
    (one-of-them test (number == 3) helds.Salt _ held c.0
    (one-of-them test (number == 11) helds.EtypeInfo _ held d.0
    (one-of-them test (number == 19) helds.EtypeInfo2 _ held f.0
    (one-of-them test (number == 128) helds.PacRequest _ held g.0
    (one-of-them test (number == 129) helds.ForUser _ held h.0
    (one-of-them test (number == 136) fast _ held i.0
    (one-of-them test (number == 138) helds.EncryptedChallenge _ held j.0
    (one-of-them test (number == 167) helds.PacOptions None held k.0 (λ e. absurd cc)))))))))) e

held-of : (test : Held → Bool) (holder : Holder) (number : ℕ) (held : Held) → list_all test (helds_of holder) ≡ true → held_by holder number ≡ Some held → test held ≡ true
held-of test holders.RequestPadata number held all e = held-of-padata test helds.FastRequest number held all e
held-of test holders.Padata number held all e = held-of-padata test helds.FastReply number held all e
held-of test holders.ErrorData number held all e = one-of-them test ((number == 24) || (number == 25)) helds.MethodData None held (and_parts _ _ all).0 (λ e. absurd cc) e
held-of test holders.Armor number held all e = one-of-them test (number == 1) helds.ApReq None held (and_parts _ _ all).0 (λ e. absurd cc) e

held-after : (test : Held → Bool) (holder : Holder) (number : Option ℤ) (held : Held) → list_all test (helds_of holder) ≡ true → held_after holder number ≡ Some held → test held ≡ true
held-after test holder (Some (pos number)) held all e = held-of test holder number held all e
held-after test holder other held all e = absurd cc

-- octets that are opened are of what they are to hold
opens-as : (found : Option Held) (octets : List ℕ) (held : Held) → opened_if found octets ≡ Some held → (found ≡ Some held) × (is_held held octets ≡ true)
opens-as None octets held e = absurd cc
opens-as (Some found) octets held e = by (is_held found octets) refl e
  where
    by : (is : Bool) → is_held found octets ≡ is → cond is (Some found) None ≡ Some held → (Some found ≡ Some held) × (is_held held octets ≡ true)
    by true same e = let one : found ≡ held = cc in (e, subst (λ (h : Held). is_held h octets ≡ true) one same)
    by false same e = absurd cc

-- a leaf that is opened is an OCTET STRING
pub record Opens (inner : ItemType → Bool) (term : Term) (octets : List ℕ) (held : Held) : Type 0 where
  pub is : is_held held octets ≡ true
  pub nested : inner (held_type held) ≡ true
  pub octet_string : term ≡ Octets

holder-octets : (holder : Holder) (term : Term) → is_leaf (leaves.Holder holder) term ≡ true → term ≡ Octets
holder-octets holder Octets e = refl
holder-octets holder other e = absurd cc

pub leaf-opens : (inner : ItemType → Bool) (number : Option ℤ) (leaf : Leaf) (term : Term) (octets : List ℕ) (held : Held) → leaf_nests inner leaf ≡ true → is_leaf leaf term ≡ true → opened number leaf octets ≡ Some held → Opens inner term octets held
leaf-opens inner number (leaves.Holder holder) term octets held n l e =
    let o : (held_after holder number ≡ Some held) × (is_held held octets ≡ true) = opens-as (held_after holder number) octets held e in
    record { is = o.1; nested = held-after (λ held. inner (held_type held)) holder number held n o.0; octet_string = holder-octets holder term l }
leaf-opens inner number other term octets held n l e = absurd cc

pub leaf-holds : (inner : ItemType → Bool) (number : Option ℤ) (leaf : Leaf) (octets : List ℕ) (held : Held) → leaf_nests inner leaf ≡ true → opened number leaf octets ≡ Some held → inner (held_type held) ≡ true
leaf-holds inner number (leaves.Holder holder) octets held n e = held-after (λ held. inner (held_type held)) holder number held n (opens-as (held_after holder number) octets held e).0
leaf-holds inner number other octets held n e = absurd cc

-- ---- tags
pub tag-octet : (tag : Tag) (term : Term) → is_small tag ≡ true → is_tag tag term ≡ true → octet_of tag ≡ tag_of term
tag-octet tags.Integer (Integer low high) s e = refl
tag-octet tags.GeneralString (Text greatest) s e = refl
tag-octet tags.OctetString Octets s e = refl
tag-octet tags.GeneralizedTime Time s e = refl
tag-octet tags.BitString (Bits least) s e = refl
tag-octet tags.Sequence (Sequence fields) s e = refl
tag-octet tags.SequenceOf (SequenceOf empty term) s e = refl
tag-octet (tags.Context index) (Tagged i term) s e = omega (arith, ltb-true index 32 s, eqb-true index i e)
tag-octet (tags.Application number) (Application n term) s e = omega (arith, ltb-true number 32 s, eqb-true number n e)
tag-octet tag term s e = absurd cc

-- no explicit tag
abbrev pub is_plain : Term → Bool
is_plain (Tagged index term) = false
is_plain (Application number term) = false
is_plain term = true

plain-last : (tag : Tag) (tags : List Tag) (shape : Shape) (names : Option Names) (term : Term) → is_plain term ≡ true → is_of (tag ∷ tags) shape names term ≡ true → (tags ≡ []) × (is_tag tag term ≡ true)
plain-last tag [] (shapes.Sequence sequence) names (Sequence fields) p e = (refl, (and_parts _ _ e).0)
plain-last tag [] (shapes.List list) names (SequenceOf empty term) p e = (refl, (and_parts _ _ e).0)
plain-last tag [] (shapes.Leaf leaf) names (Integer low high) p e = (refl, (and_parts _ _ e).0)
plain-last tag [] (shapes.Leaf leaf) names (Text greatest) p e = (refl, (and_parts _ _ e).0)
plain-last tag [] (shapes.Leaf leaf) names Octets p e = (refl, (and_parts _ _ e).0)
plain-last tag [] (shapes.Leaf leaf) names Time p e = (refl, (and_parts _ _ e).0)
plain-last tag [] (shapes.Leaf leaf) names (Bits least) p e = (refl, (and_parts _ _ e).0)
plain-last tag [] (shapes.Leaf leaf) names (Sequence fields) p e = (refl, (and_parts _ _ e).0)
plain-last tag [] (shapes.Leaf leaf) names (SequenceOf empty term) p e = (refl, (and_parts _ _ e).0)
plain-last tag tags shape names (Integer low high) p e = absurd cc
plain-last tag tags shape names (Text greatest) p e = absurd cc
plain-last tag tags shape names Octets p e = absurd cc
plain-last tag tags shape names Time p e = absurd cc
plain-last tag tags shape names (Bits least) p e = absurd cc
plain-last tag tags shape names (Sequence fields) p e = absurd cc
plain-last tag tags shape names (SequenceOf empty term) p e = absurd cc
plain-last tag tags shape names (Tagged index term) p e = absurd cc
plain-last tag tags shape names (Application number term) p e = absurd cc

-- ---- the heads of an item of a term
-- the item in all explicit tags, of a term that is none
pub record Inside (limit : ℕ) (begun : Begun) (tags : List Tag) (shape : Shape) (names : Option Names) (term : Term) (value : Value term) (more : List ℕ) : Type 0 where
  pub last : Tag
  pub inner : Term
  pub inner_value : Value inner
  pub fits : Fits inner inner_value
  pub clear : is_unambiguous inner ≡ true
  pub plain : is_plain inner ≡ true
  pub is : is_of (last ∷ []) shape names inner ≡ true
  pub reads : Reads limit begun tags (der term value) more (contents inner inner_value)

inside-plain : (limit : ℕ) (begun : Begun) (tag : Tag) (tags : List Tag) (shape : Shape) (names : Option Names) (term : Term) (value : Value term) (more : List ℕ) → is_plain term ≡ true → is_small tag ≡ true → is_of (tag ∷ tags) shape names term ≡ true → is_unambiguous term ≡ true → Fits term value
    → length (der term value) < 2 ^ 32 → begun.next + length (der term value) ≤ limit → Inside limit begun (tag ∷ tags) shape names term value more
inside-plain limit begun tag tags shape names term value more plain small is clear fits short within =
    let l : (tags ≡ []) × (is_tag tag term ≡ true) = plain-last tag tags shape names term plain is in
    let t : octet_of tag ≡ tag_of term = tag-octet tag term small l.1 in
    let same : item (octet_of tag) (contents term value) ≡ der term value = ap (λ octet. item octet (contents term value)) t ∙ sym (der_is term value) in
    let n : length (item (octet_of tag) (contents term value)) ≡ length (der term value) = ap length same in
    record {
      last = tag;
      inner = term;
      inner_value = value;
      fits = fits;
      clear = clear;
      plain = plain;
      is = subst (λ (ts : List Tag). is_of (tag ∷ ts) shape names term ≡ true) l.0 is;
      reads = subst (λ (ts : List Tag). Reads limit begun (tag ∷ ts) (der term value) more (contents term value)) (sym l.0)
          (subst (λ (own : List ℕ). Reads limit begun (tag ∷ []) own more (contents term value)) same
          (reads-last limit begun tag (contents term value) more (omega (arith, n, short, length-item (octet_of tag) (contents term value))) (omega (arith, n, within))));
    }

-- one more explicit tag
inside-tagged : (limit : ℕ) (begun : Begun) (tag : Tag) (tags : List Tag) (shape : Shape) (names : Option Names) (outer : Term) (outer_value : Value outer) (term : Term) (value : Value term) (more : List ℕ) → octet_of tag ≡ tag_of outer → der outer outer_value ≡ item (tag_of outer) (der term value)
    → length (der term value) < 2 ^ 32 → begun.next + length (item (tag_of outer) (der term value)) ≤ limit
    → Inside limit (with_head begun tag (head_of (octet_of tag) (length (der term value))) (Some (length (der term value)))) tags shape names term value [] → Inside limit begun (tag ∷ tags) shape names outer outer_value more
inside-tagged limit begun tag tags shape names outer outer_value term value more t form short within i =
    let same : item (octet_of tag) (der term value) ≡ der outer outer_value = ap (λ octet. item octet (der term value)) t ∙ sym form in
    record {
      last = i.last;
      inner = i.inner;
      inner_value = i.inner_value;
      fits = i.fits;
      clear = i.clear;
      plain = i.plain;
      is = i.is;
      reads = subst (λ (own : List ℕ). Reads limit begun (tag ∷ tags) own more (contents i.inner i.inner_value)) same
          (reads-more limit begun tag tags (der term value) more (contents i.inner i.inner_value) short (subst (λ (octet : ℕ). begun.next + length (item octet (der term value)) ≤ limit) (sym t) within) i.reads);
    }

pub inside : (limit : ℕ) (begun : Begun) (tags : List Tag) (shape : Shape) (names : Option Names) (term : Term) (value : Value term) (more : List ℕ) → list_all is_small tags ≡ true → is_of tags shape names term ≡ true → is_unambiguous term ≡ true → Fits term value
    → length (der term value) < 2 ^ 32 → begun.next + length (der term value) ≤ limit → Inside limit begun tags shape names term value more
inside limit begun (tag ∷ tags) shape names (Tagged index term) value more small is clear fits short within =
    let s = and_parts (is_small tag) (list_all is_small tags) small in
    let p = and_parts (is_tag tag (Tagged index term)) (is_of tags shape names term) is in
    let n : length (item (0xA0 + index) (der term value)) ≡ 1 + length (length_octets (length (der term value))) + length (der term value) = length-item (0xA0 + index) (der term value) in
    inside-tagged limit begun tag tags shape names (Tagged index term) value term value more (tag-octet tag (Tagged index term) s.0 p.0) refl (omega (arith, n, short)) within
    (inside limit (with_head begun tag (head_of (octet_of tag) (length (der term value))) (Some (length (der term value)))) tags shape names term value [] s.1 p.1 clear fits (omega (arith, n, short)) (omega (arith, n, within)))
inside limit begun (tag ∷ tags) shape names (Application number term) value more small is clear fits short within =
    let s = and_parts (is_small tag) (list_all is_small tags) small in
    let p = and_parts (is_tag tag (Application number term)) (is_of tags shape names term) is in
    let n : length (item (0x60 + number) (der term value)) ≡ 1 + length (length_octets (length (der term value))) + length (der term value) = length-item (0x60 + number) (der term value) in
    inside-tagged limit begun tag tags shape names (Application number term) value term value more (tag-octet tag (Application number term) s.0 p.0) refl (omega (arith, n, short)) within
    (inside limit (with_head begun tag (head_of (octet_of tag) (length (der term value))) (Some (length (der term value)))) tags shape names term value [] s.1 p.1 clear fits (omega (arith, n, short)) (omega (arith, n, within)))
inside limit begun (tag ∷ tags) shape names (Integer low high) value more small is clear fits short within = inside-plain limit begun tag tags shape names (Integer low high) value more refl (and_parts _ _ small).0 is clear fits short within
inside limit begun (tag ∷ tags) shape names (Text greatest) value more small is clear fits short within = inside-plain limit begun tag tags shape names (Text greatest) value more refl (and_parts _ _ small).0 is clear fits short within
inside limit begun (tag ∷ tags) shape names Octets value more small is clear fits short within = inside-plain limit begun tag tags shape names Octets value more refl (and_parts _ _ small).0 is clear fits short within
inside limit begun (tag ∷ tags) shape names Time value more small is clear fits short within = inside-plain limit begun tag tags shape names Time value more refl (and_parts _ _ small).0 is clear fits short within
inside limit begun (tag ∷ tags) shape names (Bits least) value more small is clear fits short within = inside-plain limit begun tag tags shape names (Bits least) value more refl (and_parts _ _ small).0 is clear fits short within
inside limit begun (tag ∷ tags) shape names (Sequence fields) value more small is clear fits short within = inside-plain limit begun tag tags shape names (Sequence fields) value more refl (and_parts _ _ small).0 is clear fits short within
inside limit begun (tag ∷ tags) shape names (SequenceOf empty term) value more small is clear fits short within = inside-plain limit begun tag tags shape names (SequenceOf empty term) value more refl (and_parts _ _ small).0 is clear fits short within
inside limit begun [] shape names term value more small is clear fits short within = absurd cc

-- ---- what an item begins with
first-tag : (tag : Tag) (tags : List Tag) (shape : Shape) (names : Option Names) (term : Term) → is_of (tag ∷ tags) shape names term ≡ true → is_tag tag term ≡ true
first-tag tag tags shape names (Tagged index term) is = (and_parts _ _ is).0
first-tag tag tags shape names (Application number term) is = (and_parts _ _ is).0
first-tag tag tags shape names (Integer low high) is = (plain-last tag tags shape names (Integer low high) refl is).1
first-tag tag tags shape names (Text greatest) is = (plain-last tag tags shape names (Text greatest) refl is).1
first-tag tag tags shape names Octets is = (plain-last tag tags shape names Octets refl is).1
first-tag tag tags shape names Time is = (plain-last tag tags shape names Time refl is).1
first-tag tag tags shape names (Bits least) is = (plain-last tag tags shape names (Bits least) refl is).1
first-tag tag tags shape names (Sequence fields) is = (plain-last tag tags shape names (Sequence fields) refl is).1
first-tag tag tags shape names (SequenceOf empty term) is = (plain-last tag tags shape names (SequenceOf empty term) refl is).1

pub begins-with : (tags : List Tag) (shape : Shape) (names : Option Names) (term : Term) (octets : List ℕ) → list_all is_small tags ≡ true → is_of tags shape names term ≡ true → begins_as tags octets ≡ begins_with (tag_of term) octets
begins-with [] shape names term octets small is = absurd cc
begins-with (tag ∷ tags) shape names term octets small is = ap (λ octet. begins_with octet octets) (tag-octet tag term (and_parts _ _ small).0 (first-tag tag tags shape names term is))

pub begins-as : (tags : List Tag) (shape : Shape) (names : Option Names) (term : Term) (value : Value term) (more : List ℕ) → list_all is_small tags ≡ true → is_of tags shape names term ≡ true → begins_as tags (der term value ++ more) ≡ true
begins-as tags shape names term value more small is =
    begins-with tags shape names term (der term value ++ more) small is ∙ ap (λ own. begins_with (tag_of term) (own ++ more)) (der_is term value) ∙ eq-eqb (tag_of term) (tag_of term) refl

pub count-der : (term : Term) (value : Value term) (more : List ℕ) → length (der term value) < 2 ^ 32 → count_in (der term value ++ more) ≡ length (der term value)
count-der term value more short =
    ap (λ own. count_in (own ++ more)) (der_is term value)
    ∙ count-item (tag_of term) (contents term value) more (omega (arith, ap length (der_is term value), short, length-item (tag_of term) (contents term value)))
    ∙ ap length (sym (der_is term value))
