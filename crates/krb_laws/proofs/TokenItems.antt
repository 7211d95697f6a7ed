-- Items as they are read of parts, and as X.690 has them.
use Rattle.std.proofs.Common.{◌≡◌, ℕ, ◌+◌, ◌-◌, ◌^◌, ◌<◌, ◌≤◌, ◌⊎◌, inl, inr, ◌==◌, Bool, true, false, ◌&&◌, ltb, List, [], ◌∷◌, ◌++◌, length, take, drop, Ok, Err, refl, sym, ◌∙◌, ap, subst, arith, length-append, append-nil, take-append-drop}
use Rattle.std.proofs.lemmas.Bool.{cases_Bool, eqb-true, eq-eqb, le-ltb, ltb-false}
use Rattle.std.proofs.lemmas.List.{take_at, drop_at, length-take-le, length-drop, drop-drop, nil_from_length}
use Rattle.krb_der.specs.Octets.{AreOctets, item, length_octets}
use Rattle.krb_der.specs.inner.Items.{length-item, item-append, same_from_cons}
use Rattle.krb_der.specs.declared.why.Why.TheVariants as why
use Rattle.krb_msg.proofs.Heads.{head-length_octets, IsHead, IsHead-head}
use Rattle.krb_msg.specs.Judgement.{Head, Got, head}
use Rattle.krb_token.specs.Items.{Item, item_after, item_of_head, entered}
use Rattle.krb_token.specs.Opened.{Part, fault_in}
use Rattle.krb_laws.specs.Opened.{IsItem, BeginsWithItem}

abbrev pub part_at : ℕ → List ℕ → Part
part_at place octets = record { place = place; octets = octets }

pub header_of : List ℕ → ℕ
header_of contents = 1 + length (length_octets (length contents))

-- ---- from X.690
got_is_item : (path : List ℕ) (sole : Bool) (part : Part) (header size : ℕ) → (sole && ltb (header + size) (length part.octets)) ≡ false → item_of_head path sole part (Got header size) ≡ Ok (item_after header size part)
got_is_item path sole part header size t = rw t refl

fills : (sole : Bool) (room all : ℕ) → (sole ≡ true → room ≡ all) → (sole && ltb all room) ≡ false
fills true room all h = le-ltb all room (omega (arith, h refl))
fills false room all h = refl

entered_head : (path : List ℕ) (tag : ℕ) (sole : Bool) (place : ℕ) (octets : List ℕ) → entered path tag sole (part_at place (tag ∷ octets)) ≡ item_of_head path sole (part_at place (tag ∷ octets)) (head (length (tag ∷ octets)) (tag ∷ octets))
entered_head path tag sole place octets = rw (eq-eqb tag tag refl) refl

-- the contents of an item and what follows it, which are of their lengths
contents_of_form : (tag : ℕ) (contents rest : List ℕ) → take (length contents) (drop (header_of contents) (tag ∷ (length_octets (length contents) ++ (contents ++ rest)))) ≡ contents
unfolding header_of
contents_of_form tag contents rest =
    let e : drop (header_of contents) (tag ∷ (length_octets (length contents) ++ (contents ++ rest))) ≡ contents ++ rest = drop_at (tag ∷ length_octets (length contents)) (contents ++ rest) (header_of contents) (omega arith) in
    ap (take (length contents)) e ∙ take_at contents rest (length contents) refl

rest_of_form : (tag : ℕ) (contents rest : List ℕ) → drop (header_of contents + length contents) (tag ∷ (length_octets (length contents) ++ (contents ++ rest))) ≡ rest
unfolding header_of
rest_of_form tag contents rest =
    let e : drop (header_of contents) (tag ∷ (length_octets (length contents) ++ (contents ++ rest))) ≡ contents ++ rest = drop_at (tag ∷ length_octets (length contents)) (contents ++ rest) (header_of contents) (omega arith) in
    sym (drop-drop (length contents) (header_of contents) (tag ∷ (length_octets (length contents) ++ (contents ++ rest)))) ∙ ap (drop (length contents)) e ∙ drop_at contents rest (length contents) refl

abbrev item_at : ℕ → (contents rest : List ℕ) → Item
item_at place contents rest = record { contents = part_at (place + header_of contents) contents; rest = part_at (place + header_of contents + length contents) rest }

item_after_form : (place tag : ℕ) (contents rest : List ℕ) → item_after (header_of contents) (length contents) (part_at place (tag ∷ (length_octets (length contents) ++ (contents ++ rest)))) ≡ item_at place contents rest
item_after_form place tag contents rest = rw (contents_of_form tag contents rest, rest_of_form tag contents rest) refl

entered_form : (path : List ℕ) (tag : ℕ) (sole : Bool) (place : ℕ) (contents rest : List ℕ) → length (item tag contents ++ rest) < 2 ^ 32 → (sole ≡ true → rest ≡ []) →
    entered path tag sole (part_at place (item tag contents ++ rest)) ≡ Ok (item_at place contents rest)
unfolding header_of
entered_form path tag sole place contents rest small fill =
    let octets : List ℕ = length_octets (length contents) ++ (contents ++ rest) in
    let l : length (tag ∷ octets) ≡ header_of contents + length contents + length rest = simp length-append (omega arith) in
    let s : length contents < 2 ^ 32 = omega (arith, ap length (item-append tag contents rest)) in
    let h : head (length (tag ∷ octets)) (tag ∷ octets) ≡ Got (header_of contents) (length contents) = head-length_octets (length (tag ∷ octets)) tag (length contents) (contents ++ rest) s (omega arith) in
    ap (λ o. entered path tag sole (part_at place o)) (item-append tag contents rest)
    ∙ entered_head path tag sole place octets
    ∙ ap (item_of_head path sole (part_at place (tag ∷ octets))) h
    ∙ got_is_item path sole (part_at place (tag ∷ octets)) (header_of contents) (length contents) (fills sole (length (tag ∷ octets)) (header_of contents + length contents) (λ t. omega (arith, l, ap length (fill t))))
    ∙ ap Ok (item_after_form place tag contents rest)

item_placed : (place : ℕ) (contents rest : Part) → place + header_of contents.octets ≡ contents.place → contents.place + length contents.octets ≡ rest.place → item_at place contents.octets rest.octets ≡ record { contents = contents; rest = rest }
item_placed place contents rest e f = rw (e, f) refl

-- An item of X.690 is read.
pub entered_item : (path : List ℕ) (tag : ℕ) (sole : Bool) (part contents rest : Part) → BeginsWithItem tag part contents rest → length part.octets < 2 ^ 32 → (sole ≡ true → rest.octets ≡ []) →
    entered path tag sole part ≡ Ok (record { contents = contents; rest = rest })
unfolding header_of
entered_item path tag sole part contents rest begins small fill =
    let l : length part.octets ≡ header_of contents.octets + length contents.octets + length rest.octets = ap length begins.form ∙ ap length (item-append tag contents.octets rest.octets) ∙ simp length-append (omega arith) in
    let read : entered path tag sole part ≡ Ok (item_at part.place contents.octets rest.octets) =
    ap (λ o. entered path tag sole (part_at part.place o)) begins.form ∙ entered_form path tag sole part.place contents.octets rest.octets (omega (arith, ap length begins.form)) fill in
    read ∙ ap Ok (item_placed part.place contents rest (omega (arith, l, begins.followed, begins.ends)) begins.followed)

-- ---- back to X.690
-- what was read is an item, which fills the part if it is to be the sole one
pub record IsRead (tag : ℕ) (sole : Bool) (part : Part) (found : Item) : Type 0 where
  pub begins : BeginsWithItem tag part found.contents found.rest
  pub fills : sole ≡ true → found.rest.octets ≡ []

record IsGot (path : List ℕ) (sole : Bool) (part : Part) (read : Head) (found : Item) : Type 0 where
  header : ℕ
  size : ℕ
  got : read ≡ Got header size
  after : found ≡ item_after header size part
  room : sole ≡ true → length part.octets ≤ header + size

got_back : (path : List ℕ) (sole : Bool) (part : Part) (read : Head) (found : Item) → item_of_head path sole part read ≡ Ok found → IsGot path sole part read found
got_back path sole part (Got header size) found e = go (cases_Bool (sole && ltb (header + size) (length part.octets)))
  where
    go : (sole && ltb (header + size) (length part.octets) ≡ true) ⊎ (sole && ltb (header + size) (length part.octets) ≡ false) → IsGot path sole part (Got header size) found
    go (inl t) = let f : Err (fault_in path (part.place + (header - 1)) why.Loose) ≡ Ok found = rw t at e in absurd cc
    go (inr t) =
        let f : Ok (item_after header size part) ≡ Ok found = rw t at e in
        record { header = header; size = size; got = refl; after = cc; room = λ s. ltb-false (header + size) (length part.octets) (rw s at t) }
got_back path sole part other found e = absurd cc

is_read : (tag : ℕ) (sole : Bool) (place : ℕ) (contents rest : List ℕ) → (sole ≡ true → rest ≡ []) → IsRead tag sole (part_at place (item tag contents ++ rest)) (item_at place contents rest)
unfolding header_of
is_read tag sole place contents rest fill = record {
  begins = record { form = refl; followed = refl; ends = omega (arith, ap length (item-append tag contents rest), length-append (length_octets (length contents)) (contents ++ rest), length-append contents rest) };
  fills = fill;
}

with_octets : (tag : ℕ) (sole : Bool) (place : ℕ) (octets form : List ℕ) (found it : Item) → octets ≡ form → found ≡ it → IsRead tag sole (part_at place form) it → IsRead tag sole (part_at place octets) found
with_octets tag sole place octets form found it e f h = rw (e, f) h

item_back : (tag : ℕ) (sole : Bool) (place : ℕ) (octets : List ℕ) (found : Item) (header size : ℕ) → IsHead (length (tag ∷ octets)) header size (tag ∷ octets) → found ≡ item_after header size (part_at place (tag ∷ octets)) → (sole ≡ true → length (tag ∷ octets) ≤ header + size) → IsRead tag sole (part_at place (tag ∷ octets)) found
unfolding header_of
item_back tag sole place octets found header size is after room =
    let tail : octets ≡ length_octets size ++ is.rest = (same_from_cons tag is.tag octets (length_octets size ++ is.rest) is.parts).1 in
    let all : length octets ≡ length (length_octets size) + length is.rest = ap length tail ∙ length-append (length_octets size) is.rest in
    let n : length (take size is.rest) ≡ size = length-take-le size is.rest (omega (arith, is.within, is.counted, all)) in
    let parts : octets ≡ length_octets (length (take size is.rest)) ++ (take size is.rest ++ drop size is.rest) = rw (n, take-append-drop size is.rest) tail in
    let head : header ≡ header_of (take size is.rest) = rw n is.counted in
    let after_parts : item_after header size (part_at place (tag ∷ octets)) ≡ item_after (header_of (take size is.rest)) (length (take size is.rest)) (part_at place (tag ∷ (length_octets (length (take size is.rest)) ++ (take size is.rest ++ drop size is.rest)))) =
    after_equal header (header_of (take size is.rest)) size (length (take size is.rest)) octets _ head (sym n) parts in
    with_octets tag sole place (tag ∷ octets) (item tag (take size is.rest) ++ drop size is.rest) found (item_at place (take size is.rest) (drop size is.rest))
    (ap (λ o. tag ∷ o) parts ∙ sym (item-append tag (take size is.rest) (drop size is.rest)))
    (after ∙ after_parts ∙ item_after_form place tag (take size is.rest) (drop size is.rest))
    (is_read tag sole place (take size is.rest) (drop size is.rest) (λ t. nil_from_length (drop size is.rest) (omega (arith, room t, is.counted, all, length-drop size is.rest))))
  where
    after_equal : (header other size same : ℕ) (octets parts : List ℕ) → header ≡ other → size ≡ same → octets ≡ parts → item_after header size (part_at place (tag ∷ octets)) ≡ item_after other same (part_at place (tag ∷ parts))
    after_equal header other size same octets parts e f g = rw (e, f, g) refl

in_back : (path : List ℕ) (tag : ℕ) (sole : Bool) (place : ℕ) (octets : List ℕ) (found : Item) → AreOctets octets → entered path tag sole (part_at place octets) ≡ Ok found → IsRead tag sole (part_at place octets) found
in_back path tag sole place [] found a e = absurd cc
in_back path tag sole place (octet ∷ octets) found a e = go (cases_Bool (octet == tag))
  where
    go : ((octet == tag) ≡ true) ⊎ ((octet == tag) ≡ false) → IsRead tag sole (part_at place (octet ∷ octets)) found
    go (inl t) =
        let same : octet ≡ tag = eqb-true octet tag t in
        let f : item_of_head path sole (part_at place (octet ∷ octets)) (head (length (octet ∷ octets)) (octet ∷ octets)) ≡ Ok found = rw t at e in
        let got = got_back path sole (part_at place (octet ∷ octets)) (head (length (octet ∷ octets)) (octet ∷ octets)) found f in
        let is : IsHead (length (octet ∷ octets)) got.header got.size (octet ∷ octets) = IsHead-head (length (octet ∷ octets)) got.header got.size (octet ∷ octets) a got.got in
        rw (← same) (item_back octet sole place octets found got.header got.size is got.after got.room)
    go (inr t) = let f : Err (fault_in path place why.Tag) ≡ Ok found = rw t at e in absurd cc

pub entered_back : (path : List ℕ) (tag : ℕ) (sole : Bool) (part : Part) (found : Item) → AreOctets part.octets → entered path tag sole part ≡ Ok found → IsRead tag sole part found
entered_back path tag sole part found a e = in_back path tag sole part.place part.octets found a e

-- ---- parts that are made of others
octets_of_append : (xs ys : List ℕ) → AreOctets (xs ++ ys) → AreOctets xs × AreOctets ys
octets_of_append [] ys a = (tt, a)
octets_of_append (x ∷ xs) ys a = let b = octets_of_append xs ys a.1 in ((a.0, b.0), b.1)

octets_of_item : (tag : ℕ) (contents rest : List ℕ) → AreOctets (tag ∷ (length_octets (length contents) ++ (contents ++ rest))) → AreOctets contents × AreOctets rest
octets_of_item tag contents rest a = octets_of_append contents rest (octets_of_append (length_octets (length contents)) (contents ++ rest) a.1).1

pub octets_of_contents : (tag : ℕ) (part contents rest : Part) → BeginsWithItem tag part contents rest → AreOctets part.octets → AreOctets contents.octets × AreOctets rest.octets
octets_of_contents tag part contents rest is a = octets_of_item tag contents.octets rest.octets (subst AreOctets (is.form ∙ item-append tag contents.octets rest.octets) a)

pub small_contents : (tag : ℕ) (part contents rest : Part) → BeginsWithItem tag part contents rest → length part.octets < 2 ^ 32 → (length contents.octets < 2 ^ 32) × (length rest.octets < 2 ^ 32)
small_contents tag part contents rest is small =
    let l : length part.octets ≡ length (item tag contents.octets) + length rest.octets = ap length is.form ∙ length-append (item tag contents.octets) rest.octets in
    (omega (arith, l, length-item tag contents.octets), omega (arith, l))

-- the parts of octets that begin with an item
pub placed : (tag : ℕ) (part : Part) (contents rest : List ℕ) → part.octets ≡ item tag contents ++ rest → BeginsWithItem tag part (part_at (part.place + header_of contents) contents) (part_at (part.place + header_of contents + length contents) rest)
unfolding header_of
placed tag part contents rest e = record { form = e; followed = refl; ends = omega (arith, ap length e, length-append (item tag contents) rest, length-item tag contents) }

-- a part that is one item
pub begins_alone : (tag : ℕ) (part contents : Part) → IsItem tag part contents → BeginsWithItem tag part contents (part_at (part.place + length part.octets) [])
begins_alone tag part contents is = record { form = is.form ∙ sym (append-nil (item tag contents.octets)); followed = is.ends; ends = omega arith }

pub alone_back : (tag : ℕ) (part : Part) (found : Item) → IsRead tag true part found → IsItem tag part found.contents
alone_back tag part found is =
    let none : found.rest.octets ≡ [] = is.fills refl in
    record {
      form = is.begins.form ∙ ap (λ o. item tag found.contents.octets ++ o) none ∙ append-nil (item tag found.contents.octets);
      ends = omega (arith, is.begins.followed, is.begins.ends, ap length none);
    }
