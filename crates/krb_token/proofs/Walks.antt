-- The items of a SEQUENCE OF and the fields of a SEQUENCE, read one after another.
use Rattle.std.proofs.Common.{◌≡◌, ℕ, suc, ◌+◌, ◌-◌, ◌<◌, ◌≤◌, true, false, List, [], ◌∷◌, length, Result, Ok, Err, Option, refl, sym, ◌∙◌, ap, arith}
use Rattle.krb_der.specs.Octets.{begins_with}
use Rattle.krb_der.specs.declared.why.Why.TheVariants as why
use Rattle.krb_judge.specs.Paths.{element_path}
use Rattle.krb_token.specs.Spnego.{Holds, Fields, Field, fields_read, held}
use Rattle.krb_token.specs.Items.{Item, entered, simple_tag, simple_item, simple_items}
use Rattle.krb_token.specs.Opened.{Part, Fault, fault_in, and_then}
use Rattle.krb_token.specs.declared.simple.Simple.{Simple}

-- ---- items
items_first : (type : Simple) (path : List ℕ) (bound index : ℕ) (part : Part) (octets : List ℕ) → begins_with (simple_tag type) octets ≡ true →
    simple_items type path (suc bound) index part octets ≡ and_then (simple_item type (element_path path index) false part) (λ item. simple_items type path bound (index + 1) item.rest item.rest.octets)
items_first type path bound index part [] t = absurd cc
items_first type path bound index part (octet ∷ octets) t = rw t refl

items_other : (type : Simple) (path : List ℕ) (bound index : ℕ) (part : Part) (octets : List ℕ) → begins_with (simple_tag type) octets ≡ false → 0 < length octets →
    simple_items type path (suc bound) index part octets ≡ Err (fault_in path part.place why.Tag)
items_other type path bound index part [] t some = absurd (omega arith)
items_other type path bound index part (octet ∷ octets) t some = rw t refl

-- one more may follow, since octets are left
one_more : (n index left : ℕ) → 0 < left → index + left ≤ n → n - index ≡ suc (n - (index + 1))
one_more n index left some fits = omega arith

some_from_tag : (tag : ℕ) (octets : List ℕ) → begins_with tag octets ≡ true → 0 < length octets
some_from_tag tag [] t = absurd cc
some_from_tag tag (octet ∷ octets) t = omega arith

read_first : (type : Simple) (path own : List ℕ) (n index : ℕ) (part : Part) (read : Result Item Fault) → begins_with (simple_tag type) part.octets ≡ true → index + length part.octets ≤ n → own ≡ element_path path index → simple_item type own false part ≡ read →
    simple_items type path (n - index) index part part.octets ≡ and_then read (λ item. simple_items type path (n - (index + 1)) (index + 1) item.rest item.rest.octets)
read_first type path own n index part read t fits o e =
    ap (λ bound. simple_items type path bound index part part.octets) (one_more n index (length part.octets) (some_from_tag (simple_tag type) part.octets t) fits)
    ∙ items_first type path (n - (index + 1)) index part part.octets t
    ∙ ap (λ found. and_then found (λ item. simple_items type path (n - (index + 1)) (index + 1) item.rest item.rest.octets)) (ap (λ p. simple_item type p false part) (sym o) ∙ e)

-- an item that was read is followed by the others
pub items_read : (type : Simple) (path own : List ℕ) (n index : ℕ) (part : Part) (item : Item) → begins_with (simple_tag type) part.octets ≡ true → index + length part.octets ≤ n → own ≡ element_path path index → simple_item type own false part ≡ Ok item →
    simple_items type path (n - index) index part part.octets ≡ simple_items type path (n - (index + 1)) (index + 1) item.rest item.rest.octets
items_read type path own n index part item t fits o e = read_first type path own n index part (Ok item) t fits o e

pub items_fault : (type : Simple) (path own : List ℕ) (n index : ℕ) (part : Part) (fault : Fault) → begins_with (simple_tag type) part.octets ≡ true → index + length part.octets ≤ n → own ≡ element_path path index → simple_item type own false part ≡ Err fault →
    simple_items type path (n - index) index part part.octets ≡ Err fault
items_fault type path own n index part fault t fits o e = read_first type path own n index part (Err fault) t fits o e

pub items_of_another_tag : (type : Simple) (path : List ℕ) (n index : ℕ) (part : Part) → begins_with (simple_tag type) part.octets ≡ false → 0 < length part.octets → index + length part.octets ≤ n →
    simple_items type path (n - index) index part part.octets ≡ Err (fault_in path part.place why.Tag)
items_of_another_tag type path n index part t some fits =
    ap (λ bound. simple_items type path bound index part part.octets) (one_more n index (length part.octets) some fits)
    ∙ items_other type path (n - (index + 1)) index part part.octets t some

-- ---- fields
pub field_absent : (tag : ℕ) (own : List ℕ) (holds : Holds) (fields : Fields) (path : List ℕ) (token : Option Part) (part : Part) → begins_with tag part.octets ≡ false →
    fields_read (Field tag own holds fields) path token part ≡ fields_read fields path token part
field_absent tag own holds fields path token part t = rw t refl

field_first : (tag : ℕ) (own : List ℕ) (holds : Holds) (fields : Fields) (path : List ℕ) (token : Option Part) (part : Part) (read : Result Item Fault) → begins_with tag part.octets ≡ true → entered own tag false part ≡ read →
    fields_read (Field tag own holds fields) path token part ≡ and_then read (λ item. and_then (held holds own token item.contents) (λ found. fields_read fields path found item.rest))
field_first tag own holds fields path token part read t e = rw (t, e) refl

pub field_read : (tag : ℕ) (own : List ℕ) (holds : Holds) (fields : Fields) (path : List ℕ) (token found : Option Part) (part : Part) (item : Item) → begins_with tag part.octets ≡ true → entered own tag false part ≡ Ok item → held holds own token item.contents ≡ Ok found →
    fields_read (Field tag own holds fields) path token part ≡ fields_read fields path found item.rest
field_read tag own holds fields path token found part item t e h =
    field_first tag own holds fields path token part (Ok item) t e ∙ ap (λ it. and_then it (λ found. fields_read fields path found item.rest)) h
