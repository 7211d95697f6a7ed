-- Lengths of several octets, and the first of several items.
use Rattle.std.proofs.Common.{◌≡◌, ℕ, suc, ◌+◌, ◌-◌, ◌*◌, ◌^◌, ◌<◌, ◌≤◌, ◌⊎◌, inl, inr, List, [], ◌∷◌, ◌++◌, length, take, drop, get_or, refl, sym, ◌∙◌, ap, arith, append-nil, append_assoc, length-append, ◌≢◌}
use Rattle.std.proofs.lemmas.Bool.{cases_lt}
use Rattle.std.proofs.lemmas.List.{take_at, drop_at}
use Rattle.krb_der.specs.Octets.{AreOctets, number, length_octets, item}
use Rattle.krb_der.specs.inner.Numbers.{spelled, IsShortest, IsShortest-spelled, number-fewest, AreOctets-spelled, length-spelled-le, spelled-number}
use Rattle.std.proofs.lemmas.List.{take_all}
use Rattle.krb_der.specs.inner.Items.{same_from_length_octets, length_octets-short, length_octets-long, length-item, item-append, same_from_cons, same_from_item}
use Rattle.krb_msg.proofs.Heads.{some_from_shortest}
use Rattle.krb_msg.specs.inner.Fields.{HasNoField, IsHead}
use Rattle.krb_msg.specs.Viewed.{HasNoItem, IsNoItem}

-- ---- a long length that is present
shortest : (digits : List ℕ) → AreOctets digits → 0 < length digits → get_or digits 0 0 ≢ 0 → IsShortest 256 digits
shortest [] a p h = absurd (omega (arith, p))
shortest (first ∷ []) a p h = a.0
shortest (first ∷ second ∷ digits) a p h = (a.0, omega (arith, h))

pub is_length : (first size : ℕ) (digits rest octets : List ℕ) → AreOctets digits → first ≡ 128 + length digits → 0 < length digits → get_or digits 0 0 ≢ 0 → size ≡ number digits → 128 ≤ size → octets ≡ digits ++ rest → first ∷ octets ≡ length_octets size ++ rest
is_length first size digits rest octets a f p h n large e =
    rw (f, e, n, length_octets-long (number digits) (omega (arith, n, large)), spelled-number 256 digits (omega arith) a (shortest digits a p h)) refl

-- ---- and one that is not
-- the parts of a long length
pub record LongLength (first : ℕ) (octets : List ℕ) (size : ℕ) (rest : List ℕ) : Type 0 where
  pub digits : List ℕ
  pub first_is : first ≡ 128 + length digits
  pub some : 0 < length digits
  pub few : length digits ≤ 4
  pub parts : octets ≡ digits ++ rest
  pub value : number digits ≡ size
  pub large : 128 ≤ size
  pub lead : get_or digits 0 0 ≢ 0

shortest_lead : (digits : List ℕ) → AreOctets digits → IsShortest 256 digits → 128 ≤ number digits → get_or digits 0 0 ≢ 0
shortest_lead [] a s h = absurd s
shortest_lead (first ∷ []) a s h = omega (arith, h)
shortest_lead (first ∷ second ∷ digits) a s h = omega (arith, s.1, a.1.0)

pub long_length : (first : ℕ) (octets : List ℕ) (size : ℕ) (rest : List ℕ) → 128 ≤ first → size < 2 ^ 31 → first ∷ octets ≡ length_octets size ++ rest → LongLength first octets size rest
long_length first octets size rest h small e = go (cases_lt size 128)
  where
    go : (size < 128) ⊎ (128 ≤ size) → LongLength first octets size rest
    go (inl l) =
        let f : first ∷ octets ≡ size ∷ rest = rw (length_octets-short size l) at e in
        absurd (omega (arith, h, l, (same_from_cons _ _ _ _ f).0))
    go (inr l) =
        let f : first ∷ octets ≡ (128 + length (spelled 256 size)) ∷ (spelled 256 size ++ rest) = rw (length_octets-long size l) at e in
        let p : (first ≡ 128 + length (spelled 256 size)) × (octets ≡ spelled 256 size ++ rest) = same_from_cons _ _ _ _ f in
        let v : number (spelled 256 size) ≡ size = number-fewest size 256 size in
        let s : IsShortest 256 (spelled 256 size) = IsShortest-spelled 256 size (omega arith) in
        record {
          digits = spelled 256 size;
          first_is = p.0;
          some = some_from_shortest (spelled 256 size) s;
          few = length-spelled-le 256 3 size (omega arith) (omega (arith, small));
          parts = p.1;
          value = v;
          large = l;
          lead = shortest_lead (spelled 256 size) (AreOctets-spelled 256 size (omega arith) (omega arith)) s (omega (arith, v, l));
        }

-- the octets that its first octet counts are its digits
pub long_digits : (first : ℕ) (octets prefix : List ℕ) (size : ℕ) (rest suffix : List ℕ) → (l : LongLength first octets size rest) → 128 + length prefix ≡ first → octets ≡ prefix ++ suffix → prefix ≡ l.digits
long_digits first octets prefix size rest suffix l n e =
    let m : length prefix ≡ length l.digits = omega (arith, n, l.first_is) in
    sym (take_at prefix suffix (length prefix) refl) ∙ ap (take (length prefix)) (sym e ∙ l.parts) ∙ take_at l.digits rest (length prefix) (sym m)

-- ---- items
-- an item whose length is any
pub lengths_of_item : (tag first octet : ℕ) (octets contents rest : List ℕ) → first ∷ octet ∷ octets ≡ item tag contents ++ rest → octet ∷ octets ≡ length_octets (length contents) ++ (contents ++ rest)
lengths_of_item tag first octet octets contents rest e = (same_from_cons _ _ _ _ (e ∙ item-append tag contents rest)).1

pub item_small : (tag : ℕ) (octets contents rest : List ℕ) → length octets < 2 ^ 31 → octets ≡ item tag contents ++ rest → length contents < 2 ^ 31
item_small tag octets contents rest h e = omega (arith, h, ap length e, length-append (item tag contents) rest, length-item tag contents)

-- after the length come the contents and the rest
pub is_item : (tag octet size : ℕ) (octets prefix suffix after : List ℕ) → octet ∷ octets ≡ length_octets size ++ after → after ≡ prefix ++ suffix → length prefix ≡ size → tag ∷ octet ∷ octets ≡ item tag prefix ++ suffix
is_item tag octet size octets prefix suffix after e f n =
    ap (λ l. tag ∷ l) (e ∙ ap (λ l. length_octets size ++ l) f ∙ ap (λ m. length_octets m ++ (prefix ++ suffix)) (sym n)) ∙ sym (item-append tag prefix suffix)

-- ---- only one item
pub not_only : (tag : ℕ) (octets inner rest : List ℕ) → octets ≡ item tag inner ++ rest → 0 < length rest → IsNoItem tag octets
not_only tag octets inner rest e some contents f =
    let p = same_from_item tag tag inner contents rest [] (sym e ∙ f ∙ sym (append-nil (item tag contents))) in
    omega (arith, some, ap length p.2)

pub only_none : (tag : ℕ) (octets : List ℕ) → HasNoItem tag octets → IsNoItem tag octets
only_none tag octets none contents e = none contents [] (e ∙ sym (append-nil (item tag contents)))

-- ---- a field that holds an item
pub no_field : (outer tag : ℕ) (octets : List ℕ) → HasNoItem outer octets → HasNoField outer tag octets
no_field outer tag octets none contents rest e = none (item tag contents) rest e

pub no_item_in : (outer tag : ℕ) (octets inner rest : List ℕ) → octets ≡ item outer inner ++ rest → IsNoItem tag inner → HasNoField outer tag octets
no_item_in outer tag octets inner rest e none contents more f =
    none contents (same_from_item outer outer inner (item tag contents) rest more (sym e ∙ f)).1

-- ---- the octets of a first item whose length is long
pub two_first : (octets : List ℕ) → 2 ≤ length octets → octets ≡ get_or octets 0 0 ∷ get_or octets 1 0 ∷ take (length octets - 2) (drop 2 octets)
two_first [] h = absurd (omega (arith, h))
two_first (first ∷ []) h = absurd (omega (arith, h))
two_first (first ∷ second ∷ octets) h =
    let n : suc (suc (length octets)) - 2 ≡ length octets = omega arith in
    ap (λ l. first ∷ second ∷ l) (sym (ap (λ k. take k octets) n ∙ take_all (length octets) octets (omega arith)))

pub long_not : (tag first octet : ℕ) (octets others contents : List ℕ) (size : ℕ) → octets ≡ first ∷ octet ∷ others → octet ∷ others ≡ length_octets size ++ contents → length contents < size → HasNoItem tag octets
long_not tag first octet octets others contents size e f short inner rest i =
    let p : (size ≡ length inner) × (contents ≡ inner ++ rest) = same_from_length_octets size (length inner) contents (inner ++ rest) (sym f ∙ lengths_of_item tag first octet others inner rest (sym e ∙ i)) in
    omega (arith, short, p.0, ap length p.1, length-append inner rest)

pub long_is : (tag first octet : ℕ) (octets others contents : List ℕ) (size : ℕ) → octets ≡ first ∷ octet ∷ others → first ≡ tag → octet ∷ others ≡ length_octets size ++ contents → (prefix suffix : List ℕ) → length prefix ≡ size → contents ≡ prefix ++ suffix → octets ≡ item tag prefix ++ suffix
long_is tag first octet octets others contents size e t f prefix suffix n c =
    e ∙ ap (λ o. o ∷ octet ∷ others) t ∙ is_item tag octet size others prefix suffix contents f c n

-- an item whose length has three octets, and one whose length has two
pub is_wide : (tag size : ℕ) (octets : List ℕ) → AreOctets octets → 4 ≤ length octets → get_or octets 0 0 ≡ tag → get_or octets 1 0 ≡ 130 → get_or octets 2 0 ≢ 0 → size ≡ get_or octets 2 0 * 256 + get_or octets 3 0 → (prefix suffix : List ℕ) → length prefix ≡ size → take (length octets - 4) (drop 4 octets) ≡ prefix ++ suffix → octets ≡ item tag prefix ++ suffix
is_wide tag size [] a h t f lead n prefix suffix k c = absurd (omega (arith, h))
is_wide tag size (first ∷ []) a h t f lead n prefix suffix k c = absurd (omega (arith, h))
is_wide tag size (first ∷ form ∷ []) a h t f lead n prefix suffix k c = absurd (omega (arith, h))
is_wide tag size (first ∷ form ∷ high ∷ []) a h t f lead n prefix suffix k c = absurd (omega (arith, h))
is_wide tag size (first ∷ form ∷ high ∷ low ∷ rest) a h t f lead n prefix suffix k c =
    let e : suc (suc (suc (suc (length rest)))) - 4 ≡ length rest = omega arith in
    let l = is_length form size (high ∷ low ∷ []) rest (high ∷ low ∷ rest) (a.1.1.0, (a.1.1.1.0, tt)) f (omega arith) lead (omega (arith, n)) (omega (arith, n, lead)) refl in
    ap (λ o. o ∷ form ∷ high ∷ low ∷ rest) t ∙ is_item tag form size (high ∷ low ∷ rest) prefix suffix rest l (sym (ap (λ m. take m rest) e ∙ take_all (length rest) rest (omega arith)) ∙ c) k

pub is_less_wide : (tag size : ℕ) (octets : List ℕ) → AreOctets octets → 3 ≤ length octets → get_or octets 0 0 ≡ tag → get_or octets 1 0 ≡ 129 → 128 ≤ size → size ≡ get_or octets 2 0 → (prefix suffix : List ℕ) → length prefix ≡ size → take (length octets - 3) (drop 3 octets) ≡ prefix ++ suffix → octets ≡ item tag prefix ++ suffix
is_less_wide tag size [] a h t f large n prefix suffix k c = absurd (omega (arith, h))
is_less_wide tag size (first ∷ []) a h t f large n prefix suffix k c = absurd (omega (arith, h))
is_less_wide tag size (first ∷ form ∷ []) a h t f large n prefix suffix k c = absurd (omega (arith, h))
is_less_wide tag size (first ∷ form ∷ digit ∷ rest) a h t f large n prefix suffix k c =
    let e : suc (suc (suc (length rest))) - 3 ≡ length rest = omega arith in
    let l = is_length form size (digit ∷ []) rest (digit ∷ rest) (a.1.1.0, tt) f (omega arith) (omega (arith, n, large)) (omega (arith, n)) large refl in
    ap (λ o. o ∷ form ∷ digit ∷ rest) t ∙ is_item tag form size (digit ∷ rest) prefix suffix rest l (sym (ap (λ m. take m rest) e ∙ take_all (length rest) rest (omega arith)) ∙ c) k

-- ---- where contents are, by what is before them
is_head : (form_of : List ℕ → List ℕ) (octets prefix contents rest : List ℕ) (before size : ℕ) → form_of contents ≡ prefix ++ contents → octets ≡ form_of contents ++ rest → before + length contents + length rest ≡ length octets → size ≡ length contents → IsHead form_of octets before size
is_head form_of octets prefix contents rest before size p e n s =
    let whole : octets ≡ prefix ++ (contents ++ rest) = e ∙ ap (λ l. l ++ rest) p ∙ append_assoc prefix contents rest in
    let b : length prefix ≡ before = omega (arith, n, ap length whole, length-append prefix (contents ++ rest), length-append contents rest) in
    let after : drop before octets ≡ contents ++ rest = ap (drop before) whole ∙ drop_at prefix (contents ++ rest) before b in
    let front : take size (drop before octets) ≡ contents = ap (take size) after ∙ take_at contents rest size (sym s) in
    let back : drop size (drop before octets) ≡ rest = ap (drop size) after ∙ drop_at contents rest size (sym s) in
    record { within = omega (arith, n, s); form = e ∙ (λ i. form_of (sym front i) ++ sym back i) }

pub is_item_head : (tag : ℕ) (octets contents rest : List ℕ) (before size : ℕ) → octets ≡ item tag contents ++ rest → before + length contents + length rest ≡ length octets → size ≡ length contents → IsHead (item tag) octets before size
is_item_head tag octets contents rest before size = is_head (item tag) octets (tag ∷ length_octets (length contents)) contents rest before size refl

pub is_field_head : (outer tag : ℕ) (octets contents rest : List ℕ) (before size : ℕ) → octets ≡ item outer (item tag contents) ++ rest → before + length contents + length rest ≡ length octets → size ≡ length contents → IsHead (λ those. item outer (item tag those)) octets before size
is_field_head outer tag octets contents rest before size =
    is_head (λ those. item outer (item tag those)) octets (outer ∷ (length_octets (length (item tag contents)) ++ (tag ∷ length_octets (length contents)))) contents rest before size
    (ap (λ l. outer ∷ l) (sym (append_assoc (length_octets (length (item tag contents))) (tag ∷ length_octets (length contents)) contents)))
