-- The numbers that are kept decide as the octets do.
use Rattle.std.proofs.Common.{◌≡◌, ℕ, zero, suc, ℤ, pos, negsuc, ◌+◌, ◌-◌, ◌*◌, ◌%◌, ◌^◌, ◌+ℤ◌, ◌*ℤ◌, ◌<◌, ◌≤◌, Bool, true, false, ◌&&◌, ◌||◌, ◌==◌, nat_lt, nat_le, if◌then◌else◌, List, [], ◌∷◌, ◌++◌, length, take, refl, sym, ap, ◌∙◌, subst, arith}
use Rattle.std.proofs.lemmas.List.{length-append, take_all}
use Rattle.std.proofs.lemmas.Bool.{ltb-true, ltb-false, eqb-true, eqb-false, ne_eqb, eq-eqb}
use Rattle.std.proofs.lemmas.Int.{ints}
use Rattle.std.proofs.Math.Nat.{zero-mod}
use Rattle.krb_der.specs.Octets.{number, number_from, complement, integer_value, last_or_zero, AreOctets}
use Rattle.krb_der.specs.declared.why.Why.{Why}
use Rattle.krb_der.specs.declared.why.Why.TheVariants as why
use Rattle.krb_msg.specs.Term.{Term, Integer, Text, Time, Bits}
use Rattle.krb_msg.specs.Judgement.{Outcome, Open, Bad, Done, Head, Partial, Refused, Got, head, long_head, fitting, int_le, is_padded, integer_contents, each_contents, text_octet, time_octet, bits_contents, any_contents}
use Rattle.krb_scan.specs.Scan.{leaf_outcome}
use Rattle.krb_scan.specs.inner.Numbers.{first_head, next_head, extended, pads, in_range, integer_next, each_next, bits_next, any_next, leaf_next, first_or_zero}
use Rattle.krb_scan.proofs.Stable.{IsPartial, fitting_not_partial}

pub number_push : (high : ℕ) (octets : List ℕ) (octet : ℕ) → number_from high (octets ++ octet ∷ []) ≡ number_from high octets * 256 + octet
number_push high [] octet = refl
number_push high (first ∷ octets) octet = number_push (high * 256 + first) octets octet

pub length_push : (octets : List ℕ) (octet : ℕ) → length (octets ++ octet ∷ []) ≡ length octets + 1
length_push octets octet = omega (arith, length-append octets (octet ∷ []))

-- ---- headers

pub first_head_right : (room tag octet : ℕ) → head room (tag ∷ octet ∷ []) ≡ first_head room octet
first_head_right room tag octet = refl

long_short : (room k : ℕ) (octets : List ℕ) → 0 < k → IsPartial (long_head room k octets) → length octets < k
long_short room k [] p h = p
long_short room k (first ∷ octets) p h = by_first ((first == 0) || ((k == 1) && nat_lt first 128)) h
  where
    by_length : (b : Bool) → nat_lt (length (first ∷ octets)) k ≡ b → IsPartial (if b then Partial else fitting room (2 + k) (number (take k (first ∷ octets)))) → length (first ∷ octets) < k
    by_length true e q = ltb-true (length (first ∷ octets)) k e
    by_length false e q = absurd (fitting_not_partial room (2 + k) (number (take k (first ∷ octets))) q)

    by_first : (b : Bool) → IsPartial (if b then Refused 2 why.LengthNotMinimal else if nat_lt (length (first ∷ octets)) k then Partial else fitting room (2 + k) (number (take k (first ∷ octets)))) → length (first ∷ octets) < k
    by_first true q = absurd q
    by_first false q = by_length (nat_lt (length (first ∷ octets)) k) refl q

long_first : (room k first : ℕ) (octets : List ℕ) → IsPartial (long_head room k (first ∷ octets)) → ((first == 0) || ((k == 1) && nat_lt first 128)) ≡ false
long_first room k first octets h = by_first ((first == 0) || ((k == 1) && nat_lt first 128)) refl h
  where
    by_first : (b : Bool) → ((first == 0) || ((k == 1) && nat_lt first 128)) ≡ b → IsPartial (if b then Refused 2 why.LengthNotMinimal else if nat_lt (length (first ∷ octets)) k then Partial else fitting room (2 + k) (number (take k (first ∷ octets)))) → ((first == 0) || ((k == 1) && nat_lt first 128)) ≡ false
    by_first true e q = absurd q
    by_first false e q = e

-- the octets that a long length is waiting for
long_next : (room k : ℕ) (octets : List ℕ) (octet : ℕ) → 0 < k → IsPartial (long_head room k octets) → long_head room k (octets ++ octet ∷ []) ≡ next_head room k (length octets) (number octets) octet
long_next room k [] octet p h = ap (λ x. if (octet == 0) || ((k == 1) && nat_lt octet 128) then Refused 2 why.LengthNotMinimal else x) (by_length (nat_lt 1 k) refl)
  where
    by_length : (b : Bool) → nat_lt 1 k ≡ b → (if b then Partial else fitting room (2 + k) (number (take k (octet ∷ [])))) ≡ (if b then Partial else fitting room (2 + k) (0 * 256 + octet))
    by_length true e = refl
    by_length false e = let one : k ≤ 1 = ltb-false 1 k e in ap (λ digits. fitting room (2 + k) (number digits)) (take_all k (octet ∷ []) (omega arith))
long_next room k (first ∷ octets) octet p h =
    ap (λ b. if b then Refused 2 why.LengthNotMinimal else if nat_lt (length (first ∷ octets ++ octet ∷ [])) k then Partial else fitting room (2 + k) (number (take k (first ∷ octets ++ octet ∷ [])))) (long_first room k first octets h)
    ∙ ap (λ n. if nat_lt n k then Partial else fitting room (2 + k) (number (take k (first ∷ octets ++ octet ∷ [])))) (length_push (first ∷ octets) octet)
    ∙ by_length (nat_lt (length (first ∷ octets) + 1) k) refl
    ∙ ap (λ b. if b then Refused 2 why.LengthNotMinimal else if nat_lt (length (first ∷ octets) + 1) k then Partial else fitting room (2 + k) (number (first ∷ octets) * 256 + octet)) (sym not_first)
  where
    not_first : ((length (first ∷ octets) == 0) && ((octet == 0) || ((k == 1) && nat_lt octet 128))) ≡ false
    not_first = ap (λ b. b && ((octet == 0) || ((k == 1) && nat_lt octet 128))) (ne_eqb (length (first ∷ octets)) 0 (λ e. absurd (omega arith)))

    by_length : (b : Bool) → nat_lt (length (first ∷ octets) + 1) k ≡ b → (if b then Partial else fitting room (2 + k) (number (take k (first ∷ octets ++ octet ∷ [])))) ≡ (if b then Partial else fitting room (2 + k) (number (first ∷ octets) * 256 + octet))
    by_length true e = refl
    by_length false e =
        let short : length (first ∷ octets) < k = long_short room k (first ∷ octets) p h in
        let le : k ≤ length (first ∷ octets) + 1 = ltb-false (length (first ∷ octets) + 1) k e in
        let all : take k (first ∷ octets ++ octet ∷ []) ≡ first ∷ octets ++ octet ∷ [] = take_all k (first ∷ octets ++ octet ∷ []) (omega (arith, length_push octets octet)) in
        ap (λ digits. fitting room (2 + k) (number digits)) all ∙ ap (λ n. fitting room (2 + k) n) (number_push 0 (first ∷ octets) octet)

pub next_head_right : (room tag octet : ℕ) (octets : List ℕ) (next : ℕ) → IsPartial (head room (tag ∷ octet ∷ octets)) →
    head room (tag ∷ octet ∷ octets ++ next ∷ []) ≡ next_head room (octet - 0x80) (length octets) (number octets) next
next_head_right room tag octet octets next h = by_tests (nat_lt octet 0x80) (octet == 0x80) (nat_lt 0x84 octet) (nat_lt room (2 + (octet - 0x80))) refl refl h
  where
    by_tests : (short indefinite wide over : Bool) → nat_lt octet 0x80 ≡ short → (octet == 0x80) ≡ indefinite →
        IsPartial (if short then fitting room 2 octet else if indefinite then Refused 1 why.Indefinite else if wide then Refused 1 why.LengthWide else if over then Refused 1 why.Overrun else long_head room (octet - 0x80) octets) →
        (if short then fitting room 2 octet else if indefinite then Refused 1 why.Indefinite else if wide then Refused 1 why.LengthWide else if over then Refused 1 why.Overrun else long_head room (octet - 0x80) (octets ++ next ∷ []))
        ≡ next_head room (octet - 0x80) (length octets) (number octets) next
    by_tests true indefinite wide over e f p = absurd (fitting_not_partial room 2 octet p)
    by_tests false false false false e f p =
        let big : 0x80 ≤ octet = ltb-false octet 0x80 e in
        let other : octet ≡ 0x80 → ⊥ = eqb-false octet 0x80 f in
        long_next room (octet - 0x80) octets next (omega arith) p
    by_tests false other another third e f p = absurd p

-- a header that is partly read after its first length octet waits for more octets
pub partial_long : (room tag octet : ℕ) (octets : List ℕ) → IsPartial (head room (tag ∷ octet ∷ octets)) → (length octets < octet - 0x80) × (octet ≤ 0x84) × (2 + (octet - 0x80) ≤ room)
partial_long room tag octet octets h = by_tests (nat_lt octet 0x80) (octet == 0x80) (nat_lt 0x84 octet) (nat_lt room (2 + (octet - 0x80))) refl refl refl refl h
  where
    by_tests : (short indefinite wide over : Bool) → nat_lt octet 0x80 ≡ short → (octet == 0x80) ≡ indefinite → nat_lt 0x84 octet ≡ wide → nat_lt room (2 + (octet - 0x80)) ≡ over →
        IsPartial (if short then fitting room 2 octet else if indefinite then Refused 1 why.Indefinite else if wide then Refused 1 why.LengthWide else if over then Refused 1 why.Overrun else long_head room (octet - 0x80) octets) →
        (length octets < octet - 0x80) × (octet ≤ 0x84) × (2 + (octet - 0x80) ≤ room)
    by_tests true indefinite wide over e f g k p = absurd (fitting_not_partial room 2 octet p)
    by_tests false false false false e f g k p =
        let big : 0x80 ≤ octet = ltb-false octet 0x80 e in
        let other : octet ≡ 0x80 → ⊥ = eqb-false octet 0x80 f in
        (long_short room (octet - 0x80) octets (omega arith) p, ltb-false 0x84 octet g, ltb-false room (2 + (octet - 0x80)) k)
    by_tests false other another third e f g k p = absurd p

-- ---- leaves

pub value_push : (octets : List ℕ) (octet : ℕ) → octet < 256 → integer_value (octets ++ octet ∷ []) ≡ extended (length octets) (integer_value octets) octet
value_push [] octet h = by_sign (nat_lt octet 128)
  where
    by_sign : (b : Bool) → (if b then pos (0 * 256 + octet) else negsuc (0 * 256 + (255 - octet))) ≡ (if b then pos octet else negsuc (255 - octet))
    by_sign true = let e : 0 * 256 + octet ≡ octet = omega arith in ap pos e
    by_sign false = let e : 0 * 256 + (255 - octet) ≡ 255 - octet = omega arith in ap negsuc e
value_push (first ∷ octets) octet h = by_sign (nat_lt first 128)
  where
    complement_push : (all : List ℕ) → complement (all ++ octet ∷ []) ≡ complement all ++ (255 - octet) ∷ []
    complement_push [] = refl
    complement_push (one ∷ all) = ap (λ rest. (255 - one) ∷ rest) (complement_push all)

    low : ℕ
    low = number_from (0 * 256 + (255 - first)) (complement octets)

    plus : (m : ℕ) → pos (m * 256 + octet) ≡ pos m *ℤ pos 256 +ℤ pos octet
    plus m = refl

    minus : (m : ℕ) → negsuc (m * 256 + (255 - octet)) ≡ negsuc m *ℤ pos 256 +ℤ pos octet
    minus m = omega (arith, ints)

    by_sign : (b : Bool) → (if b then pos (number_from (0 * 256 + first) (octets ++ octet ∷ [])) else negsuc (number_from (0 * 256 + (255 - first)) (complement (octets ++ octet ∷ []))))
        ≡ (if b then pos (number_from (0 * 256 + first) octets) else negsuc (number_from (0 * 256 + (255 - first)) (complement octets))) *ℤ pos 256 +ℤ pos octet
    by_sign true = ap pos (number_push (0 * 256 + first) octets octet) ∙ plus (number_from (0 * 256 + first) octets)
    by_sign false =
        ap (λ all. negsuc (number_from (0 * 256 + (255 - first)) all)) (complement_push octets)
        ∙ ap negsuc (number_push (0 * 256 + (255 - first)) (complement octets) (255 - octet))
        ∙ minus (number_from (0 * 256 + (255 - first)) (complement octets))

or_false : (x : Bool) → (x || false) ≡ x
or_false true = refl
or_false false = refl

small_pads : (first octet : ℕ) → first < 128 → (((first == 0) && nat_lt octet 128) || ((first == 255) && nat_le 128 octet)) ≡ ((0 * 256 + first == 0) && nat_lt octet 128)
small_pads first octet h =
    let other : (first == 255) ≡ false = ne_eqb first 255 (λ e. absurd (omega arith)) in
    let same : first ≡ 0 * 256 + first = omega arith in
    ap (λ b. ((first == 0) && nat_lt octet 128) || (b && nat_le 128 octet)) other ∙ or_false ((first == 0) && nat_lt octet 128) ∙ ap (λ n. (n == 0) && nat_lt octet 128) same

big_pads : (first octet : ℕ) → 128 ≤ first → first < 256 → (((first == 0) && nat_lt octet 128) || ((first == 255) && nat_le 128 octet)) ≡ ((0 * 256 + (255 - first) == 0) && nat_le 128 octet)
big_pads first octet h k =
    let other : (first == 0) ≡ false = ne_eqb first 0 (λ e. absurd (omega arith)) in
    ap (λ b. (b && nat_lt octet 128) || ((first == 255) && nat_le 128 octet)) other ∙ ap (λ b. b && nat_le 128 octet) (by_last (first == 255) refl)
  where
    by_last : (b : Bool) → (first == 255) ≡ b → b ≡ (0 * 256 + (255 - first) == 0)
    by_last true e = let at : first ≡ 255 = eqb-true first 255 e in sym (eq-eqb (0 * 256 + (255 - first)) 0 (omega arith))
    by_last false e = let other : first ≡ 255 → ⊥ = eqb-false first 255 e in sym (ne_eqb (0 * 256 + (255 - first)) 0 (λ f. other (omega arith)))

pub padded_push : (octets : List ℕ) (octet : ℕ) → AreOctets octets → is_padded octets ≡ false → is_padded (octets ++ octet ∷ []) ≡ ((length octets == 1) && pads (integer_value octets) octet)
padded_push [] octet fit h = refl
padded_push (first ∷ []) octet fit h = by_sign (nat_lt first 128) refl
  where
    by_sign : (b : Bool) → nat_lt first 128 ≡ b → (((first == 0) && nat_lt octet 128) || ((first == 255) && nat_le 128 octet)) ≡ pads (if b then pos (0 * 256 + first) else negsuc (0 * 256 + (255 - first))) octet
    by_sign true e = small_pads first octet (ltb-true first 128 e)
    by_sign false e = big_pads first octet (ltb-false first 128 e) fit.0
padded_push (first ∷ second ∷ octets) octet fit h =
    h ∙ sym (ap (λ b. b && pads (integer_value (first ∷ second ∷ octets)) octet) (ne_eqb (length (first ∷ second ∷ octets)) 1 (λ e. absurd (omega arith))))

-- the tests before an outcome that is open have failed
-- the place law needs these: a fault lies at the octet that is new
abbrev pub FaultAt : ℕ → Outcome → Type 0
FaultAt present (Bad offset reason) = offset ≡ present
FaultAt present other = Unit {0}

pub record IsFaultAt (present : ℕ) (outcome : Outcome) : Type 0 where
  pub at : FaultAt present outcome

if_knows : {A : Type 0} (P : A → Type 0) (b : Bool) (x y : A) → (b ≡ true → P x) → (b ≡ false → P y) → P (if b then x else y)
if_knows P true x y p q = p refl
if_knows P false x y p q = q refl

fault_here : (present offset : ℕ) (reason : Why) → offset ≡ present → IsFaultAt present (Bad offset reason)
fault_here present offset reason e = record { at = e }

open_here : (present : ℕ) → IsFaultAt present Open
open_here present = record { at = tt {0} }

done_here : (present count : ℕ) → IsFaultAt present (Done count)
done_here present count = record { at = tt {0} }

pub both : (b c : Bool) → (b && c) ≡ true → b ≡ true
both true c e = refl
both false c e = e

each_next_fault : (passes : ℕ → ℕ → Bool) (reason : Why) (count seen octet : ℕ) → IsFaultAt seen (each_next passes reason count seen octet)
each_next_fault passes reason count seen octet =
    if_knows (IsFaultAt seen) (passes seen octet) _ _ (λ e. if_knows (IsFaultAt seen) (nat_lt (seen + 1) count) _ _ (λ f. open_here seen) (λ f. done_here seen count)) (λ e. fault_here seen seen reason refl)

-- each leaf's fault is at its new octet, while octets are missing
pub leaf_next_fault : (term : Term) (count seen : ℕ) (value : ℤ) (unused octet : ℕ) → seen < count → IsFaultAt seen (leaf_next term count seen value unused octet)
leaf_next_fault (Integer low high) count seen value unused octet h =
    if_knows (IsFaultAt seen) ((seen == 1) && pads value octet) _ _ (λ e. fault_here seen 1 why.IntegerNotMinimal (sym (eqb-true seen 1 (both (seen == 1) (pads value octet) e))))
    (λ e. if_knows (IsFaultAt seen) (nat_lt (seen + 1) count) _ _ (λ f. open_here seen)
    (λ f. if_knows (IsFaultAt seen) (in_range low high (extended seen value octet)) _ _ (λ g. done_here seen count) (λ g. fault_here seen (count - 1) why.Range (let le : count ≤ seen + 1 = ltb-false (seen + 1) count f in omega arith))))
leaf_next_fault (Text greatest) count seen value unused octet h = each_next_fault (text_octet greatest) why.Charset count seen octet
leaf_next_fault Time count seen value unused octet h = each_next_fault time_octet why.Time count seen octet
leaf_next_fault (Bits least) count zero value unused octet h =
    if_knows (IsFaultAt 0) (nat_lt 7 octet || nat_lt (8 * (count - 1)) (least + octet)) _ _ (λ e. fault_here 0 0 why.Bits refl)
    (λ e. if_knows (IsFaultAt 0) (nat_lt 1 count) _ _ (λ f. open_here 0) (λ f. done_here 0 count))
leaf_next_fault (Bits least) count (suc seen) value unused octet h =
    if_knows (IsFaultAt (suc seen)) (nat_lt (suc seen + 1) count) _ _ (λ e. open_here (suc seen))
    (λ e. if_knows (IsFaultAt (suc seen)) (octet % 2 ^ unused == 0) _ _ (λ f. done_here (suc seen) count) (λ f. fault_here (suc seen) (count - 1) why.Bits (let le : count ≤ suc seen + 1 = ltb-false (suc seen + 1) count e in omega arith)))
leaf_next_fault other count seen value unused octet h = if_knows (IsFaultAt seen) (nat_lt (seen + 1) count) _ _ (λ e. open_here seen) (λ e. done_here seen count)

-- a header's fault is at its new octet, too
abbrev pub HeadFaultAt : ℕ → Head → Type 0
HeadFaultAt present Partial = Unit {0}
HeadFaultAt present (Refused offset reason) = offset ≡ present
HeadFaultAt present (Got header count) = header ≡ present + 1

pub record IsHeadFaultAt (present : ℕ) (got : Head) : Type 0 where
  pub at : HeadFaultAt present got

refused_here : (present offset : ℕ) (reason : Why) → offset ≡ present → IsHeadFaultAt present (Refused offset reason)
refused_here present offset reason e = record { at = e }

fitting_here : (present room header count : ℕ) → header ≡ present + 1 → IsHeadFaultAt present (fitting room header count)
fitting_here present room header count e =
    if_knows (IsHeadFaultAt present) (nat_lt room (header + count)) _ _ (λ f. refused_here present (header - 1) why.Overrun (omega arith)) (λ f. record { at = e })

pub first_head_fault : (room octet : ℕ) → IsHeadFaultAt 1 (first_head room octet)
first_head_fault room octet =
    if_knows (IsHeadFaultAt 1) (nat_lt octet 0x80) _ _ (λ e. fitting_here 1 room 2 octet refl)
    (λ e. if_knows (IsHeadFaultAt 1) (octet == 0x80) _ _ (λ f. refused_here 1 1 why.Indefinite refl)
    (λ f. if_knows (IsHeadFaultAt 1) (nat_lt 0x84 octet) _ _ (λ g. refused_here 1 1 why.LengthWide refl)
    (λ g. if_knows (IsHeadFaultAt 1) (nat_lt room (2 + (octet - 0x80))) _ _ (λ k. refused_here 1 1 why.Overrun refl) (λ k. record { at = tt {0} }))))

pub next_head_fault : (room k seen value octet : ℕ) → seen < k → IsHeadFaultAt (2 + seen) (next_head room k seen value octet)
next_head_fault room k seen value octet h =
    if_knows (IsHeadFaultAt (2 + seen)) ((seen == 0) && ((octet == 0) || ((k == 1) && nat_lt octet 128))) _ _
    (λ e. refused_here (2 + seen) 2 why.LengthNotMinimal (let none : seen ≡ 0 = eqb-true seen 0 (both (seen == 0) ((octet == 0) || ((k == 1) && nat_lt octet 128)) e) in omega arith))
    (λ e. if_knows (IsHeadFaultAt (2 + seen)) (nat_lt (seen + 1) k) _ _ (λ f. record { at = tt {0} })
    (λ f. fitting_here (2 + seen) room (2 + k) (value * 256 + octet) (let le : k ≤ seen + 1 = ltb-false (seen + 1) k f in omega arith)))

integer_open : (low high : ℤ) (count : ℕ) (octets : List ℕ) → integer_contents low high count octets ≡ Open → is_padded octets ≡ false
integer_open low high count octets h = by_first (is_padded octets) refl h
  where
    by_first : (b : Bool) → is_padded octets ≡ b → (if b then Bad 1 why.IntegerNotMinimal else if nat_lt (length octets) count then Open else if int_le low (integer_value octets) && int_le (integer_value octets) high then Done count else Bad (count - 1) why.Range) ≡ Open → is_padded octets ≡ false
    by_first true e f = absurd (cc f)
    by_first false e f = e

pub integer_next_right : (low high : ℤ) (count : ℕ) (octets : List ℕ) (octet : ℕ) → AreOctets octets → octet < 256 → integer_contents low high count octets ≡ Open →
    integer_contents low high count (octets ++ octet ∷ []) ≡ integer_next low high count (length octets) (integer_value octets) octet
integer_next_right low high count octets octet fit h e =
    ap (λ b. if b then Bad 1 why.IntegerNotMinimal else if nat_lt (length (octets ++ octet ∷ [])) count then Open else if int_le low (integer_value (octets ++ octet ∷ [])) && int_le (integer_value (octets ++ octet ∷ [])) high then Done count else Bad (count - 1) why.Range)
    (padded_push octets octet fit (integer_open low high count octets e))
    ∙ ap (λ n. if (length octets == 1) && pads (integer_value octets) octet then Bad 1 why.IntegerNotMinimal else if nat_lt n count then Open else if int_le low (integer_value (octets ++ octet ∷ [])) && int_le (integer_value (octets ++ octet ∷ [])) high then Done count else Bad (count - 1) why.Range)
    (length_push octets octet)
    ∙ ap (λ v. if (length octets == 1) && pads (integer_value octets) octet then Bad 1 why.IntegerNotMinimal else if nat_lt (length octets + 1) count then Open else if int_le low v && int_le v high then Done count else Bad (count - 1) why.Range)
    (value_push octets octet h)

pub each_next_from : (passes : ℕ → ℕ → Bool) (reason : Why) (count place : ℕ) (octets : List ℕ) (octet : ℕ) → each_contents passes reason count place octets ≡ Open → each_contents passes reason count place (octets ++ octet ∷ []) ≡ each_next passes reason count (place + length octets) octet
each_next_from passes reason count place [] octet h = let e : place ≡ place + 0 = omega arith in ap (λ p. each_next passes reason count p octet) e
each_next_from passes reason count place (first ∷ octets) octet h = by_test (passes place first) h (λ e. each_next_from passes reason count (place + 1) octets octet e)
  where
    by_test : (b : Bool) → (if b then each_contents passes reason count (place + 1) octets else Bad place reason) ≡ Open → (each_contents passes reason count (place + 1) octets ≡ Open → each_contents passes reason count (place + 1) (octets ++ octet ∷ []) ≡ each_next passes reason count (place + 1 + length octets) octet) →
        (if b then each_contents passes reason count (place + 1) (octets ++ octet ∷ []) else Bad place reason) ≡ each_next passes reason count (place + length (first ∷ octets)) octet
    by_test true e ih = let same : place + 1 + length octets ≡ place + length (first ∷ octets) = omega arith in ih e ∙ ap (λ p. each_next passes reason count p octet) same
    by_test false e ih = absurd (cc e)

pub each_next_right : (passes : ℕ → ℕ → Bool) (reason : Why) (count : ℕ) (octets : List ℕ) (octet : ℕ) → each_contents passes reason count 0 octets ≡ Open → each_contents passes reason count 0 (octets ++ octet ∷ []) ≡ each_next passes reason count (length octets) octet
each_next_right passes reason count octets octet e = let same : 0 + length octets ≡ length octets = omega arith in each_next_from passes reason count 0 octets octet e ∙ ap (λ p. each_next passes reason count p octet) same

last_push : (octets : List ℕ) (octet : ℕ) → last_or_zero (octets ++ octet ∷ []) ≡ octet
last_push [] octet = refl
last_push (first ∷ []) octet = refl
last_push (first ∷ second ∷ octets) octet = last_push (second ∷ octets) octet

pub bits_open : (least count unused : ℕ) (octets : List ℕ) → bits_contents least count (unused ∷ octets) ≡ Open → (nat_lt 7 unused || nat_lt (8 * (count - 1)) (least + unused)) ≡ false
bits_open least count unused octets h = by_first (nat_lt 7 unused || nat_lt (8 * (count - 1)) (least + unused)) refl h
  where
    by_first : (b : Bool) → (nat_lt 7 unused || nat_lt (8 * (count - 1)) (least + unused)) ≡ b → (if b then Bad 0 why.Bits else if nat_lt (length (unused ∷ octets)) count then Open else if last_or_zero octets % 2 ^ unused == 0 then Done count else Bad (count - 1) why.Bits) ≡ Open → (nat_lt 7 unused || nat_lt (8 * (count - 1)) (least + unused)) ≡ false
    by_first true e f = absurd (cc f)
    by_first false e f = e

pub bits_next_right : (least count : ℕ) (octets : List ℕ) (octet : ℕ) → bits_contents least count octets ≡ Open → bits_contents least count (octets ++ octet ∷ []) ≡ bits_next least count (length octets) (first_or_zero octets) octet
bits_next_right least count [] octet h = by_first (nat_lt 7 octet || nat_lt (8 * (count - 1)) (least + octet))
  where
    by_first : (b : Bool) → (if b then Bad 0 why.Bits else if nat_lt 1 count then Open else if 0 % 2 ^ octet == 0 then Done count else Bad (count - 1) why.Bits) ≡ (if b then Bad 0 why.Bits else if nat_lt 1 count then Open else Done count)
    by_first true = refl
    by_first false = ap (λ b. if nat_lt 1 count then Open else if b then Done count else Bad (count - 1) why.Bits) (eq-eqb (0 % 2 ^ octet) 0 (zero-mod (2 ^ octet)))
bits_next_right least count (unused ∷ octets) octet h =
    ap (λ b. if b then Bad 0 why.Bits else if nat_lt (length (unused ∷ octets ++ octet ∷ [])) count then Open else if last_or_zero (octets ++ octet ∷ []) % 2 ^ unused == 0 then Done count else Bad (count - 1) why.Bits) (bits_open least count unused octets h)
    ∙ ap (λ n. if nat_lt n count then Open else if last_or_zero (octets ++ octet ∷ []) % 2 ^ unused == 0 then Done count else Bad (count - 1) why.Bits) (length_push (unused ∷ octets) octet)
    ∙ ap (λ last. if nat_lt (length (unused ∷ octets) + 1) count then Open else if last % 2 ^ unused == 0 then Done count else Bad (count - 1) why.Bits) (last_push octets octet)

pub any_next_right : (count : ℕ) (octets : List ℕ) (octet : ℕ) → any_contents count (octets ++ octet ∷ []) ≡ any_next count (length octets)
any_next_right count octets octet = ap (λ n. if nat_lt n count then Open else Done count) (length_push octets octet)

-- a leaf's next octet decides by the numbers
pub leaf_next_right : (term : Term) (count : ℕ) (octets : List ℕ) (octet : ℕ) → AreOctets octets → octet < 256 → leaf_outcome term count octets ≡ Open →
    leaf_outcome term count (octets ++ octet ∷ []) ≡ leaf_next term count (length octets) (integer_value octets) (first_or_zero octets) octet
leaf_next_right (Integer low high) count octets octet fit h e = integer_next_right low high count octets octet fit h e
leaf_next_right (Text greatest) count octets octet fit h e = each_next_right (text_octet greatest) why.Charset count octets octet e
leaf_next_right Time count octets octet fit h e = each_next_right time_octet why.Time count octets octet e
leaf_next_right (Bits least) count octets octet fit h e = bits_next_right least count octets octet e
leaf_next_right other count octets octet fit h e = any_next_right count octets octet

-- ---- the place of a fault

integer_fault_at : (low high : ℤ) (count : ℕ) (octets : List ℕ) (octet : ℕ) → integer_contents low high count octets ≡ Open → length octets < count → IsFaultAt (length octets) (integer_contents low high count (octets ++ octet ∷ []))
integer_fault_at low high count octets octet e h =
    if_knows (IsFaultAt (length octets)) (is_padded (octets ++ octet ∷ [])) _ _ (λ pad. fault_here (length octets) 1 why.IntegerNotMinimal (sym (second octets (integer_open low high count octets e) pad)))
    (λ pad. if_knows (IsFaultAt (length octets)) (nat_lt (length (octets ++ octet ∷ [])) count) _ _ (λ f. open_here (length octets))
    (λ f. if_knows (IsFaultAt (length octets)) (int_le low (integer_value (octets ++ octet ∷ [])) && int_le (integer_value (octets ++ octet ∷ [])) high) _ _ (λ g. done_here (length octets) count)
    (λ g. fault_here (length octets) (count - 1) why.Range (let le : count ≤ length (octets ++ octet ∷ []) = ltb-false (length (octets ++ octet ∷ [])) count f in omega (arith, length_push octets octet)))))
  where
    second : (all : List ℕ) → is_padded all ≡ false → is_padded (all ++ octet ∷ []) ≡ true → length all ≡ 1
    second [] f g = absurd (cc g)
    second (first ∷ []) f g = refl
    second (first ∷ next ∷ rest) f g = absurd (cc (f, g))

leaf_fault_by : (term : Term) (count : ℕ) (octets : List ℕ) (value : ℤ) (unused octet : ℕ) (outcome : Outcome) → outcome ≡ leaf_next term count (length octets) value unused octet → length octets < count → IsFaultAt (length octets) outcome
leaf_fault_by term count octets value unused octet outcome e h = subst (IsFaultAt (length octets)) (sym e) (leaf_next_fault term count (length octets) value unused octet h)

-- A leaf's fault lies at the octet that is new.
pub leaf_fault_at : (term : Term) (count : ℕ) (octets : List ℕ) (octet : ℕ) → leaf_outcome term count octets ≡ Open → length octets < count → IsFaultAt (length octets) (leaf_outcome term count (octets ++ octet ∷ []))
leaf_fault_at (Integer low high) count octets octet e h = integer_fault_at low high count octets octet e h
leaf_fault_at (Text greatest) count octets octet e h = leaf_fault_by (Text greatest) count octets (pos 0) 0 octet _ (each_next_right (text_octet greatest) why.Charset count octets octet e) h
leaf_fault_at Time count octets octet e h = leaf_fault_by Time count octets (pos 0) 0 octet _ (each_next_right time_octet why.Time count octets octet e) h
leaf_fault_at (Bits least) count octets octet e h = leaf_fault_by (Bits least) count octets (pos 0) (first_or_zero octets) octet _ (bits_next_right least count octets octet e) h
leaf_fault_at other count octets octet e h = leaf_fault_by other count octets (pos 0) 0 octet _ (any_next_right count octets octet) h

-- A header's fault lies at the octet that is new, and a header that is whole ends in it.
pub head_fault_at : (room : ℕ) (octets : List ℕ) (octet : ℕ) → 0 < length octets → IsPartial (head room octets) → IsHeadFaultAt (length octets) (head room (octets ++ octet ∷ []))
head_fault_at room [] octet h p = absurd (omega arith)
head_fault_at room (tag ∷ []) octet h p = first_head_fault room octet
head_fault_at room (tag ∷ first ∷ digits) octet h p =
    let fault : IsHeadFaultAt (2 + length digits) (next_head room (first - 0x80) (length digits) (number digits) octet) = next_head_fault room (first - 0x80) (length digits) (number digits) octet (partial_long room tag first digits p).0 in
    let same : 2 + length digits ≡ length (tag ∷ first ∷ digits) = omega arith in
    subst (IsHeadFaultAt (length (tag ∷ first ∷ digits))) (sym (next_head_right room tag first digits octet p)) (subst (λ k. IsHeadFaultAt k (next_head room (first - 0x80) (length digits) (number digits) octet)) same fault)
