-- The outcome of a header and of a leaf that a prefix decides is that of all longer lists.
use Rattle.std.proofs.Common.{◌≡◌, ℕ, ℤ, ◌+◌, ◌-◌, ◌%◌, ◌*◌, ◌^◌, ◌<◌, ◌≤◌, Bool, true, false, ◌&&◌, ◌||◌, ◌==◌, nat_lt, if◌then◌else◌, List, [], ◌∷◌, ◌++◌, length, take, refl, arith, append-nil}
use Rattle.std.proofs.lemmas.List.{take-append-le, length-append}
use Rattle.std.proofs.lemmas.Bool.{ltb-true, ltb-false, eqb-false, lt-ltb, le-ltb}
use Rattle.krb_der.specs.Octets.{number, integer_value, last_or_zero}
use Rattle.krb_der.specs.declared.why.Why.{Why}
use Rattle.krb_der.specs.declared.why.Why.TheVariants as why
use Rattle.krb_msg.specs.Term.{Term, Integer, Text, Time, Bits}
use Rattle.krb_msg.specs.Judgement.{Outcome, Open, Bad, Done, Head, Partial, Refused, Got, head, long_head, fitting, has_size, int_le, is_padded, integer_contents, each_contents, text_octet, time_octet, bits_contents, any_contents}
use Rattle.krb_msg.proofs.TermsStable.{positive_from_size_bits}
use Rattle.krb_scan.specs.Scan.{leaf_outcome}

-- the same header, unless it is partial
abbrev pub SameOnce : Head → Head → Type 0
SameOnce Partial later = Unit {0}
SameOnce (Refused offset reason) later = later ≡ Refused offset reason
SameOnce (Got header count) later = later ≡ Got header count

same_once : (now : Head) → SameOnce now now
same_once Partial = tt
same_once other = refl

same_once_if : (b : Bool) (x y x' y' : Head) → SameOnce x x' → SameOnce y y' → SameOnce (if b then x else y) (if b then x' else y')
same_once_if true x y x' y' p q = p
same_once_if false x y x' y' p q = q

long_tail : (room k : ℕ) (octets more : List ℕ) →
    SameOnce (if nat_lt (length octets) k then Partial else fitting room (2 + k) (number (take k octets)))
    (if nat_lt (length (octets ++ more)) k then Partial else fitting room (2 + k) (number (take k (octets ++ more))))
long_tail room k octets more = by_test (nat_lt (length octets) k) refl
  where
    by_test : (b : Bool) → nat_lt (length octets) k ≡ b →
        SameOnce (if b then Partial else fitting room (2 + k) (number (take k octets)))
        (if nat_lt (length (octets ++ more)) k then Partial else fitting room (2 + k) (number (take k (octets ++ more))))
    by_test true e = tt {0}
    by_test false e =
        let enough : k ≤ length octets = ltb-false (length octets) k e in
        let long : k ≤ length (octets ++ more) = omega (arith, length-append octets more) in
        let test : nat_lt (length (octets ++ more)) k ≡ false = le-ltb (length (octets ++ more)) k long in
        rw test (rw (take-append-le k octets more enough) (same_once (fitting room (2 + k) (number (take k octets)))))

long_stays : (room k : ℕ) (octets more : List ℕ) → SameOnce (long_head room k octets) (long_head room k (octets ++ more))
long_stays room k [] more = tt
long_stays room k (first ∷ octets) more =
    same_once_if ((first == 0) || ((k == 1) && nat_lt first 128)) _ _ _ _ refl (long_tail room k (first ∷ octets) more)

-- a header that is decided stays so with more octets
pub head_stays : (room : ℕ) (octets more : List ℕ) → SameOnce (head room octets) (head room (octets ++ more))
head_stays room [] more = tt
head_stays room (tag ∷ []) more = tt
head_stays room (tag ∷ octet ∷ octets) more =
    same_once_if (nat_lt octet 0x80) _ _ _ _ (same_once (fitting room 2 octet))
    (same_once_if (octet == 0x80) _ _ _ _ refl (same_once_if (nat_lt 0x84 octet) _ _ _ _ refl (same_once_if (nat_lt room (2 + (octet - 0x80))) _ _ _ _ refl (long_stays room (octet - 0x80) octets more))))

-- The header is whole at the last of its octets.
abbrev pub EndsAt : ℕ → Head → Type 0
EndsAt count (Got header contents) = header ≡ count
EndsAt count other = Unit {0}

abbrev pub IsPartial : Head → Type 0
IsPartial Partial = Unit {0}
IsPartial other = ⊥

fitting_ends : (room header contents count : ℕ) → header ≡ count → EndsAt count (fitting room header contents)
fitting_ends room header contents count e = by_test (nat_lt room (header + contents))
  where
    by_test : (b : Bool) → EndsAt count (if b then Refused (header - 1) why.Overrun else Got header contents)
    by_test true = tt {0}
    by_test false = e

pub fitting_not_partial : (room header contents : ℕ) → IsPartial (fitting room header contents) → ⊥
fitting_not_partial room header contents = by_test (nat_lt room (header + contents))
  where
    by_test : (b : Bool) → IsPartial (if b then Refused (header - 1) why.Overrun else Got header contents) → ⊥
    by_test true h = h
    by_test false h = h

long_ends : (room k : ℕ) (octets : List ℕ) (octet : ℕ) → 0 < k → IsPartial (long_head room k octets) → EndsAt (2 + length (octets ++ octet ∷ [])) (long_head room k (octets ++ octet ∷ []))
long_ends room k [] octet k_pos h = by_first ((octet == 0) || ((k == 1) && nat_lt octet 128))
  where
    by_length : (b : Bool) → nat_lt 1 k ≡ b → EndsAt 3 (if b then Partial else fitting room (2 + k) (number (take k (octet ∷ []))))
    by_length true e = tt {0}
    by_length false e =
        let le : k ≤ 1 = ltb-false 1 k e in
        fitting_ends room (2 + k) (number (take k (octet ∷ []))) 3 (omega arith)

    by_first : (b : Bool) → EndsAt 3 (if b then Refused 2 why.LengthNotMinimal else if nat_lt 1 k then Partial else fitting room (2 + k) (number (take k (octet ∷ []))))
    by_first true = tt {0}
    by_first false = by_length (nat_lt 1 k) refl
long_ends room k (first ∷ octets) octet k_pos h = by_first ((first == 0) || ((k == 1) && nat_lt first 128)) h
  where
    by_length : (b : Bool) → nat_lt (length (first ∷ octets ++ octet ∷ [])) k ≡ b → length (first ∷ octets) < k → EndsAt (2 + length (first ∷ octets ++ octet ∷ [])) (if b then Partial else fitting room (2 + k) (number (take k (first ∷ octets ++ octet ∷ []))))
    by_length true e short = tt {0}
    by_length false e short =
        let le : k ≤ length (first ∷ octets ++ octet ∷ []) = ltb-false (length (first ∷ octets ++ octet ∷ [])) k e in
        fitting_ends room (2 + k) (number (take k (first ∷ octets ++ octet ∷ []))) (2 + length (first ∷ octets ++ octet ∷ [])) (omega (arith, length-append octets (octet ∷ [])))

    by_short : (b : Bool) → nat_lt (length (first ∷ octets)) k ≡ b → IsPartial (if b then Partial else fitting room (2 + k) (number (take k (first ∷ octets)))) → length (first ∷ octets) < k
    by_short true e p = ltb-true (length (first ∷ octets)) k e
    by_short false e p = absurd (fitting_not_partial room (2 + k) (number (take k (first ∷ octets))) p)

    by_first : (b : Bool) → IsPartial (if b then Refused 2 why.LengthNotMinimal else if nat_lt (length (first ∷ octets)) k then Partial else fitting room (2 + k) (number (take k (first ∷ octets))))
        → EndsAt (2 + length (first ∷ octets ++ octet ∷ [])) (if b then Refused 2 why.LengthNotMinimal else if nat_lt (length (first ∷ octets ++ octet ∷ [])) k then Partial else fitting room (2 + k) (number (take k (first ∷ octets ++ octet ∷ []))))
    by_first true p = absurd p
    by_first false p = by_length (nat_lt (length (first ∷ octets ++ octet ∷ [])) k) refl (by_short (nat_lt (length (first ∷ octets)) k) refl p)

-- each test of the first length octet
first_ends : (room tag octet last : ℕ) (octets : List ℕ) (short indefinite wide over : Bool) → nat_lt octet 0x80 ≡ short → (octet == 0x80) ≡ indefinite →
    IsPartial (if short then fitting room 2 octet else if indefinite then Refused 1 why.Indefinite else if wide then Refused 1 why.LengthWide else if over then Refused 1 why.Overrun else long_head room (octet - 0x80) octets)
    → EndsAt (2 + length (octets ++ last ∷ [])) (if short then fitting room 2 octet else if indefinite then Refused 1 why.Indefinite else if wide then Refused 1 why.LengthWide else if over then Refused 1 why.Overrun else long_head room (octet - 0x80) (octets ++ last ∷ []))
first_ends room tag octet last octets true indefinite wide over e f p = absurd (fitting_not_partial room 2 octet p)
first_ends room tag octet last octets false false false false e f p =
    let big : 0x80 ≤ octet = ltb-false octet 0x80 e in
    let other : octet ≡ 0x80 → ⊥ = eqb-false octet 0x80 f in
    long_ends room (octet - 0x80) octets last (omega arith) p
first_ends room tag octet last octets false other another third e f p = absurd p

short_ends : (room tag octet : ℕ) (short indefinite wide over : Bool) →
    EndsAt 2 (if short then fitting room 2 octet else if indefinite then Refused 1 why.Indefinite else if wide then Refused 1 why.LengthWide else if over then Refused 1 why.Overrun else Partial)
short_ends room tag octet true indefinite wide over = fitting_ends room 2 octet 2 refl
short_ends room tag octet false true wide over = tt {0}
short_ends room tag octet false false true over = tt {0}
short_ends room tag octet false false false true = tt {0}
short_ends room tag octet false false false false = tt {0}

pub head_ends : (room : ℕ) (octets : List ℕ) (last : ℕ) → IsPartial (head room octets) → EndsAt (length (octets ++ last ∷ [])) (head room (octets ++ last ∷ []))
head_ends room [] last p = tt {0}
head_ends room (tag ∷ []) last p = short_ends room tag last (nat_lt last 0x80) (last == 0x80) (nat_lt 0x84 last) (nat_lt room (2 + (last - 0x80)))
head_ends room (tag ∷ octet ∷ octets) last p =
    let h : EndsAt (2 + length (octets ++ last ∷ [])) (head room (tag ∷ octet ∷ octets ++ last ∷ [])) = first_ends room tag octet last octets (nat_lt octet 0x80) (octet == 0x80) (nat_lt 0x84 octet) (nat_lt room (2 + (octet - 0x80))) refl refl p in
    let e : 2 + length (octets ++ last ∷ []) ≡ length (tag ∷ octet ∷ octets ++ last ∷ []) = omega arith in
    rw e at h

-- how many of a leaf's octets an outcome leaves
abbrev pub Counts : ℕ → ℕ → Outcome → Type 0
Counts count present Open = present < count
Counts count present (Bad offset reason) = Unit {0}
Counts count present (Done total) = count ≤ present

any_counts : (count : ℕ) (octets : List ℕ) → Counts count (length octets) (any_contents count octets)
any_counts count octets = by_test (nat_lt (length octets) count) refl
  where
    by_test : (b : Bool) → nat_lt (length octets) count ≡ b → Counts count (length octets) (if b then Open else Done count)
    by_test true e = ltb-true (length octets) count e
    by_test false e = ltb-false (length octets) count e

each_counts : (passes : ℕ → ℕ → Bool) (reason : Why) (count place : ℕ) (octets : List ℕ) → Counts count (place + length octets) (each_contents passes reason count place octets)
each_counts passes reason count place [] = by_test (nat_lt place count) refl
  where
    by_test : (b : Bool) → nat_lt place count ≡ b → Counts count (place + 0) (if b then Open else Done count)
    by_test true e = let h : place < count = ltb-true place count e in omega arith
    by_test false e = let h : count ≤ place = ltb-false place count e in omega arith
each_counts passes reason count place (octet ∷ octets) = by_test (passes place octet) (each_counts passes reason count (place + 1) octets)
  where
    by_test : (b : Bool) → Counts count (place + 1 + length octets) (each_contents passes reason count (place + 1) octets) → Counts count (place + length (octet ∷ octets)) (if b then each_contents passes reason count (place + 1) octets else Bad place reason)
    by_test true h = let e : place + 1 + length octets ≡ place + length (octet ∷ octets) = omega arith in rw e at h
    by_test false h = tt {0}

each_counts_all : (passes : ℕ → ℕ → Bool) (reason : Why) (count : ℕ) (octets : List ℕ) → Counts count (length octets) (each_contents passes reason count 0 octets)
each_counts_all passes reason count octets =
    let h : Counts count (0 + length octets) (each_contents passes reason count 0 octets) = each_counts passes reason count 0 octets in
    let e : 0 + length octets ≡ length octets = omega arith in
    rw e at h

bits_counts : (least count : ℕ) (octets : List ℕ) → 0 < count → Counts count (length octets) (bits_contents least count octets)
bits_counts least count [] h = h
bits_counts least count (unused ∷ octets) h = by_first (nat_lt 7 unused || nat_lt (8 * (count - 1)) (least + unused))
  where
    by_clear : (b : Bool) → count ≤ length (unused ∷ octets) → Counts count (length (unused ∷ octets)) (if b then Done count else Bad (count - 1) why.Bits)
    by_clear true le = le
    by_clear false le = tt {0}

    by_length : (b : Bool) → nat_lt (length (unused ∷ octets)) count ≡ b → Counts count (length (unused ∷ octets)) (if b then Open else if last_or_zero octets % 2 ^ unused == 0 then Done count else Bad (count - 1) why.Bits)
    by_length true e = ltb-true (length (unused ∷ octets)) count e
    by_length false e = by_clear (last_or_zero octets % 2 ^ unused == 0) (ltb-false (length (unused ∷ octets)) count e)

    by_first : (b : Bool) → Counts count (length (unused ∷ octets)) (if b then Bad 0 why.Bits else if nat_lt (length (unused ∷ octets)) count then Open else if last_or_zero octets % 2 ^ unused == 0 then Done count else Bad (count - 1) why.Bits)
    by_first true = tt {0}
    by_first false = by_length (nat_lt (length (unused ∷ octets)) count) refl

integer_counts : (low high : ℤ) (count : ℕ) (octets : List ℕ) → Counts count (length octets) (integer_contents low high count octets)
integer_counts low high count octets = by_first (is_padded octets)
  where
    by_range : (b : Bool) → count ≤ length octets → Counts count (length octets) (if b then Done count else Bad (count - 1) why.Range)
    by_range true le = le
    by_range false le = tt {0}

    by_length : (b : Bool) → nat_lt (length octets) count ≡ b → Counts count (length octets) (if b then Open else if int_le low (integer_value octets) && int_le (integer_value octets) high then Done count else Bad (count - 1) why.Range)
    by_length true e = ltb-true (length octets) count e
    by_length false e = by_range (int_le low (integer_value octets) && int_le (integer_value octets) high) (ltb-false (length octets) count e)

    by_first : (b : Bool) → Counts count (length octets) (if b then Bad 1 why.IntegerNotMinimal else if nat_lt (length octets) count then Open else if int_le low (integer_value octets) && int_le (integer_value octets) high then Done count else Bad (count - 1) why.Range)
    by_first true = tt {0}
    by_first false = by_length (nat_lt (length octets) count) refl

-- open while octets are missing, done once none is
pub leaf_counts : (term : Term) (count : ℕ) (octets : List ℕ) → has_size term count ≡ true → Counts count (length octets) (leaf_outcome term count octets)
leaf_counts (Integer low high) count octets h = integer_counts low high count octets
leaf_counts (Text greatest) count octets h = each_counts_all (text_octet greatest) why.Charset count octets
leaf_counts Time count octets h = each_counts_all time_octet why.Time count octets
leaf_counts (Bits least) count octets h = bits_counts least count octets (positive_from_size_bits least count h)
leaf_counts other count octets h = any_counts count octets

-- the same fault, if it is one
abbrev pub SameFault : Outcome → Outcome → Type 0
SameFault (Bad offset reason) later = later ≡ Bad offset reason
SameFault other later = Unit {0}

same_fault : (now : Outcome) → SameFault now now
same_fault (Bad offset reason) = refl
same_fault other = tt {0}

same_fault_if : (b : Bool) (x y x' y' : Outcome) → SameFault x x' → SameFault y y' → SameFault (if b then x else y) (if b then x' else y')
same_fault_if true x y x' y' p q = p
same_fault_if false x y x' y' p q = q

-- a part that is not long enough is open
open_now : (b : Bool) (y later : Outcome) → b ≡ true → SameFault (if b then Open else y) later
open_now true y later e = tt {0}
open_now false y later e = cc

each_fault : (passes : ℕ → ℕ → Bool) (reason : Why) (count place : ℕ) (octets more : List ℕ) → SameFault (each_contents passes reason count place octets) (each_contents passes reason count place (octets ++ more))
each_fault passes reason count place [] more = by_test (nat_lt place count)
  where
    by_test : (b : Bool) → SameFault (if b then Open else Done count) (each_contents passes reason count place more)
    by_test true = tt {0}
    by_test false = tt {0}
each_fault passes reason count place (octet ∷ octets) more = same_fault_if (passes place octet) _ _ _ _ (each_fault passes reason count (place + 1) octets more) refl

any_fault : (count : ℕ) (octets : List ℕ) (later : Outcome) → SameFault (any_contents count octets) later
any_fault count octets later = by_test (nat_lt (length octets) count)
  where
    by_test : (b : Bool) → SameFault (if b then Open else Done count) later
    by_test true = tt {0}
    by_test false = tt {0}

bits_fault : (least count : ℕ) (octets more : List ℕ) → length octets < count → SameFault (bits_contents least count octets) (bits_contents least count (octets ++ more))
bits_fault least count [] more short = tt {0}
bits_fault least count (unused ∷ octets) more short =
    same_fault_if (nat_lt 7 unused || nat_lt (8 * (count - 1)) (least + unused)) _ _ _ _ refl (open_now (nat_lt (length (unused ∷ octets)) count) _ _ (lt-ltb (length (unused ∷ octets)) count short))

padded_stays : (octets more : List ℕ) → is_padded octets ≡ true → is_padded (octets ++ more) ≡ true
padded_stays [] more h = cc
padded_stays (first ∷ []) more h = cc
padded_stays (first ∷ second ∷ octets) more h = h

integer_fault : (low high : ℤ) (count : ℕ) (octets more : List ℕ) → length octets < count → SameFault (integer_contents low high count octets) (integer_contents low high count (octets ++ more))
integer_fault low high count octets more short = by_first (is_padded octets) refl
  where
    by_first : (b : Bool) → is_padded octets ≡ b → SameFault (if b then Bad 1 why.IntegerNotMinimal else if nat_lt (length octets) count then Open else if int_le low (integer_value octets) && int_le (integer_value octets) high then Done count else Bad (count - 1) why.Range) (integer_contents low high count (octets ++ more))
    by_first true e = let h : is_padded (octets ++ more) ≡ true = padded_stays octets more e in rw h refl
    by_first false e = open_now (nat_lt (length octets) count) _ _ (lt-ltb (length octets) count short)

leaf_fault_short : (term : Term) (count : ℕ) (octets more : List ℕ) → length octets < count → SameFault (leaf_outcome term count octets) (leaf_outcome term count (octets ++ more))
leaf_fault_short (Integer low high) count octets more short = integer_fault low high count octets more short
leaf_fault_short (Text greatest) count octets more short = each_fault (text_octet greatest) why.Charset count 0 octets more
leaf_fault_short Time count octets more short = each_fault time_octet why.Time count 0 octets more
leaf_fault_short (Bits least) count octets more short = bits_fault least count octets more short
leaf_fault_short other count octets more short = any_fault count octets _

-- a fault of a leaf stays with more of its octets
pub leaf_fault : (term : Term) (count : ℕ) (octets more : List ℕ) → length (octets ++ more) ≤ count → SameFault (leaf_outcome term count octets) (leaf_outcome term count (octets ++ more))
leaf_fault term count octets [] h = rw append-nil (same_fault (leaf_outcome term count octets))
leaf_fault term count octets (octet ∷ more) h = leaf_fault_short term count octets (octet ∷ more) (omega (arith, length-append octets (octet ∷ more)))
