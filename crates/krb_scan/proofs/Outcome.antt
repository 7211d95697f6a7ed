-- The outcome of the scan is that of the judgement.
use Rattle.std.proofs.Common.{◌≡◌, ℕ, zero, suc, ℤ, ◌+◌, ◌-◌, ◌%◌, ◌*◌, ◌^◌, ◌<◌, ◌≤◌, Bool, true, false, ◌&&◌, ◌||◌, ◌==◌, nat_lt, if◌then◌else◌, ◌⊎◌, inl, inr, List, [], ◌∷◌, length, take, drop, refl, sym, ap, ◌∙◌, subst, arith, min}
use Rattle.std.proofs.lemmas.List.{take-take, drop-drop, drop-take, take_all, length-take}
use Rattle.std.proofs.lemmas.Bool.{ltb-false, eqb-false, le-ltb, cases_lt}
use Rattle.krb_der.specs.Octets.{when, number, integer_value, last_or_zero}
use Rattle.krb_der.specs.declared.why.Why.{Why}
use Rattle.krb_der.specs.declared.why.Why.TheVariants as why
use Rattle.krb_msg.specs.Term.{Term, Fields, Integer, Text, Time, Bits, Sequence, SequenceOf, Tagged, Application, End, Required, Optional, tag_of}
use Rattle.krb_msg.specs.Judgement.{Outcome, Open, Bad, Done, after, then_after, Head, Partial, Refused, Got, head, long_head, fitting, has_size, int_le, is_padded, integer_contents, each_contents, text_octet, time_octet, bits_contents, any_contents, items_contents, only_contents, of_head, item_with, contents_outcome, fields_outcome, message_outcome, verdict_of}
use Rattle.krb_scan.specs.Scan.{Mark, Expected, Listed, Each, OneOf, Container, State, PartScan, Within, Fault, Past, scan_then, limit, is_sole, sole_in, container_of, with_mark, leaf_outcome, of_leaf, scan_leaf, scan_after_head, scan_head, begun, scan_required, scan_optional, scan_end, scan_only, scan_each, scan_contents, scan_fields, scan_one_of, scan_message, Answer, Ongoing, Refusing, Whole, answer, scan}
use Rattle.krb_scan.specs.inner.Machine.{outcome_of}
use Rattle.krb_scan.specs.Laws.{decided_by, ScanJudges}
use Rattle.krb_scan.proofs.Progress.{if_holds, Next}

-- ---- a header needs no octets past the room

long_take_short : (room k r : ℕ) (octets : List ℕ) → length octets ≤ r → long_head room k (take r octets) ≡ long_head room k octets
long_take_short room k r octets h = ap (long_head room k) (take_all r octets h)

long_take_long : (room k r : ℕ) (octets : List ℕ) → 0 < k → k ≤ r → r < length octets → long_head room k (take r octets) ≡ long_head room k octets
long_take_long room k zero octets p q h = absurd (omega arith)
long_take_long room k (suc r) [] p q h = refl
long_take_long room k (suc r) (first ∷ octets) p q h =
    let size : length (take (suc r) (first ∷ octets)) ≡ min (suc r) (length (first ∷ octets)) = length-take (suc r) (first ∷ octets) in
    let here : nat_lt (length (take (suc r) (first ∷ octets))) k ≡ false = le-ltb (length (take (suc r) (first ∷ octets))) k (omega arith) in
    let there : nat_lt (length (first ∷ octets)) k ≡ false = le-ltb (length (first ∷ octets)) k (omega arith) in
    let same : take k (take (suc r) (first ∷ octets)) ≡ take k (first ∷ octets) = take-take k (suc r) (first ∷ octets) q in
    let one : (if nat_lt (length (take (suc r) (first ∷ octets))) k then Partial else fitting room (2 + k) (number (take k (take (suc r) (first ∷ octets))))) ≡ fitting room (2 + k) (number (take k (first ∷ octets)))
    = ap (λ b. if b then Partial else fitting room (2 + k) (number (take k (take (suc r) (first ∷ octets))))) here ∙ ap (λ ds. fitting room (2 + k) (number ds)) same in
    let two : (if nat_lt (length (first ∷ octets)) k then Partial else fitting room (2 + k) (number (take k (first ∷ octets)))) ≡ fitting room (2 + k) (number (take k (first ∷ octets)))
    = ap (λ b. if b then Partial else fitting room (2 + k) (number (take k (first ∷ octets)))) there in
    ap (λ x. if (first == 0) || ((k == 1) && nat_lt first 128) then Refused 2 why.LengthNotMinimal else x) (one ∙ sym two)

long_take : (room k r : ℕ) (octets : List ℕ) → 0 < k → k ≤ r → long_head room k (take r octets) ≡ long_head room k octets
long_take room k r octets p q = by_length (cases_lt r (length octets))
  where
    by_length : (r < length octets) ⊎ (length octets ≤ r) → long_head room k (take r octets) ≡ long_head room k octets
    by_length (inl h) = long_take_long room k r octets p q h
    by_length (inr h) = long_take_short room k r octets h

head_tests : (room octet : ℕ) (octets octets' : List ℕ) (short indefinite wide over : Bool) → nat_lt octet 0x80 ≡ short → (octet == 0x80) ≡ indefinite → nat_lt room (2 + (octet - 0x80)) ≡ over →
    (0 < octet - 0x80 → 2 + (octet - 0x80) ≤ room → long_head room (octet - 0x80) octets ≡ long_head room (octet - 0x80) octets') →
    (if short then fitting room 2 octet else if indefinite then Refused 1 why.Indefinite else if wide then Refused 1 why.LengthWide else if over then Refused 1 why.Overrun else long_head room (octet - 0x80) octets)
    ≡ (if short then fitting room 2 octet else if indefinite then Refused 1 why.Indefinite else if wide then Refused 1 why.LengthWide else if over then Refused 1 why.Overrun else long_head room (octet - 0x80) octets')
head_tests room octet octets octets' false false false false e f g h =
    let big : 0x80 ≤ octet = ltb-false octet 0x80 e in
    let other : octet ≡ 0x80 → ⊥ = eqb-false octet 0x80 f in
    let fits : 2 + (octet - 0x80) ≤ room = ltb-false room (2 + (octet - 0x80)) g in
    h (omega arith) fits
head_tests room octet octets octets' other another third fourth e f g h = refl

head_take : (room : ℕ) (octets : List ℕ) → 2 ≤ room → head room (take room octets) ≡ head room octets
head_take room octets h = by_room room octets (omega arith)
  where
    by_room : (r : ℕ) (all : List ℕ) → 2 ≤ r → head r (take r all) ≡ head r all
    by_room zero all p = absurd (omega arith)
    by_room (suc zero) all p = absurd (omega arith)
    by_room (suc (suc r)) [] p = refl
    by_room (suc (suc r)) (tag ∷ []) p = refl
    by_room (suc (suc r)) (tag ∷ octet ∷ rest) p =
        head_tests (suc (suc r)) octet (take r rest) rest (nat_lt octet 0x80) (octet == 0x80) (nat_lt 0x84 octet) (nat_lt (suc (suc r)) (2 + (octet - 0x80))) refl refl refl
        (λ k_pos fits. long_take (suc (suc r)) (octet - 0x80) r rest k_pos (omega arith))

-- ---- a header that is whole fits its room

abbrev pub FitsRoom : ℕ → Head → Type 0
FitsRoom room (Got header count) = (0 < header) × (header + count ≤ room)
FitsRoom room other = Unit {0}

pub record HeadFits (room : ℕ) (got : Head) : Type 0 where
  pub fits : FitsRoom room got

refused_fits : (room : ℕ) {offset : ℕ} {reason : Why} → HeadFits room (Refused offset reason)
refused_fits room = record { fits = tt {0} }

fitting_fits : (room header count : ℕ) → 0 < header → HeadFits room (fitting room header count)
fitting_fits room header count h = by_test (nat_lt room (header + count)) refl
  where
    by_test : (b : Bool) → nat_lt room (header + count) ≡ b → HeadFits room (if b then Refused (header - 1) why.Overrun else Got header count)
    by_test true e = refused_fits room
    by_test false e = record { fits = (h, ltb-false room (header + count) e) }

long_fits : (room k : ℕ) (octets : List ℕ) → HeadFits room (long_head room k octets)
long_fits room k [] = record { fits = tt {0} }
long_fits room k (first ∷ octets) =
    if_holds (HeadFits room) ((first == 0) || ((k == 1) && nat_lt first 128)) _ _ (refused_fits room) (if_holds (HeadFits room) (nat_lt (length (first ∷ octets)) k) _ _ (record { fits = tt {0} }) (fitting_fits room (2 + k) (number (take k (first ∷ octets))) (omega arith)))

pub head_fits : (room : ℕ) (octets : List ℕ) → HeadFits room (head room octets)
head_fits room [] = record { fits = tt {0} }
head_fits room (tag ∷ []) = record { fits = tt {0} }
head_fits room (tag ∷ octet ∷ octets) =
    if_holds (HeadFits room) (nat_lt octet 0x80) _ _ (fitting_fits room 2 octet (omega arith))
    (if_holds (HeadFits room) (octet == 0x80) _ _ (refused_fits room) (if_holds (HeadFits room) (nat_lt 0x84 octet) _ _ (refused_fits room) (if_holds (HeadFits room) (nat_lt room (2 + (octet - 0x80))) _ _ (refused_fits room) (long_fits room (octet - 0x80) octets))))

-- ---- a leaf that is done is done at its count

abbrev pub DoneAt : ℕ → Outcome → Type 0
DoneAt count (Done total) = total ≡ count
DoneAt count other = Unit {0}

pub record IsDoneAt (count : ℕ) (outcome : Outcome) : Type 0 where
  pub done : DoneAt count outcome

open_done : (count : ℕ) → IsDoneAt count Open
open_done count = record { done = tt {0} }

bad_done : (count : ℕ) {offset : ℕ} {reason : Why} → IsDoneAt count (Bad offset reason)
bad_done count = record { done = tt {0} }

done_done : (count : ℕ) → IsDoneAt count (Done count)
done_done count = record { done = refl }

any_done : (count : ℕ) (octets : List ℕ) → IsDoneAt count (any_contents count octets)
any_done count octets = if_holds (IsDoneAt count) (nat_lt (length octets) count) _ _ (open_done count) (done_done count)

each_done : (passes : ℕ → ℕ → Bool) (reason : Why) (count place : ℕ) (octets : List ℕ) → IsDoneAt count (each_contents passes reason count place octets)
each_done passes reason count place [] = if_holds (IsDoneAt count) (nat_lt place count) _ _ (open_done count) (done_done count)
each_done passes reason count place (octet ∷ octets) = if_holds (IsDoneAt count) (passes place octet) _ _ (each_done passes reason count (place + 1) octets) (bad_done count)

bits_done : (least count : ℕ) (octets : List ℕ) → IsDoneAt count (bits_contents least count octets)
bits_done least count [] = open_done count
bits_done least count (unused ∷ octets) =
    if_holds (IsDoneAt count) (nat_lt 7 unused || nat_lt (8 * (count - 1)) (least + unused)) _ _ (bad_done count)
    (if_holds (IsDoneAt count) (nat_lt (length (unused ∷ octets)) count) _ _ (open_done count) (if_holds (IsDoneAt count) (last_or_zero octets % 2 ^ unused == 0) _ _ (done_done count) (bad_done count)))

integer_done : (low high : ℤ) (count : ℕ) (octets : List ℕ) → IsDoneAt count (integer_contents low high count octets)
integer_done low high count octets =
    if_holds (IsDoneAt count) (is_padded octets) _ _ (bad_done count)
    (if_holds (IsDoneAt count) (nat_lt (length octets) count) _ _ (open_done count) (if_holds (IsDoneAt count) (int_le low (integer_value octets) && int_le (integer_value octets) high) _ _ (done_done count) (bad_done count)))

pub leaf_done_at : (term : Term) (count : ℕ) (octets : List ℕ) → IsDoneAt count (leaf_outcome term count octets)
leaf_done_at (Integer low high) count octets = integer_done low high count octets
leaf_done_at (Text greatest) count octets = each_done (text_octet greatest) why.Charset count 0 octets
leaf_done_at Time count octets = each_done time_octet why.Time count 0 octets
leaf_done_at (Bits least) count octets = bits_done least count octets
leaf_done_at other count octets = any_done count octets

-- ---- agreement

-- of contents after a number of octets of an item that begins at a place, in a room that they fill
abbrev pub AgreeContents : ℕ → ℕ → ℕ → List ℕ → PartScan → Outcome → Type 0
AgreeContents base before room octets (Within state) Open = Unit {0}
AgreeContents base before room octets (Fault place reason) (Bad offset because) = (place ≡ base + offset) × (reason ≡ because)
AgreeContents base before room octets (Past marks place rest) (Done count) = (place ≡ base + before + room) × (count ≡ before + room) × (rest ≡ drop room octets)
AgreeContents base before room octets other another = ⊥

pub record ContentsAgree (base before room : ℕ) (octets : List ℕ) (seen : PartScan) (outcome : Outcome) : Type 0 where
  pub agree : AgreeContents base before room octets seen outcome

-- of an item at a place, in a room
abbrev pub AgreeItem : ℕ → ℕ → Bool → List ℕ → PartScan → Outcome → Type 0
AgreeItem from room sole octets (Within state) Open = Unit {0}
AgreeItem from room sole octets (Fault place reason) (Bad offset because) = (place ≡ from + offset) × (reason ≡ because)
AgreeItem from room sole octets (Past marks place rest) (Done count) = (place ≡ from + count) × (0 < count) × (count ≤ room) × (sole ≡ true → count ≡ room) × (rest ≡ drop count octets)
AgreeItem from room sole octets other another = ⊥

pub record ItemAgree (from room : ℕ) (sole : Bool) (octets : List ℕ) (seen : PartScan) (outcome : Outcome) : Type 0 where
  pub agree : AgreeItem from room sole octets seen outcome

contents_fault : (base before room : ℕ) (octets : List ℕ) (place offset : ℕ) (reason : Why) → place ≡ base + offset → ContentsAgree base before room octets (Fault place reason) (Bad offset reason)
contents_fault base before room octets place offset reason e = record { agree = (e, refl) }

item_fault : (from room : ℕ) (sole : Bool) (octets : List ℕ) (place offset : ℕ) (reason : Why) → place ≡ from + offset → ItemAgree from room sole octets (Fault place reason) (Bad offset reason)
item_fault from room sole octets place offset reason e = record { agree = (e, refl) }

contents_open : (base before room : ℕ) (octets : List ℕ) (state : State) → ContentsAgree base before room octets (Within state) Open
contents_open base before room octets state = record { agree = tt {0} }

-- an item, and what follows it
then_agree : (base before whole from room : ℕ) (sole : Bool) (octets : List ℕ) (seen : PartScan) (outcome : Outcome) (next : Next) (next' : ℕ → Outcome) → from ≡ base + before → ItemAgree from room sole octets seen outcome →
    ((marks : List Mark) (there : ℕ) (rest : List ℕ) (count : ℕ) → there ≡ from + count → 0 < count → count ≤ room → (sole ≡ true → count ≡ room) → rest ≡ drop count octets → ContentsAgree base before whole octets (next marks there rest) (next' count)) →
    ContentsAgree base before whole octets (scan_then seen next) (then_after before outcome next')
then_agree base before whole from room sole octets (Within state) Open next next' e h k = contents_open base before whole octets state
then_agree base before whole from room sole octets (Fault place reason) (Bad offset because) next next' e h k =
    let at : place ≡ from + offset = h.agree.0 in
    record { agree = (omega arith, h.agree.1) }
then_agree base before whole from room sole octets (Past marks place rest) (Done count) next next' e h k = k marks place rest count h.agree.0 h.agree.1 h.agree.2 h.agree.3 h.agree.4
then_agree base before whole from room sole octets other another next next' e h k = absurd h.agree

-- contents that agree are the contents of an item that agrees
from_contents : (from room : ℕ) (sole : Bool) (octets : List ℕ) (header count : ℕ) (seen : PartScan) (outcome : Outcome) → 0 < header → header + count ≤ room → (sole && nat_lt (header + count) room) ≡ false →
    ContentsAgree from header count (drop header octets) seen outcome → ItemAgree from room sole octets seen outcome
from_contents from room sole octets header count (Within state) Open p q loose h = record { agree = tt {0} }
from_contents from room sole octets header count (Fault place reason) (Bad offset because) p q loose h = record { agree = (h.agree.0, h.agree.1) }
from_contents from room sole octets header count (Past marks place rest) (Done total) p q loose h =
    let at : place ≡ from + header + count = h.agree.0 in
    let size : total ≡ header + count = h.agree.1 in
    let after_it : rest ≡ drop total octets = h.agree.2 ∙ drop-drop count header octets ∙ ap (λ k. drop k octets) (sym size) in
    record { agree = (omega arith, omega arith, omega arith, (λ is_sole. fill is_sole size), after_it) }
  where
    full : (b : Bool) → b ≡ true → (b && nat_lt (header + count) room) ≡ false → nat_lt (header + count) room ≡ false
    full true e f = f
    full false e f = cc

    fill : sole ≡ true → total ≡ header + count → total ≡ room
    fill is_sole size = let le : room ≤ header + count = ltb-false (header + count) room (full sole is_sole loose) in omega arith
from_contents from room sole octets header count other another p q loose h = absurd h.agree

-- an item's outcome from its identifier octet on, the tag being right
abbrev pub begun_outcome : Term → ℕ → Bool → List ℕ → Outcome
begun_outcome term room sole octets = if room == 1 then Bad 0 why.Overrun else of_head term (head room octets) room sole octets (contents_outcome term)

abbrev pub ContentsRight : Term → Type 0
ContentsRight term = (start count base before : ℕ) (stack : List Container) (marks : List Mark) (octets : List ℕ) → start ≡ base + before → 0 < before →
    ContentsAgree base before count octets (scan_contents term start count stack marks octets) (contents_outcome term before count (take count octets))

take_drop_take : (count header room : ℕ) (octets : List ℕ) → header + count ≤ room → take count (drop header (take room octets)) ≡ take count (drop header octets)
take_drop_take count header room octets h =
    let left : header + (room - header) ≡ room = omega arith in
    let dropped : drop header (take (header + (room - header)) octets) ≡ take (room - header) (drop header octets) = drop-take header (room - header) octets in
    let dropped_at : drop header (take room octets) ≡ take (room - header) (drop header octets) = rw left at dropped in
    ap (take count) dropped_at ∙ take-take count (room - header) (drop header octets) (omega arith)

item_agree : (term : Term) → ContentsRight term → (stack : List Container) (marks : List Mark) (from : ℕ) (octets : List ℕ) → 0 < limit stack - from →
    ItemAgree from (limit stack - from) (sole_in stack) octets (begun (scan_contents term) term stack marks from octets) (begun_outcome term (limit stack - from) (sole_in stack) (take (limit stack - from) octets))
item_agree term right stack marks from octets room_pos = by_one (limit stack - from == 1) refl
  where
    by_size : (b : Bool) (header count : ℕ) → has_size term count ≡ b → 0 < header → header + count ≤ limit stack - from → (sole_in stack && nat_lt (header + count) (limit stack - from)) ≡ false →
        ItemAgree from (limit stack - from) (sole_in stack) octets
        (when b (λ _. scan_contents term (from + header) count stack marks (drop header octets)) (λ _. Fault (from + header - 1) why.Size))
        (if b then contents_outcome term header count (take count (drop header (take (limit stack - from) octets))) else Bad (header - 1) why.Size)
    by_size true header count e p q loose =
        let agreed : ContentsAgree from header count (drop header octets) (scan_contents term (from + header) count stack marks (drop header octets)) (contents_outcome term header count (take count (drop header octets)))
        = right (from + header) count from header stack marks (drop header octets) refl p in
        from_contents from (limit stack - from) (sole_in stack) octets header count _ _ p q loose
        (subst (λ part. ContentsAgree from header count (drop header octets) (scan_contents term (from + header) count stack marks (drop header octets)) (contents_outcome term header count part)) (sym (take_drop_take count header (limit stack - from) octets q)) agreed)
    by_size false header count e p q loose = item_fault from _ _ octets (from + header - 1) (header - 1) why.Size (omega arith)

    by_loose : (b : Bool) (header count : ℕ) → (sole_in stack && nat_lt (header + count) (limit stack - from)) ≡ b → 0 < header → header + count ≤ limit stack - from →
        ItemAgree from (limit stack - from) (sole_in stack) octets
        (when b (λ _. Fault (from + header - 1) why.Loose) (λ _. when (has_size term count) (λ _. scan_contents term (from + header) count stack marks (drop header octets)) (λ _. Fault (from + header - 1) why.Size)))
        (if b then Bad (header - 1) why.Loose else if has_size term count then contents_outcome term header count (take count (drop header (take (limit stack - from) octets))) else Bad (header - 1) why.Size)
    by_loose true header count e p q = item_fault from _ _ octets (from + header - 1) (header - 1) why.Loose (omega arith)
    by_loose false header count e p q = by_size (has_size term count) header count refl p q e

    by_head : (got : Head) → HeadFits (limit stack - from) got →
        ItemAgree from (limit stack - from) (sole_in stack) octets (scan_after_head got (scan_contents term) term stack marks from octets) (of_head term got (limit stack - from) (sole_in stack) (take (limit stack - from) octets) (contents_outcome term))
    by_head Partial h = record { agree = tt {0} }
    by_head (Refused offset reason) h = item_fault from _ _ octets (from + offset) offset reason refl
    by_head (Got header count) h = by_loose (sole_in stack && nat_lt (header + count) (limit stack - from)) header count refl h.fits.0 h.fits.1

    by_one : (b : Bool) → (limit stack - from == 1) ≡ b →
        ItemAgree from (limit stack - from) (sole_in stack) octets (when b (λ _. Fault from why.Overrun) (λ _. scan_head (scan_contents term) term stack marks from octets))
        (if b then Bad 0 why.Overrun else of_head term (head (limit stack - from) (take (limit stack - from) octets)) (limit stack - from) (sole_in stack) (take (limit stack - from) octets) (contents_outcome term))
    by_one true e = item_fault from _ _ octets from 0 why.Overrun (omega arith)
    by_one false e =
        let not_one : limit stack - from ≡ 1 → ⊥ = eqb-false (limit stack - from) 1 e in
        subst (λ got. ItemAgree from (limit stack - from) (sole_in stack) octets (scan_head (scan_contents term) term stack marks from octets) (of_head term got (limit stack - from) (sole_in stack) (take (limit stack - from) octets) (contents_outcome term)))
        (sym (head_take (limit stack - from) octets (omega arith))) (by_head (head (limit stack - from) octets) (head_fits (limit stack - from) octets))

-- ---- what follows an item

-- if what follows agrees after the item, it agrees after what came before the item
shift_agree : (base before count whole room : ℕ) (octets rest : List ℕ) (seen : PartScan) (outcome : Outcome) → count + room ≡ whole → rest ≡ drop count octets →
    ContentsAgree base (before + count) room rest seen outcome → ContentsAgree base before whole octets seen outcome
shift_agree base before count whole room octets rest (Within state) Open e f h = contents_open base before whole octets state
shift_agree base before count whole room octets rest (Fault place reason) (Bad offset because) e f h = record { agree = (h.agree.0, h.agree.1) }
shift_agree base before count whole room octets rest (Past marks place rest') (Done total) e f h =
    let at : place ≡ base + (before + count) + room = h.agree.0 in
    let size : total ≡ before + count + room = h.agree.1 in
    record { agree = (omega arith, omega arith, h.agree.2 ∙ ap (drop room) f ∙ drop-drop room count octets ∙ ap (λ k. drop k octets) e) }
shift_agree base before count whole room octets rest other another e f h = absurd h.agree

-- the room and the octets that an item leaves, by its outcome
next_agree : (base before count whole finish there : ℕ) (octets rest : List ℕ) (seen : PartScan) (f : ℕ → List ℕ → Outcome) → finish - there ≡ whole - count → count ≤ whole → rest ≡ drop count octets →
    ContentsAgree base (before + count) (finish - there) rest seen (f (finish - there) (take (finish - there) rest)) → ContentsAgree base before whole octets seen (f (whole - count) (drop count (take whole octets)))
next_agree base before count whole finish there octets rest seen f e le after_it h =
    let left : count + (whole - count) ≡ whole = omega arith in
    let dropped : drop count (take (count + (whole - count)) octets) ≡ take (whole - count) (drop count octets) = drop-take count (whole - count) octets in
    let dropped_at : drop count (take whole octets) ≡ take (whole - count) (drop count octets) = rw left at dropped in
    let same : take (finish - there) rest ≡ drop count (take whole octets) = ap (λ k. take k rest) e ∙ ap (take (whole - count)) after_it ∙ sym dropped_at in
    shift_agree base before count whole (finish - there) octets rest seen _ (omega arith) after_it
    (subst (λ part. ContentsAgree base (before + count) (finish - there) rest seen (f (whole - count) part)) same
    (subst (λ room. ContentsAgree base (before + count) (finish - there) rest seen (f room (take (finish - there) rest))) e h))

-- an item with the right tag
item_with_tag : (term : Term) (room : ℕ) (sole : Bool) (octet : ℕ) (octets : List ℕ) → (octet == tag_of term) ≡ true → item_with (contents_outcome term) term room sole (octet ∷ octets) ≡ begun_outcome term room sole (octet ∷ octets)
item_with_tag term room sole octet octets e = ap (λ b. when b (λ _. begun_outcome term room sole (octet ∷ octets)) (λ _. Bad 0 why.Tag)) e

abbrev pub NextAgrees : ℕ → ℕ → ℕ → ℕ → Bool → List ℕ → Next → (ℕ → Outcome) → Type 0
NextAgrees base before place room sole octets next next' =
    (marks : List Mark) (there : ℕ) (rest : List ℕ) (count : ℕ) → there ≡ place + count → 0 < count → count ≤ room → (sole ≡ true → count ≡ room) → rest ≡ drop count octets → ContentsAgree base before room octets (next marks there rest) (next' count)

-- the item that an octet begins
picked_agree : (term : Term) → ContentsRight term → (left : Expected) (end : ℕ) (outer : List Container) (marks : List Mark) (base before place room : ℕ) (octet : ℕ) (octets : List ℕ) (next : Next) (next' : ℕ → Outcome) →
    place ≡ base + before → end - place ≡ suc room → (octet == tag_of term) ≡ true → NextAgrees base before place (suc room) (is_sole left) (octet ∷ octets) next next' →
    ContentsAgree base before (suc room) (octet ∷ octets) (scan_then (begun (scan_contents term) term (container_of end left ∷ outer) marks place (octet ∷ octets)) next)
    (then_after before (item_with (contents_outcome term) term (suc room) (is_sole left) (octet ∷ take room octets)) next')
picked_agree term right left end outer marks base before place room octet octets next next' e f tag k =
    let agreed : ItemAgree place (end - place) (is_sole left) (octet ∷ octets) (begun (scan_contents term) term (container_of end left ∷ outer) marks place (octet ∷ octets)) (begun_outcome term (end - place) (is_sole left) (take (end - place) (octet ∷ octets)))
    = item_agree term right (container_of end left ∷ outer) marks place (octet ∷ octets) (omega arith) in
    let here : ItemAgree place (suc room) (is_sole left) (octet ∷ octets) (begun (scan_contents term) term (container_of end left ∷ outer) marks place (octet ∷ octets)) (begun_outcome term (suc room) (is_sole left) (octet ∷ take room octets))
    = subst (λ r. ItemAgree place r (is_sole left) (octet ∷ octets) (begun (scan_contents term) term (container_of end left ∷ outer) marks place (octet ∷ octets)) (begun_outcome term r (is_sole left) (take r (octet ∷ octets)))) f agreed in
    subst (λ outcome. ContentsAgree base before (suc room) (octet ∷ octets) (scan_then (begun (scan_contents term) term (container_of end left ∷ outer) marks place (octet ∷ octets)) next) (then_after before outcome next'))
    (sym (item_with_tag term (suc room) (is_sole left) octet (take room octets) tag))
    (then_agree base before (suc room) place (suc room) (is_sole left) (octet ∷ octets) _ _ next next' e here k)

required_agree : (term : Term) → ContentsRight term → (expected left : Expected) (end : ℕ) (outer : List Container) (marks : List Mark) (base before place room : ℕ) (octets : List ℕ) (next : Next) (next' : ℕ → Outcome) →
    place ≡ base + before → end - place ≡ suc room → NextAgrees base before place (suc room) (is_sole left) octets next next' →
    ContentsAgree base before (suc room) octets (scan_required (begun (scan_contents term) term) term expected left end outer marks place (suc room) octets next)
    (then_after before (item_with (contents_outcome term) term (suc room) (is_sole left) (take (suc room) octets)) next')
required_agree term right expected left end outer marks base before place room [] next next' e f k = contents_open base before (suc room) [] _
required_agree term right expected left end outer marks base before place room (octet ∷ octets) next next' e f k = by_tag (octet == tag_of term) refl
  where
    by_tag : (b : Bool) → (octet == tag_of term) ≡ b →
        ContentsAgree base before (suc room) (octet ∷ octets)
        (when b (λ _. scan_then (begun (scan_contents term) term (container_of end left ∷ outer) marks place (octet ∷ octets)) next) (λ _. Fault place why.Tag))
        (then_after before (item_with (contents_outcome term) term (suc room) (is_sole left) (octet ∷ take room octets)) next')
    by_tag true tag = picked_agree term right left end outer marks base before place room octet octets next next' e f tag k
    by_tag false tag =
        subst (λ b. ContentsAgree base before (suc room) (octet ∷ octets) (Fault place why.Tag) (then_after before (when b (λ _. begun_outcome term (suc room) (is_sole left) (octet ∷ take room octets)) (λ _. Bad 0 why.Tag)) next')) (sym tag)
        (contents_fault base before (suc room) (octet ∷ octets) place (before + 0) why.Tag (omega arith))

optional_agree : (term : Term) → ContentsRight term → (fields : Fields) (expected left : Expected) (end : ℕ) (outer : List Container) (marks : List Mark) (base before place room : ℕ) (octets : List ℕ) (next : Next) (other : Unit {0} → PartScan) → (is_sole left) ≡ false →
    place ≡ base + before → end - place ≡ suc room → NextAgrees base before place (suc room) (is_sole left) octets next (λ count. fields_outcome fields (before + count) (suc room - count) (drop count (take (suc room) octets))) →
    ContentsAgree base before (suc room) octets (other tt) (fields_outcome fields before (suc room) (take (suc room) octets)) →
    ContentsAgree base before (suc room) octets (scan_optional (begun (scan_contents term) term) term expected left end outer marks place (suc room) octets next other)
    (fields_outcome (Optional term fields) before (suc room) (take (suc room) octets))
optional_agree term right fields expected left end outer marks base before place room [] next other shared e f k m = contents_open base before (suc room) [] _
optional_agree term right fields expected left end outer marks base before place room (octet ∷ octets) next other shared e f k m = by_tag (octet == tag_of term) refl
  where
    by_tag : (b : Bool) → (octet == tag_of term) ≡ b →
        ContentsAgree base before (suc room) (octet ∷ octets)
        (when b (λ _. scan_then (begun (scan_contents term) term (container_of end left ∷ outer) marks place (octet ∷ octets)) next) other)
        (when b (λ _. then_after before (item_with (contents_outcome term) term (suc room) false (octet ∷ take room octets)) (λ count. fields_outcome fields (before + count) (suc room - count) (drop count (octet ∷ take room octets))))
        (λ _. fields_outcome fields before (suc room) (octet ∷ take room octets)))
    by_tag true tag =
        subst (λ sole. ContentsAgree base before (suc room) (octet ∷ octets) (scan_then (begun (scan_contents term) term (container_of end left ∷ outer) marks place (octet ∷ octets)) next)
        (then_after before (item_with (contents_outcome term) term (suc room) sole (octet ∷ take room octets)) (λ count. fields_outcome fields (before + count) (suc room - count) (drop count (octet ∷ take room octets))))) shared
        (picked_agree term right left end outer marks base before place room octet octets next _ e f tag k)
    by_tag false tag = m

-- ---- terms

leaf_agree : (term : Term) (start count base before : ℕ) (stack : List Container) (marks : List Mark) (octets : List ℕ) → start ≡ base + before →
    ContentsAgree base before count octets (scan_leaf term start count stack marks octets) (after before (leaf_outcome term count (take count octets)))
leaf_agree term start count base before stack marks octets e = by_outcome (leaf_outcome term count (take count octets)) (leaf_done_at term count (take count octets))
  where
    by_outcome : (outcome : Outcome) → IsDoneAt count outcome → ContentsAgree base before count octets (of_leaf outcome term start count stack marks octets) (after before outcome)
    by_outcome Open h = contents_open base before count octets _
    by_outcome (Bad offset reason) h = contents_fault base before count octets (start + offset) (before + offset) reason (omega arith)
    by_outcome (Done total) h = let d : total ≡ count = h.done in record { agree = (omega arith, omega arith, refl) }

after_then : (before : ℕ) (outcome : Outcome) → after before outcome ≡ then_after before outcome (λ count. Done (before + count))
after_then before Open = refl
after_then before (Bad offset reason) = refl
after_then before (Done count) = refl

-- the sole item fills its container, and nothing follows it
ended : (base before whole there left end : ℕ) (outer : List Container) (marks : List Mark) (octets rest : List ℕ) (count : ℕ) → there ≡ base + before + count → count ≡ whole → rest ≡ drop count octets → left ≡ 0 →
    ContentsAgree base before whole octets (scan_end (OneOf []) end outer marks there left rest) (Done (before + count))
ended base before whole there zero end outer marks octets rest count at full after_it none = record { agree = (omega arith, omega arith, after_it ∙ ap (λ k. drop k octets) full) }
ended base before whole there (suc left) end outer marks octets rest count at full after_it none = absurd (omega arith)

only_agree : (term : Term) → ContentsRight term → (start count base before : ℕ) (outer : List Container) (marks : List Mark) (octets : List ℕ) → start ≡ base + before → 0 < before →
    ContentsAgree base before count octets (scan_only (begun (scan_contents term) term) term (start + count) outer marks start count octets)
    (only_contents before count (item_with (contents_outcome term) term count true (take count octets)))
only_agree term right start zero base before outer marks octets e p = contents_fault base before zero octets (start - 1) (before - 1) why.Missing (omega arith)
only_agree term right start (suc room) base before outer marks octets e p =
    subst (λ outcome. ContentsAgree base before (suc room) octets (scan_only (begun (scan_contents term) term) term (start + suc room) outer marks start (suc room) octets) outcome)
    (sym (after_then before (item_with (contents_outcome term) term (suc room) true (take (suc room) octets))))
    (required_agree term right (OneOf (term ∷ [])) (OneOf []) (start + suc room) outer marks base before start room octets _ _ e (omega arith)
    (λ marks_then there rest count at pos le sole after_it.
    let full : count ≡ suc room = sole refl in
    ended base before (suc room) there (start + suc room - there) (start + suc room) outer marks_then octets rest count (omega arith) full after_it (omega arith)))

each_agree : (term : Term) → ContentsRight term → (bound end base before place room : ℕ) (outer : List Container) (marks : List Mark) (octets : List ℕ) → place ≡ base + before → room ≡ end - place →
    ContentsAgree base before room octets (scan_each (begun (scan_contents term) term) term bound end outer marks place room octets)
    (items_contents (λ left. item_with (contents_outcome term) term left false) bound before room (take room octets))
each_agree term right bound end base before place zero outer marks octets e f = record { agree = (omega arith, omega arith, refl) }
each_agree term right zero end base before place (suc room) outer marks octets e f = contents_open base before (suc room) octets _
each_agree term right (suc bound) end base before place (suc room) outer marks octets e f =
    required_agree term right (Each term) (Each term) end outer marks base before place room octets _ _ e (sym f)
    (λ marks_then there rest scanned at pos le sole after_it.
    next_agree base before scanned (suc room) end there octets rest _ (λ left part. items_contents (λ all. item_with (contents_outcome term) term all false) bound (before + scanned) left part) (omega arith) le after_it
    (each_agree term right bound end base (before + scanned) there (end - there) outer marks_then rest (omega arith) refl))

mutual
  pub contents_agree : (term : Term) (start count base before : ℕ) (stack : List Container) (marks : List Mark) (octets : List ℕ) → start ≡ base + before → 0 < before →
      ContentsAgree base before count octets (scan_contents term start count stack marks octets) (contents_outcome term before count (take count octets))
  contents_agree (Sequence fields) start count base before stack marks octets e p =
      fields_agree fields (start + count) base before start count stack (with_mark marks (Sequence fields) start count) octets e (omega arith) p
  contents_agree (SequenceOf empty term) start count base before stack marks octets e p =
      each_agree term (contents_agree term) count (start + count) base before start count stack (with_mark marks (SequenceOf empty term) start count) octets e (omega arith)
  contents_agree (Tagged index term) start count base before stack marks octets e p =
      only_agree term (contents_agree term) start count base before stack (with_mark marks (Tagged index term) start count) octets e p
  contents_agree (Application number term) start count base before stack marks octets e p =
      only_agree term (contents_agree term) start count base before stack (with_mark marks (Application number term) start count) octets e p
  contents_agree other start count base before stack marks octets e p = leaf_agree other start count base before stack marks octets e

  fields_agree : (fields : Fields) (end base before place room : ℕ) (outer : List Container) (marks : List Mark) (octets : List ℕ) → place ≡ base + before → room ≡ end - place → 0 < before →
      ContentsAgree base before room octets (scan_fields fields end outer marks place room octets) (fields_outcome fields before room (take room octets))
  fields_agree End end base before place zero outer marks octets e f p = record { agree = (omega arith, omega arith, refl) }
  fields_agree End end base before place (suc room) outer marks [] e f p = contents_open base before (suc room) [] _
  fields_agree End end base before place (suc room) outer marks (octet ∷ octets) e f p = contents_fault base before (suc room) (octet ∷ octets) place before why.Tag e
  fields_agree (Required term fields) end base before place zero outer marks octets e f p = contents_fault base before zero octets (place - 1) (before - 1) why.Missing (omega arith)
  fields_agree (Required term fields) end base before place (suc room) outer marks octets e f p =
      required_agree term (contents_agree term) (Listed (Required term fields)) (Listed fields) end outer marks base before place room octets _ _ e (sym f)
      (λ marks_then there rest scanned at pos le sole after_it.
      next_agree base before scanned (suc room) end there octets rest _ (λ left part. fields_outcome fields (before + scanned) left part) (omega arith) le after_it
      (fields_agree fields end base (before + scanned) there (end - there) outer marks_then rest (omega arith) refl (omega arith)))
  fields_agree (Optional term fields) end base before place zero outer marks octets e f p = fields_agree fields end base before place zero outer marks octets e f p
  fields_agree (Optional term fields) end base before place (suc room) outer marks octets e f p =
      optional_agree term (contents_agree term) fields (Listed (Optional term fields)) (Listed fields) end outer marks base before place room octets _ _ refl e (sym f)
      (λ marks_then there rest scanned at pos le sole after_it.
      next_agree base before scanned (suc room) end there octets rest _ (λ left part. fields_outcome fields (before + scanned) left part) (omega arith) le after_it
      (fields_agree fields end base (before + scanned) there (end - there) outer marks_then rest (omega arith) refl (omega arith)))
      (fields_agree fields end base before place (suc room) outer marks octets e f p)

-- ---- messages

after_zero : (outcome : Outcome) → then_after 0 outcome (λ count. Done (0 + count)) ≡ outcome
after_zero Open = refl
after_zero (Bad offset reason) = let e : 0 + offset ≡ offset = omega arith in ap (λ o. Bad o reason) e
after_zero (Done count) = let e : 0 + count ≡ count = omega arith in ap Done e

message_agree : (terms : List Term) (expected : Expected) (room : ℕ) (octets : List ℕ) → length octets ≤ suc room →
    ContentsAgree 0 0 (suc room) octets (scan_one_of terms expected (suc room) [] [] 0 (suc room) octets) (message_outcome terms (suc room) octets)
message_agree [] expected room [] h = contents_open 0 0 (suc room) [] _
message_agree [] expected room (octet ∷ octets) h = contents_fault 0 0 (suc room) (octet ∷ octets) 0 0 why.Tag refl
message_agree (term ∷ terms) expected room [] h = contents_open 0 0 (suc room) [] _
message_agree (term ∷ terms) expected room (octet ∷ octets) h = by_tag (octet == tag_of term) refl (message_agree terms expected room (octet ∷ octets) h)
  where
    next : Next
    next = λ marks_then there rest. scan_end (OneOf []) (suc room) [] marks_then there (suc room - there) rest

    seen : PartScan
    seen = scan_then (begun (scan_contents term) term (container_of (suc room) (OneOf []) ∷ []) [] 0 (octet ∷ octets)) next

    agreed : (octet == tag_of term) ≡ true → ContentsAgree 0 0 (suc room) (octet ∷ octets) seen (item_with (contents_outcome term) term (suc room) true (octet ∷ octets))
    agreed tag =
        subst (ContentsAgree 0 0 (suc room) (octet ∷ octets) seen)
        (after_zero (item_with (contents_outcome term) term (suc room) true (octet ∷ take room octets)) ∙ ap (λ rest. item_with (contents_outcome term) term (suc room) true (octet ∷ rest)) (take_all room octets (omega arith)))
        (picked_agree term (contents_agree term) (OneOf []) (suc room) [] [] 0 0 0 room octet octets next (λ count. Done (0 + count)) refl (omega arith) tag
        (λ marks_then there rest count at pos le sole after_it.
        let full : count ≡ suc room = sole refl in
        ended 0 0 (suc room) there (suc room - there) (suc room) [] marks_then (octet ∷ octets) rest count (omega arith) full after_it (omega arith)))

    by_tag : (b : Bool) → (octet == tag_of term) ≡ b → ContentsAgree 0 0 (suc room) (octet ∷ octets) (scan_one_of terms expected (suc room) [] [] 0 (suc room) (octet ∷ octets)) (message_outcome terms (suc room) (octet ∷ octets)) →
        ContentsAgree 0 0 (suc room) (octet ∷ octets) (when b (λ _. seen) (λ _. scan_one_of terms expected (suc room) [] [] 0 (suc room) (octet ∷ octets)))
        (when b (λ _. item_with (contents_outcome term) term (suc room) true (octet ∷ octets)) (λ _. message_outcome terms (suc room) (octet ∷ octets)))
    by_tag true tag ih = agreed tag
    by_tag false tag ih = ih

agreed_outcome : (n : ℕ) (octets : List ℕ) (seen : PartScan) (outcome : Outcome) → ContentsAgree 0 0 n octets seen outcome → outcome ≡ outcome_of n (answer seen)
agreed_outcome n octets (Within state) Open h = refl
agreed_outcome n octets (Fault place reason) (Bad offset because) h =
    let at : place ≡ 0 + offset = h.agree.0 in
    let same : offset ≡ place = omega arith in
    ap (λ o. Bad o because) same ∙ ap (λ w. Bad place w) (sym h.agree.1)
agreed_outcome n octets (Past marks place rest) (Done total) h =
    let size : total ≡ 0 + 0 + n = h.agree.1 in
    let same : total ≡ n = omega arith in
    ap Done same
agreed_outcome n octets other another h = absurd h.agree

-- The outcome of the scan is that of the judgement.
pub scan_outcome : (terms : List Term) (n : ℕ) (octets : List ℕ) → 0 < n → length octets ≤ n → message_outcome terms n octets ≡ outcome_of n (scan terms n octets)
scan_outcome terms zero octets some h = absurd (omega arith)
scan_outcome terms (suc room) octets some h = agreed_outcome (suc room) octets (scan_message terms (suc room) octets) (message_outcome terms (suc room) octets) (message_agree terms (OneOf terms) room octets h)

decided : (n : ℕ) (given : Answer) → verdict_of (outcome_of n given) ≡ decided_by given
decided n (Ongoing state) = refl
decided n (Refusing place reason) = refl
decided n (Whole marks) = refl

-- The verdict of a scan of octets is their judgement.
pub scan_judges : ScanJudges
scan_judges terms n octets some h = ap verdict_of (scan_outcome terms n octets some h) ∙ decided n (scan terms n octets)
