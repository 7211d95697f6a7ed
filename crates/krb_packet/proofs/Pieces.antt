-- The parts of a datagram's fragments, in the order of their places.
use Rattle.std.proofs.Common.{◌≡◌, ℕ, ◌+◌, ◌-◌, ◌<◌, ◌≤◌, ◌⊎◌, inl, inr, zero, suc, Bool, true, false, ◌&&◌, Some, None, List, [], ◌∷◌, ◌++◌, length, take, drop, map, get_or, refl, sym, ap, subst, ◌∙◌, arith, append_assoc, length-append}
use Rattle.std.specs.Prelude.{nat_eq, nat_le}
use Rattle.std.specs.List.{list_all, list_any, insert}
use Rattle.std.specs.List.Sorted.{IsPartitionedBy}
use Rattle.std.specs.Cmp.Lexicographic.{pointwise}
use Rattle.std.proofs.lemmas.Bool.Decides.{nat_tests}
use Rattle.std.proofs.lemmas.Bool.{cases_lt, true≢false}
use Rattle.std.proofs.lemmas.List.{map-append, take-map, length-map, get_or-map}
use Rattle.std.proofs.lemmas.List.Folds.{list_all-map, list_any_at, list_all_at}
use Rattle.std.proofs.lemmas.List.Edits.{get_or-insert_below, get_or-insert_at, get_or-insert_above, length-insert}
use Rattle.std.proofs.lemmas.Grind.{common_steps}
use Rattle.krb_packet.specs.declared.contents.Fragment.{Fragment}
use Rattle.krb_packet.specs.declared.assembly.Span.{Span}
use Rattle.krb_packet.specs.declared.assembly.Part.{Part}
use Rattle.krb_packet.specs.Parts.{Piece, Parts, is_sound, span_of, piece_of, same_span, same_piece, is_copy, are_apart, agrees, fits, is_before, with_piece, with_fragment, add_fragment, joined, most_octets}
use Rattle.krb_packet.specs.inner.Pieces.{octets_in, piece_in, Precedes, IsWithin, AreParts, IsPlace, IsNew}

-- ---- the order of spans

before_then : (one other third : Span) → is_before one other ≡ true → is_before other third ≡ true → is_before one third ≡ true
before_then one other third here there = grind (arith, nat_tests)

before_starts : (one other : Span) → is_before one other ≡ true → one.start ≤ other.start
before_starts one other before = grind (arith, nat_tests)

same_not_before : (one other : Span) → same_span one other ≡ true → is_before other one ≡ false
same_not_before one other same = grind (arith, nat_tests)

same_not_after : (one other : Span) → same_span one other ≡ true → is_before one other ≡ false
same_not_after one other same = grind (arith, nat_tests)

same_before : (one other third : Span) → same_span one other ≡ true → is_before third other ≡ true → is_before third one ≡ true
same_before one other third same before = grind (arith, nat_tests)

not_before_is_after : (one other : Span) → is_before one other ≡ false → same_span other one ≡ false → is_before other one ≡ true
not_before_is_after one other before differs = grind (arith, nat_tests)

apart_ends : (one other : Span) → one.start ≤ one.end → other.start ≤ other.end → are_apart other one ≡ true → is_before one other ≡ true → one.end ≤ other.start
apart_ends one other some more apart before = grind (arith, nat_tests)

apart_begins : (one other : Span) → one.start ≤ one.end → other.start ≤ other.end → are_apart other one ≡ true → is_before one other ≡ false → other.end ≤ one.start
apart_begins one other some more apart before = grind (arith, nat_tests)

ends_apart : (one other : Span) → other.end ≤ one.start → are_apart one other ≡ true
ends_apart one other ends = grind (arith, nat_tests)

begins_apart : (one other : Span) → one.end ≤ other.start → are_apart one other ≡ true
begins_apart one other ends = grind (arith, nat_tests)

same_not_apart : (one other : Span) → one.start < one.end → same_span one other ≡ true → are_apart one other ≡ false
same_not_apart one other some same = grind (arith, nat_tests)

by_false : (b : Bool) → (b ≡ true → ⊥) → b ≡ false
by_false true never = absurd (never refl)
by_false false never = refl

-- ---- the place of a span

pub partitioned : (octets : List ℕ) (parts : List Part) (span : Span) → AreParts octets parts → IsPartitionedBy (λ part. is_before part.span span) parts
partitioned octets parts span are = λ i j d upto within before. elim (cases_lt i j) [
  | inl earlier ↦ before_then (get_or parts i d).span (get_or parts j d).span span (are.ordered i j d earlier within).before before
  | inr same ↦ let e : j ≡ i = omega arith in subst (λ (n : ℕ). is_before (get_or parts n d).span span ≡ true) e before
]

-- only the part at its place may have the same places as a span
pub differs_elsewhere : (octets : List ℕ) (parts : List Part) (span : Span) (place : ℕ) → AreParts octets parts → IsPlace place span parts → (k : ℕ) (d : Part) → k < length parts → (k < place) ⊎ (place < k) → same_span span (get_or parts k d).span ≡ false
differs_elsewhere octets parts span place are is k d within (inl before) = by_false (same_span span (get_or parts k d).span) (λ same. true≢false (sym (is.before k d before) ∙ same_not_before span (get_or parts k d).span same))
differs_elsewhere octets parts span place are is k d within (inr later) = by_false (same_span span (get_or parts k d).span) (λ same. true≢false (sym (same_before span (get_or parts k d).span (get_or parts place d).span same (are.ordered place k d later within).before) ∙ is.from place d (omega arith) (omega arith)))

none_any : {X : Type 0} (p : X → Bool) (xs : List X) → ((k : ℕ) (d : X) → k < length xs → p (get_or xs k d) ≡ false) → list_any p xs ≡ false
none_any p [] none = refl
none_any p (x ∷ xs) none = rw (none 0 x (omega arith)) (none_any p xs (λ k d within. none (suc k) d (omega arith)))

all_all : {X : Type 0} (p : X → Bool) (xs : List X) → ((k : ℕ) (d : X) → k < length xs → p (get_or xs k d) ≡ true) → list_all p xs ≡ true
all_all p [] all = refl
all_all p (x ∷ xs) all = rw (all 0 x (omega arith)) (all_all p xs (λ k d within. all (suc k) d (omega arith)))

all_at : {X : Type 0} (p : X → Bool) (xs : List X) (k : ℕ) (d : X) → list_all p xs ≡ true → k < length xs → p (get_or xs k d) ≡ true
all_at p xs k d all within = by (p (get_or xs k d)) refl
  where
    by : (b : Bool) → p (get_or xs k d) ≡ b → p (get_or xs k d) ≡ true
    by true is = is
    by false is = absurd (true≢false (sym all ∙ list_all_at p xs k d within is))

where_is : (k place : ℕ) → ((k < place) ⊎ (place < k)) ⊎ (place ≡ k)
where_is k place = elim (cases_lt k place) [
  | inl before ↦ inl (inl before)
  | inr from ↦ elim (cases_lt place k) [
    | inl later ↦ inl (inr later)
    | inr same ↦ inr (omega arith)
  ]
]

pub none_same : (octets : List ℕ) (parts : List Part) (span : Span) (place : ℕ) → AreParts octets parts → IsPlace place span parts → ((d : Part) → place < length parts → same_span span (get_or parts place d).span ≡ false) → list_any (λ part. same_span span part.span) parts ≡ false
none_same octets parts span place are is differs = none_any (λ part. same_span span part.span) parts (λ k d within. elim (where_is k place) [
  | inl other ↦ differs_elsewhere octets parts span place are is k d within other
  | inr e ↦ subst (λ (n : ℕ). same_span span (get_or parts n d).span ≡ false) e (differs d (omega arith))
])

-- ---- a span is apart from all parts if it is from those around its place

pub all_apart : (octets : List ℕ) (parts : List Part) (span : Span) (place : ℕ) → span.start ≤ span.end → AreParts octets parts → IsPlace place span parts → ((d : Part) → 0 < place → are_apart span (get_or parts (place - 1) d).span ≡ true) → ((d : Part) → place < length parts → are_apart span (get_or parts place d).span ≡ true) → list_all (λ part. are_apart span part.span) parts ≡ true
all_apart octets parts span place some are is before after = all_all (λ part. are_apart span part.span) parts (λ k d within. elim (cases_lt k place) [
  | inl earlier ↦ elim (cases_lt k (place - 1)) [
    | inl far ↦ ends_apart span (get_or parts k d).span (far_before k d far)
    | inr near ↦ let e : place - 1 ≡ k = omega arith in subst (λ (n : ℕ). are_apart span (get_or parts n d).span ≡ true) e (before d (omega arith))
  ]
  | inr from ↦ elim (cases_lt place k) [
    | inl far ↦ begins_apart span (get_or parts k d).span (far_after k d far within)
    | inr near ↦ let e : place ≡ k = omega arith in subst (λ (n : ℕ). are_apart span (get_or parts n d).span ≡ true) e (after d (omega arith))
  ]
])
  where
    far_before : (k : ℕ) (d : Part) → k < place - 1 → (get_or parts k d).span.end ≤ span.start
    far_before k d far =
        let order = are.ordered k (place - 1) d far (omega (arith, is.within)) in
        let begins = before_starts (get_or parts (place - 1) d).span span (is.before (place - 1) d (omega arith)) in
        omega (arith, order.ends, begins)

    far_after : (k : ℕ) (d : Part) → place < k → k < length parts → span.end ≤ (get_or parts k d).span.start
    far_after k d far within =
        let order = are.ordered place k d far within in
        let sizes = are.within place d (omega arith) in
        let here = apart_begins (get_or parts place d).span span sizes.size some (after d (omega arith)) (is.from place d (omega arith) (omega arith)) in
        omega (arith, order.ends, here, sizes.size)

pub not_all_apart : (parts : List Part) (span : Span) (k : ℕ) (d : Part) → k < length parts → are_apart span (get_or parts k d).span ≡ false → list_all (λ part. are_apart span part.span) parts ≡ false
not_all_apart parts span k d within touches = list_all_at (λ part. are_apart span part.span) parts k d within touches

-- ---- what a fragment is to those that came

pub same_pieces : (octets : List ℕ) (parts : List Part) (piece : Piece) → list_any (λ part. same_span piece.span part.span) parts ≡ false → list_any (same_piece piece) (map (piece_in octets) parts) ≡ false
same_pieces octets [] piece none = refl
same_pieces octets (part ∷ parts) piece none =
    let here : same_span piece.span part.span ≡ false = grind (arith, nat_tests) in
    let there : list_any (λ part. same_span piece.span part.span) parts ≡ false = grind (arith, nat_tests) in
    rw here (same_pieces octets parts piece there)

pub unsound : (parts : Parts) (fragment : Fragment) → is_sound fragment ≡ false → add_fragment parts fragment ≡ None
unsound parts fragment is = rw is refl

pub copied : (parts : Parts) (fragment : Fragment) → is_sound fragment ≡ true → is_copy parts fragment ≡ true → add_fragment parts fragment ≡ Some parts
copied parts fragment sound copy = rw (sound, copy) refl

pub refused : (parts : Parts) (fragment : Fragment) → is_sound fragment ≡ true → is_copy parts fragment ≡ false → fits parts fragment ≡ false → add_fragment parts fragment ≡ None
refused parts fragment sound copy fit = rw (sound, copy, fit) refl

added : (parts : Parts) (fragment : Fragment) → is_sound fragment ≡ true → is_copy parts fragment ≡ false → fits parts fragment ≡ true → add_fragment parts fragment ≡ Some (with_fragment parts fragment)
added parts fragment sound copy fit = rw (sound, copy, fit) refl

piece_there : (octets : List ℕ) (parts : List Part) (piece : Piece) (place : ℕ) (part : Part) → place < length parts → get_or parts place part ≡ part → same_span piece.span part.span ≡ true → same_piece piece (get_or (map (piece_in octets) parts) place (piece_in octets part)) ≡ pointwise nat_eq piece.octets (octets_in octets part)
piece_there octets parts piece place part within is same = rw (get_or-map (piece_in octets) parts place part (piece_in octets part) within, is, same) refl

pub copy_there : (octets : List ℕ) (parts : List Part) (piece : Piece) (place : ℕ) (part : Part) → place < length parts → get_or parts place part ≡ part → same_span piece.span part.span ≡ true → pointwise nat_eq piece.octets (octets_in octets part) ≡ true → list_any (same_piece piece) (map (piece_in octets) parts) ≡ true
copy_there octets parts piece place part within is same equal =
    list_any_at (same_piece piece) (map (piece_in octets) parts) place (piece_in octets part) (omega (arith, length-map parts (piece_in octets))) (piece_there octets parts piece place part within is same ∙ equal)

pub no_copy_there : (octets : List ℕ) (parts : List Part) (piece : Piece) (place : ℕ) (part : Part) → AreParts octets parts → IsPlace place piece.span parts → place < length parts → get_or parts place part ≡ part → pointwise nat_eq piece.octets (octets_in octets part) ≡ false → list_any (same_piece piece) (map (piece_in octets) parts) ≡ false
no_copy_there octets parts piece place part are is within at differs = none_any (same_piece piece) (map (piece_in octets) parts) (λ k d inside. elim (where_is k place) [
  | inl other ↦ rw (get_or-map (piece_in octets) parts k part d (omega (arith, length-map parts (piece_in octets), inside)), differs_elsewhere octets parts piece.span place are is k part (omega (arith, length-map parts (piece_in octets), inside)) other) refl
  | inr e ↦ subst (λ (n : ℕ). same_piece piece (get_or (map (piece_in octets) parts) n d) ≡ false) e (rw (get_or-map (piece_in octets) parts place part d within, at, differs) (and_false (same_span piece.span part.span)))
])
  where
    and_false : (b : Bool) → (b && false) ≡ false
    and_false true = refl
    and_false false = refl

-- ---- a piece more

pub with_piece_is : (piece : Piece) (pieces : List Piece) (place : ℕ) → place ≤ length pieces → ((k : ℕ) (d : Piece) → k < place → is_before (get_or pieces k d).span piece.span ≡ true) → ((d : Piece) → place < length pieces → is_before (get_or pieces place d).span piece.span ≡ false) → with_piece piece pieces ≡ insert pieces place piece
with_piece_is piece [] zero within before from = refl
with_piece_is piece [] (suc place) within before from = absurd (omega (arith, within))
with_piece_is piece (first ∷ others) zero within before from = rw (from first (omega arith)) refl
with_piece_is piece (first ∷ others) (suc place) within before from =
    rw (before 0 first (omega arith)) (ap (λ (pieces : List Piece). first ∷ pieces) (with_piece_is piece others place (omega arith) (λ k d earlier. before (suc k) d (omega arith)) (λ d inside. from d (omega arith))))

joined-append : (one other : List Piece) → joined (one ++ other) ≡ joined one ++ joined other
joined-append [] other = refl
joined-append (piece ∷ one) other = rw (joined-append one other) (sym (append_assoc piece.octets (joined one) (joined other)))

drop-map : {X Y : Type 0} (f : X → Y) (n : ℕ) (xs : List X) → drop n (map f xs) ≡ map f (drop n xs)
drop-map f zero xs = refl
drop-map f (suc n) [] = refl
drop-map f (suc n) (x ∷ xs) = drop-map f n xs

-- the octets of all pieces are those before a new one, its own, and those after it
pub joined_with : (octets : List ℕ) (parts : List Part) (place : ℕ) (piece : Piece) → joined (insert (map (piece_in octets) parts) place piece) ≡ (joined (map (piece_in octets) (take place parts)) ++ piece.octets) ++ joined (map (piece_in octets) (drop place parts))
joined_with octets parts place piece =
    joined-append (take place (map (piece_in octets) parts)) (piece ∷ drop place (map (piece_in octets) parts))
    ∙ rw (take-map (piece_in octets) place parts, drop-map (piece_in octets) place parts)
    (sym (append_assoc (joined (map (piece_in octets) (take place parts))) piece.octets (joined (map (piece_in octets) (drop place parts)))))

-- the octets of one part more
pub joined_more : (octets : List ℕ) (parts : List Part) (k : ℕ) (d : Part) → k < length parts → joined (map (piece_in octets) (take (k + 1) parts)) ≡ joined (map (piece_in octets) (take k parts)) ++ octets_in octets (get_or parts k d)
joined_more octets parts k d within =
    rw (take-more parts k d within, map-append (piece_in octets) (take k parts) (get_or parts k d ∷ []), joined-append (map (piece_in octets) (take k parts)) (piece_in octets (get_or parts k d) ∷ [])) (ap (λ (xs : List ℕ). joined (map (piece_in octets) (take k parts)) ++ xs) (append-nil (octets_in octets (get_or parts k d))))
  where
    append-nil : (xs : List ℕ) → xs ++ [] ≡ xs
    append-nil xs = grind (arith, common_steps)

    take-more : (xs : List Part) (n : ℕ) (e : Part) → n < length xs → take (n + 1) xs ≡ take n xs ++ get_or xs n e ∷ []
    take-more xs n e inside = grind (arith, common_steps)

-- ---- a part more

still_in : (octets new : List ℕ) (part : Part) → IsWithin octets part → octets_in (octets ++ new) part ≡ octets_in octets part
still_in octets new part is = kept part.begin (part.span.end - part.span.start) octets new is.came
  where
    kept : (at n : ℕ) (xs ys : List ℕ) → at + n ≤ length xs → take n (drop at (xs ++ ys)) ≡ take n (drop at xs)
    kept at n xs ys within = grind (arith, common_steps)

still_all : (octets new : List ℕ) (parts : List Part) → ((k : ℕ) (d : Part) → k < length parts → IsWithin octets (get_or parts k d)) → map (piece_in (octets ++ new)) parts ≡ map (piece_in octets) parts
still_all octets new [] are = refl
still_all octets new (part ∷ parts) are = rw (still_in octets new part (are 0 part (omega arith)), still_all octets new parts (λ k d within. are (suc k) d (omega arith))) refl

new_in : (octets new : List ℕ) → take (length new) (drop (length octets) (octets ++ new)) ≡ new
new_in octets new = grind (arith, common_steps)

map-insert : {X Y : Type 0} (f : X → Y) (xs : List X) (place : ℕ) (x : X) → map f (insert xs place x) ≡ insert (map f xs) place (f x)
map-insert f xs place x = map-append f (take place xs) (x ∷ drop place xs) ∙ rw (take-map f place xs, drop-map f place xs) refl

pub kept_pieces : (octets new : List ℕ) (parts : List Part) (place : ℕ) (part : Part) → AreParts octets parts → part.begin ≡ length octets → part.span.end ≡ part.span.start + length new → map (piece_in (octets ++ new)) (insert parts place part) ≡ insert (map (piece_in octets) parts) place (record { span = part.span; octets = new })
kept_pieces octets new parts place part are begins ends =
    let size : part.span.end - part.span.start ≡ length new = omega (arith, ends) in
    let its : octets_in (octets ++ new) part ≡ new = rw (size, begins) (new_in octets new) in
    map-insert (piece_in (octets ++ new)) parts place part ∙ rw (still_all octets new parts are.within, its) refl

pub kept_parts : (octets new : List ℕ) (parts : List Part) (place : ℕ) (part : Part) → AreParts octets parts → length octets + length new ≤ most_octets → place ≤ length parts → part.begin ≡ length octets → part.span.end ≡ part.span.start + length new → ((k : ℕ) (d : Part) → k < place → Precedes (get_or parts k d).span part.span) → ((k : ℕ) (d : Part) → place ≤ k → k < length parts → Precedes part.span (get_or parts k d).span) → AreParts (octets ++ new) (insert parts place part)
kept_parts octets new parts place part are few within begins ends before after = record {
  few = omega (arith, length-append octets new, few);
  within = λ k d inside. elim (cases_lt k place) [
    | inl earlier ↦ rw (get_or-insert_below parts place part d k earlier within) (more (get_or parts k d) (are.within k d (omega arith)))
    | inr from ↦ elim (cases_lt place k) [
      | inl later ↦
          let e : (k - 1) + 1 ≡ k = omega arith in
          subst (λ (n : ℕ). IsWithin (octets ++ new) (get_or (insert parts place part) n d)) e (rw (get_or-insert_above parts place part d (k - 1) (omega arith) within) (more (get_or parts (k - 1) d) (are.within (k - 1) d (omega (arith, length-insert parts place part within)))))
      | inr same ↦
          let e : place ≡ k = omega arith in
          subst (λ (n : ℕ). IsWithin (octets ++ new) (get_or (insert parts place part) n d)) e (rw (get_or-insert_at parts place part d within) its)
    ]
  ];
  ordered = λ j k d upto inside. order j k d upto (omega (arith, length-insert parts place part within, inside)) (cases_lt j place) (cases_lt k place) (cases_lt place j) (cases_lt place k);
}
  where
    more : (one : Part) → IsWithin octets one → IsWithin (octets ++ new) one
    more one is = record { size = is.size; came = omega (arith, length-append octets new, is.came) }

    its : IsWithin (octets ++ new) part
    its = record { size = omega (arith, ends); came = omega (arith, length-append octets new, ends, begins) }

    at : ℕ → Part → Span
    at n d = (get_or (insert parts place part) n d).span

    below : (n : ℕ) (d : Part) → n < place → at n d ≡ (get_or parts n d).span
    below n d earlier = ap (λ (p : Part). p.span) (get_or-insert_below parts place part d n earlier within)

    here : (n : ℕ) (d : Part) → n ≡ place → at n d ≡ part.span
    here n d same = ap (λ (m : ℕ). at m d) same ∙ ap (λ (p : Part). p.span) (get_or-insert_at parts place part d within)

    above : (n : ℕ) (d : Part) → place < n → at n d ≡ (get_or parts (n - 1) d).span
    above n d later =
        let e : (n - 1) + 1 ≡ n = omega arith in
        let is : at ((n - 1) + 1) d ≡ (get_or parts (n - 1) d).span = ap (λ (p : Part). p.span) (get_or-insert_above parts place part d (n - 1) (omega arith) within) in
        subst (λ (m : ℕ). at m d ≡ (get_or parts (n - 1) d).span) e is

    both : (j k : ℕ) (d : Part) (one other : Span) → at j d ≡ one → at k d ≡ other → Precedes one other → Precedes (at j d) (at k d)
    both j k d one other i o p = rw (i, o) p

    order : (j k : ℕ) (d : Part) → j < k → k < length parts + 1 → (j < place) ⊎ (place ≤ j) → (k < place) ⊎ (place ≤ k) → (place < j) ⊎ (j ≤ place) → (place < k) ⊎ (k ≤ place) → Precedes (at j d) (at k d)
    order j k d upto inside (inl j_before) (inl k_before) j_after k_after = both j k d _ _ (below j d j_before) (below k d k_before) (are.ordered j k d upto (omega arith))
    order j k d upto inside (inl j_before) (inr k_from) j_after (inl k_after) = both j k d _ _ (below j d j_before) (above k d k_after) (are.ordered j (k - 1) d (omega arith) (omega arith))
    order j k d upto inside (inl j_before) (inr k_from) j_after (inr k_upto) = both j k d _ _ (below j d j_before) (here k d (omega arith)) (before j d j_before)
    order j k d upto inside (inr j_from) k_place (inl j_after) k_after = both j k d _ _ (above j d j_after) (above k d (omega arith)) (are.ordered (j - 1) (k - 1) d (omega arith) (omega arith))
    order j k d upto inside (inr j_from) k_place (inr j_upto) k_after = both j k d _ _ (here j d (omega arith)) (above k d (omega arith)) (after (k - 1) d (omega arith) (omega arith))

-- ---- a new fragment

pub is_new : (octets : List ℕ) (parts : List Part) (all : Parts) (fragment : Fragment) (place : ℕ) → AreParts octets parts → all.pieces ≡ map (piece_in octets) parts → IsPlace place (span_of fragment) parts → is_sound fragment ≡ true → fragment.offset + length fragment.payload.octets ≤ most_octets → list_any (λ part. same_span (span_of fragment) part.span) parts ≡ false → fits all fragment ≡ true → IsNew all fragment place
is_new octets parts all fragment place are pieces is sound end differs fit = record {
  adds = added all fragment sound (rw pieces (same_pieces octets parts (piece_of fragment) differs)) fit;
  end = end;
  count = grind (arith, nat_tests, fit);
  within = rw pieces (omega (arith, length-map parts (piece_in octets), is.within));
  pieces = rw pieces (with_piece_is (piece_of fragment) (map (piece_in octets) parts) place (omega (arith, length-map parts (piece_in octets), is.within)) (λ k d before. rw (spanned k d (omega (arith, is.within))) (is.before k (part d) before)) (λ d inside. rw (spanned place d (omega (arith, length-map parts (piece_in octets), inside))) (is.from place (part d) (omega arith) (omega (arith, length-map parts (piece_in octets), inside)))));
  before = λ k d earlier. rw pieces (rw (spanned k d (omega (arith, is.within))) (first k d earlier));
  from = λ k d from inside. rw pieces (rw (spanned k d (omega (arith, inside, ap length pieces, length-map parts (piece_in octets)))) (later k d from (omega (arith, inside, ap length pieces, length-map parts (piece_in octets)))));
}
  where
    part : Piece → Part
    part piece = record { span = piece.span; begin = 0 }

    spanned : (k : ℕ) (d : Piece) → k < length parts → (get_or (map (piece_in octets) parts) k d).span ≡ (get_or parts k (part d)).span
    spanned k d inside = rw (get_or-map (piece_in octets) parts k (part d) d inside) refl

    apart : list_all (λ part. are_apart (span_of fragment) part.span) parts ≡ true
    apart =
        let all_of : list_all (λ piece. are_apart (span_of fragment) piece.span) all.pieces ≡ true = grind (arith, nat_tests, fit) in
        sym (list_all-map (λ piece. are_apart (span_of fragment) piece.span) (piece_in octets) parts) ∙ (rw pieces at all_of)

    first : (k : ℕ) (d : Piece) → k < place → Precedes (get_or parts k (part d)).span (span_of fragment)
    first k d earlier = record {
      before = is.before k (part d) earlier;
      ends = apart_ends (get_or parts k (part d)).span (span_of fragment) (are.within k (part d) (omega (arith, is.within))).size (omega arith) (all_at (λ part. are_apart (span_of fragment) part.span) parts k (part d) apart (omega (arith, is.within))) (is.before k (part d) earlier);
    }

    any_at : (k : ℕ) (d : Piece) → k < length parts → same_span (span_of fragment) (get_or parts k (part d)).span ≡ false
    any_at k d inside = by_false (same_span (span_of fragment) (get_or parts k (part d)).span) (λ same. true≢false (sym (list_any_at (λ part. same_span (span_of fragment) part.span) parts k (part d) inside same) ∙ differs))

    later : (k : ℕ) (d : Piece) → place ≤ k → k < length parts → Precedes (span_of fragment) (get_or parts k (part d)).span
    later k d from inside = record {
      before = not_before_is_after (get_or parts k (part d)).span (span_of fragment) (is.from k (part d) from inside) (any_at k d inside);
      ends = apart_begins (get_or parts k (part d)).span (span_of fragment) (are.within k (part d) inside).size (omega arith) (all_at (λ part. are_apart (span_of fragment) part.span) parts k (part d) apart inside) (is.from k (part d) from inside);
    }

pub after_keep : (octets more : List ℕ) (parts others : List Part) (all : Parts) (fragment : Fragment) (place : ℕ) (part : Part) → AreParts octets parts → all.pieces ≡ map (piece_in octets) parts → all.count ≡ length octets → IsNew all fragment place → more ≡ octets ++ fragment.payload.octets → others ≡ insert parts place part → part.span ≡ span_of fragment → part.begin ≡ length octets → AreParts more others
after_keep octets more parts others all fragment place part are pieces count new m o span begin =
    rw (m, o) (kept_parts octets fragment.payload.octets parts place part are (omega (arith, new.count, count)) within begin ends
    (λ k d earlier. rw span (subst (λ (s : Span). Precedes s (span_of fragment)) (spanned k d (omega (arith, within))) (new.before k (piece_in octets d) earlier)))
    (λ k d from inside. rw span (subst (λ (s : Span). Precedes (span_of fragment) s) (spanned k d inside) (new.from k (piece_in octets d) from (omega (arith, inside, ap length pieces, length-map parts (piece_in octets)))))))
  where
    within : place ≤ length parts
    within = omega (arith, new.within, ap length pieces, length-map parts (piece_in octets))

    ends : part.span.end ≡ part.span.start + length fragment.payload.octets
    ends = rw span refl

    spanned : (k : ℕ) (d : Part) → k < length parts → (get_or all.pieces k (piece_in octets d)).span ≡ (get_or parts k d).span
    spanned k d inside = rw pieces (ap (λ (p : Piece). p.span) (get_or-map (piece_in octets) parts k d (piece_in octets d) inside))

pub after_keep_pieces : (octets more : List ℕ) (parts others : List Part) (all : Parts) (fragment : Fragment) (place : ℕ) (part : Part) → AreParts octets parts → all.pieces ≡ map (piece_in octets) parts → IsNew all fragment place → more ≡ octets ++ fragment.payload.octets → others ≡ insert parts place part → part.span ≡ span_of fragment → part.begin ≡ length octets → map (piece_in more) others ≡ (with_fragment all fragment).pieces
after_keep_pieces octets more parts others all fragment place part are pieces new m o span begin =
    rw (m, o) (kept_pieces octets fragment.payload.octets parts place part are begin ends ∙ rw span (ap (λ (p : List Piece). insert p place (piece_of fragment)) (sym pieces)) ∙ sym new.pieces)
  where
    ends : part.span.end ≡ part.span.start + length fragment.payload.octets
    ends = rw span refl

-- ---- a fragment that has the places of one that came, and other octets

no_octets : (xs ys : List ℕ) → length xs ≡ 0 → length ys ≡ 0 → pointwise nat_eq xs ys ≡ true
no_octets [] [] of_one of_other = refl
no_octets [] (y ∷ ys) of_one of_other = absurd (omega (arith, of_other))
no_octets (x ∷ xs) [] of_one of_other = absurd (omega (arith, of_one))
no_octets (x ∷ xs) (y ∷ ys) of_one of_other = absurd (omega (arith, of_one))

pub no_fit_there : (octets : List ℕ) (parts : List Part) (all : Parts) (fragment : Fragment) (place : ℕ) (part : Part) → all.pieces ≡ map (piece_in octets) parts → place < length parts → get_or parts place part ≡ part → same_span (span_of fragment) part.span ≡ true → pointwise nat_eq fragment.payload.octets (octets_in octets part) ≡ false → fits all fragment ≡ false
no_fit_there octets parts all fragment place part pieces within at same differs =
    rw (pieces, list_all-map (λ piece. are_apart (span_of fragment) piece.span) (piece_in octets) parts, not_all_apart parts (span_of fragment) place part within (rw at (same_not_apart (span_of fragment) part.span some same))) refl
  where
    none_in : part.span.end - part.span.start ≡ 0 → length (octets_in octets part) ≡ 0
    none_in empty = rw empty refl

    size : part.span.end - part.span.start ≡ length fragment.payload.octets
    size = grind (arith, nat_tests, same)

    some : (span_of fragment).start < (span_of fragment).end
    some = elim (cases_lt 0 (length fragment.payload.octets)) [
      | inl there ↦ omega arith
      | inr nothing ↦ absurd (true≢false (sym (no_octets fragment.payload.octets (octets_in octets part) (omega arith) (none_in (omega (arith, size)))) ∙ differs))
    ]

-- ---- a span and the parts around its place

pub apart_is : (octets : List ℕ) (parts : List Part) (span : Span) (place : ℕ) (before after : Bool) → span.start ≤ span.end → AreParts octets parts → IsPlace place span parts → ((d : Part) → 0 < place → before ≡ are_apart span (get_or parts (place - 1) d).span) → (place ≡ 0 → before ≡ true) → ((d : Part) → place < length parts → after ≡ are_apart span (get_or parts place d).span) → (length parts ≤ place → after ≡ true) → (before && after) ≡ list_all (λ part. are_apart span part.span) parts
apart_is octets parts span place true true some are is before first after last = sym (all_apart octets parts span place some are is (λ d within. sym (before d within)) (λ d within. sym (after d within)))
apart_is octets parts span place true false some are is before first after last = elim (cases_lt place (length parts)) [
  | inl within ↦ sym (not_all_apart parts span place (part_at parts place within) within (sym (after (part_at parts place within) within)))
  | inr none ↦ absurd (true≢false (sym (last none)))
]
  where
    part_at : (xs : List Part) (k : ℕ) → k < length xs → Part
    part_at [] k within = absurd (omega (arith, within))
    part_at (x ∷ xs) k within = x
apart_is octets parts span place false after some are is before first then last = elim (cases_lt 0 place) [
  | inl within ↦ sym (not_all_apart parts span (place - 1) (part_at parts (place - 1) (omega (arith, is.within))) (omega (arith, is.within)) (sym (before (part_at parts (place - 1) (omega (arith, is.within))) within)))
  | inr none ↦ absurd (true≢false (sym (first (omega arith))))
]
  where
    part_at : (xs : List Part) (k : ℕ) → k < length xs → Part
    part_at [] k within = absurd (omega (arith, within))
    part_at (x ∷ xs) k within = x

-- ---- whether a fragment fits

pub fits_is : (octets : List ℕ) (parts : List Part) (all : Parts) (fragment : Fragment) → all.pieces ≡ map (piece_in octets) parts → all.count ≡ length octets → length octets ≤ most_octets → fits all fragment ≡ (list_all (λ part. are_apart (span_of fragment) part.span) parts && agrees all (span_of fragment) && nat_le (length fragment.payload.octets) (most_octets - length octets))
fits_is octets parts all fragment pieces count few =
    rw (pieces, list_all-map (λ piece. are_apart (span_of fragment) piece.span) (piece_in octets) parts, count, room (length octets) (length fragment.payload.octets) most_octets few) refl
  where
    room : (c n m : ℕ) → c ≤ m → nat_le (c + n) m ≡ nat_le n (m - c)
    room c n m within = grind (arith, nat_tests)

pub same_parts : (one other : Parts) → one.pieces ≡ other.pieces → one.reach ≡ other.reach → one.count ≡ other.count → one.is_ended ≡ other.is_ended → one.protocol ≡ other.protocol → one ≡ other
same_parts one other pieces reach count is_ended protocol = λ i. record { pieces = pieces i; reach = reach i; count = count i; is_ended = is_ended i; protocol = protocol i }

-- ---- the octets of all parts

pub within_take : (octets : List ℕ) (parts front : List Part) (n : ℕ) → ((k : ℕ) (d : Part) → k < length parts → IsWithin octets (get_or parts k d)) → n ≤ length parts → front ≡ take n parts → (k : ℕ) (d : Part) → k < length front → IsWithin octets (get_or front k d)
within_take octets parts front n are few is k d within =
    let inside : k < length (take n parts) = subst (λ (xs : List Part). k < length xs) is within in
    rw (is, get_or_take parts n k d few (omega (arith, inside, length_take parts n few))) (are k d (omega (arith, inside, length_take parts n few)))
  where
    length_take : (xs : List Part) (n : ℕ) → n ≤ length xs → length (take n xs) ≡ n
    length_take xs n few = grind (arith, common_steps)

    get_or_take : (xs : List Part) (n k : ℕ) (d : Part) → n ≤ length xs → k < n → get_or (take n xs) k d ≡ get_or xs k d
    get_or_take xs n k d few within = grind (arith, common_steps)

pub within_drop : (octets : List ℕ) (parts back : List Part) (n : ℕ) → ((k : ℕ) (d : Part) → k < length parts → IsWithin octets (get_or parts k d)) → n ≤ length parts → back ≡ drop n parts → (k : ℕ) (d : Part) → k < length back → IsWithin octets (get_or back k d)
within_drop octets parts back n are few is k d within =
    let inside : k < length (drop n parts) = subst (λ (xs : List Part). k < length xs) is within in
    rw (is, get_or_drop parts n k d) (are (n + k) d (omega (arith, inside, length_drop parts n few)))
  where
    length_drop : (xs : List Part) (n : ℕ) → n ≤ length xs → length (drop n xs) + n ≡ length xs
    length_drop xs n few = grind (arith, common_steps)

    get_or_drop : (xs : List Part) (n k : ℕ) (d : Part) → get_or (drop n xs) k d ≡ get_or xs (n + k) d
    get_or_drop xs n k d = grind (arith, common_steps)

pub append_step : (begun now more before one after : List ℕ) → now ≡ begun ++ before → more ≡ now ++ one → after ≡ before ++ one → more ≡ begun ++ after
append_step begun now more before one after n m a = rw (m, n, a) (append_assoc begun before one)

pub octets_of_all : (octets : List ℕ) (parts : List Part) (all : Parts) (fragment : Fragment) (place : ℕ) (front back : List Part) (first second third : List ℕ) → all.pieces ≡ map (piece_in octets) parts → IsNew all fragment place → front ≡ take place parts → back ≡ drop place parts → first ≡ joined (map (piece_in octets) front) → second ≡ first ++ fragment.payload.octets → third ≡ second ++ joined (map (piece_in octets) back) → third ≡ joined (with_fragment all fragment).pieces
octets_of_all octets parts all fragment place front back first second third pieces new f b one two three =
    rw (three, two, one, f, b) (sym (joined_with octets parts place (piece_of fragment)) ∙ ap (λ (p : List Piece). joined (insert p place (piece_of fragment))) (sym pieces) ∙ ap joined (sym new.pieces))
