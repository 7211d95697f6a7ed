-- The fragments of a datagram, in any order, are put together as the datagram.
use Rattle.std.proofs.Common.{◌≡◌, ℕ, ◌+◌, ◌%◌, ◌<◌, ◌≤◌, ◌==◌, ◌⊎◌, inl, inr, Bool, true, false, not, ◌&&◌, ◌||◌, max, Some, List, [], ◌∷◌, ◌++◌, length, take, drop, get_or, refl, sym, ap, subst, ◌∙◌, arith}
use Rattle.std.specs.Prelude.{nat_le}
use Rattle.std.specs.List.{list_all, list_any}
use Rattle.std.proofs.lemmas.Bool.Decides.{nat_tests}
use Rattle.std.proofs.lemmas.Bool.{cases_lt, eq-eqb, eqb-true}
use Rattle.std.proofs.lemmas.List.{take-append-drop, drop-drop, drop_all}
use Rattle.std.proofs.lemmas.Grind.{common_steps, same_number_lists}
use Rattle.krb_der.specs.Octets.{when}
use Rattle.krb_packet.specs.declared.contents.Fragment.{Fragment}
use Rattle.krb_packet.specs.declared.assembly.Span.{Span}
use Rattle.krb_packet.specs.Parts.{Piece, Parts, no_parts, most_octets, is_sound, span_of, piece_of, same_span, same_piece, is_copy, are_apart, fits, is_before, with_piece, with_fragment, add_fragment, is_complete, joined}
use Rattle.krb_packet.specs.FragmentLaws.{IsPiece, ArePieces, IsApart, AreApart, size_of, IsCut, gathered, MakesWhole}

-- ---- spans that are apart

apart_back : (one other : Span) → are_apart one other ≡ true → are_apart other one ≡ true
apart_back one other apart = grind (arith, nat_tests)

apart_differs : (one other : Span) → one.start < one.end → are_apart one other ≡ true → same_span one other ≡ false
apart_differs one other some apart = grind (arith, nat_tests)

none_same : (piece : Piece) (pieces : List Piece) → piece.span.start < piece.span.end → list_all (λ other. are_apart piece.span other.span) pieces ≡ true → list_any (same_piece piece) pieces ≡ false
none_same piece [] some apart = refl
none_same piece (other ∷ others) some apart =
    let here : are_apart piece.span other.span ≡ true = grind (arith, nat_tests) in
    let there : list_all (λ other. are_apart piece.span other.span) others ≡ true = grind (arith, nat_tests) in
    rw (apart_differs piece.span other.span some here) (none_same piece others some there)

-- ---- pieces in the order of their places

-- of two that are apart the one that comes first ends before the other begins
before_ends : (one other : Span) → one.start ≤ one.end → other.start ≤ other.end → are_apart other one ≡ true → is_before one other ≡ true → one.end ≤ other.start
before_ends one other some more apart before = grind (arith, nat_tests)

after_begins : (one other : Span) → one.start ≤ one.end → other.start ≤ other.end → are_apart other one ≡ true → is_before one other ≡ false → other.end ≤ one.start
after_begins one other some more apart before = grind (arith, nat_tests)

-- a piece has octets of a datagram, from its place on
record IsOf (octets : List ℕ) (piece : Piece) : Type 0 where
  size : piece.span.start + length piece.octets ≡ piece.span.end
  within : piece.span.end ≤ length octets
  same : piece.octets ≡ take (length piece.octets) (drop piece.span.start octets)

AreOf : List ℕ → List Piece → Type 0
AreOf octets [] = Unit {0}
AreOf octets (piece ∷ pieces) = IsOf octets piece × AreOf octets pieces

-- each begins at a place or after it, and where those before it end or after that
Follows : ℕ → List Piece → Type 0
Follows from [] = Unit {0}
Follows from (piece ∷ pieces) = (from ≤ piece.span.start) × Follows piece.span.end pieces

-- each ends before a place, or there
Ends : ℕ → List Piece → Type 0
Ends bound [] = Unit {0}
Ends bound (piece ∷ pieces) = (piece.span.end ≤ bound) × Ends bound pieces

total : List Piece → ℕ
total [] = 0
total (piece ∷ pieces) = length piece.octets + total pieces

-- ---- a piece more

are_of_more : (octets : List ℕ) (piece : Piece) (pieces : List Piece) → IsOf octets piece → AreOf octets pieces → AreOf octets (with_piece piece pieces)
unfolding AreOf
are_of_more octets piece [] is are = (is, tt)
are_of_more octets piece (first ∷ others) is are = by (is_before first.span piece.span) (are_of_more octets piece others is are.1)
  where
    by : (b : Bool) → AreOf octets (with_piece piece others) → AreOf octets (when b (λ _. first ∷ with_piece piece others) (λ _. piece ∷ first ∷ others))
    by true later = (are.0, later)
    by false later = (is, are)

ends_more : (bound : ℕ) (piece : Piece) (pieces : List Piece) → piece.span.end ≤ bound → Ends bound pieces → Ends bound (with_piece piece pieces)
unfolding Ends
ends_more bound piece [] is are = (is, tt)
ends_more bound piece (first ∷ others) is are = by (is_before first.span piece.span) (ends_more bound piece others is are.1)
  where
    by : (b : Bool) → Ends bound (with_piece piece others) → Ends bound (when b (λ _. first ∷ with_piece piece others) (λ _. piece ∷ first ∷ others))
    by true later = (are.0, later)
    by false later = (is, are)

ends_on : (bound more : ℕ) (pieces : List Piece) → bound ≤ more → Ends bound pieces → Ends more pieces
unfolding Ends
ends_on bound more [] on are = tt
ends_on bound more (first ∷ others) on are = (omega (arith, on, are.0), ends_on bound more others on are.1)

total_more : (piece : Piece) (pieces : List Piece) → total (with_piece piece pieces) ≡ length piece.octets + total pieces
unfolding total
total_more piece [] = refl
total_more piece (first ∷ others) = by (is_before first.span piece.span) (total_more piece others)
  where
    by : (b : Bool) → total (with_piece piece others) ≡ length piece.octets + total others → total (when b (λ _. first ∷ with_piece piece others) (λ _. piece ∷ first ∷ others)) ≡ length piece.octets + (length first.octets + total others)
    by true later = omega (arith, later)
    by false later = refl

follows_more : (octets : List ℕ) (from : ℕ) (piece : Piece) (pieces : List Piece) → from ≤ piece.span.start → piece.span.start ≤ piece.span.end → AreOf octets pieces → list_all (λ other. are_apart piece.span other.span) pieces ≡ true → Follows from pieces → Follows from (with_piece piece pieces)
unfolding Follows AreOf
follows_more octets from piece [] begins some are apart follows = (begins, tt)
follows_more octets from piece (first ∷ others) begins some are apart follows = by (is_before first.span piece.span) refl (λ on. follows_more octets first.span.end piece others on some are.1 there follows.1)
  where
    here : are_apart piece.span first.span ≡ true
    here = grind (arith, nat_tests)

    there : list_all (λ other. are_apart piece.span other.span) others ≡ true
    there = grind (arith, nat_tests)

    sizes : first.span.start ≤ first.span.end
    sizes = omega (arith, are.0.size)

    by : (b : Bool) → is_before first.span piece.span ≡ b → (first.span.end ≤ piece.span.start → Follows first.span.end (with_piece piece others)) → Follows from (when b (λ _. first ∷ with_piece piece others) (λ _. piece ∷ first ∷ others))
    by true before later = (follows.0, later (before_ends first.span piece.span sizes some here before))
    by false before later = (begins, (after_begins first.span piece.span sizes some here before, follows.1))

-- ---- pieces of all octets

few : (octets : List ℕ) (bound from : ℕ) (pieces : List Piece) → AreOf octets pieces → Ends bound pieces → Follows from pieces → from ≤ bound → from + total pieces ≤ bound
unfolding AreOf Ends Follows total
few octets bound from [] are ends follows on = omega arith
few octets bound from (piece ∷ pieces) are ends follows on =
    let more = few octets bound piece.span.end pieces are.1 ends.1 follows.1 ends.0 in
    omega (arith, more, are.0.size, follows.0)

ends_within : (octets : List ℕ) (pieces : List Piece) → AreOf octets pieces → Ends (length octets) pieces
unfolding AreOf Ends
ends_within octets [] are = tt
ends_within octets (piece ∷ pieces) are = (are.0.within, ends_within octets pieces are.1)

joined_all : (octets : List ℕ) (from : ℕ) (pieces : List Piece) → AreOf octets pieces → Follows from pieces → from + total pieces ≡ length octets → joined pieces ≡ drop from octets
unfolding AreOf Follows total
joined_all octets from [] are follows all = sym (drop_all from octets (omega (arith, all)))
joined_all octets from (piece ∷ pieces) are follows all =
    let most = few octets (length octets) piece.span.end pieces are.1 (ends_within octets pieces are.1) follows.1 are.0.within in
    let starts : piece.span.start ≡ from = omega (arith, most, are.0.size, follows.0, all) in
    let ends : piece.span.end ≡ from + length piece.octets = omega (arith, are.0.size, starts) in
    let others : joined pieces ≡ drop piece.span.end octets = joined_all octets piece.span.end pieces are.1 follows.1 (omega (arith, all, ends)) in
    let here : piece.octets ≡ take (length piece.octets) (drop from octets) = subst (λ (n : ℕ). piece.octets ≡ take (length piece.octets) (drop n octets)) starts are.0.same in
    let there : joined pieces ≡ drop (length piece.octets) (drop from octets) = others ∙ ap (λ (n : ℕ). drop n octets) ends ∙ sym (drop-drop (length piece.octets) from octets) in
    both piece.octets (joined pieces) (drop from octets) (length piece.octets) here there
  where
    both : (front back xs : List ℕ) (n : ℕ) → front ≡ take n xs → back ≡ drop n xs → front ++ back ≡ xs
    both front back xs n f b = rw (f, b) (take-append-drop n xs)

-- ---- what holds of the fragments that came, before the others come

-- each of the others is apart from those that came
Beside : List Piece → List Fragment → Type 0
Beside pieces [] = Unit {0}
Beside pieces (fragment ∷ fragments) = (list_all (λ piece. are_apart (span_of fragment) piece.span) pieces ≡ true) × Beside pieces fragments

beside_none : (fragments : List Fragment) → Beside [] fragments
unfolding Beside
beside_none [] = tt
beside_none (fragment ∷ fragments) = (refl, beside_none fragments)

apart_more : (span : Span) (piece : Piece) (pieces : List Piece) → are_apart span piece.span ≡ true → list_all (λ other. are_apart span other.span) pieces ≡ true → list_all (λ other. are_apart span other.span) (with_piece piece pieces) ≡ true
apart_more span piece [] here apart = rw here refl
apart_more span piece (first ∷ others) here apart =
    let now : are_apart span first.span ≡ true = grind (arith, nat_tests) in
    let later : list_all (λ other. are_apart span other.span) others ≡ true = grind (arith, nat_tests) in
    by (is_before first.span piece.span) now (apart_more span piece others here later)
  where
    by : (b : Bool) → are_apart span first.span ≡ true → list_all (λ other. are_apart span other.span) (with_piece piece others) ≡ true → list_all (λ other. are_apart span other.span) (when b (λ _. first ∷ with_piece piece others) (λ _. piece ∷ first ∷ others)) ≡ true
    by true now later = rw (now, later) refl
    by false now later = rw (here, apart) refl

beside_more : (pieces : List Piece) (one : Fragment) (fragments : List Fragment) → Beside pieces fragments → IsApart one fragments → Beside (with_piece (piece_of one) pieces) fragments
unfolding Beside
beside_more pieces one [] beside apart = tt
beside_more pieces one (fragment ∷ fragments) beside apart =
    let here : are_apart (span_of fragment) (span_of one) ≡ true = apart_back (span_of one) (span_of fragment) apart.0 in
    (apart_more (span_of fragment) (piece_of one) pieces here beside.0, beside_more pieces one fragments beside.1 apart.1)

-- The parts are those of a datagram, and the rest are its other fragments.
pub record Goes (octets : List ℕ) (parts : Parts) (rest : List Fragment) : Type 0 where
  reach : parts.reach ≤ length octets
  ended : parts.is_ended ≡ true → parts.reach ≡ length octets
  last : parts.reach ≡ length octets → parts.is_ended ≡ true
  count : parts.count + size_of rest ≡ length octets
  all : total parts.pieces ≡ parts.count
  pieces : AreOf octets parts.pieces
  follows : Follows 0 parts.pieces
  ends : Ends parts.reach parts.pieces
  beside : Beside parts.pieces rest

-- ---- a fragment is added

sound : (octets : List ℕ) (fragment : Fragment) → length octets ≤ most_octets → IsPiece octets fragment → is_sound fragment ≡ true
sound octets fragment few piece =
    let size = piece.captured in
    let within : nat_le (fragment.offset + length fragment.payload.octets) most_octets ≡ true = grind (arith, nat_tests, few, piece.within) in
    let all : (fragment.payload.size == length fragment.payload.octets) ≡ true = grind (arith, nat_tests, size) in
    let whole : (fragment.is_last || length fragment.payload.octets % 8 == 0) ≡ true = last_or fragment.is_last (length fragment.payload.octets % 8) piece.groups in
    rw (all, within, whole) refl
  where
    last_or : (is_last : Bool) (left : ℕ) → (is_last ≡ false → left ≡ 0) → (is_last || left == 0) ≡ true
    last_or true left none = refl
    last_or false left none = rw (none refl) refl

no_copy : (parts : Parts) (fragment : Fragment) → 0 < length fragment.payload.octets → list_all (λ piece. are_apart (span_of fragment) piece.span) parts.pieces ≡ true → is_copy parts fragment ≡ false
no_copy parts fragment some apart = none_same (piece_of fragment) parts.pieces (omega arith) apart

not_or : (b c : Bool) → (b ≡ true → c ≡ true) → (not b || c) ≡ true
not_or true c then = then refl
not_or false c then = refl

fitting : (octets : List ℕ) (parts : Parts) (fragment : Fragment) (rest : List Fragment) → length octets ≤ most_octets → IsPiece octets fragment → Goes octets parts (fragment ∷ rest) → fits parts fragment ≡ true
unfolding Beside
fitting octets parts fragment rest few piece goes =
    let end = fragment.offset + length fragment.payload.octets in
    let ended : (not parts.is_ended || nat_le end parts.reach) ≡ true =
    not_or parts.is_ended (nat_le end parts.reach) (λ is. let whole = goes.ended is in grind (arith, nat_tests, whole, piece.within)) in
    let last : (not fragment.is_last || nat_le parts.reach end) ≡ true =
    not_or fragment.is_last (nat_le parts.reach end) (λ is. let whole : end ≡ length octets = eqb-true end (length octets) (sym piece.last ∙ is) in grind (arith, nat_tests, whole, goes.reach)) in
    let count : nat_le (parts.count + length fragment.payload.octets) most_octets ≡ true = grind (arith, nat_tests, goes.count, few) in
    rw (goes.beside.0, ended, last, count) refl

pub taken : (octets : List ℕ) (parts : Parts) (fragment : Fragment) (rest : List Fragment) → length octets ≤ most_octets → IsPiece octets fragment → Goes octets parts (fragment ∷ rest) → add_fragment parts fragment ≡ Some (with_fragment parts fragment)
unfolding Beside
taken octets parts fragment rest few piece goes =
    rw (sound octets fragment few piece, no_copy parts fragment piece.some goes.beside.0, fitting octets parts fragment rest few piece goes) refl

-- ---- what holds before it is added holds afterwards

or_true : (b c : Bool) → c ≡ true → (b || c) ≡ true
or_true true c is = refl
or_true false c is = is

or_first : (b c : Bool) → b ≡ true → (b || c) ≡ true
or_first b c is = rw is refl

or_cases : (b c : Bool) → (b || c) ≡ true → (b ≡ true) ⊎ (c ≡ true)
or_cases true c is = inl refl
or_cases false c is = inr is

-- the octets of a fragment are those of its datagram
is_of : (octets : List ℕ) (fragment : Fragment) → IsPiece octets fragment → IsOf octets (piece_of fragment)
is_of octets fragment piece = record {
  size = refl;
  within = piece.within;
  same = same_number_lists fragment.payload.octets (take (length fragment.payload.octets) (drop fragment.offset octets)) (sym (taken_length octets fragment.offset (length fragment.payload.octets) piece.within)) (λ k within. piece.same_octets k within ∙ sym (taken_at octets fragment.offset (length fragment.payload.octets) k piece.within within));
}
  where
    taken_length : (xs : List ℕ) (at n : ℕ) → at + n ≤ length xs → length (take n (drop at xs)) ≡ n
    taken_length xs at n within = grind (arith, common_steps)

    taken_at : (xs : List ℕ) (at n k : ℕ) → at + n ≤ length xs → k < n → get_or (take n (drop at xs)) k 0 ≡ get_or xs (at + k) 0
    taken_at xs at n k within here = grind (arith, common_steps)

pub going : (octets : List ℕ) (parts : Parts) (fragment : Fragment) (rest : List Fragment) → IsPiece octets fragment → IsApart fragment rest → Goes octets parts (fragment ∷ rest) → Goes octets (with_fragment parts fragment) rest
unfolding Beside
going octets parts fragment rest piece apart goes =
    let end = fragment.offset + length fragment.payload.octets in
    let is = is_of octets fragment piece in
    record {
      reach = omega (arith, goes.reach, piece.within);
      ended = λ yes. elim (or_cases parts.is_ended fragment.is_last yes) [
        | inl was ↦ let whole = goes.ended was in omega (arith, whole, piece.within)
        | inr now ↦ let whole : end ≡ length octets = eqb-true end (length octets) (sym piece.last ∙ now) in omega (arith, whole, goes.reach)
      ];
      last = λ whole. elim (cases_lt parts.reach (length octets)) [
        | inl short ↦ let reached : end ≡ length octets = omega (arith, whole) in or_true parts.is_ended fragment.is_last (piece.last ∙ eq-eqb end (length octets) reached)
        | inr long ↦ let was : parts.reach ≡ length octets = omega (arith, goes.reach) in or_first parts.is_ended fragment.is_last (goes.last was)
      ];
      count = omega (arith, goes.count);
      all = omega (arith, total_more (piece_of fragment) parts.pieces, goes.all);
      pieces = are_of_more octets (piece_of fragment) parts.pieces is goes.pieces;
      follows = follows_more octets 0 (piece_of fragment) parts.pieces (omega arith) (omega arith) goes.pieces goes.beside.0 goes.follows;
      ends = ends_more (max parts.reach end) (piece_of fragment) parts.pieces (omega arith) (ends_on parts.reach (max parts.reach end) parts.pieces (omega arith) goes.ends);
      beside = beside_more parts.pieces fragment rest goes.beside.1 apart;
    }

-- ---- all fragments are added

pub whole : (octets : List ℕ) (parts : Parts) → Goes octets parts [] → MakesWhole octets (Some parts)
whole octets parts goes =
    let most = few octets parts.reach 0 parts.pieces goes.pieces goes.ends goes.follows (omega arith) in
    let reached : parts.reach ≡ length octets = omega (arith, most, goes.all, goes.count, goes.reach) in
    let ended : parts.is_ended ≡ true = goes.last reached in
    let counted : (parts.count == parts.reach) ≡ true = eq-eqb parts.count parts.reach (omega (arith, goes.count, reached)) in (
      rw (ended, counted) refl,
      joined_all octets 0 parts.pieces goes.pieces goes.follows (omega (arith, goes.all, goes.count)),
    )

all_taken : (octets : List ℕ) (parts : Parts) (fragments : List Fragment) → length octets ≤ most_octets → ArePieces octets fragments → AreApart fragments → Goes octets parts fragments → MakesWhole octets (gathered (Some parts) fragments)
all_taken octets parts [] few pieces apart goes = whole octets parts goes
all_taken octets parts (fragment ∷ fragments) few pieces apart goes =
    rw (taken octets parts fragment fragments few pieces.0 goes)
    (all_taken octets (with_fragment parts fragment) fragments few pieces.1 apart.1 (going octets parts fragment fragments pieces.0 apart.0 goes))

-- none came yet
pub begins : (octets : List ℕ) (fragments : List Fragment) → 0 < length octets → IsCut octets fragments → Goes octets no_parts fragments
unfolding AreOf Follows Ends total
begins octets fragments some cut = record {
  reach = omega arith;
  ended = λ is. absurd (cc);
  last = λ none. absurd (omega (arith, some, none));
  count = omega (arith, cut.size);
  all = refl;
  pieces = tt;
  follows = tt;
  ends = tt;
  beside = beside_none fragments;
}

pub makes_datagram : (octets : List ℕ) (fragments : List Fragment) → 0 < length octets → length octets ≤ most_octets → IsCut octets fragments → MakesWhole octets (gathered (Some no_parts) fragments)
makes_datagram octets fragments some few cut = all_taken octets no_parts fragments few cut.pieces cut.apart (begins octets fragments some cut)

-- before the others came it is not complete
pub incomplete : (octets : List ℕ) (parts : Parts) (fragment : Fragment) (rest : List Fragment) → IsPiece octets fragment → Goes octets parts (fragment ∷ rest) → is_complete parts ≡ false
incomplete octets parts fragment rest piece goes = by parts.is_ended refl
  where
    by : (b : Bool) → parts.is_ended ≡ b → (b && parts.count == parts.reach) ≡ false
    by true is = let whole = goes.ended is in let count = goes.count in let some = piece.some in grind (arith, nat_tests, whole, count, some)
    by false is = refl
