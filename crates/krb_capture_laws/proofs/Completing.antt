-- A datagram that was cut into fragments is completed by the last one that comes, and by no other.
use Rattle.std.proofs.Common.{◌≡◌, ℕ, ◌<◌, ◌≤◌, true, false, List, [], ◌∷◌, ◌++◌, length, map, Bool, cond, Some, None, Option, refl, ◌∙◌, ap, arith}
use Rattle.std.specs.List.{AllByRecursion, filter}
use Rattle.std.specs.Option.{option_to_list}
use Rattle.krb_der.specs.Octets.{when}
use Rattle.krb_packet.specs.declared.contents.Fragment.{Fragment}
use Rattle.krb_packet.specs.declared.contents.Original.{Original}
use Rattle.krb_packet.specs.declared.fragments.Pending.{Pending}
use Rattle.krb_packet.specs.declared.fragments.Progress.TheVariants.{Open}
use Rattle.krb_packet.specs.declared.fragments.Reassembled.{Reassembled}
use Rattle.krb_packet.specs.FragmentLaws.{AreApart, ArePieces, DatagramsAreCompleted, IsCut, IsPiece, fragments_of, wholes}
use Rattle.krb_packet.specs.Fragments.{no_fragments, no_fragments_of, or_discarded, pending_with, progress_with, same_original, step, whole_of}
use Rattle.krb_packet.specs.Fragments.{whole as whole_by}
use Rattle.krb_packet.specs.Parts.{Parts, is_complete, joined, most_octets, no_parts, with_fragment}
use Rattle.krb_packet.specs.Table.{Table}
use Rattle.krb_capture_laws.proofs.Apart.{fragments_are_apart, is_of, new_one, put, same-alike, same-back, step-middle, step-new}
use Rattle.krb_capture_laws.proofs.Gathering.{Goes, begins, going, incomplete, taken, whole}

-- what is put together of a datagram that is open
abbrev completed_by : Original → Parts → Bool → Option Reassembled
completed_by original parts complete = when complete (λ _. Some (record { original = original; protocol = parts.protocol; octets = joined parts.pieces })) (λ _. None)

whole-open : (one : Pending) (parts : Parts) (complete : Bool) → one.progress ≡ Open parts → is_complete parts ≡ complete → whole_of one ≡ completed_by one.original parts complete
whole-open one parts complete open_is is = ap (whole_by one.original) open_is ∙ ap (completed_by one.original parts) is

-- a fragment of it is added
added : (octets : List ℕ) (fragment : Fragment) (rest : List Fragment) (one : Pending) (parts : Parts) → length octets ≤ most_octets → one.progress ≡ Open parts → IsPiece octets fragment → Goes octets parts (fragment ∷ rest) → (pending_with fragment one).progress ≡ Open (with_fragment parts fragment)
added octets fragment rest one parts few open_is piece goes = ap (progress_with fragment) open_is ∙ ap or_discarded (taken octets parts fragment rest few piece goes)

module _ (original : Original) (octets : List ℕ) (few : length octets ≤ most_octets) where
  abbrev AllOf : List Fragment → Type 0
  AllOf fragments = AllByRecursion (λ fragment. same_original fragment.original original ≡ true) fragments

  abbrev octets_in : List Reassembled → List (List ℕ)
  octets_in found = map (λ whole. whole.octets) found

  -- with each of the fragments, in order
  completed : (rest : List Fragment) (table : Table) (fragment : Fragment) (now : Pending) (parts : Parts) (given_up : ℕ) → step table fragment ≡ put (whole_of now) [] now [] given_up → now.progress ≡ Open parts → same_original now.original original ≡ true → AllOf rest → ArePieces octets rest → AreApart rest → Goes octets parts rest → octets_in (wholes table (fragment ∷ rest)) ≡ octets ∷ []
  completed [] table fragment now parts given_up is open_is same all pieces apart goes =
      let made = whole octets parts goes in
      ap (λ (r : Option Reassembled × Table). octets_in (option_to_list r.0 ++ [])) is
      ∙ ap (λ (o : Option Reassembled). octets_in (option_to_list (put o [] now [] given_up).0 ++ [])) (whole-open now parts true open_is made.0)
      ∙ ap (λ (l : List ℕ). l ∷ []) made.1
  completed (next ∷ rest) table fragment now parts given_up is open_is same all pieces apart goes =
      let not_yet : whole_of now ≡ None = whole-open now parts false open_is (incomplete octets parts next rest pieces.0 goes) in
      let stepped : step table fragment ≡ (None, record { pending = now ∷ []; given_up = given_up }) = is ∙ ap (λ (o : Option Reassembled). put o [] now [] given_up) not_yet in
      let same_next : is_of next.original now ≡ true = same-alike now.original original next.original same ∙ same-back original next.original ∙ all.0 in
      ap (λ (r : Option Reassembled × Table). octets_in (option_to_list r.0 ++ wholes r.1 (next ∷ rest))) stepped
      ∙ completed rest (record { pending = now ∷ []; given_up = given_up }) next (pending_with next now) (with_fragment parts next) given_up
      (step-middle [] now [] given_up next tt same_next)
      (added octets next rest now parts few open_is pieces.0 goes)
      same all.1 pieces.1 apart.1 (going octets parts next rest pieces.0 apart.0 goes)

  alone : (fragments : List Fragment) → 0 < length octets → AllOf fragments → IsCut octets fragments → octets_in (wholes no_fragments fragments) ≡ octets ∷ []
  alone [] some all cut = absurd (cut.all 0 some)
  alone (fragment ∷ rest) some all cut =
      let goes : Goes octets no_parts (fragment ∷ rest) = begins octets (fragment ∷ rest) some cut in
      completed rest no_fragments fragment (new_one fragment) (with_fragment no_parts fragment) 0
      (step-new no_fragments fragment tt (omega arith))
      (added octets fragment rest (no_fragments_of fragment.original) no_parts few refl cut.pieces.0 goes)
      all.0 all.1 cut.pieces.1 cut.apart.1 (going octets no_parts fragment rest cut.pieces.0 cut.apart.0 goes)

all_of : (original : Original) (fragments : List Fragment) → AllByRecursion (λ fragment. same_original fragment.original original ≡ true) (filter (λ fragment. same_original fragment.original original) fragments)
all_of original [] = tt
all_of original (fragment ∷ fragments) = by (same_original fragment.original original) refl (all_of original fragments)
  where
    by : (b : Bool) → same_original fragment.original original ≡ b → AllByRecursion (λ fragment. same_original fragment.original original ≡ true) (filter (λ fragment. same_original fragment.original original) fragments) → AllByRecursion (λ fragment. same_original fragment.original original ≡ true) (cond b (fragment ∷ filter (λ fragment. same_original fragment.original original) fragments) (filter (λ fragment. same_original fragment.original original) fragments))
    by true e rest = (e, rest)
    by false e rest = rest

pub datagrams_are_completed : DatagramsAreCompleted
datagrams_are_completed original fragments octets at_once some few cut =
    ap (map (λ whole. whole.octets)) (fragments_are_apart original fragments at_once)
    ∙ alone original octets few (fragments_of original fragments) some (all_of original fragments) cut
