-- Datagrams that are put together are of the octets of their fragments, and no longer than a datagram may be.
use Rattle.std.proofs.Common.{◌≡◌, ℕ, zero, suc, ◌+◌, ◌≤◌, nat_le, nat_lt, not, Bool, true, false, List, [], ◌∷◌, ◌++◌, length, Option, Some, None, IfSome, refl, arith, le_refl, length-append}
use Rattle.std.proofs.lemmas.Bool.{and_parts, leb-true}
use Rattle.std.specs.Prelude.{slice_set, remove}
use Rattle.std.specs.List.{AllByRecursion, slice_get, slice_index_or}
use Rattle.std.specs.Option.{option_and_then}
use Rattle.krb_der.specs.Octets.{AreOctets, when}
use Rattle.krb_der.specs.inner.Numbers.{AreOctets-append}
use Rattle.krb_laws.proofs.JsonStrings.{all-append}
use Rattle.krb_packet.specs.Fragments.{after_inner, carried_in, contents_of_whole, finished, if_completed, index_of, inner, inside, most_datagrams, nested_step, no_fragments_of, or_discarded, pending_with, progress_with, step, unless_fragment, whole, whole_of, with_datagram, with_fragment_at, within_limit, without_first, without_whole}
use Rattle.krb_packet.specs.Parts.{Parts, Piece, add_fragment, fits, is_before, is_complete, is_copy, is_sound, joined, most_octets, piece_of, with_fragment, with_piece}
use Rattle.krb_packet.specs.Table.{Table}
use Rattle.krb_packet.specs.declared.contents.Contents.{Contents}
use Rattle.krb_packet.specs.declared.contents.Contents.TheVariants as contents
use Rattle.krb_packet.specs.declared.contents.Fragment.{Fragment}
use Rattle.krb_packet.specs.declared.contents.Original.{Original}
use Rattle.krb_packet.specs.declared.fragments.Pending.{Pending}
use Rattle.krb_packet.specs.declared.fragments.Progress.{Progress}
use Rattle.krb_packet.specs.declared.fragments.Progress.TheVariants.{Open, Discarded}
use Rattle.krb_packet.specs.declared.fragments.Reassembled.{Reassembled}
use Rattle.krb_packet.specs.declared.header.Header.TheVariants as headers
use Rattle.krb_tool_laws.proofs.CaptureParts.{IsHost, either_has, either_if}
use Rattle.krb_tool_laws.proofs.ContentOctets.{AreContents, IsFragment}
use Rattle.krb_tool_laws.proofs.LinkOctets.{walked_is}

-- ---- what is shown of each
abbrev pub IsOriginal : Original → Type 0
IsOriginal original = IsHost original.source × IsHost original.target

abbrev pub ArePieces : List Piece → Type 0
ArePieces pieces = AllByRecursion (λ piece. AreOctets piece.octets) pieces

-- of octets, as many as are counted, and no more than a datagram may have
pub record AreParts (parts : Parts) : Type 0 where
  pub pieces : ArePieces parts.pieces
  pub counted : length (joined parts.pieces) ≡ parts.count
  pub few : parts.count ≤ most_octets

abbrev pub IsProgress : Progress → Type 0
IsProgress (Open parts) = AreParts parts
IsProgress Discarded = Unit {0}

abbrev pub IsPending : Pending → Type 0
IsPending pending = IsOriginal pending.original × IsProgress pending.progress

abbrev pub AreDatagrams : Table → Type 0
AreDatagrams table = AllByRecursion IsPending table.pending

pub record IsWhole (made : Reassembled) : Type 0 where
  pub original : IsOriginal made.original
  pub octets : AreOctets made.octets
  pub few : length made.octets ≤ most_octets

-- ---- lists
pub all_set : {A : Type 0} (P : A → Type 0) (xs : List A) (place : ℕ) (x : A) → AllByRecursion P xs → P x → AllByRecursion P (slice_set xs place x)
all_set P [] place x are is = tt
all_set P (y ∷ xs) zero x are is = (is, are.1)
all_set P (y ∷ xs) (suc place) x are is = (are.0, all_set P xs place x are.1 is)

all_removed : {A : Type 0} (P : A → Type 0) (xs : List A) (place : ℕ) → AllByRecursion P xs → AllByRecursion P (remove xs place)
all_removed P [] zero are = tt
all_removed P [] (suc place) are = tt
all_removed P (x ∷ xs) zero are = are.1
all_removed P (x ∷ xs) (suc place) are = (are.0, all_removed P xs place are.1)

one_or : {A : Type 0} (P : A → Type 0) (xs : List A) (place : ℕ) (other : A) → AllByRecursion P xs → P other → P (slice_index_or xs place other)
one_or P [] place other are is = is
one_or P (x ∷ xs) zero other are is = are.0
one_or P (x ∷ xs) (suc place) other are is = one_or P xs place other are.1 is

pub one_at : {A : Type 0} (P : A → Type 0) (xs : List A) (place : ℕ) → AllByRecursion P xs → IfSome (slice_get xs place) P
one_at P [] place are = tt
one_at P (x ∷ xs) zero are = are.0
one_at P (x ∷ xs) (suc place) are = one_at P xs place are.1

-- ---- a datagram
with_piece_is : (piece : Piece) (pieces : List Piece) → AreOctets piece.octets → ArePieces pieces → ArePieces (with_piece piece pieces)
with_piece_is piece [] is are = (is, tt)
with_piece_is piece (first ∷ others) is are = either_has ArePieces (is_before first.span piece.span) (λ _. first ∷ with_piece piece others) (λ _. piece ∷ first ∷ others) (are.0, with_piece_is piece others is are.1) (is, are)

joined_is : (pieces : List Piece) → ArePieces pieces → AreOctets (joined pieces)
joined_is [] are = tt
joined_is (piece ∷ pieces) are = AreOctets-append piece.octets (joined pieces) are.0 (joined_is pieces are.1)

joined_more : (piece : Piece) (pieces : List Piece) → length (joined (with_piece piece pieces)) ≡ length piece.octets + length (joined pieces)
joined_more piece [] = length-append piece.octets []
joined_more piece (first ∷ others) = by (joined_more piece others) (is_before first.span piece.span)
  where
    by : length (joined (with_piece piece others)) ≡ length piece.octets + length (joined others) → (before : Bool) → length (joined (when before (λ _. first ∷ with_piece piece others) (λ _. piece ∷ first ∷ others))) ≡ length piece.octets + length (joined (first ∷ others))
    by later true = omega (arith, length-append first.octets (joined (with_piece piece others)), later, length-append first.octets (joined others))
    by later false = length-append piece.octets (joined (first ∷ others))

one_more : (parts : Parts) (fragment : Fragment) → AreParts parts → IsFragment fragment → parts.count + length fragment.payload.octets ≤ most_octets → AreParts (with_fragment parts fragment)
one_more parts fragment are is few = record {
  pieces = with_piece_is (piece_of fragment) parts.pieces is.1.octets are.pieces;
  counted = omega (arith, joined_more (piece_of fragment) parts.pieces, are.counted);
  few = few;
}

added_is : (parts : Parts) (fragment : Fragment) → AreParts parts → IsFragment fragment → IfSome (add_fragment parts fragment) AreParts
added_is parts fragment are is =
    either_if AreParts (not (is_sound fragment)) (λ _. None) (λ _. when (is_copy parts fragment) (λ _. Some parts) (λ _. when (fits parts fragment) (λ _. Some (with_fragment parts fragment)) (λ _. None))) tt
    (either_if AreParts (is_copy parts fragment) (λ _. Some parts) (λ _. when (fits parts fragment) (λ _. Some (with_fragment parts fragment)) (λ _. None)) are
    (by (fits parts fragment) refl))
  where
    few : fits parts fragment ≡ true → parts.count + length fragment.payload.octets ≤ most_octets
    few e = leb-true _ _ (and_parts _ (nat_le (parts.count + length fragment.payload.octets) most_octets) e).1

    by : (does : Bool) → fits parts fragment ≡ does → IfSome (when does (λ _. Some (with_fragment parts fragment)) (λ _. None)) AreParts
    by true e = one_more parts fragment are is (few e)
    by false e = tt

or_discarded_is : (parts : Option Parts) → IfSome parts AreParts → IsProgress (or_discarded parts)
or_discarded_is None is = tt
or_discarded_is (Some parts) is = is

progress_is : (fragment : Fragment) (progress : Progress) → IsFragment fragment → IsProgress progress → IsProgress (progress_with fragment progress)
progress_is fragment (Open parts) is are = or_discarded_is (add_fragment parts fragment) (added_is parts fragment are is)
progress_is fragment Discarded is are = tt

pending_is : (fragment : Fragment) (pending : Pending) → IsFragment fragment → IsPending pending → IsPending (pending_with fragment pending)
pending_is fragment pending is are = (are.0, progress_is fragment pending.progress is are.1)

whole_is : (original : Original) (progress : Progress) → IsOriginal original → IsProgress progress → IfSome (whole original progress) IsWhole
whole_is original (Open parts) is are =
    either_if IsWhole (is_complete parts) (λ _. Some (record { original = original; protocol = parts.protocol; octets = joined parts.pieces })) (λ _. None)
    (record { original = is; octets = joined_is parts.pieces are.pieces; few = omega (arith, are.counted, are.few) }) tt
whole_is original Discarded is are = tt

-- ---- the table
first_is : (pending : List Pending) (given_up : ℕ) → AllByRecursion IsPending pending → AreDatagrams (without_first pending given_up)
first_is [] given_up are = tt
first_is (first ∷ others) given_up are = are.1

limit_is : (table : Table) → AreDatagrams table → AreDatagrams (within_limit table)
limit_is table are = either_has AreDatagrams (nat_lt most_datagrams (length table.pending)) (λ _. without_first table.pending table.given_up) (λ _. table) (first_is table.pending table.given_up are) are

datagrams_with : (table : Table) (pending : Pending) → AreDatagrams table → IsPending pending → AreDatagrams (with_datagram table pending)
datagrams_with table pending are is = limit_is (record table { pending = table.pending ++ pending ∷ [] }) (all-append IsPending table.pending (pending ∷ []) are (is, tt))

new_is : (fragment : Fragment) → IsFragment fragment → IsPending (no_fragments_of fragment.original)
new_is fragment is = (is.0, record { pieces = tt; counted = refl; few = omega arith })

fragment_at : (table : Table) (fragment : Fragment) (place : Option ℕ) → AreDatagrams table → IsFragment fragment → AreDatagrams (with_fragment_at table fragment place).0
fragment_at table fragment (Some place) are is =
    let old : Pending = slice_index_or table.pending place (no_fragments_of fragment.original) in
    all_set IsPending table.pending place (pending_with fragment old) are (pending_is fragment old is (one_or IsPending table.pending place (no_fragments_of fragment.original) are (new_is fragment is)))
fragment_at table fragment None are is = datagrams_with table (pending_with fragment (no_fragments_of fragment.original)) are (pending_is fragment (no_fragments_of fragment.original) is (new_is fragment is))

-- a whole datagram, if there is one, and the table then
abbrev pub AreLeft : Option Reassembled × Table → Type 0
AreLeft left = IfSome left.0 IsWhole × AreDatagrams left.1

without_is : (made : Option Reassembled) (at : Table × ℕ) → IfSome made IsWhole → AreDatagrams at.0 → AreLeft (without_whole made at)
without_is None at is are = (tt, are)
without_is (Some made) at is are = (is, all_removed IsPending at.0.pending at.1 are)

wholes : (pending : Option Pending) → IfSome pending IsPending → IfSome (option_and_then whole_of pending) IsWhole
wholes None are = tt
wholes (Some pending) are = whole_is pending.original pending.progress are.0 are.1

finished_is : (at : Table × ℕ) → AreDatagrams at.0 → AreLeft (finished at)
finished_is at are = without_is (option_and_then whole_of (slice_get at.0.pending at.1)) at (wholes (slice_get at.0.pending at.1) (one_at IsPending at.0.pending at.1 are)) are

step_is : (table : Table) (fragment : Fragment) → AreDatagrams table → IsFragment fragment → AreLeft (step table fragment)
unfolding step
step_is table fragment are is = finished_is (with_fragment_at table fragment (index_of fragment.original table.pending)) (fragment_at table fragment (index_of fragment.original table.pending) are is)

-- ---- what a whole datagram carries
carried_is : (port : ℕ) (made : Reassembled) → IsWhole made → AreContents (carried_in port made)
unfolding carried_in
carried_is port made is =
    walked_is port (length made.octets + 1) (headers.Protocol (record { source = made.original.source; target = made.original.target }) made.protocol) (record { octets = made.octets; size = length made.octets }) is.original
    (record { octets = is.octets; fits = le_refl (length made.octets); small = omega (arith, is.few) })

completed_is : (rest : Reassembled → Table → Option Reassembled × Table) → ((made : Reassembled) (table : Table) → IsWhole made → AreDatagrams table → AreLeft (rest made table)) → (made : Option Reassembled) (table : Table) → IfSome made IsWhole → AreDatagrams table → AreLeft (if_completed rest made table)
completed_is rest each None table is are = (tt, are)
completed_is rest each (Some made) table is are = each made table is are

inner_is : (read : Contents) → AreContents read → IfSome (inner read) IsFragment
inner_is (contents.Fragment fragment) is = is
inner_is (contents.Datagram datagram) is = tt
inner_is (contents.Segment segment) is = tt
inner_is (contents.Error error) is = tt
inner_is contents.Other is = tt
inner_is (contents.UnreadBetween ends) is = tt
inner_is contents.Unread is = tt

after_inner_is : (rest : Reassembled → Table → Option Reassembled × Table) → ((made : Reassembled) (table : Table) → IsWhole made → AreDatagrams table → AreLeft (rest made table)) → (made : Reassembled) (table : Table) (fragment : Option Fragment) → IsWhole made → AreDatagrams table → IfSome fragment IsFragment → AreLeft (after_inner rest made table fragment)
after_inner_is rest each made table None is are its = (is, are)
after_inner_is rest each made table (Some fragment) is are its =
    let stepped : Option Reassembled × Table = step table fragment in
    let left : AreLeft stepped = step_is table fragment are its in
    completed_is rest each stepped.0 stepped.1 left.0 left.1

inside_is : (port bound : ℕ) (made : Reassembled) (table : Table) → IsWhole made → AreDatagrams table → AreLeft (inside port bound made table)
unfolding inside
inside_is port zero made table is are = (is, are)
inside_is port (suc bound) made table is are = after_inner_is (inside port bound) (inside_is port bound) made table (inner (carried_in port made)) is are (inner_is (carried_in port made) (carried_is port made is))

pub nested_is : (port : ℕ) (table : Table) (fragment : Fragment) → AreDatagrams table → IsFragment fragment → AreLeft (nested_step port table fragment)
unfolding nested_step
nested_is port table fragment are is =
    let left : AreLeft (step table fragment) = step_is table fragment are is in
    completed_is (inside port most_datagrams) (inside_is port most_datagrams) (step table fragment).0 (step table fragment).1 left.0 left.1

unless_is : (read : Contents) → AreContents read → AreContents (unless_fragment read)
unless_is (contents.Fragment fragment) is = tt
unless_is (contents.Datagram datagram) is = is
unless_is (contents.Segment segment) is = is
unless_is (contents.Error error) is = is
unless_is contents.Other is = tt
unless_is (contents.UnreadBetween ends) is = tt
unless_is contents.Unread is = tt

pub whole_contents : (port : ℕ) (made : Reassembled) → IsWhole made → AreContents (contents_of_whole port made)
unfolding contents_of_whole
whole_contents port made is = unless_is (carried_in port made) (carried_is port made is)
