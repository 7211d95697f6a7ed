-- Laws of fragments.
use Rattle.std.specs.Prelude.{◌≡◌, ℕ, ◌+◌, ◌%◌, ◌<◌, ◌≤◌, ◌⊎◌, true, false, ◌==◌, Option, Some, None, List, [], ◌∷◌, ◌++◌, length, map, slice_index, take}
use Rattle.std.specs.List.{Contains, filter}
use Rattle.std.specs.Option.{option_to_list}
use Rattle.krb_packet.specs.declared.contents.Fragment.{Fragment}
use Rattle.krb_packet.specs.declared.contents.Original.{Original}
use Rattle.krb_packet.specs.declared.fragments.Reassembled.{Reassembled}
use Rattle.krb_packet.specs.Fragments.{most_datagrams, no_fragments, same_original, step}
use Rattle.krb_packet.specs.Table.{Table}
use Rattle.krb_packet.specs.Parts.{Parts, no_parts, most_octets, span_of, are_apart, add_fragment, is_complete, joined}

-- A fragment of a datagram that has these octets: it has one or more of them, from its offset on, all of which were captured. The last one ends with the datagram, and any other one has a multiple of 8 octets.
pub record IsPiece (octets : List ℕ) (fragment : Fragment) : Type 0 where
  pub some : 0 < length fragment.payload.octets
  pub within : fragment.offset + length fragment.payload.octets ≤ length octets
  pub same_octets : (k : ℕ) → k < length fragment.payload.octets → slice_index fragment.payload.octets k ≡ slice_index octets (fragment.offset + k)
  pub captured : fragment.payload.size ≡ length fragment.payload.octets
  pub last : fragment.is_last ≡ (fragment.offset + length fragment.payload.octets == length octets)
  pub groups : fragment.is_last ≡ false → length fragment.payload.octets % 8 ≡ 0

abbrev pub ArePieces : List ℕ → List Fragment → Type 0
ArePieces octets [] = Unit {0}
ArePieces octets (fragment ∷ fragments) = IsPiece octets fragment × ArePieces octets fragments

-- it overlaps none of the others
abbrev pub IsApart : Fragment → List Fragment → Type 0
IsApart one [] = Unit {0}
IsApart one (other ∷ others) = (are_apart (span_of one) (span_of other) ≡ true) × IsApart one others

abbrev pub AreApart : List Fragment → Type 0
AreApart [] = Unit {0}
AreApart (fragment ∷ fragments) = IsApart fragment fragments × AreApart fragments

-- the octet at a place of the datagram is in one of the fragments
abbrev pub IsSent : ℕ → List Fragment → Type 0
IsSent place [] = ⊥
IsSent place (fragment ∷ fragments) = ((fragment.offset ≤ place) × (place < fragment.offset + length fragment.payload.octets)) ⊎ IsSent place fragments

-- the number of octets of all fragments
abbrev pub size_of : List Fragment → ℕ
size_of [] = 0
size_of (fragment ∷ fragments) = length fragment.payload.octets + size_of fragments

-- Fragments into which a datagram with these octets was cut, in any order: no two overlap, and each octet is in one of them.
pub record IsCut (octets : List ℕ) (fragments : List Fragment) : Type 0 where
  pub pieces : ArePieces octets fragments
  pub apart : AreApart fragments
  pub all : (place : ℕ) → place < length octets → IsSent place fragments
  pub size : size_of fragments ≡ length octets

-- the parts after these fragments, or None if a fragment made the datagram be discarded
abbrev pub gathered : Option Parts → List Fragment → Option Parts
gathered parts [] = parts
gathered None (fragment ∷ fragments) = None
gathered (Some parts) (fragment ∷ fragments) = gathered (add_fragment parts fragment) fragments

abbrev pub MakesWhole : List ℕ → Option Parts → Type 0
MakesWhole octets None = ⊥
MakesWhole octets (Some parts) = (is_complete parts ≡ true) × (joined parts.pieces ≡ octets)

-- However a datagram is cut into fragments, and in whatever order these come, its octets are put together from them.
abbrev pub FragmentsMakeDatagram : Type 0
FragmentsMakeDatagram = (octets : List ℕ) (fragments : List Fragment) → 0 < length octets → length octets ≤ most_octets → IsCut octets fragments → MakesWhole octets (gathered (Some no_parts) fragments)

-- ---- the fragments of one datagram among those of others

-- the datagrams that fragments complete, in order
abbrev pub wholes : Table → List Fragment → List Reassembled
wholes table [] = []
wholes table (fragment ∷ fragments) = let stepped = step table fragment in option_to_list stepped.0 ++ wholes stepped.1 fragments

-- the datagrams that are left then
abbrev pub left_after : Table → List Fragment → Table
left_after table [] = table
left_after table (fragment ∷ fragments) = left_after (step table fragment).1 fragments

abbrev pub fragments_of : Original → List Fragment → List Fragment
fragments_of original fragments = filter (λ fragment. same_original fragment.original original) fragments

-- by its own fragments alone a datagram has begun and is not completed
abbrev pub IsBegun : Original → List Fragment → Type 0
IsBegun original fragments = (left_after no_fragments (fragments_of original fragments)).pending ≡ [] → ⊥

-- At no time are there 1024 such datagrams.
abbrev pub AreFewAtOnce : List Fragment → Type 0
AreFewAtOnce fragments = (n : ℕ) → (begun : List Original) × (length begun < most_datagrams) × ((original : Original) → IsBegun original (take n fragments) → Contains begun original)

-- Whatever fragments of other datagrams come between: of the fragments of a datagram is put together what is put together of these alone.
abbrev pub FragmentsAreApart : Type 0
FragmentsAreApart = (original : Original) (fragments : List Fragment) → AreFewAtOnce fragments → filter (λ whole. same_original whole.original original) (wholes no_fragments fragments) ≡ wholes no_fragments (fragments_of original fragments)

-- So if these alone are the fragments of a datagram, it is put together, once.
abbrev pub DatagramsAreCompleted : Type 0
DatagramsAreCompleted = (original : Original) (fragments : List Fragment) (octets : List ℕ) → AreFewAtOnce fragments → 0 < length octets → length octets ≤ most_octets → IsCut octets (fragments_of original fragments) → map (λ whole. whole.octets) (filter (λ whole. same_original whole.original original) (wholes no_fragments fragments)) ≡ octets ∷ []
