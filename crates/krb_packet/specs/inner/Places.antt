-- How a datagram is found among those that are kept: by its place among the places of all, which are in the order of what fragments have in common.
use Rattle.std.specs.Prelude.{◌≡◌, ℕ, ◌-◌, ◌<◌, ◌≤◌, nat_eq, nat_lt, if◌then◌else◌, true, None, Some, Ok, Err, Result, List, length, slice_index}
use Rattle.std.specs.List.{list_any, slice_index_or}
use Rattle.std.specs.declared.cmp.Ordering.{Ordering}
use Rattle.std.specs.declared.cmp.Ordering.TheVariants.{Less, Greater}
use Rattle.krb_packet.specs.contracts.contents.OriginalOrd.TheImpl as order
use Rattle.krb_packet.specs.declared.contents.Original.{Original}
use Rattle.krb_packet.specs.declared.fragments.Pending.{Pending}
use Rattle.krb_packet.specs.declared.datagrams.Datagrams.{Datagrams}
use Rattle.krb_packet.specs.Fragments.{index_of, whole_of, without_first}
use Rattle.krb_packet.specs.Table.{Table, pending_in}

abbrev pub original_cmp : Original → Original → Ordering
original_cmp = order.ghosts.cmp

-- places of datagrams, each of which is at one, and none of which is whole
pub record IsIndex (places : List ℕ) (pending : List Pending) : Type 0 where
  pub within : (i : ℕ) → i < length places → slice_index places i < length pending
  pub ordered : (i j : ℕ) (d : Pending) → i < j → j < length places → original_cmp (slice_index_or pending (slice_index places i) d).original (slice_index_or pending (slice_index places j) d).original ≡ Less
  pub complete : (k : ℕ) → k < length pending → list_any (nat_eq k) places ≡ true
  pub «open» : (k : ℕ) (d : Pending) → k < length pending → whole_of (slice_index_or pending k d) ≡ None

-- a datagram is not there, and its place would be here among the places
pub record IsGap (at : ℕ) (original : Original) (places : List ℕ) (pending : List Pending) : Type 0 where
  pub none : index_of original pending ≡ None
  pub within : at ≤ length places
  pub before : (i : ℕ) (d : Pending) → i < at → original_cmp (slice_index_or pending (slice_index places i) d).original original ≡ Less
  pub from : (i : ℕ) (d : Pending) → at ≤ i → i < length places → original_cmp (slice_index_or pending (slice_index places i) d).original original ≡ Greater

-- the places of a table are those of its datagrams
abbrev pub IsIndexed : Datagrams → Type 0
IsIndexed datagrams = IsIndex datagrams.places.items (pending_in datagrams)

abbrev pub IsFound : Result ℕ ℕ → Original → List ℕ → List Pending → Type 0
IsFound (Ok at) original places pending = (at < length places) × (index_of original pending ≡ Some (slice_index places at))
IsFound (Err at) original places pending = IsGap at original places pending

-- the place that a datagram has after that at another place was removed
abbrev pub place_without : ℕ → ℕ → ℕ
place_without removed place = if nat_lt removed place then place - 1 else place

-- the table without the datagram that began first, if there are this many or more
abbrev pub fewer_than : ℕ → Table → Table
fewer_than many table = if nat_lt (length table.pending) many then table else without_first table.pending table.given_up
