-- Datagrams put together from their fragments, which come in any order (RFC 791, 3.2; RFC 8200, 4.5).
use Rattle.std.specs.Prelude.{ℕ, zero, suc, ◌+◌, ◌-◌, ◌^◌, min, nat_eq, nat_lt, Bool, true, false, ◌&&◌, ◌==◌, Option, Some, None, List, [], ◌∷◌, ◌++◌, length, fold, position, slice_set, remove}
use Rattle.std.specs.List.{slice_get, slice_index_or}
use Rattle.std.specs.Option.{option_and_then}
use Rattle.std.specs.Cmp.Lexicographic.{pointwise}
use Rattle.std.specs.declared.net.ip_addr.IpAddr.{IpAddr}
use Rattle.std.specs.declared.net.ip_addr.IpAddr.TheVariants as ip
use Rattle.krb_der.specs.Octets.{when}
use Rattle.krb_packet.specs.Contents.{or_unread, walk}
use Rattle.krb_packet.specs.Parts.{Parts, no_parts, add_fragment, is_complete, joined}
use Rattle.krb_packet.specs.declared.contents.Original.{Original}
use Rattle.krb_packet.specs.declared.contents.Fragment.{Fragment}
use Rattle.krb_packet.specs.declared.contents.Contents.{Contents}
use Rattle.krb_packet.specs.declared.contents.Contents.TheVariants as contents
use Rattle.krb_packet.specs.declared.header.Header.TheVariants as headers
use Rattle.krb_packet.specs.declared.fragments.Progress.{Progress}
use Rattle.krb_packet.specs.declared.fragments.Progress.TheVariants.{Open, Discarded}
use Rattle.krb_packet.specs.declared.fragments.Pending.{Pending}
use Rattle.krb_packet.specs.declared.fragments.Reassembled.{Reassembled}
use Rattle.krb_packet.specs.Table.{Table}

-- ---- what fragments of one datagram have in common

abbrev pub same_address : IpAddr → IpAddr → Bool
same_address (ip.V4 one) (ip.V4 other) = pointwise nat_eq one.octets other.octets
same_address (ip.V6 one) (ip.V6 other) = pointwise nat_eq one.segments other.segments
same_address (ip.V4 one) (ip.V6 other) = false
same_address (ip.V6 one) (ip.V4 other) = false

abbrev pub same_protocol : Option ℕ → Option ℕ → Bool
same_protocol None None = true
same_protocol (Some one) (Some other) = one == other
same_protocol None (Some other) = false
same_protocol (Some one) None = false

abbrev pub same_original : Original → Original → Bool
same_original one other =
    same_address one.source other.source
    && same_address one.target other.target
    && one.identification == other.identification
    && same_protocol one.protocol other.protocol

-- ---- a datagram

-- a sum, at most the greatest number of 64 bits
abbrev pub plus : ℕ → ℕ → ℕ
plus count more = min (count + more) (2 ^ 64 - 1)

abbrev pub no_fragments_of : Original → Pending
no_fragments_of original = record { original = original; count = 0; progress = Open no_parts }

abbrev pub or_discarded : Option Parts → Progress
or_discarded (Some parts) = Open parts
or_discarded None = Discarded

abbrev pub progress_with : Fragment → Progress → Progress
progress_with fragment (Open parts) = or_discarded (add_fragment parts fragment)
progress_with fragment Discarded = Discarded

abbrev pub pending_with : Fragment → Pending → Pending
pending_with fragment pending = record { original = pending.original; count = plus pending.count 1; progress = progress_with fragment pending.progress }

abbrev pub whole : Original → Progress → Option Reassembled
whole original (Open parts) = when (is_complete parts) (λ _. Some (record { original = original; protocol = parts.protocol; octets = joined parts.pieces })) (λ _. None)
whole original Discarded = None

abbrev pub whole_of : Pending → Option Reassembled
whole_of pending = whole pending.original pending.progress

-- ---- the table of datagrams, of which at most 1024 are kept

abbrev pub most_datagrams : ℕ
most_datagrams = 1024

abbrev pub no_fragments : Table
no_fragments = record { pending = []; given_up = 0 }

abbrev pub index_of : Original → List Pending → Option ℕ
index_of original pending = position (λ other. same_original other.original original) pending

-- the table without the datagram that began first
abbrev pub without_first : List Pending → ℕ → Table
without_first [] given_up = record { pending = []; given_up = given_up }
without_first (first ∷ others) given_up = record { pending = others; given_up = plus given_up first.count }

abbrev pub within_limit : Table → Table
within_limit table = when (nat_lt most_datagrams (length table.pending)) (λ _. without_first table.pending table.given_up) (λ _. table)

abbrev pub with_datagram : Table → Pending → Table
with_datagram table pending = within_limit (record table { pending = table.pending ++ pending ∷ [] })

-- the table with a fragment, and the index of its datagram in it: that which it had, or else the last one
abbrev pub with_fragment_at : Table → Fragment → Option ℕ → Table × ℕ
with_fragment_at table fragment (Some place) = (record table { pending = slice_set table.pending place (pending_with fragment (slice_index_or table.pending place (no_fragments_of fragment.original))) }, place)
with_fragment_at table fragment None = let more = with_datagram table (pending_with fragment (no_fragments_of fragment.original)) in (more, length more.pending - 1)

-- the table without the datagram at an index, if that is whole
abbrev pub without_whole : Option Reassembled → Table × ℕ → Option Reassembled × Table
without_whole None at = (None, at.0)
without_whole (Some whole) at = (Some whole, record at.0 { pending = remove at.0.pending at.1 })

abbrev pub finished : Table × ℕ → Option Reassembled × Table
finished at = without_whole (option_and_then whole_of (slice_get at.0.pending at.1)) at

-- the whole datagram that a fragment completes, if it does, and the table then
unfoldable pub step : Table → Fragment → Option Reassembled × Table
step table fragment = finished (with_fragment_at table fragment (index_of fragment.original table.pending))

-- the number of fragments that came of datagrams that were not completed
unfoldable pub unread : Table → ℕ
unread table = fold (λ count pending. plus count pending.count) table.given_up table.pending

-- ---- what a whole datagram carries

-- The walk goes on from the header of IP that the fragments had. That takes no octet, and so there may be a step more than octets.
unfoldable pub carried_in : ℕ → Reassembled → Contents
carried_in port made = or_unread (walk port (length made.octets + 1) (headers.Protocol (record { source = made.original.source; target = made.original.target }) made.protocol) (record { octets = made.octets; size = length made.octets }))

-- With a fragment in a whole datagram another one may be completed, and so on: what is left at the end, and the table then. Each of them leaves the table, in which are 1024 at most.
abbrev pub if_completed : (Reassembled → Table → Option Reassembled × Table) → Option Reassembled → Table → Option Reassembled × Table
if_completed rest None table = (None, table)
if_completed rest (Some made) table = rest made table

abbrev pub inner : Contents → Option Fragment
inner (contents.Fragment fragment) = Some fragment
inner (contents.Datagram datagram) = None
inner (contents.Segment segment) = None
inner (contents.Error error) = None
inner contents.Other = None
inner (contents.UnreadBetween ends) = None
inner contents.Unread = None

abbrev pub after_inner : (Reassembled → Table → Option Reassembled × Table) → Reassembled → Table → Option Fragment → Option Reassembled × Table
after_inner rest made table None = (Some made, table)
after_inner rest made table (Some fragment) = let stepped = step table fragment in if_completed rest stepped.0 stepped.1

unfoldable pub inside : ℕ → ℕ → Reassembled → Table → Option Reassembled × Table
inside port zero made table = (Some made, table)
inside port (suc bound) made table = after_inner (inside port bound) made table (inner (carried_in port made))

-- a fragment, and those that are in what it completes
unfoldable pub nested_step : ℕ → Table → Fragment → Option Reassembled × Table
nested_step port table fragment = let stepped = step table fragment in if_completed (inside port most_datagrams) stepped.0 stepped.1

-- a fragment that is still in the last of them cannot be read
abbrev pub unless_fragment : Contents → Contents
unless_fragment (contents.Fragment fragment) = contents.Unread
unless_fragment (contents.Datagram datagram) = contents.Datagram datagram
unless_fragment (contents.Segment segment) = contents.Segment segment
unless_fragment (contents.Error error) = contents.Error error
unless_fragment contents.Other = contents.Other
unless_fragment (contents.UnreadBetween ends) = contents.UnreadBetween ends
unless_fragment contents.Unread = contents.Unread

unfoldable pub contents_of_whole : ℕ → Reassembled → Contents
contents_of_whole port made = unless_fragment (carried_in port made)
