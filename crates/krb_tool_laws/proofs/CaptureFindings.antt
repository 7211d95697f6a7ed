-- What is found in a capture of octets, each with its origin, and what is told of it.
use Rattle.std.proofs.Common.{ℕ, List, [], ◌∷◌, length, Option, Some, None, IfSome, arith}
use Rattle.std.specs.Prelude.{max}
use Rattle.std.specs.List.{AllByRecursion}
use Rattle.krb_laws.specs.JsonLaws.{AreCounts, IsFlowOrigin}
use Rattle.krb_laws.proofs.JsonStrings.{all-append}
use Rattle.krb_source.specs.declared.endpoint.Endpoint.{Endpoint}
use Rattle.krb_packet.specs.Fragments.{contents_of_whole, nested_step, unread}
use Rattle.krb_packet.specs.Table.{Table as Fragments}
use Rattle.krb_packet.specs.declared.contents.Contents.{Contents}
use Rattle.krb_packet.specs.declared.contents.Contents.TheVariants as contents
use Rattle.krb_packet.specs.declared.contents.Datagram.{Datagram}
use Rattle.krb_packet.specs.declared.contents.Fragment.{Fragment}
use Rattle.krb_packet.specs.declared.contents.IcmpError.{IcmpError}
use Rattle.krb_packet.specs.declared.contents.Segment.{Segment}
use Rattle.krb_packet.specs.declared.fragments.Reassembled.{Reassembled}
use Rattle.krb_packet.specs.declared.packet.Packet.{Packet}
use Rattle.krb_record.specs.declared.capture.CaptureCounts.{CaptureCounts}
use Rattle.krb_record.specs.declared.flow.Transport.{Transport}
use Rattle.krb_record.specs.declared.flow.Transport.TheVariants as transports
use Rattle.krb_capture.specs.Captures.{Finding, Progress, Settings, Taken, all_counts, and_counted, at_first, completed, completed_event, contents_event, contents_in, contents_taken, counted_each, datagram_taken, end_taken, error_event, fragment_taken, over_tcp, over_udp, packet_taken, packet_told, quoted_transport, segment_event, segment_taken, unread_taken, whole_event, whole_taken, with_packet, with_unread}
use Rattle.krb_capture.specs.Datagrams.{all_found}
use Rattle.krb_capture.specs.Directions.{followed, last_of}
use Rattle.krb_capture.specs.Flows.{due_with, origin_of, service_of}
use Rattle.krb_capture.specs.Found.{Begun, Failed, Faulty, Found, Joined, Missing, Password, Sent, Unread, Whole, and_more, counted}
use Rattle.krb_capture.specs.declared.flow.Due.{Due}
use Rattle.krb_capture.specs.declared.flow.Flow.{Flow}
use Rattle.krb_capture.specs.declared.flow.Service.{Service}
use Rattle.krb_capture_run.specs.Captures.{after_packets}
use Rattle.krb_capture_run.specs.Laws.{told_after}
use Rattle.krb_tool_laws.proofs.CaptureParts.{IsPort}
use Rattle.krb_tool_laws.proofs.ContentOctets.{AreContents, IsError, IsFragment}
use Rattle.krb_tool_laws.proofs.DirectionParts.{AreInFlows, IsFollowed, IsTable, followed_is, last_is}
use Rattle.krb_tool_laws.proofs.FoundParts.{AreFound, IsFound, Rules, all_is}
use Rattle.krb_tool_laws.proofs.FragmentOctets.{AreDatagrams, AreLeft, IsWhole, nested_is, whole_contents}
use Rattle.krb_tool_laws.proofs.LinkOctets.{contents_are}
use Rattle.krb_tool_laws.proofs.PacketOctets.{IsPacket, IsPacketNumber, IsTime}

-- ---- origins
abbrev pub IsFinding : Finding → Type 0
IsFinding finding = IsFlowOrigin finding.0 × IsFound finding.1

abbrev pub AreFindings : List Finding → Type 0
AreFindings found = AllByRecursion IsFinding found

-- the packet with which something is due
pub record IsDue (due : Due) : Type 0 where
  pub packet : IsPacketNumber due.packet
  pub time : IsTime due.time

origin_is : (due : Due) (transport : Transport) (from to : Endpoint) → IsDue due → IsPort from → IsPort to → IsFlowOrigin (origin_of due transport from to)
origin_is due transport from to now a b = record { in_range = record { time = now.time; source = a.host; target = b.host }; packet = now.packet; source = a.small; target = b.small; told = tt }

tcp_are : (due : Due) (found : List (Flow × Found)) → IsDue due → AreInFlows found → AreFindings (over_tcp due found)
tcp_are due [] now are = tt
tcp_are due (first ∷ others) now are = ((origin_is due transports.Tcp first.0.source first.0.target now are.0.0.0 are.0.0.1, are.0.1), tcp_are due others now are.1)

udp_are : (due : Due) (datagram : Datagram) (found : List Found) → IsDue due → IsPort datagram.source → IsPort datagram.target → AreFound found → AreFindings (over_udp due datagram found)
udp_are due datagram [] now a b are = tt
udp_are due datagram (first ∷ others) now a b are = ((origin_is due transports.Udp datagram.source datagram.target now a b, are.0), udp_are due datagram others now a b are.1)

-- ---- counts
one_counted : (found : Found) (counts : CaptureCounts) → AreCounts counts → AreCounts (counted found counts)
one_counted (Whole octets) counts are = record { packets = are.packets; messages = omega arith; refused = are.refused; lost = are.lost; unread = are.unread }
one_counted (Faulty refusal path extent) counts are = record { packets = are.packets; messages = are.messages; refused = omega arith; lost = are.lost; unread = are.unread }
one_counted Begun counts are = are
one_counted Joined counts are = are
one_counted (Missing place octets path) counts are = record { packets = are.packets; messages = are.messages; refused = are.refused; lost = omega arith; unread = are.unread }
one_counted (Password octets version ap rest) counts are = are
one_counted (Unread place octets reason) counts are = record { packets = are.packets; messages = are.messages; refused = are.refused; lost = are.lost; unread = omega arith }
one_counted (Sent header) counts are = are
one_counted (Failed error) counts are = are

each_counted : (found : List Finding) (counts : CaptureCounts) → AreCounts counts → AreCounts (counted_each found counts)
each_counted [] counts are = are
each_counted (first ∷ others) counts are = each_counted others (counted first.1 counts) (one_counted first.1 counts are)

one_unread : (more : ℕ) (counts : CaptureCounts) → AreCounts counts → AreCounts (record counts { unread = and_more counts.unread more })
one_unread more counts are = record { packets = are.packets; messages = are.messages; refused = are.refused; lost = are.lost; unread = omega arith }

-- ---- packets
pub record IsProgress (progress : Progress) : Type 0 where
  pub fragments : AreDatagrams progress.fragments
  pub table : IsTable progress.table
  pub last : IsDue progress.last
  pub counts : AreCounts progress.counts

pub first_is : IsProgress at_first
first_is = record { fragments = tt; table = record { active = tt; ended = tt }; last = record { packet = omega arith; time = tt }; counts = record { packets = omega arith; messages = omega arith; refused = omega arith; lost = omega arith; unread = omega arith } }

abbrev pub IsTaken : Taken → Type 0
IsTaken taken = AreFindings taken.found × IsProgress taken.progress

and_counted_is : (taken : Taken) → IsTaken taken → IsTaken (and_counted taken)
and_counted_is taken are = (are.0, record { fragments = are.1.fragments; table = are.1.table; last = are.1.last; counts = each_counted taken.found taken.progress.counts are.1.counts })

with_unread_is : (progress : Progress) → IsProgress progress → IsProgress (with_unread progress)
with_unread_is progress are = record { fragments = are.fragments; table = are.table; last = are.last; counts = one_unread 1 progress.counts are.counts }

module _ (p : Rules) (settings : Settings) where
  datagram_is : (service : Option Service) (datagram : Datagram) (progress : Progress) → AreContents (contents.Datagram datagram) → IsProgress progress → IsTaken (datagram_taken service datagram progress)
  datagram_is None datagram progress is are = (tt, are)
  datagram_is (Some service) datagram progress is are = (udp_are progress.last datagram (all_found service datagram) are.last is.0.0 is.0.1 (all_is p service datagram is), are)

  segment_is : (service : Option Service) (segment : Segment) (progress : Progress) → AreContents (contents.Segment segment) → IsProgress progress → IsTaken (segment_taken settings.limit service segment progress)
  segment_is None segment progress is are = (tt, are)
  segment_is (Some service) segment progress is are =
      let its : IsFollowed (followed settings.limit progress.last.packet service segment progress.table) = followed_is p settings.limit progress.last.packet service segment progress.table is are.table in
      (tcp_are progress.last (followed settings.limit progress.last.packet service segment progress.table).found are.last its.0, record { fragments = are.fragments; table = its.1; last = are.last; counts = are.counts })

  unread_is : (service : Option Service) (progress : Progress) → IsProgress progress → IsTaken (unread_taken service progress)
  unread_is None progress are = (tt, are)
  unread_is (Some service) progress are = (tt, with_unread_is progress are)

  whole_is : (read : Contents) (progress : Progress) → AreContents read → IsProgress progress → IsTaken (whole_taken settings read progress)
  whole_is (contents.Datagram datagram) progress is are = datagram_is (service_of settings.profile settings.port datagram.source datagram.target) datagram progress is are
  whole_is (contents.Segment segment) progress is are = segment_is (service_of settings.profile settings.port segment.source segment.target) segment progress is are
  whole_is (contents.Fragment fragment) progress is are = (tt, are)
  whole_is (contents.Error error) progress is are = (tt, are)
  whole_is contents.Other progress is are = (tt, are)
  whole_is (contents.UnreadBetween ends) progress is are = unread_is (service_of settings.profile settings.port ends.source ends.target) progress are
  whole_is contents.Unread progress is are = (tt, with_unread_is progress are)

  completed_is : (made : Option Reassembled) (progress : Progress) → IfSome made IsWhole → IsProgress progress → IsTaken (completed settings made progress)
  completed_is None progress is are = (tt, are)
  completed_is (Some made) progress is are = whole_is (contents_of_whole settings.port made) progress (whole_contents settings.port made is) are

  fragment_is : (fragment : Fragment) (progress : Progress) → IsFragment fragment → IsProgress progress → IsTaken (fragment_taken settings fragment progress)
  fragment_is fragment progress is are =
      let stepped : Option Reassembled × Fragments = nested_step settings.port progress.fragments fragment in
      let left : AreLeft stepped = nested_is settings.port progress.fragments fragment are.fragments is in
      completed_is stepped.0 (record progress { fragments = stepped.1 }) left.0 (record { fragments = left.1; table = are.table; last = are.last; counts = are.counts })

  contents_is : (read : Contents) (progress : Progress) → AreContents read → IsProgress progress → IsTaken (contents_taken settings read progress)
  contents_is (contents.Datagram datagram) progress is are = whole_is (contents.Datagram datagram) progress is are
  contents_is (contents.Segment segment) progress is are = whole_is (contents.Segment segment) progress is are
  contents_is (contents.Fragment fragment) progress is are = fragment_is fragment progress is are
  contents_is (contents.Error error) progress is are = whole_is (contents.Error error) progress is are
  contents_is contents.Other progress is are = whole_is contents.Other progress is are
  contents_is (contents.UnreadBetween ends) progress is are = whole_is (contents.UnreadBetween ends) progress is are
  contents_is contents.Unread progress is are = whole_is contents.Unread progress is are

  due_is : (packet : Packet) → IsPacket packet → IsDue (due_with packet)
  due_is packet is = record { packet = is.number; time = is.time }

  in_packet : (packet : Packet) → IsPacket packet → AreContents (contents_in settings.port packet)
  in_packet packet is = contents_are settings.port packet.link (record { octets = packet.octets; size = max packet.size (length packet.octets) })
      (record { octets = is.octets; fits = omega arith; small = omega (arith, is.size, is.few) })

  with_packet_is : (packet : Packet) (progress : Progress) → IsPacket packet → IsProgress progress → IsProgress (with_packet packet progress)
  with_packet_is packet progress is are = record {
    fragments = are.fragments;
    table = are.table;
    last = due_is packet is;
    counts = record { packets = omega arith; messages = are.counts.messages; refused = are.counts.refused; lost = are.counts.lost; unread = are.counts.unread };
  }

  packet_is : (packet : Packet) (progress : Progress) → IsPacket packet → IsProgress progress → IsTaken (packet_taken settings packet progress)
  unfolding packet_taken
  packet_is packet progress is are =
      and_counted_is (contents_taken settings (contents_in settings.port packet) (with_packet packet progress))
      (contents_is (contents_in settings.port packet) (with_packet packet progress) (in_packet packet is) (with_packet_is packet progress is are))

  -- ---- what comes before that
  segment_event_is : (service : Option Service) (due : Due) (segment : Segment) → IsDue due → AreContents (contents.Segment segment) → AreFindings (segment_event service due segment)
  segment_event_is None due segment now is = tt
  segment_event_is (Some service) due segment now is = ((origin_is due transports.Tcp segment.source segment.target now is.0.0 is.0.1, tt), tt)

  error_event_is : (service : Option Service) (due : Due) (error : IcmpError) → IsDue due → IsError error → AreFindings (error_event service due error)
  error_event_is None due error now is = tt
  error_event_is (Some service) due error now is =
      ((origin_is due (quoted_transport error.protocol) error.ends.source error.ends.target now is.ends.0 is.ends.1, record { by = is.by; error_type = is.error_type; code = is.code }), tt)

  whole_event_is : (due : Due) (read : Contents) → IsDue due → AreContents read → AreFindings (whole_event settings due read)
  whole_event_is due (contents.Segment segment) now is = segment_event_is (service_of settings.profile settings.port segment.source segment.target) due segment now is
  whole_event_is due (contents.Error error) now is = error_event_is (service_of settings.profile settings.port error.ends.source error.ends.target) due error now is
  whole_event_is due (contents.Datagram datagram) now is = tt
  whole_event_is due (contents.Fragment fragment) now is = tt
  whole_event_is due contents.Other now is = tt
  whole_event_is due (contents.UnreadBetween ends) now is = tt
  whole_event_is due contents.Unread now is = tt

  completed_event_is : (due : Due) (made : Option Reassembled) → IsDue due → IfSome made IsWhole → AreFindings (completed_event settings due made)
  completed_event_is due None now is = tt
  completed_event_is due (Some made) now is = whole_event_is due (contents_of_whole settings.port made) now (whole_contents settings.port made is)

  event_is : (due : Due) (table : Fragments) (read : Contents) → IsDue due → AreDatagrams table → AreContents read → AreFindings (contents_event settings due table read)
  event_is due table (contents.Fragment fragment) now are is = completed_event_is due (nested_step settings.port table fragment).0 now (nested_is settings.port table fragment are is).0
  event_is due table (contents.Datagram datagram) now are is = tt
  event_is due table (contents.Segment segment) now are is = whole_event_is due (contents.Segment segment) now is
  event_is due table (contents.Error error) now are is = whole_event_is due (contents.Error error) now is
  event_is due table contents.Other now are is = tt
  event_is due table (contents.UnreadBetween ends) now are is = tt
  event_is due table contents.Unread now are is = tt

  told_is : (packet : Packet) (progress : Progress) → IsPacket packet → IsProgress progress → IsTaken (packet_told settings packet progress)
  unfolding packet_told
  told_is packet progress is are =
      let taken : IsTaken (packet_taken settings packet progress) = packet_is packet progress is are in (
        all-append IsFinding (contents_event settings (due_with packet) progress.fragments (contents_in settings.port packet)) (packet_taken settings packet progress).found
            (event_is (due_with packet) progress.fragments (contents_in settings.port packet) (due_is packet is) are.fragments (in_packet packet is)) taken.0,
        taken.1,
      )

  -- ---- all packets
  pub end_is : (progress : Progress) → IsProgress progress → IsTaken (end_taken settings progress)
  end_is progress are =
      and_counted_is (record { found = over_tcp progress.last (last_of settings.limit progress.table.active); progress = progress })
      (tcp_are progress.last (last_of settings.limit progress.table.active) are.last (last_is p settings.limit progress.table.active are.table.active), are)

  pub totals_are : (progress : Progress) → IsProgress progress → AreCounts (all_counts (end_taken settings progress).progress)
  totals_are progress are =
      let ended : Progress = (end_taken settings progress).progress in
      one_unread (unread ended.fragments) ended.counts (end_is progress are).1.counts

  pub told_are : (packets : List Packet) (progress : Progress) → AllByRecursion IsPacket packets → IsProgress progress → AreFindings (told_after settings progress packets)
  told_are [] progress each are = (end_is progress are).0
  told_are (packet ∷ packets) progress each are =
      let taken : IsTaken (packet_told settings packet progress) = told_is packet progress each.0 are in
      all-append IsFinding (packet_told settings packet progress).found (told_after settings (packet_told settings packet progress).progress packets) taken.0 (told_are packets (packet_told settings packet progress).progress each.1 taken.1)

  pub after_is : (packets : List Packet) (progress : Progress) → AllByRecursion IsPacket packets → IsProgress progress → IsProgress (after_packets settings packets progress)
  after_is [] progress each are = are
  after_is (packet ∷ packets) progress each are = after_is packets (packet_told settings packet progress).progress each.1 (told_is packet progress each.0 are).1
