-- What is found in a whole capture, and the laws that each flow is listed as if it had come alone.
use Rattle.std.specs.Prelude.{◌≡◌, ◌<◌, ◌≤◌, ℕ, ◌==◌, ◌&&◌, Bool, true, false, Option, Some, None, is_some, List, [], ◌∷◌, ◌++◌, length, map}
use Rattle.std.specs.List.{All, Contains, filter, flat_map}
use Rattle.krb_der.specs.declared.profile.Profile.{Profile}
use Rattle.krb_packet.specs.Captures.{packets}
use Rattle.krb_packet.specs.Fragments.{contents_of_whole, nested_step, no_fragments, same_address}
use Rattle.krb_packet.specs.Table.{Table as Fragments}
use Rattle.krb_packet.specs.declared.contents.Contents.{Contents}
use Rattle.krb_packet.specs.declared.contents.Contents.TheVariants as contents
use Rattle.krb_packet.specs.declared.contents.Datagram.{Datagram}
use Rattle.krb_source.specs.declared.endpoint.Endpoint.{Endpoint}
use Rattle.krb_packet.specs.declared.contents.Segment.{Segment}
use Rattle.krb_packet.specs.declared.fragments.Reassembled.{Reassembled}
use Rattle.krb_packet.specs.declared.packet.Packet.{Packet}
use Rattle.krb_flow.specs.Arrivals.{AreAllOf}
use Rattle.krb_flow.specs.Laws.{Piece, segments_of}
use Rattle.krb_flow.specs.declared.direction.Beginning.{Beginning}
use Rattle.krb_record.specs.declared.capture_origin.CaptureOrigin.{CaptureOrigin}
use Rattle.krb_record.specs.declared.flow.Transport.{Transport}
use Rattle.krb_record.specs.declared.flow.Transport.TheVariants as transports
use Rattle.krb_capture.specs.Captures.{Finding, Progress, Settings, at_first, contents_in, end_taken, packet_taken}
use Rattle.krb_capture.specs.Datagrams.{all_found}
use Rattle.krb_capture.specs.Flows.{flow_between, service_of}
use Rattle.krb_capture.specs.Found.{Found}
use Rattle.krb_capture.specs.Laws.{but_unread, direction_found, stream_found}
use Rattle.krb_capture.specs.Sending.{Sent, beginning_found, nothing_sent}
use Rattle.krb_capture.specs.declared.flow.Flow.{Flow}
use Rattle.krb_capture.specs.declared.flow.Service.{Service}

-- ---- what packets carry

-- with the fragment that completes a datagram, what that carries, and with another one nothing
abbrev pub completed_contents : ℕ → Option Reassembled → List Contents
completed_contents port None = []
completed_contents port (Some whole) = contents_of_whole port whole ∷ []

abbrev pub contents_after : ℕ → Fragments → Contents → List Contents × Fragments
contents_after port fragments (contents.Fragment fragment) = let stepped = nested_step port fragments fragment in (completed_contents port stepped.0, stepped.1)
contents_after port fragments whole = (whole ∷ [], fragments)

abbrev pub carried_after : ℕ → Fragments → List Packet → List Contents
carried_after port fragments [] = []
carried_after port fragments (packet ∷ packets) = let read = contents_after port fragments (contents_in port packet) in read.0 ++ carried_after port read.1 packets

-- what packets carry, in order, if this is the port of KDCs
abbrev pub carried : ℕ → List Packet → List Contents
carried port packets = carried_after port no_fragments packets

-- ---- from one end to another

abbrev pub same_end : Endpoint → Endpoint → Bool
same_end one other = same_address one.address other.address && one.port == other.port

-- whether these are the source and the target
abbrev pub are_ends : Endpoint → Endpoint → Endpoint → Endpoint → Bool
are_ends source target from to = same_end source from && same_end target to

abbrev pub segments_in : List Contents → List Segment
segments_in [] = []
segments_in (contents.Segment segment ∷ others) = segment ∷ segments_in others
segments_in (_ ∷ others) = segments_in others

abbrev pub datagrams_in : List Contents → List Datagram
datagrams_in [] = []
datagrams_in (contents.Datagram datagram ∷ others) = datagram ∷ datagrams_in others
datagrams_in (_ ∷ others) = datagrams_in others

abbrev pub segments_between : Endpoint → Endpoint → List Contents → List Segment
segments_between source target all = filter (λ segment. are_ends source target segment.source segment.target) (segments_in all)

abbrev pub datagrams_between : Endpoint → Endpoint → List Contents → List Datagram
datagrams_between source target all = filter (λ datagram. are_ends source target datagram.source datagram.target) (datagrams_in all)

-- ---- what is found in a capture

-- with each packet, in order, and at the end
abbrev pub found_after : Settings → Progress → List Packet → List Finding
found_after settings progress [] = (end_taken settings progress).found
found_after settings progress (packet ∷ packets) = let taken = packet_taken settings packet progress in taken.found ++ found_after settings taken.progress packets

abbrev pub capture_found : Settings → List Packet → List Finding
capture_found settings packets = found_after settings at_first packets

abbrev pub same_transport : Transport → Transport → Bool
same_transport transports.Tcp transports.Tcp = true
same_transport transports.Udp transports.Udp = true
same_transport transports.Tcp transports.Udp = false
same_transport transports.Udp transports.Tcp = false

abbrev pub is_from : Transport → Endpoint → Endpoint → CaptureOrigin → Bool
is_from transport source target origin = same_transport transport origin.flow.transport && are_ends source target origin.flow.source origin.flow.target

-- what is found from a source to a target, in order
abbrev pub found_between : Transport → Endpoint → Endpoint → List Finding → List Found
found_between transport source target found = map (λ one. one.1) (filter (λ one. is_from transport source target one.0) found)

-- ---- the laws

-- each packet has a greater number than those before it, as the packets of a file have
abbrev pub AreNumbered : ℕ → List Packet → Type 0
AreNumbered last [] = Unit {0}
AreNumbered last (packet ∷ packets) = (last < packet.number) × AreNumbered packet.number packets

abbrev pub PacketsAreNumbered : Type 0
PacketsAreNumbered = (file : List ℕ) → AreNumbered 0 (packets file).items

-- the flow of each segment between ports of Kerberos
abbrev pub flows_in : Profile → ℕ → List Contents → List Flow
flows_in profile port all = map (λ segment. flow_between segment.source segment.target) (filter (λ segment. is_some (service_of profile port segment.source segment.target)) (segments_in all))

-- What is found is what is found in a direction, whose octets may be let go once it has ended.
pub record IsOfDirection (limit : ℕ) (sent : Sent) (segments : List Segment) (found : List Found) : Type 0 where
  pub kept : List Bool
  pub is : found ≡ direction_found limit sent kept segments

-- Whatever else a capture has, if there are segments of no more different flows than are kept: what is found from a source to a target over TCP is what is found in the direction of these segments alone.
abbrev pub DirectionsAreApart : Type 0
DirectionsAreApart = (settings : Settings) (packets : List Packet) (different : List Flow) (source target : Endpoint) (service : Service) → AreNumbered 0 packets → length different ≤ 65536 → All (Contains different) (flows_in settings.profile settings.port (carried settings.port packets)) → service_of settings.profile settings.port source target ≡ Some service → IsOfDirection settings.limit (nothing_sent (flow_between source target) service) (segments_between source target (carried settings.port packets)) (found_between transports.Tcp source target (capture_found settings packets))

-- So if these are the segments of a stream, it is what is found in the stream, but for octets that no message has.
abbrev pub CapturesListStreams : Type 0
CapturesListStreams = (settings : Settings) (packets : List Packet) (different : List Flow) (source target : Endpoint) (service : Service) (stream : List ℕ) (how : Beginning) (pieces : List Piece) → AreNumbered 0 packets → length different ≤ 65536 → All (Contains different) (flows_in settings.profile settings.port (carried settings.port packets)) → service_of settings.profile settings.port source target ≡ Some service → segments_between source target (carried settings.port packets) ≡ segments_of pieces → AreAllOf stream how pieces → but_unread (found_between transports.Tcp source target (capture_found settings packets)) ≡ beginning_found (Some how) ++ stream_found service settings.limit stream

-- Over UDP it is what is found in each of the datagrams alone.
abbrev pub DatagramsAreApart : Type 0
DatagramsAreApart = (settings : Settings) (packets : List Packet) (source target : Endpoint) (service : Service) → service_of settings.profile settings.port source target ≡ Some service → found_between transports.Udp source target (capture_found settings packets) ≡ flat_map (all_found service) (datagrams_between source target (carried settings.port packets))
