-- A capture that is clean hides nothing: if none of its records says that octets are refused, lost or in no message, then each octet that was captured between ports of Kerberos is in what is listed.
use Rattle.std.specs.Prelude.{◌≡◌, ◌<◌, ◌≤◌, ℕ, ◌^◌, Bool, true, false, Some, List, [], ◌∷◌, length}
use Rattle.std.specs.List.{All, Contains, list_all}
use Rattle.krb_packet.specs.declared.contents.Datagram.{Datagram}
use Rattle.krb_packet.specs.declared.contents.Segment.{Segment}
use Rattle.krb_packet.specs.declared.packet.Packet.{Packet}
use Rattle.krb_source.specs.declared.endpoint.Endpoint.{Endpoint}
use Rattle.krb_flow.specs.declared.direction.State.TheVariants.{Fresh}
use Rattle.krb_record.specs.declared.capture.CaptureCounts.{CaptureCounts}
use Rattle.krb_capture.specs.Captures.{Progress, Settings, all_counts, at_first, end_taken, is_clean, packet_taken}
use Rattle.krb_capture.specs.Datagrams.{datagram_found}
use Rattle.krb_capture.specs.Flows.{service_of}
use Rattle.krb_capture.specs.Found.{Found, Faulty, Missing, Unread}
use Rattle.krb_capture.specs.Laws.{direction_found}
use Rattle.krb_capture.specs.Sending.{nothing_sent}
use Rattle.krb_capture.specs.Streams.{framed}
use Rattle.krb_capture.specs.WholeCaptures.{AreNumbered, carried, datagrams_between, flows_in, segments_between, segments_in}
use Rattle.krb_capture.specs.declared.flow.Flow.{Flow}
use Rattle.krb_capture.specs.declared.flow.Service.{Service}
use Rattle.krb_capture_laws.specs.Shown.{HidesNothing, TakenStream, size_of, streams_of}

-- ---- what is listed

-- a record that hides no octets
abbrev pub is_clear : Found → Bool
is_clear (Faulty refusal path extent) = false
is_clear (Missing place octets path) = false
is_clear (Unread place octets why) = false
is_clear _ = true

-- All octets of a datagram were captured, they are a message that is listed, or a change of a password whose parts are, and none follow.
pub record IsListed (service : Service) (datagram : Datagram) : Type 0 where
  pub whole : length datagram.payload.octets ≡ datagram.payload.size
  pub clear : list_all is_clear (datagram_found service datagram.payload) ≡ true
  pub no_others : datagram.surplus.octets ≡ []

-- A stream is frames that are listed, from its first octet to its last.
pub record IsAllListed (service : Service) (limit : ℕ) (stream : List ℕ) : Type 0 where
  pub clear : list_all is_clear (framed service limit stream).found ≡ true
  pub none_cut : (framed service limit stream).partial ≡ []
  pub all_known : (framed service limit stream).over ≡ false

-- ---- the law of a direction

-- the streams of these segments alone
abbrev pub streams_in : List Segment → List TakenStream
streams_in segments = streams_of Fresh [] segments

-- each of their streams is listed, and each octet of them that was captured is one of a stream
pub record AllIsListed (service : Service) (limit : ℕ) (segments : List Segment) : Type 0 where
  pub listed : All (λ stream. IsAllListed service limit stream.octets) (streams_in segments)
  pub shown : All (HidesNothing (streams_in segments)) segments

-- Whatever segments a direction has, in whatever order, with whatever numbers, flags, octets and cuts: if its records are all clear, all is listed.
abbrev pub DirectionHidesNothing : Type 0
DirectionHidesNothing = (limit : ℕ) (flow : Flow) (service : Service) (kept : List Bool) (segments : List Segment) → size_of segments < 2 ^ 61 → list_all is_clear (direction_found limit (nothing_sent flow service) kept segments) ≡ true → AllIsListed service limit segments

-- ---- the law of a whole capture

-- the counts of its last record
abbrev pub counts_after : Settings → Progress → List Packet → CaptureCounts
counts_after settings progress [] = all_counts (end_taken settings progress).progress
counts_after settings progress (packet ∷ packets) = counts_after settings (packet_taken settings packet progress).progress packets

-- from a source to a target between ports of Kerberos
pub record ShowsAll (settings : Settings) (packets : List Packet) (source target : Endpoint) (service : Service) : Type 0 where
  pub datagrams : All (IsListed service) (datagrams_between source target (carried settings.port packets))
  pub segments : AllIsListed service settings.limit (segments_between source target (carried settings.port packets))

-- If nothing of a capture is refused, lost or unread, and its segments are of no more different flows than are kept: all that the walk brings to UDP or TCP between ports of Kerberos is listed.
abbrev pub CleanHidesNothing : Type 0
CleanHidesNothing = (settings : Settings) (packets : List Packet) (different : List Flow) → AreNumbered 0 packets → length different ≤ 65536 → All (Contains different) (flows_in settings.profile settings.port (carried settings.port packets)) → size_of (segments_in (carried settings.port packets)) < 2 ^ 61 → is_clean (counts_after settings at_first packets) ≡ true → (source target : Endpoint) (service : Service) → service_of settings.profile settings.port source target ≡ Some service → ShowsAll settings packets source target service
