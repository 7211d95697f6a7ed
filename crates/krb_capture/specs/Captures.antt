-- What is found in the packets of a capture, one after another.
use Rattle.std.specs.Prelude.{ℕ, ◌≡◌, ◌==◌, Bool, List, [], ◌∷◌, ◌++◌, length, map, max, Option, Some, None}
use Rattle.krb_der.specs.declared.profile.Profile.{Profile}
use Rattle.krb_packet.specs.Contents.{contents_of}
use Rattle.krb_packet.specs.declared.contents.Contents.{Contents}
use Rattle.krb_packet.specs.declared.contents.Contents.TheVariants as contents
use Rattle.krb_packet.specs.declared.contents.Datagram.{Datagram}
use Rattle.krb_packet.specs.declared.contents.Fragment.{Fragment}
use Rattle.krb_packet.specs.declared.fragments.Reassembled.{Reassembled}
use Rattle.krb_packet.specs.Fragments.{contents_of_whole, nested_step, no_fragments, unread}
use Rattle.krb_packet.specs.Table.{Table as Fragments}
use Rattle.krb_packet.specs.declared.contents.Segment.{Segment}
use Rattle.krb_packet.specs.declared.contents.IcmpError.{IcmpError}
use Rattle.krb_packet.specs.declared.contents.QuotedProtocol.{QuotedProtocol}
use Rattle.krb_packet.specs.declared.contents.QuotedProtocol.TheVariants as protocols
use Rattle.krb_exchange.specs.declared.parties.Header.{Header}
use Rattle.krb_record.specs.declared.unreachable.IcmpError.{IcmpError as Failure}
use Rattle.krb_record.specs.declared.unreachable.IcmpVersion.{IcmpVersion}
use Rattle.krb_record.specs.declared.unreachable.IcmpVersion.TheVariants as versions
use Rattle.krb_record.specs.declared.flow.Transport.{Transport}
use Rattle.std.specs.declared.net.ip_addr.IpAddr.{IpAddr}
use Rattle.std.specs.declared.net.ip_addr.IpAddr.TheVariants as addresses
use Rattle.krb_packet.specs.declared.packet.Packet.{Packet}
use Rattle.krb_source.specs.declared.file_why.FileWhy.{FileWhy}
use Rattle.krb_record.specs.declared.capture.CaptureCounts.{CaptureCounts}
use Rattle.krb_record.specs.declared.told.ToldCounts.{ToldCounts}
use Rattle.krb_record.specs.declared.extent.Extent.{Extent}
use Rattle.krb_capture.specs.Labels.{Label, label_in}
use Rattle.krb_capture.specs.Decoded.{end_line, refusal_line}
pub use Rattle.krb_capture.specs.Counts.{is_clean}
use Rattle.krb_record.specs.declared.capture_origin.CaptureOrigin.{CaptureOrigin}
use Rattle.krb_record.specs.declared.flow.Transport.TheVariants as transports
use Rattle.krb_capture.specs.Datagrams.{all_found}
use Rattle.krb_capture.specs.Directions.{Followed, HoldsTable, Table, followed, last_of, no_directions}
use Rattle.krb_capture.specs.Flows.{due_with, moment_due, origin_of, service_of}
use Rattle.krb_capture.specs.Found.{Failed, Found, Sent, Written, and_more, counted, found_happened, found_text, totals, with_found}
use Rattle.krb_capture.specs.Ends.{told_in}
use Rattle.krb_capture.specs.Happened.{end_counts, end_lines}
use Rattle.krb_capture.specs.declared.happened.Happened.{Happened}
pub use Rattle.krb_capture.specs.Boxed.{happened_in}
use Rattle.krb_capture.specs.declared.capture.Capture.{Capture}
use Rattle.krb_capture.specs.declared.flow.Due.{Due}
use Rattle.krb_capture.specs.declared.flow.Flow.{Flow}
use Rattle.krb_capture.specs.declared.flow.Service.{Service}

-- how a capture is listed: how what is found is written, the profile by which messages are judged, the greatest length of a frame, and the port of KDCs
pub record Settings : Type 0 where
  pub label : Label
  pub profile : Profile
  pub limit : ℕ
  pub port : ℕ

-- what the packets that came leave: the fragments of datagrams that are not whole, the directions, the packet that came last, and the counts
pub record Progress : Type 0 where
  pub fragments : Fragments
  pub table : Table
  pub last : Due
  pub counts : CaptureCounts

abbrev pub no_counts : CaptureCounts
no_counts = record { packets = 0; messages = 0; refused = 0; lost = 0; unread = 0 }

abbrev pub at_first : Progress
at_first = record { fragments = no_fragments; table = no_directions; last = record { packet = 0; time = None }; counts = no_counts }

-- ---- what is found, each with its origin
abbrev pub Finding : Type 0
Finding = CaptureOrigin × Found

-- what is written of it, and what happened then, if it is told
abbrev pub lines_of : Label → Option Happened → List Finding → List ℕ
lines_of label happened [] = []
lines_of label happened (first ∷ others) = found_text label first.0 first.1 happened ++ lines_of label (found_happened first.0 first.1 happened) others

abbrev pub happened_each : List Finding → Option Happened → Option Happened
happened_each [] happened = happened
happened_each (first ∷ others) happened = happened_each others (found_happened first.0 first.1 happened)

abbrev pub counted_each : List Finding → CaptureCounts → CaptureCounts
counted_each [] counts = counts
counted_each (first ∷ others) counts = counted_each others (counted first.1 counts)

abbrev pub with_each : List Finding → Written → Written
with_each [] written = written
with_each (first ∷ others) written = with_each others (with_found first.0 first.1 written)

abbrev pub over_tcp : Due → List (Flow × Found) → List Finding
over_tcp due found = map (λ one. (origin_of due transports.Tcp one.0.source one.0.target, one.1)) found

abbrev pub over_udp : Due → Datagram → List Found → List Finding
over_udp due datagram found = map (λ one. (origin_of due transports.Udp datagram.source datagram.target, one)) found

-- ---- packets
-- what is found with one, and what is left
pub record Taken : Type 0 where
  pub found : List Finding
  pub progress : Progress

abbrev pub nothing_in : Progress → Taken
nothing_in progress = record { found = []; progress = progress }

abbrev pub datagram_taken : Option Service → Datagram → Progress → Taken
datagram_taken None datagram progress = nothing_in progress
datagram_taken (Some service) datagram progress = record { found = over_udp progress.last datagram (all_found service datagram); progress = progress }

abbrev pub with_followed : Followed → Progress → Taken
with_followed followed progress = record { found = over_tcp progress.last followed.found; progress = record progress { table = followed.table } }

abbrev pub segment_taken : ℕ → Option Service → Segment → Progress → Taken
segment_taken limit None segment progress = nothing_in progress
segment_taken limit (Some service) segment progress = with_followed (followed limit progress.last.packet service segment progress.table) progress

-- a packet whose headers cannot be read
abbrev pub with_unread : Progress → Progress
with_unread progress = record progress { counts = record progress.counts { unread = and_more progress.counts.unread 1 } }

-- one whose header of UDP or TCP is cut or wrong after its ports, if these are of Kerberos
abbrev pub unread_taken : Option Service → Progress → Taken
unread_taken None progress = nothing_in progress
unread_taken (Some service) progress = nothing_in (with_unread progress)

-- what is all there
abbrev pub whole_taken : Settings → Contents → Progress → Taken
whole_taken settings (contents.Datagram datagram) progress = datagram_taken (service_of settings.profile settings.port datagram.source datagram.target) datagram progress
whole_taken settings (contents.Segment segment) progress = segment_taken settings.limit (service_of settings.profile settings.port segment.source segment.target) segment progress
whole_taken settings (contents.Fragment fragment) progress = nothing_in progress
whole_taken settings (contents.Error error) progress = nothing_in progress
whole_taken settings contents.Other progress = nothing_in progress
whole_taken settings (contents.UnreadBetween ends) progress = unread_taken (service_of settings.profile settings.port ends.source ends.target) progress
whole_taken settings contents.Unread progress = nothing_in (with_unread progress)

abbrev pub completed : Settings → Option Reassembled → Progress → Taken
completed settings None progress = nothing_in progress
completed settings (Some whole) progress = whole_taken settings (contents_of_whole settings.port whole) progress

-- a fragment, which may complete a datagram, in which another one may be
abbrev pub fragment_taken : Settings → Fragment → Progress → Taken
fragment_taken settings fragment progress =
    let stepped = nested_step settings.port progress.fragments fragment in completed settings stepped.0 (record progress { fragments = stepped.1 })

abbrev pub contents_taken : Settings → Contents → Progress → Taken
contents_taken settings (contents.Datagram datagram) progress = whole_taken settings (contents.Datagram datagram) progress
contents_taken settings (contents.Segment segment) progress = whole_taken settings (contents.Segment segment) progress
contents_taken settings (contents.Fragment fragment) progress = fragment_taken settings fragment progress
contents_taken settings (contents.Error error) progress = whole_taken settings (contents.Error error) progress
contents_taken settings contents.Other progress = whole_taken settings contents.Other progress
contents_taken settings (contents.UnreadBetween ends) progress = whole_taken settings (contents.UnreadBetween ends) progress
contents_taken settings contents.Unread progress = whole_taken settings contents.Unread progress

-- a packet came, which is the last one from then on
abbrev pub with_packet : Packet → Progress → Progress
with_packet packet progress = record progress { last = due_with packet; counts = record progress.counts { packets = and_more progress.counts.packets 1 } }

-- what is found is counted
abbrev pub and_counted : Taken → Taken
and_counted taken = record { found = taken.found; progress = record taken.progress { counts = counted_each taken.found taken.progress.counts } }

abbrev pub contents_in : ℕ → Packet → Contents
contents_in port packet = contents_of port packet.link (record { octets = packet.octets; size = max packet.size (length packet.octets) })

unfoldable pub packet_taken : Settings → Packet → Progress → Taken
packet_taken settings packet progress = and_counted (contents_taken settings (contents_in settings.port packet) (with_packet packet progress))

-- ---- what is told of a packet beside that, before it: the segment or the error that it carries, if the ports are of Kerberos
abbrev pub header_of : Segment → Header
header_of segment = record { sequence = segment.sequence; syn = segment.syn; ack = segment.ack; rst = segment.rst }

abbrev pub segment_event : Option Service → Due → Segment → List Finding
segment_event None due segment = []
segment_event (Some service) due segment = (origin_of due transports.Tcp segment.source segment.target, Sent (header_of segment)) ∷ []

abbrev pub quoted_transport : QuotedProtocol → Transport
quoted_transport protocols.Udp = transports.Udp
quoted_transport protocols.Tcp = transports.Tcp

abbrev pub version_of : IpAddr → IcmpVersion
version_of (addresses.V4 by) = versions.V4
version_of (addresses.V6 by) = versions.V6

abbrev pub failure_of : IcmpError → Failure
failure_of error = record { version = version_of error.by; by = error.by; error_type = error.error_type; code = error.code }

abbrev pub error_event : Option Service → Due → IcmpError → List Finding
error_event None due error = []
error_event (Some service) due error = (origin_of due (quoted_transport error.protocol) error.ends.source error.ends.target, Failed (failure_of error)) ∷ []

abbrev pub whole_event : Settings → Due → Contents → List Finding
whole_event settings due (contents.Segment segment) = segment_event (service_of settings.profile settings.port segment.source segment.target) due segment
whole_event settings due (contents.Error error) = error_event (service_of settings.profile settings.port error.ends.source error.ends.target) due error
whole_event settings due _ = []

abbrev pub completed_event : Settings → Due → Option Reassembled → List Finding
completed_event settings due None = []
completed_event settings due (Some whole) = whole_event settings due (contents_of_whole settings.port whole)

abbrev pub contents_event : Settings → Due → Fragments → Contents → List Finding
contents_event settings due fragments (contents.Fragment fragment) = completed_event settings due (nested_step settings.port fragments fragment).0
contents_event settings due fragments whole = whole_event settings due whole

abbrev pub with_event : List Finding → Taken → Taken
with_event event taken = record taken { found = event ++ taken.found }

unfoldable pub packet_told : Settings → Packet → Progress → Taken
packet_told settings packet progress = with_event (contents_event settings (due_with packet) progress.fragments (contents_in settings.port packet)) (packet_taken settings packet progress)

-- ---- at the end of the file: how the directions end that are open, the requests that are unanswered, and the totals
abbrev pub end_taken : Settings → Progress → Taken
end_taken settings progress = and_counted (record { found = over_tcp progress.last (last_of settings.limit progress.table.active); progress = progress })

abbrev pub all_counts : Progress → CaptureCounts
all_counts progress = totals (unread progress.fragments) progress.counts

abbrev pub last_lines : Settings → Option Happened → Progress → List ℕ
last_lines settings happened progress =
    let found = (end_taken settings progress).found in
    lines_of settings.label happened found ++ end_lines settings.label (moment_due progress.last) (happened_each found happened)

abbrev pub last_counts : Settings → Option Happened → Progress → ToldCounts
last_counts settings happened progress = end_counts (happened_each (end_taken settings progress).found happened)

unfoldable pub end_text : Settings → Option Happened → Progress → List ℕ
end_text settings happened progress =
    last_lines settings happened progress ++ end_line settings.label (all_counts (end_taken settings progress).progress) (last_counts settings happened progress)

-- the same of a file that is itself at fault: the directions end, too
unfoldable pub refusal_text : Settings → Option Happened → Progress → ℕ → FileWhy → Option (List ℕ) → Extent → List ℕ
refusal_text settings happened progress place why path extent =
    last_lines settings happened progress ++ refusal_line settings.label (all_counts (end_taken settings progress).progress) (last_counts settings happened progress) place why path extent

-- no packet came
abbrev pub has_no_packet : CaptureCounts → Bool
has_no_packet counts = counts.packets == 0

-- ---- what a capture keeps represents its progress; beside that it has what happened, if it is told
pub record HasFollowed (capture : Capture) (settings : Settings) (progress : Progress) : Type 0 where
  pub port : capture.port ≡ settings.port
  pub profile : capture.profile ≡ settings.profile
  pub label : label_in capture.listing.style ≡ settings.label
  pub fragments : capture.fragments ≡ progress.fragments
  pub table : HoldsTable capture.directions settings.limit progress.table
  pub last : capture.last ≡ progress.last
  pub counts : capture.listing.counts ≡ progress.counts

-- The directions that were open have ended, and what is unanswered is told, which is listed and counted.
pub record HasEnded (was : Option Happened) (capture : Capture) (settings : Settings) (progress : Progress) (before after : List ℕ) : Type 0 where
  pub label : label_in capture.listing.style ≡ settings.label
  pub counts : totals (unread capture.fragments) capture.listing.counts ≡ all_counts (end_taken settings progress).progress
  pub told : told_in (happened_in capture.happened) ≡ last_counts settings was progress
  pub text : after ≡ before ++ last_lines settings was progress
