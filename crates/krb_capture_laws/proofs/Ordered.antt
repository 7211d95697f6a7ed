-- The events of a capture come in the order of its packets.
use Rattle.std.proofs.Common.{◌≡◌, ℕ, ◌≤◌, ◌==◌, arith, Bool, true, false, if◌then◌else◌, List, [], ◌∷◌, ◌++◌, map, take, drop, Option, None, Some, refl, sym, subst}
use Rattle.std.specs.List.{AllByRecursion}
use Rattle.krb_exchange_laws.specs.Events
use Rattle.krb_exchange_laws.specs.Laws.{NeverGoBack}
use Rattle.krb_msg.specs.declared.message.Kind.{Kind}
use Rattle.krb_msg.specs.declared.message.Kind.TheVariants as kinds
use Rattle.krb_packet.specs.Fragments.{contents_of_whole, nested_step}
use Rattle.krb_packet.specs.declared.contents.Contents.{Contents}
use Rattle.krb_packet.specs.declared.contents.Contents.TheVariants as contents
use Rattle.krb_packet.specs.declared.contents.Datagram.{Datagram}
use Rattle.krb_packet.specs.declared.contents.Segment.{Segment}
use Rattle.krb_packet.specs.declared.fragments.Reassembled.{Reassembled}
use Rattle.krb_packet.specs.declared.packet.Packet.{Packet}
use Rattle.krb_record.specs.declared.capture_origin.CaptureOrigin.{CaptureOrigin}
use Rattle.krb_capture.specs.Captures.{Finding, Progress, Settings, Taken, completed, completed_event, contents_event, contents_in, contents_taken, datagram_taken, end_taken, error_event, packet_taken, packet_told, segment_event, segment_taken, unread_taken, whole_event, whole_taken, with_packet}
use Rattle.krb_capture.specs.Flows.{due_with, service_of}
use Rattle.krb_capture.specs.Found.{Begun, Failed, Faulty, Found, Joined, Missing, Password, Sent, Unread, Whole}
use Rattle.krb_capture.specs.Happened.{begins_ap_req, kind_in}
use Rattle.krb_capture.specs.declared.flow.Service.{Service}
use Rattle.krb_capture_laws.specs.Exchanges.{events_from, events_of, message_events, parts_after, password_events, unless_parts}

-- ---- events are of the packet of what is found
abbrev pub IsOf : ℕ → Finding → Type 0
IsOf packet one = one.0.packet ≡ packet

abbrev HasPacket : ℕ → Events.Event → Type 0
HasPacket packet event = (Events.moment event).packet ≡ packet

message-packet : (kind : Option Kind) (octets : List ℕ) (origin : CaptureOrigin) → AllByRecursion (HasPacket origin.packet) (message_events kind octets origin)
message-packet (Some kinds.AsReq) octets origin = (refl, tt)
message-packet (Some kinds.TgsReq) octets origin = (refl, tt)
message-packet (Some kinds.AsRep) octets origin = (refl, tt)
message-packet (Some kinds.TgsRep) octets origin = (refl, tt)
message-packet (Some kinds.KrbError) octets origin = (refl, tt)
message-packet kind octets origin = tt

unless-packet : (parts : ℕ) (packet : ℕ) (events : List Events.Event) → AllByRecursion (HasPacket packet) events → AllByRecursion (HasPacket packet) (unless_parts parts events)
unless-packet parts packet events h = by (parts == 0)
  where
    by : (b : Bool) → AllByRecursion (HasPacket packet) (if b then events else [])
    by true = h
    by false = tt

password-packet : (b : Bool) (octets : List ℕ) (origin : CaptureOrigin) → AllByRecursion (HasPacket origin.packet) (password_events b octets origin)
password-packet true octets origin = (refl, tt)
password-packet false octets origin = (refl, tt)

found-packet : (parts : ℕ) (origin : CaptureOrigin) (found : Found) → AllByRecursion (HasPacket origin.packet) (events_of parts origin found)
found-packet parts origin (Whole octets) = unless-packet parts origin.packet (message_events (kind_in octets) octets origin) (message-packet (kind_in octets) octets origin)
found-packet parts origin (Faulty refusal path extent) = unless-packet parts origin.packet _ (refl, tt)
found-packet parts origin Begun = (refl, tt)
found-packet parts origin Joined = tt
found-packet parts origin (Missing place octets path) = unless-packet parts origin.packet _ (refl, tt)
found-packet parts origin (Password octets version size rest) = password-packet (begins_ap_req (take size (drop 6 octets))) octets origin
found-packet parts origin (Unread place octets why) = tt
found-packet parts origin (Sent header) = (refl, tt)
found-packet parts origin (Failed error) = (refl, tt)

-- ---- and so never go back
before : (last packet : ℕ) (events others : List Events.Event) → last ≤ packet → AllByRecursion (HasPacket packet) events → ((n : ℕ) → n ≤ packet → NeverGoBack n others) → NeverGoBack last (events ++ others)
before last packet [] others l h k = k last l
before last packet (event ∷ events) others l h k = (subst (λ n. last ≤ n) (sym h.0) l, before (Events.moment event).packet packet events others (omega (arith, h.0)) h.1 k)

pub in-order : (packet : ℕ) (found others : List Finding) (last parts : ℕ) → last ≤ packet → AllByRecursion (IsOf packet) found → ((parts n : ℕ) → n ≤ packet → NeverGoBack n (events_from parts others)) → NeverGoBack last (events_from parts (found ++ others))
in-order packet [] others last parts l h k = k parts last l
in-order packet (one ∷ found) others last parts l h k =
    before last packet (events_of parts one.0 one.1) (events_from (parts_after parts one.1) (found ++ others)) l
    (subst (λ n. AllByRecursion (HasPacket n) (events_of parts one.0 one.1)) h.0 (found-packet parts one.0 one.1))
    (λ n m. in-order packet found others n (parts_after parts one.1) m h.1 k)

-- ---- what is found with a packet is of it
pub record OfLast (packet : ℕ) (taken : Taken) : Type 0 where
  pub found : AllByRecursion (λ one. one.0.packet ≡ packet) taken.found
  pub last : taken.progress.last.packet ≡ packet

mapped : {X : Type 0} (packet : ℕ) (f : X → Finding) → ((x : X) → (f x).0.packet ≡ packet) → (xs : List X) → AllByRecursion (λ (one : Finding). one.0.packet ≡ packet) (map f xs)
mapped packet f h [] = tt
mapped packet f h (x ∷ xs) = (h x, mapped packet f h xs)

datagram-of : (service : Option Service) (datagram : Datagram) (progress : Progress) → OfLast progress.last.packet (datagram_taken service datagram progress)
datagram-of None datagram progress = record { found = tt; last = refl }
datagram-of (Some service) datagram progress = record { found = mapped progress.last.packet _ (λ x. refl) _; last = refl }

segment-of : (limit : ℕ) (service : Option Service) (segment : Segment) (progress : Progress) → OfLast progress.last.packet (segment_taken limit service segment progress)
segment-of limit None segment progress = record { found = tt; last = refl }
segment-of limit (Some service) segment progress = record { found = mapped progress.last.packet _ (λ x. refl) _; last = refl }

unread-of : (service : Option Service) (progress : Progress) → OfLast progress.last.packet (unread_taken service progress)
unread-of None progress = record { found = tt; last = refl }
unread-of (Some service) progress = record { found = tt; last = refl }

whole-of : (settings : Settings) (whole : Contents) (progress : Progress) → OfLast progress.last.packet (whole_taken settings whole progress)
whole-of settings (contents.Datagram datagram) progress = datagram-of (service_of settings.profile settings.port datagram.source datagram.target) datagram progress
whole-of settings (contents.Segment segment) progress = segment-of settings.limit (service_of settings.profile settings.port segment.source segment.target) segment progress
whole-of settings (contents.Fragment fragment) progress = record { found = tt; last = refl }
whole-of settings (contents.Error error) progress = record { found = tt; last = refl }
whole-of settings contents.Other progress = record { found = tt; last = refl }
whole-of settings (contents.UnreadBetween ends) progress = unread-of (service_of settings.profile settings.port ends.source ends.target) progress
whole-of settings contents.Unread progress = record { found = tt; last = refl }

completed-of : (settings : Settings) (whole : Option Reassembled) (progress : Progress) → OfLast progress.last.packet (completed settings whole progress)
completed-of settings None progress = record { found = tt; last = refl }
completed-of settings (Some whole) progress = whole-of settings (contents_of_whole settings.port whole) progress

contents-of : (settings : Settings) (read : Contents) (progress : Progress) → OfLast progress.last.packet (contents_taken settings read progress)
contents-of settings (contents.Datagram datagram) progress = whole-of settings (contents.Datagram datagram) progress
contents-of settings (contents.Segment segment) progress = whole-of settings (contents.Segment segment) progress
contents-of settings (contents.Fragment fragment) progress = completed-of settings (nested_step settings.port progress.fragments fragment).0 (record progress { fragments = (nested_step settings.port progress.fragments fragment).1 })
contents-of settings (contents.Error error) progress = whole-of settings (contents.Error error) progress
contents-of settings contents.Other progress = whole-of settings contents.Other progress
contents-of settings (contents.UnreadBetween ends) progress = whole-of settings (contents.UnreadBetween ends) progress
contents-of settings contents.Unread progress = whole-of settings contents.Unread progress

-- the segment or the error that it carries, too
event-of : (settings : Settings) (packet : Packet) (read : Contents) → AllByRecursion (λ (one : Finding). one.0.packet ≡ packet.number) (whole_event settings (due_with packet) read)
event-of settings packet (contents.Segment segment) = by (service_of settings.profile settings.port segment.source segment.target)
  where
    by : (service : Option Service) → AllByRecursion (λ (one : Finding). one.0.packet ≡ packet.number) (segment_event service (due_with packet) segment)
    by None = tt
    by (Some service) = (refl, tt)
event-of settings packet (contents.Error error) = by (service_of settings.profile settings.port error.ends.source error.ends.target)
  where
    by : (service : Option Service) → AllByRecursion (λ (one : Finding). one.0.packet ≡ packet.number) (error_event service (due_with packet) error)
    by None = tt
    by (Some service) = (refl, tt)
event-of settings packet read = tt

completed-event : (settings : Settings) (packet : Packet) (whole : Option Reassembled) → AllByRecursion (λ (one : Finding). one.0.packet ≡ packet.number) (completed_event settings (due_with packet) whole)
completed-event settings packet None = tt
completed-event settings packet (Some whole) = event-of settings packet (contents_of_whole settings.port whole)

contents-event : (settings : Settings) (packet : Packet) (progress : Progress) (read : Contents) → AllByRecursion (λ (one : Finding). one.0.packet ≡ packet.number) (contents_event settings (due_with packet) progress.fragments read)
contents-event settings packet progress (contents.Fragment fragment) = completed-event settings packet (nested_step settings.port progress.fragments fragment).0
contents-event settings packet progress (contents.Datagram datagram) = event-of settings packet (contents.Datagram datagram)
contents-event settings packet progress (contents.Segment segment) = event-of settings packet (contents.Segment segment)
contents-event settings packet progress (contents.Error error) = event-of settings packet (contents.Error error)
contents-event settings packet progress contents.Other = event-of settings packet contents.Other
contents-event settings packet progress (contents.UnreadBetween ends) = event-of settings packet (contents.UnreadBetween ends)
contents-event settings packet progress contents.Unread = event-of settings packet contents.Unread

joined : (packet : ℕ) (xs ys : List Finding) → AllByRecursion (IsOf packet) xs → AllByRecursion (IsOf packet) ys → AllByRecursion (IsOf packet) (xs ++ ys)
joined packet [] ys h k = k
joined packet (x ∷ xs) ys h k = (h.0, joined packet xs ys h.1 k)

pub packet-of : (settings : Settings) (packet : Packet) (progress : Progress) → OfLast packet.number (packet_told settings packet progress)
unfolding packet_told packet_taken
packet-of settings packet progress =
    let read = contents_in settings.port packet in
    let taken : OfLast packet.number (contents_taken settings read (with_packet packet progress)) = contents-of settings read (with_packet packet progress) in
    record {
      found = joined packet.number (contents_event settings (due_with packet) progress.fragments read) (contents_taken settings read (with_packet packet progress)).found (contents-event settings packet progress read) taken.found;
      last = taken.last;
    }

pub end-of : (settings : Settings) (progress : Progress) → AllByRecursion (IsOf progress.last.packet) (end_taken settings progress).found
end-of settings progress = mapped progress.last.packet _ (λ x. refl) _
