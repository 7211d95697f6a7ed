-- A capture that is clean: all of its records are clear, and so nothing of a direction or a datagram is hidden.
use Rattle.std.proofs.Common.{◌≡◌, ℕ, ◌≤◌, ◌==◌, Bool, true, false, ◌&&◌, Option, Some, None, List, [], ◌∷◌, length, map, cond, refl, sym, ap, ap₂, ◌∙◌, arith, eq-eqb, eqb-true}
use Rattle.std.specs.Prelude.{if◌then◌else◌}
use Rattle.std.specs.List.{AllByRecursion, filter, flat_map, list_all}
use Rattle.std.proofs.lemmas.Bool.{and_parts}
use Rattle.std.proofs.lemmas.List.{nil_from_length}
use Rattle.std.proofs.lemmas.List.Concat.{flat_map-cons}
use Rattle.std.proofs.lemmas.List.Elements.{All-from_recursion}
use Rattle.std.proofs.lemmas.List.Folds.{list_all-append}
use Rattle.krb_der.specs.declared.verdict.Refusal.{Refusal}
use Rattle.krb_der.specs.declared.why.Why.TheVariants as why
use Rattle.krb_packet.specs.Fragments.{contents_of_whole, nested_step, unread}
use Rattle.krb_packet.specs.Payloads.{Captured}
use Rattle.krb_packet.specs.declared.contents.Contents.{Contents}
use Rattle.krb_packet.specs.declared.contents.Contents.TheVariants as contents
use Rattle.krb_packet.specs.declared.contents.Datagram.{Datagram}
use Rattle.krb_packet.specs.declared.contents.Segment.{Segment}
use Rattle.krb_packet.specs.declared.fragments.Reassembled.{Reassembled}
use Rattle.krb_packet.specs.declared.packet.Packet.{Packet}
use Rattle.krb_source.specs.declared.unread_why.UnreadWhy.TheVariants as reasons
use Rattle.krb_record.specs.declared.capture.CaptureCounts.{CaptureCounts}
use Rattle.krb_record.specs.declared.flow.Transport.TheVariants as transports
use Rattle.krb_capture.specs.Captures.{Finding, Progress, Settings, all_counts, at_first, completed, contents_in, contents_taken, counted_each, datagram_taken, end_taken, is_clean, packet_taken, segment_taken, unread_taken, whole_taken, with_packet}
use Rattle.krb_capture.specs.Datagrams.{all_found, by_service, datagram_found, extent_of, surplus_found}
use Rattle.krb_capture.specs.Flows.{flow_between, service_of}
use Rattle.krb_capture.specs.Found.{Found, Whole, Faulty, Begun, Joined, Missing, Password, Unread, Sent, Failed, and_more, counted}
use Rattle.krb_capture.specs.Messages.{cut_found, missing_unless, prefix_refusal}
use Rattle.krb_capture.specs.WholeCaptures.{are_ends, carried, datagrams_between, found_after, found_between, segments_between, segments_in, capture_found, is_from}
use Rattle.krb_capture.specs.declared.flow.Service.{Service}
use Rattle.krb_capture.specs.declared.flow.Service.TheVariants as services
use Rattle.krb_capture_laws.specs.Shown.{size_of}
use Rattle.krb_capture_laws.specs.Hidden.{CleanHidesNothing, IsListed, counts_after, is_clear}
use Rattle.krb_capture_laws.proofs.Clear.{AreClear, clear_parts, direction_hides_nothing}
use Rattle.krb_capture_laws.proofs.Datagrams.{datagrams_are_apart}
use Rattle.krb_capture_laws.proofs.WholeCaptures.{directions_are_apart}

-- ---- counts

never_none : (count : ℕ) → (and_more count 1 == 0) ≡ true → ⊥
never_none count is = let none : and_more count 1 ≡ 0 = eqb-true (and_more count 1) 0 is in omega (arith, none)

none_more : (count more : ℕ) → (and_more count more == 0) ≡ true → (count == 0) ≡ true
none_more count more is = let none : and_more count more ≡ 0 = eqb-true (and_more count more) 0 is in eq-eqb count 0 (omega (arith, none))

abbrev IsCleanOf : CaptureCounts → Type 0
IsCleanOf counts = is_clean counts ≡ true

record CleanParts (counts : CaptureCounts) : Type 0 where
  refused : (counts.refused == 0) ≡ true
  lost : (counts.lost == 0) ≡ true
  unread : (counts.unread == 0) ≡ true

parts_of : (counts : CaptureCounts) → IsCleanOf counts → CleanParts counts
parts_of counts clean =
    let first = and_parts (counts.refused == 0 && counts.lost == 0) (counts.unread == 0) clean in
    let others = and_parts (counts.refused == 0) (counts.lost == 0) first.0 in
    record { refused = others.0; lost = others.1; unread = first.1 }

counted_clear : (one : Found) (counts : CaptureCounts) → IsCleanOf (counted one counts) → (is_clear one ≡ true) × IsCleanOf counts
counted_clear (Whole octets) counts clean = (refl, clean)
counted_clear (Faulty refusal path extent) counts clean = absurd (never_none counts.refused (parts_of (counted (Faulty refusal path extent) counts) clean).refused)
counted_clear Begun counts clean = (refl, clean)
counted_clear Joined counts clean = (refl, clean)
counted_clear (Missing place octets path) counts clean = absurd (never_none counts.lost (parts_of (counted (Missing place octets path) counts) clean).lost)
counted_clear (Password octets version ap rest) counts clean = (refl, clean)
counted_clear (Sent header) counts clean = (refl, clean)
counted_clear (Failed error) counts clean = (refl, clean)
counted_clear (Unread place octets why) counts clean = absurd (never_none counts.unread (parts_of (counted (Unread place octets why) counts) clean).unread)

abbrev AllClear : List Finding → Type 0
AllClear found = list_all (λ one. is_clear one.1) found ≡ true

each_clear : (found : List Finding) (counts : CaptureCounts) → IsCleanOf (counted_each found counts) → AllClear found × IsCleanOf counts
each_clear [] counts clean = (refl, clean)
each_clear (one ∷ others) counts clean =
    let rest = each_clear others (counted one.1 counts) clean in
    let first = counted_clear one.1 counts rest.1 in
    (ap₂ (λ (a b : Bool). a && b) first.0 rest.0, first.1)

-- ---- packets

module _ (settings : Settings) where
  abbrev Stays : Progress → Progress → Type 0
  Stays after before = IsCleanOf after.counts → IsCleanOf before.counts

  whole_stays : (whole : Contents) (progress : Progress) → Stays (whole_taken settings whole progress).progress progress
  whole_stays (contents.Datagram datagram) progress clean = by (service_of settings.profile settings.port datagram.source datagram.target) clean
    where
      by : (o : Option Service) → Stays (datagram_taken o datagram progress).progress progress
      by None clean = clean
      by (Some service) clean = clean
  whole_stays (contents.Segment segment) progress clean = by (service_of settings.profile settings.port segment.source segment.target) clean
    where
      by : (o : Option Service) → Stays (segment_taken settings.limit o segment progress).progress progress
      by None clean = clean
      by (Some service) clean = clean
  whole_stays (contents.Fragment fragment) progress clean = clean
  whole_stays (contents.Error error) progress clean = clean
  whole_stays contents.Other progress clean = clean
  whole_stays (contents.UnreadBetween ends) progress clean = by (service_of settings.profile settings.port ends.source ends.target) clean
    where
      by : (o : Option Service) → Stays (unread_taken o progress).progress progress
      by None clean = clean
      by (Some service) clean = absurd (never_none progress.counts.unread (parts_of (record progress.counts { unread = and_more progress.counts.unread 1 }) clean).unread)
  whole_stays contents.Unread progress clean = absurd (never_none progress.counts.unread (parts_of (record progress.counts { unread = and_more progress.counts.unread 1 }) clean).unread)

  contents_stay : (read : Contents) (progress : Progress) → Stays (contents_taken settings read progress).progress progress
  contents_stay (contents.Fragment fragment) progress clean = by (nested_step settings.port progress.fragments fragment).0 (record progress { fragments = (nested_step settings.port progress.fragments fragment).1 }) clean
    where
      by : (o : Option Reassembled) (after : Progress) → Stays (completed settings o after).progress after
      by None after clean = clean
      by (Some whole) after clean = whole_stays (contents_of_whole settings.port whole) after clean
  contents_stay (contents.Datagram datagram) progress clean = whole_stays (contents.Datagram datagram) progress clean
  contents_stay (contents.Segment segment) progress clean = whole_stays (contents.Segment segment) progress clean
  contents_stay (contents.Error error) progress clean = whole_stays (contents.Error error) progress clean
  contents_stay contents.Other progress clean = whole_stays contents.Other progress clean
  contents_stay (contents.UnreadBetween ends) progress clean = whole_stays (contents.UnreadBetween ends) progress clean
  contents_stay contents.Unread progress clean = whole_stays contents.Unread progress clean

  packet_clear : (packet : Packet) (progress : Progress) → IsCleanOf (packet_taken settings packet progress).progress.counts → AllClear (packet_taken settings packet progress).found × IsCleanOf progress.counts
  unfolding packet_taken
  packet_clear packet progress clean =
      let each = each_clear (contents_taken settings (contents_in settings.port packet) (with_packet packet progress)).found (contents_taken settings (contents_in settings.port packet) (with_packet packet progress)).progress.counts clean in
      (each.0, contents_stay (contents_in settings.port packet) (with_packet packet progress) each.1)

  packets_clear : (packets : List Packet) (progress : Progress) → IsCleanOf (counts_after settings progress packets) → AllClear (found_after settings progress packets) × IsCleanOf progress.counts
  packets_clear [] progress clean =
      let parts = parts_of (all_counts (end_taken settings progress).progress) clean in
      each_clear (end_taken settings progress).found progress.counts
      (ap₂ (λ (a b : Bool). a && b) (ap₂ (λ (a b : Bool). a && b) parts.refused parts.lost) (none_more (end_taken settings progress).progress.counts.unread (unread (end_taken settings progress).progress.fragments) parts.unread))
  packets_clear (packet ∷ packets) progress clean =
      let rest = packets_clear packets (packet_taken settings packet progress).progress clean in
      let first = packet_clear packet progress rest.1 in
      (list_all-append (λ one. is_clear one.1) (packet_taken settings packet progress).found (found_after settings (packet_taken settings packet progress).progress packets) ∙ ap₂ (λ (a b : Bool). a && b) first.0 rest.0, first.1)

-- ---- what is found from one end to another

some_clear : (test : Finding → Bool) (found : List Finding) → AllClear found → AreClear (map (λ one. one.1) (filter test found))
some_clear test [] clear = refl
some_clear test (one ∷ others) clear = by (test one) (some_clear test others)
  where
    by : (b : Bool) → (AllClear others → AreClear (map (λ one. one.1) (filter test others))) → AreClear (map (λ one. one.1) (cond b (one ∷ filter test others) (filter test others)))
    by b rest = at b (rest (and_parts (is_clear one.1) (list_all (λ each. is_clear each.1) others) clear).1)
      where
        at : (b : Bool) → AreClear (map (λ one. one.1) (filter test others)) → AreClear (map (λ one. one.1) (cond b (one ∷ filter test others) (filter test others)))
        at true rest = ap₂ (λ (a c : Bool). a && c) (and_parts (is_clear one.1) (list_all (λ each. is_clear each.1) others) clear).0 rest
        at false rest = rest

-- ---- datagrams

cut_told : (service : Service) (payload : Captured) → AreClear (by_service service false payload) → ⊥
unfolding cut_found
cut_told (services.Kerberos profile) payload clear = by (prefix_refusal profile payload.size payload.octets) clear
  where
    by : (o : Option Refusal) → AreClear (missing_unless profile o (extent_of payload) payload.size payload.octets ∷ []) → ⊥
    by None clear = absurd cc
    by (Some refusal) clear = absurd cc
cut_told (services.Passwords profile) payload clear = absurd cc

all_captured : (service : Service) (payload : Captured) → AreClear (datagram_found service payload) → length payload.octets ≡ payload.size
unfolding datagram_found
all_captured service payload clear = by (payload.size == 0) (length payload.octets == payload.size) refl clear
  where
    by : (empty all : Bool) → (length payload.octets == payload.size) ≡ all → list_all is_clear (if empty then Faulty (record { place = 0; why = why.Empty }) None (extent_of payload) ∷ [] else by_service service all payload) ≡ true → length payload.octets ≡ payload.size
    by true all is clear = absurd cc
    by false true is clear = eqb-true (length payload.octets) payload.size is
    by false false is clear = absurd (cut_told service payload clear)

none_surplus : (datagram : Datagram) → AreClear (surplus_found datagram) → datagram.surplus.octets ≡ []
none_surplus datagram clear = by (length datagram.surplus.octets == 0) refl clear
  where
    by : (b : Bool) → (length datagram.surplus.octets == 0) ≡ b → list_all is_clear (if b then [] else Unread (Some datagram.payload.size) (length datagram.surplus.octets) reasons.Surplus ∷ []) ≡ true → datagram.surplus.octets ≡ []
    by true is clear = nil_from_length datagram.surplus.octets (eqb-true (length datagram.surplus.octets) 0 is)
    by false is clear = absurd cc

each_listed : (service : Service) (datagrams : List Datagram) → AreClear (flat_map (all_found service) datagrams) → AllByRecursion (IsListed service) datagrams
each_listed service [] clear = tt
each_listed service (datagram ∷ others) clear =
    let split = clear_parts (all_found service datagram) (flat_map (all_found service) others) (ap (list_all is_clear) (sym (flat_map-cons (all_found service) datagram others)) ∙ clear) in
    let parts = clear_parts (datagram_found service datagram.payload) (surplus_found datagram) split.0 in
    (record { whole = all_captured service datagram.payload parts.0; clear = parts.0; no_others = none_surplus datagram parts.1 }, each_listed service others split.1)

-- ---- the law

fewer : (test : Segment → Bool) (segments : List Segment) → size_of (filter test segments) ≤ size_of segments
fewer test [] = omega arith
fewer test (segment ∷ others) = by (test segment) (fewer test others)
  where
    by : (b : Bool) → size_of (filter test others) ≤ size_of others → size_of (cond b (segment ∷ filter test others) (filter test others)) ≤ size_of (segment ∷ others)
    by true few = omega (arith, few)
    by false few = omega (arith, few)

pub clean_hides_nothing : CleanHidesNothing
clean_hides_nothing settings packets different numbered few all small clean source target service serves =
    let clear : AllClear (capture_found settings packets) = (packets_clear settings packets at_first clean).0 in
    let datagrams : AreClear (found_between transports.Udp source target (capture_found settings packets)) = some_clear (λ one. is_from transports.Udp source target one.0) (capture_found settings packets) clear in
    let segments : AreClear (found_between transports.Tcp source target (capture_found settings packets)) = some_clear (λ one. is_from transports.Tcp source target one.0) (capture_found settings packets) clear in
    let apart = directions_are_apart settings packets different source target service numbered few all serves in
    record {
      datagrams = All-from_recursion (IsListed service) (datagrams_between source target (carried settings.port packets)) (each_listed service (datagrams_between source target (carried settings.port packets)) (ap (list_all is_clear) (sym (datagrams_are_apart settings packets source target service serves)) ∙ datagrams));
      segments = direction_hides_nothing settings.limit (flow_between source target) service apart.kept (segments_between source target (carried settings.port packets)) (omega (arith, small, fewer (λ segment. are_ends source target segment.source segment.target) (segments_in (carried settings.port packets)))) (ap (list_all is_clear) (sym apart.is) ∙ segments);
    }
