-- What is found in streams and datagrams of octets: messages of a profile, paths that are octets, and small numbers.
use Rattle.std.proofs.Common.{◌≡◌, ℕ, zero, suc, ◌+◌, ◌^◌, ◌<◌, ◌≤◌, ◌==◌, nat_lt, nat_le, not, Bool, true, false, if◌then◌else◌, List, [], ◌∷◌, ◌++◌, length, take, drop, Option, Some, None, Result, Ok, Err, IfSome, codes, refl, ap, arith, length-drop, length-take}
use Rattle.std.proofs.lemmas.Bool.{leb-true}
use Rattle.std.specs.Int.{from_be_bytes, w16}
use Rattle.std.specs.List.{AllByRecursion}
use Rattle.krb_der.specs.Octets.{AreOctets, number}
use Rattle.krb_der.specs.inner.Numbers.{AreOctets-drop, AreOctets-take}
use Rattle.krb_der.specs.declared.profile.Profile.{Profile}
use Rattle.krb_der.specs.declared.profile.Profile.TheVariants as profiles
use Rattle.krb_der.specs.declared.verdict.Refusal.{Refusal}
use Rattle.krb_der.specs.declared.verdict.Verdict.{Verdict}
use Rattle.krb_der.specs.declared.verdict.Verdict.TheVariants as verdict
use Rattle.krb_der.specs.declared.why.Why.{Why}
use Rattle.krb_der.specs.declared.why.Why.TheVariants as why
use Rattle.krb_file.proofs.Fields.{wide16}
use Rattle.krb_msg.specs.Grammar.{messages}
use Rattle.krb_msg.specs.Judgement.{judgement, verdict_of}
use Rattle.krb_msg.specs.Laws.{MessageOfDerIsMessage}
use Rattle.krb_msg.specs.Views.{IsInProfile, message_of_der}
use Rattle.krb_msg.proofs.Grammars.{refusal_is_final}
use Rattle.krb_msg.proofs.Judged.{whole_is_message}
use Rattle.krb_judge.specs.Laws.{RefusalsAreInside}
use Rattle.krb_judge.specs.Parses.{refusal_of, refused}
use Rattle.krb_judge.specs.Paths.{message_path}
use Rattle.krb_frame.specs.Frame.{length_fault}
use Rattle.krb_frame.specs.GoingOn.{Contents, Entry, Fault, entries, entries_within}
use Rattle.krb_frame.specs.Laws.{RefusalsAreInside as FrameRefusalsAreInside}
use Rattle.krb_laws.specs.JsonLaws.{IsError, IsExtent}
use Rattle.krb_laws.proofs.JsonStrings.{all-append}
use Rattle.krb_packet.specs.Payloads.{Captured}
use Rattle.krb_packet.specs.declared.contents.Datagram.{Datagram}
use Rattle.krb_packet.specs.declared.contents.Segment.{Segment}
use Rattle.krb_record.specs.declared.extent.Extent.{Extent}
use Rattle.krb_flow.specs.Directions.{Outcome, end_of, step}
use Rattle.krb_flow.specs.Unread.{untaken_of}
use Rattle.krb_flow.specs.Window.{stream_at, stream_with}
use Rattle.krb_flow.specs.declared.direction.Beginning.{Beginning}
use Rattle.krb_flow.specs.declared.direction.Beginning.TheVariants as beginnings
use Rattle.krb_flow.specs.declared.direction.State.{State}
use Rattle.krb_flow.specs.declared.stream.End.{End as Ending}
use Rattle.krb_flow.specs.declared.stream.End.TheVariants as ends
use Rattle.krb_flow.specs.declared.unread.Unread.{Unread as Octets}
use Rattle.krb_flow.specs.declared.unread.Untaken.{Untaken}
use Rattle.krb_capture.specs.Datagrams.{all_found, by_service, datagram_found, extent_of, surplus_found}
use Rattle.krb_capture.specs.Found.{Begun, Failed, Faulty, Found, Joined, Missing, Password, Sent, Unread, Whole}
use Rattle.krb_capture.specs.Messages.{cut_found, found_unless, message_found, missing_unless, most_octets, path_of, prefix_refusal}
use Rattle.krb_capture.specs.Passwords.{and_then, checked, header, part_found, parts_found, password_found}
use Rattle.krb_capture.specs.Sending.{beginning_found, end_if, segment_found, last_found, unread_found, untaken_found, Sent as Direction}
use Rattle.krb_capture.specs.Streams.{Framed, after_entries, after_entry, after_frame, before_frames, cut_octets, cut_refusal, end_found, entries_found, entry_found, found_with, frame_of, framed, is_cut, known_end, length_found, messages_framed, no_frames, not_cut, open_path, password_frame_by, password_frames, passwords_framed, refusal_found}
use Rattle.krb_capture.specs.declared.flow.Service.{Service}
use Rattle.krb_capture.specs.declared.flow.Service.TheVariants as services
use Rattle.krb_tool_laws.proofs.CaptureParts.{HasOctets}
use Rattle.krb_tool_laws.proofs.ContentOctets.{IsDatagram}
use Rattle.krb_tool_laws.proofs.FlowOctets.{IsEnding, IsEndingIf, IsPlaceIf, IsState, IsStep, IsStream, end_is as flow_end_is, step_is, stream_is, taken_few}
use Rattle.krb_tool_laws.proofs.KeptEntries.{all_filtered, chosen}
use Rattle.krb_tool_laws.proofs.ListedMessages.{its_message, lenient_in, message_place}
use Rattle.krb_tool_laws.proofs.ListedStreams.{IsGoodEntry, extent_small, four_small, good_entries}
use Rattle.krb_tool_laws.proofs.PathOctets.{message_octets, octets_of}
use Rattle.krb_tool_laws.proofs.UntakenPlaces.{IsUnread, IsUntaken, untaken_is}

-- a number of at most 64 digits
abbrev pub IsNumeral : ℕ → Type 0
IsNumeral n = n < 10 ^ 64

-- A message is one of the lenient profile, the path of a field is octets, numbers and extents are small, and who sent an error has an address as its type has it.
abbrev pub IsFound : Found → Type 0
IsFound (Whole octets) = IsInProfile profiles.Lenient (message_of_der octets)
IsFound (Faulty refusal path extent) = IsNumeral refusal.place × IfSome path AreOctets × IsExtent extent
IsFound Begun = Unit {0}
IsFound Joined = Unit {0}
IsFound (Missing place octets path) = IsNumeral place × IsNumeral octets × IfSome path AreOctets
IsFound (Password octets version ap rest) = (version < 2 ^ 16) × (ap < 2 ^ 16) × IsNumeral rest
IsFound (Unread place octets reason) = IfSome place IsNumeral × IsNumeral octets
IsFound (Sent sent) = Unit {0}
IsFound (Failed error) = IsError error

abbrev pub AreFound : List Found → Type 0
AreFound found = AllByRecursion IsFound found

both : (one other : List Found) → AreFound one → AreFound other → AreFound (one ++ other)
both = all-append IsFound

all_dropped : (n : ℕ) (found : List Found) → AreFound found → AreFound (drop n found)
all_dropped zero found are = are
all_dropped (suc n) [] are = tt
all_dropped (suc n) (first ∷ others) are = all_dropped n others are.1

abbrev IsPath : Option (List ℕ) → Type 0
IsPath path = IfSome path AreOctets

path_is : (profile : Profile) (size : ℕ) (prefix : List ℕ) → IsPath (path_of profile size prefix)
unfolding path_of
path_is profile size prefix = chosen IsPath (nat_lt most_octets size) None (message_path profile size prefix) tt (message_octets profile size prefix)

-- octets, fewer than 2^64
record AreFew (octets : List ℕ) : Type 0 where
  octets_are : AreOctets octets
  few : length octets < 2 ^ 64

few_taken : (n : ℕ) (octets : List ℕ) → AreFew octets → AreFew (take n octets)
few_taken n octets are = record { octets_are = AreOctets-take n octets are.octets_are; few = omega (arith, length-take n octets, are.few) }

few_dropped : (n : ℕ) (octets : List ℕ) → AreFew octets → AreFew (drop n octets)
few_dropped n octets are = record { octets_are = AreOctets-drop n octets are.octets_are; few = omega (arith, length-drop n octets, are.few) }

payload_few : (payload : Captured) → HasOctets payload → AreFew payload.octets
payload_few payload are = record { octets_are = are.octets; few = omega (arith, are.fits, are.small) }

-- a field that may not be all there, and what is read then
then_is : {A : Type 0} (P : Result A _ → Type 0) (short : Bool) (fault : _) (value : ℕ) (next : ℕ → Result A _) → P (Err fault) → value < 2 ^ 16 → ((found : ℕ) → found < 2 ^ 16 → P (next found)) → P (and_then (if short then Err fault else Ok value) next)
then_is P true fault value next is small others = is
then_is P false fault value next is small others = others value small

-- the number of two octets
two_small : (octets : List ℕ) → AreOctets octets → from_be_bytes w16 octets < 2 ^ 16
two_small octets are = wide16.below octets are

-- a refusal of the first octets of a message of so many is at one of them, or at the first
prefix_place : (long : Bool) (first : Refusal) (v : Verdict) (r : Refusal) (most : ℕ) → first.place ≡ 0 → ((p : Refusal) → v ≡ verdict.Refused p → p.place ≤ most) → (if long then Some first else refused v) ≡ Some r → r.place ≤ most
prefix_place true first v r most at_first within e = let same : first ≡ r = cc in omega (arith, at_first, ap (λ (x : Refusal). x.place) same)
prefix_place false first (verdict.Refused p) r most at_first within e = let same : p ≡ r = cc in omega (arith, within p refl, ap (λ (x : Refusal). x.place) same)
prefix_place false first other r most at_first within e = absurd cc

prefix_small : (profile : Profile) (size : ℕ) (octets : List ℕ) (refusal : Refusal) → length octets ≤ size → prefix_refusal profile size octets ≡ Some refusal → refusal.place ≤ length octets
prefix_small profile size octets refusal fits e =
    prefix_place (nat_lt most_octets size) (record { place = 0; why = why.TooLong }) (judgement profile size octets) refusal (length octets) refl
    (λ p is. omega (arith, (refusal_is_final (messages profile) size octets p.place p.why fits is).within)) e

-- what is known of messages and of refusals
pub record Rules : Type 0 where
  pub message_of : MessageOfDerIsMessage
  pub inside : RefusalsAreInside
  pub frames_inside : FrameRefusalsAreInside

module _ (p : Rules) where
  -- ---- a message
  message_is : (profile : Profile) (extent : Extent) (before : ℕ) (octets : List ℕ) → IsExtent extent → before < 2 ^ 64 → AreFew octets → IsFound (message_found profile extent before octets)
  unfolding message_found
  message_is profile extent before octets where_is near are = by (refusal_of profile octets) refl
    where
      by : (refusal : Option Refusal) → refusal_of profile octets ≡ refusal → IsFound (found_unless profile refusal extent before octets)
      by None e = its_message p.message_of profile octets are.octets_are e
      by (Some refusal) e = (omega (arith, near, are.few, message_place p.inside profile octets refusal e), path_is profile (length octets) (take (refusal.place + 1) octets), where_is)

  cut_is : (profile : Profile) (extent : Extent) (size : ℕ) (octets : List ℕ) → IsExtent extent → length octets ≤ size → size < 2 ^ 32 → IsFound (cut_found profile extent size octets)
  unfolding cut_found
  cut_is profile extent size octets where_is fits small = by (prefix_refusal profile size octets) refl
    where
      by : (refusal : Option Refusal) → prefix_refusal profile size octets ≡ refusal → IsFound (missing_unless profile refusal extent size octets)
      by None e = (omega (arith, fits, small), omega (arith, small), path_is profile size octets)
      by (Some refusal) e = (omega (arith, fits, small, prefix_small profile size octets refusal fits e), path_is profile size (take (refusal.place + 1) octets), where_is)

  -- ---- one that changes a password
  part_is : (profile : Profile) (extent : Extent) (before : ℕ) (octets : List ℕ) → IsExtent extent → before < 2 ^ 64 → AreFew octets → AreFound (part_found profile extent before octets)
  part_is profile extent before [] where_is near are = tt
  part_is profile extent before (octet ∷ octets) where_is near are = (message_is profile extent before (octet ∷ octets) where_is near are, tt)

  module _ (profile : Profile) (extent : Extent) (before : ℕ) (octets : List ℕ) (where_is : IsExtent extent) (near : before < 2 ^ 32) (are : AreFew octets) where
    both_parts : (ap : ℕ) → ap < 2 ^ 16 → AreFound (part_found profile extent (before + 6) (take ap (drop 6 octets)) ++ part_found profile extent (before + (6 + ap)) (drop (6 + ap) octets))
    both_parts ap small =
        both (part_found profile extent (before + 6) (take ap (drop 6 octets))) (part_found profile extent (before + (6 + ap)) (drop (6 + ap) octets))
        (part_is profile extent (before + 6) (take ap (drop 6 octets)) where_is (omega (arith, near)) (few_taken ap (drop 6 octets) (few_dropped 6 octets are)))
        (part_is profile extent (before + (6 + ap)) (drop (6 + ap) octets) where_is (omega (arith, near, small)) (few_dropped (6 + ap) octets are))

    -- a field of the header is refused
    field_fault : (place : ℕ) (name : List ℕ) → place < 2 ^ 32 → AreOctets name → IsNumeral (before + place) × AreOctets name × IsExtent extent
    field_fault place name small named = (omega (arith, near, small), named, where_is)

    checked_is : (all version ap : ℕ) → version < 2 ^ 16 → ap < 2 ^ 16 → AreFound (parts_found profile extent before octets (checked (length octets) all version ap))
    checked_is all version ap version_small ap_small =
        chosen (λ read. AreFound (parts_found profile extent before octets read)) (nat_lt all (length octets)) _ _ (field_fault 0 (codes "KPASSWD.length") (omega arith) (octets_of (codes "KPASSWD.length") refl), tt)
        (chosen (λ read. AreFound (parts_found profile extent before octets read)) (nat_lt (length octets) all) _ _ (field_fault 0 (codes "KPASSWD.length") (omega arith) (octets_of (codes "KPASSWD.length") refl), tt)
        (chosen (λ read. AreFound (parts_found profile extent before octets read)) (nat_lt (length octets) (6 + ap)) _ _ (field_fault 4 (codes "KPASSWD.ap-length") (omega arith) (octets_of (codes "KPASSWD.ap-length") refl), tt)
        ((version_small, ap_small, omega (arith, are.few)), both_parts ap ap_small)))

    password_is : AreFound (password_found profile extent before octets)
    unfolding password_found header
    password_is =
        then_is (λ read. AreFound (parts_found profile extent before octets read)) (nat_lt (length octets) 2) _ _ _ (field_fault 0 (codes "KPASSWD.length") (omega arith) (octets_of (codes "KPASSWD.length") refl), tt)
        (two_small (take 2 octets) (few_taken 2 octets are).octets_are) (λ all _.
        then_is (λ read. AreFound (parts_found profile extent before octets read)) (nat_lt (length octets) 4) _ _ _ (field_fault 2 (codes "KPASSWD.version") (omega arith) (octets_of (codes "KPASSWD.version") refl), tt)
        (two_small (take 2 (drop 2 octets)) (few_taken 2 (drop 2 octets) (few_dropped 2 octets are)).octets_are) (λ version version_small.
        then_is (λ read. AreFound (parts_found profile extent before octets read)) (nat_lt (length octets) 6) _ _ _ (field_fault 4 (codes "KPASSWD.ap-length") (omega arith) (octets_of (codes "KPASSWD.ap-length") refl), tt)
        (two_small (take 2 (drop 4 octets)) (few_taken 2 (drop 4 octets) (few_dropped 4 octets are)).octets_are) (λ ap ap_small.
        checked_is all version ap version_small ap_small)))

  -- ---- a datagram
  payload_extent : (payload : Captured) → HasOctets payload → IsExtent (extent_of payload)
  payload_extent payload are = record { at = omega arith; length = omega (arith, are.small) }

  service_is : (service : Service) (whole : Bool) (payload : Captured) → HasOctets payload → AreFound (by_service service whole payload)
  service_is (services.Kerberos profile) true payload are = (message_is profile (extent_of payload) 0 payload.octets (payload_extent payload are) (omega arith) (payload_few payload are), tt)
  service_is (services.Kerberos profile) false payload are = (cut_is profile (extent_of payload) payload.size payload.octets (payload_extent payload are) are.fits are.small, tt)
  service_is (services.Passwords profile) true payload are = password_is profile (extent_of payload) 0 payload.octets (payload_extent payload are) (omega arith) (payload_few payload are)
  service_is (services.Passwords profile) false payload are = ((omega (arith, are.fits, are.small), omega (arith, are.small), octets_of (codes "KPASSWD") refl), tt)

  datagram_is : (service : Service) (payload : Captured) → HasOctets payload → AreFound (datagram_found service payload)
  unfolding datagram_found
  datagram_is service payload are =
      chosen AreFound (payload.size == 0) (Faulty (record { place = 0; why = why.Empty }) None (extent_of payload) ∷ []) (by_service service (length payload.octets == payload.size) payload) ((omega arith, tt, payload_extent payload are), tt)
      (service_is service (length payload.octets == payload.size) payload are)

  surplus_is : (datagram : Datagram) → IsDatagram datagram → AreFound (surplus_found datagram)
  surplus_is datagram are = chosen AreFound (length datagram.surplus.octets == 0) [] _ tt ((omega (arith, are.1.0.small), omega (arith, are.1.1.fits, are.1.1.small)), tt)

  pub all_is : (service : Service) (datagram : Datagram) → IsDatagram datagram → AreFound (all_found service datagram)
  all_is service datagram are = both (datagram_found service datagram.payload) (surplus_found datagram) (datagram_is service datagram.payload are.1.0) (surplus_is datagram are)

  -- ---- frames: what is found in them, and the octets that are left, with their offset
  record IsFramed (f : Framed) : Type 0 where
    found : AreFound f.found
    partial : AreOctets f.partial
    few : IsNumeral (length f.partial)
    offset : IsNumeral f.offset

  module _ (profile : Profile) (limit : ℕ) where
    abbrev AreEntries : List Entry → Type 0
    AreEntries found = AllByRecursion (IsGoodEntry p.frames_inside profile limit) found

    entry_is : (offset : ℕ) (entry : Entry) → offset < 2 ^ 64 → IsGoodEntry p.frames_inside profile limit entry → IsFound (entry_found profile offset entry)
    entry_is offset (Contents contents) small is = lenient_in p.message_of profile contents (whole_is_message profile (length contents) contents is.1.short is.0 (omega arith) (ap verdict_of is.1.whole))
    entry_is offset (Fault place reason prefix) small is = (is.1, path_is profile (number (take 4 prefix)) (drop 4 prefix), extent_small offset prefix (omega (arith, small)) is.0)

    each_entry : (offset : ℕ) (found : List Entry) → offset < 2 ^ 64 → AreEntries found → AreFound (entries_found profile offset found)
    each_entry offset [] small are = tt
    each_entry offset (entry ∷ others) small are = (entry_is offset entry small are.0, each_entry (after_entry offset entry) others (omega arith) are.1)

    offset_small : (offset : ℕ) (found : List Entry) → offset < 2 ^ 64 → after_entries offset found < 2 ^ 64
    offset_small offset [] small = small
    offset_small offset (entry ∷ others) small = offset_small (after_entry offset entry) others (omega arith)

    -- a frame that is cut has fewer octets than the place that is refused
    cut_octets_are : (found : List Entry) → AreEntries found → AreOctets (cut_octets found) × IsNumeral (length (cut_octets found))
    cut_octets_are [] are = (tt, omega arith)
    cut_octets_are (Contents contents ∷ others) are = cut_octets_are others are.1
    cut_octets_are (Fault place reason prefix ∷ others) are = by (cut_octets_are others are.1) (nat_le (length prefix) place) refl
      where
        by : AreOctets (cut_octets others) × IsNumeral (length (cut_octets others)) → (cut : Bool) → nat_le (length prefix) place ≡ cut → AreOctets (if cut then prefix else cut_octets others) × IsNumeral (length (if cut then prefix else cut_octets others))
        by rest true e = (are.0.0, omega (arith, are.0.1, leb-true (length prefix) place e))
        by rest false e = rest

    messages_are : (stream : List ℕ) → AreFew stream → IsFramed (messages_framed profile limit stream)
    unfolding messages_framed entries
    messages_are stream are =
        let all : List Entry = entries_within (length stream) (messages profile) limit stream in
        let good : AreEntries all = good_entries p.frames_inside profile limit (length stream) stream are.octets_are are.few in
        let cut = cut_octets_are all good in
        record {
          found = each_entry 0 (not_cut all) (omega arith) (all_filtered (IsGoodEntry p.frames_inside profile limit) (λ entry. not (is_cut entry)) all good);
          partial = cut.0;
          few = cut.1;
          offset = omega (arith, offset_small 0 (not_cut all) (omega arith));
        }

    -- ---- frames of messages that change passwords
    nothing_framed : (offset : ℕ) (octets : List ℕ) → offset < 2 ^ 64 → AreFew octets → IsFramed (no_frames offset octets)
    nothing_framed offset octets small are = record { found = tt; partial = are.octets_are; few = omega (arith, are.few); offset = omega (arith, small) }

    with_others : (found : List Found) (others : Framed) → AreFound found → IsFramed others → IsFramed (before_frames found others)
    with_others found others are rest = record { found = both found others.found are rest.found; partial = rest.partial; few = rest.few; offset = rest.offset }

    frame_extent_small : (offset n : ℕ) → offset < 2 ^ 64 → n < 2 ^ 32 → IsExtent (frame_of offset n)
    frame_extent_small offset n a b = record { at = omega (arith, a); length = omega (arith, b) }

    length_is : (offset n : ℕ) (reason : Why) → offset < 2 ^ 64 → n < 2 ^ 32 → AreFound (length_found (frame_of offset n) reason ∷ [])
    length_is offset n reason a b = ((omega arith, tt, frame_extent_small offset n a b), tt)

    frame_is : (fault : Option Why) (offset n : ℕ) (octets : List ℕ) (others : Framed) → offset < 2 ^ 64 → n < 2 ^ 32 → AreFew octets → IsFramed others → IsFramed (password_frame_by profile fault offset n octets others)
    frame_is (Some why.HighBit) offset n octets others a b are rest = record { found = length_is offset n why.HighBit a b; partial = tt; few = omega arith; offset = omega (arith, a) }
    frame_is (Some reason) offset n octets others a b are rest = with_others (length_found (frame_of offset n) reason ∷ []) others (length_is offset n reason a b) rest
    frame_is None offset n octets others a b are rest =
        chosen IsFramed (nat_lt (length octets) (4 + n)) (no_frames offset octets) (before_frames (password_found profile (frame_of offset n) 4 (take n (drop 4 octets))) others) (nothing_framed offset octets a are)
        (with_others (password_found profile (frame_of offset n) 4 (take n (drop 4 octets))) others
        (password_is profile (frame_of offset n) 4 (take n (drop 4 octets)) (frame_extent_small offset n a b) (omega arith) (few_taken n (drop 4 octets) (few_dropped 4 octets are))) rest)

    password_frames_are : (bound offset : ℕ) (octets : List ℕ) → offset < 2 ^ 64 → AreFew octets → IsFramed (password_frames profile bound limit offset octets)
    password_frames_are zero offset octets small are = nothing_framed offset octets small are
    password_frames_are (suc bound) offset octets small are =
        let n : ℕ = number (take 4 octets) in
        let others : Framed = password_frames profile bound limit (after_frame offset n) (drop (4 + n) octets) in
        chosen IsFramed (nat_lt (length octets) 4) (no_frames offset octets) (password_frame_by profile (length_fault limit n) offset n octets others) (nothing_framed offset octets small are)
        (frame_is (length_fault limit n) offset n octets others small (four_small octets are.octets_are) are
        (password_frames_are bound (after_frame offset n) (drop (4 + n) octets) (omega arith) (few_dropped (4 + n) octets are)))

  framed_are : (service : Service) (limit : ℕ) (stream : List ℕ) → AreFew stream → IsFramed (framed service limit stream)
  unfolding passwords_framed
  framed_are (services.Kerberos profile) limit stream are = messages_are profile limit stream are
  framed_are (services.Passwords profile) limit stream are = password_frames_are profile limit (length stream) 0 stream (omega arith) are

  -- ---- a stream
  with_is : (service : Service) (limit : ℕ) (stream more : List ℕ) → AreFew (stream ++ more) → AreFound (found_with service limit stream more)
  unfolding found_with
  with_is service limit stream more are = all_dropped (length (framed service limit stream).found) (framed service limit (stream ++ more)).found (framed_are service limit (stream ++ more) are).found

  open_is : (service : Service) (octets : List ℕ) → IsPath (open_path service octets)
  open_is (services.Kerberos profile) octets = path_is profile (number (take 4 octets)) (drop 4 octets)
  open_is (services.Passwords profile) octets = chosen IsPath (nat_lt (length octets) 4) None (Some (codes "KPASSWD")) tt (octets_of (codes "KPASSWD") refl)

  cut_refusal_is : (service : Service) (offset : ℕ) (octets : List ℕ) → IsNumeral offset → AreOctets octets → IsNumeral (length octets) → AreFound (refusal_found service offset octets (cut_refusal octets))
  cut_refusal_is service offset [] small are few = tt
  cut_refusal_is service offset (octet ∷ octets) small are few = ((few, open_is service (octet ∷ octets), extent_small offset (octet ∷ octets) small are), tt)

  known_is : (service : Service) (end : Ending) (f : Framed) → IsEnding end → IsFramed f → AreFound (known_end service end f.offset f.partial)
  known_is service (ends.Lost lost) f is are = ((omega (arith, is.0), omega (arith, is.1), open_is service f.partial), tt)
  known_is service ends.Complete f is are = cut_refusal_is service f.offset f.partial are.offset are.partial are.few

  end_is : (service : Service) (limit : ℕ) (stream : List ℕ) (end : Ending) → AreFew stream → IsEnding end → AreFound (end_found service limit stream end)
  unfolding end_found
  end_is service limit stream end are is =
      let its : Framed = framed service limit stream in
      chosen AreFound its.over [] (known_end service end its.offset its.partial) tt (known_is service end its is (framed_are service limit stream are))

  end_if_is : (service : Service) (limit : ℕ) (stream : List ℕ) (end : Option Ending) → AreFew stream → IsEndingIf end → AreFound (end_if service limit stream end)
  end_if_is service limit stream None are is = tt
  end_if_is service limit stream (Some end) are is = end_is service limit stream end are is

  -- ---- a segment
  beginning_is : (beginning : Option Beginning) → AreFound (beginning_found beginning)
  beginning_is None = tt
  beginning_is (Some beginnings.Syn) = (tt, tt)
  beginning_is (Some beginnings.Joined) = (tt, (tt, tt))

  unread_place : (place : Option ℕ) → IsPlaceIf place → IfSome place IsNumeral
  unread_place None is = tt
  unread_place (Some place) is = omega (arith, is)

  unread_is : (octets : Option Octets) → IfSome octets IsUnread → AreFound (unread_found octets)
  unread_is None is = tt
  unread_is (Some octets) is = ((unread_place octets.place is.place, omega (arith, is.few)), tt)

  pub untaken_found_is : (untaken : Untaken) → IsUntaken untaken → AreFound (untaken_found untaken)
  untaken_found_is untaken is =
      both (unread_found untaken.apart) (unread_found untaken.old ++ unread_found untaken.differs) (unread_is untaken.apart is.apart)
      (both (unread_found untaken.old) (unread_found untaken.differs) (unread_is untaken.old is.old) (unread_is untaken.differs is.differs))

  -- the octets that a direction took
  stream_few : (state : State) (stream : List ℕ) → IsState state → IsStream state stream → AreFew stream
  stream_few state stream is are = record { octets_are = are.octets; few = omega (arith, are.counted, taken_few state is) }

  pub segment_is : (limit : ℕ) (sent : Direction) (segment : Segment) → IsStream sent.state sent.stream → IsState sent.state → HasOctets segment.payload → AreFound (segment_found limit sent segment)
  segment_is limit sent segment are state is =
      let outcome : Outcome = (step sent.state segment).0 in
      let untaken : Untaken = untaken_of sent.state sent.stream segment in
      let stepped : IsStep sent.state (step sent.state segment) = step_is sent.state segment state is in
      let after : IsStream (step sent.state segment).1 (stream_with sent.state sent.stream segment) = stream_is sent.state sent.stream segment are state is in
      let now : List ℕ = stream_at outcome.begins sent.stream in
      let few : AreFew (now ++ outcome.octets) = stream_few (step sent.state segment).1 (stream_with sent.state sent.stream segment) stepped.state_is after in
      let with_more : List Found = found_with sent.service limit now outcome.octets in
      let at_end : List Found = end_if sent.service limit (now ++ outcome.octets) outcome.end in
      both (end_if sent.service limit sent.stream outcome.before) (beginning_found outcome.begins ++ (untaken_found untaken ++ (with_more ++ at_end)))
      (end_if_is sent.service limit sent.stream outcome.before (stream_few sent.state sent.stream state are) stepped.before)
      (both (beginning_found outcome.begins) (untaken_found untaken ++ (with_more ++ at_end)) (beginning_is outcome.begins)
      (both (untaken_found untaken) (with_more ++ at_end) (untaken_found_is untaken (untaken_is sent.state sent.stream segment state is))
      (both with_more at_end (with_is sent.service limit now outcome.octets few) (end_if_is sent.service limit (now ++ outcome.octets) outcome.end few stepped.end))))

  pub last_found_is : (limit : ℕ) (sent : Direction) → IsStream sent.state sent.stream → IsState sent.state → AreFound (last_found limit sent)
  last_found_is limit sent are state = end_if_is sent.service limit sent.stream (end_of sent.state) (stream_few sent.state sent.stream state are) (flow_end_is sent.state state)
