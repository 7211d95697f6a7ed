-- What is found from one end to another in a whole capture, packet by packet.
use Rattle.std.proofs.Common.{◌≡◌, ℕ, ◌<◌, ◌≤◌, ◌⊎◌, inl, inr, Bool, true, false, List, [], ◌∷◌, ◌++◌, drop, length, map, Option, Some, None, cond, refl, sym, ◌∙◌, ap, ap₂, arith, subst, append_assoc, append-nil}
use Rattle.std.specs.Prelude.{is_some}
use Rattle.std.specs.List.{AllByRecursion, Contains, filter}
use Rattle.std.proofs.lemmas.List.{map-append}
use Rattle.std.proofs.lemmas.List.Elements.{filter-append, recursion_from_All}
use Rattle.std.proofs.lemmas.Option.{none-some, same_Some}
use Rattle.krb_packet.specs.Fragments.{contents_of_whole, nested_step}
use Rattle.krb_packet.specs.declared.contents.Contents.{Contents}
use Rattle.krb_packet.specs.declared.contents.Contents.TheVariants as contents
use Rattle.krb_packet.specs.declared.contents.Datagram.{Datagram}
use Rattle.krb_der.specs.declared.profile.Profile.{Profile}
use Rattle.krb_source.specs.declared.endpoint.Endpoint.{Endpoint}
use Rattle.krb_packet.specs.declared.contents.Segment.{Segment}
use Rattle.krb_packet.specs.declared.fragments.Reassembled.{Reassembled}
use Rattle.krb_packet.specs.declared.packet.Packet.{Packet}
use Rattle.krb_record.specs.declared.flow.Transport.{Transport}
use Rattle.krb_record.specs.declared.flow.Transport.TheVariants as transports
use Rattle.krb_capture.specs.Captures.{Finding, Progress, Settings, at_first, completed, contents_in, contents_taken, datagram_taken, over_tcp, over_udp, packet_taken, segment_taken, unread_taken, whole_taken, with_packet}
use Rattle.krb_capture.specs.Datagrams.{all_found}
use Rattle.krb_capture.specs.Directions.{Followed, Table, flow_of, followed, last_of, no_directions}
use Rattle.krb_capture.specs.Flows.{flow_between, origin_of, service_of}
use Rattle.krb_capture.specs.Found.{Found}
use Rattle.krb_capture.specs.Laws.{but_unread, direction_found, found_if, still}
use Rattle.krb_capture.specs.Sending.{Sent, after_segment, nothing_sent}
use Rattle.krb_capture.specs.WholeCaptures.{AreNumbered, CapturesListStreams, DirectionsAreApart, IsOfDirection, are_ends, carried, carried_after, completed_contents, contents_after, flows_in, found_after, found_between, is_from, segments_between, segments_in}
use Rattle.krb_capture.specs.declared.flow.Due.{Due}
use Rattle.krb_capture.specs.declared.flow.Flow.{Flow}
use Rattle.krb_capture.specs.declared.flow.Service.{Service}
use Rattle.krb_capture_laws.proofs.Alone.{IsBetween, Keeps, Sound, Went, followed-went, later-sound, number_of, went-found, went-known, went-other, went-own, went-sound}
use Rattle.krb_capture_laws.proofs.Directed.{records_are_of_the_stream}
use Rattle.krb_capture_laws.proofs.Ending.{IsOneOf, all_one_of, has_room, last-own, of_flow, of_flow-other, of_flow-same}
use Rattle.krb_capture_laws.proofs.Flows.{apart-from_ends, are_ends-itself, ends-from_are}

-- ---- lists of what is found, and of contents
module _ (transport : Transport) (source target : Endpoint) where
  pub found_between-append : (xs ys : List Finding) → found_between transport source target (xs ++ ys) ≡ found_between transport source target xs ++ found_between transport source target ys
  found_between-append [] ys = refl
  found_between-append (x ∷ xs) ys = by (is_from transport source target x.0) (found_between-append xs ys)
    where
      by : (b : Bool) → found_between transport source target (xs ++ ys) ≡ found_between transport source target xs ++ found_between transport source target ys → map (λ one. one.1) (cond b (x ∷ filter (λ one. is_from transport source target one.0) (xs ++ ys)) (filter (λ one. is_from transport source target one.0) (xs ++ ys))) ≡ map (λ one. one.1) (cond b (x ∷ filter (λ one. is_from transport source target one.0) xs) (filter (λ one. is_from transport source target one.0) xs)) ++ found_between transport source target ys
      by true rest = ap (λ l. x.1 ∷ l) rest
      by false rest = rest

segments_in-append : (xs ys : List Contents) → segments_in (xs ++ ys) ≡ segments_in xs ++ segments_in ys
segments_in-append [] ys = refl
segments_in-append (contents.Segment segment ∷ xs) ys = ap (λ l. segment ∷ l) (segments_in-append xs ys)
segments_in-append (contents.Datagram datagram ∷ xs) ys = segments_in-append xs ys
segments_in-append (contents.Fragment fragment ∷ xs) ys = segments_in-append xs ys
segments_in-append (contents.Error error ∷ xs) ys = segments_in-append xs ys
segments_in-append (contents.Other ∷ xs) ys = segments_in-append xs ys
segments_in-append (contents.UnreadBetween ends ∷ xs) ys = segments_in-append xs ys
segments_in-append (contents.Unread ∷ xs) ys = segments_in-append xs ys

module _ (source target : Endpoint) where
  segments_between-append : (xs ys : List Contents) → segments_between source target (xs ++ ys) ≡ segments_between source target xs ++ segments_between source target ys
  segments_between-append xs ys =
      ap (filter (λ segment. are_ends source target segment.source segment.target)) (segments_in-append xs ys)
      ∙ filter-append (λ segment. are_ends source target segment.source segment.target) (segments_in xs) (segments_in ys)

  -- over TCP, by the flow alone
  abbrev pub between : Flow → Bool
  between flow = are_ends source target flow.source flow.target

  pub found_between-tcp : (due : Due) (found : List (Flow × Found)) → found_between transports.Tcp source target (over_tcp due found) ≡ of_flow between found
  found_between-tcp due [] = refl
  found_between-tcp due (x ∷ xs) = by (between x.0) (found_between-tcp due xs)
    where
      by : (b : Bool) → found_between transports.Tcp source target (over_tcp due xs) ≡ of_flow between xs → map (λ one. one.1) (cond b ((origin_of due transports.Tcp x.0.source x.0.target, x.1) ∷ filter (λ one. is_from transports.Tcp source target one.0) (over_tcp due xs)) (filter (λ one. is_from transports.Tcp source target one.0) (over_tcp due xs))) ≡ cond b (x.1 ∷ of_flow between xs) (of_flow between xs)
      by true rest = ap (λ l. x.1 ∷ l) rest
      by false rest = rest

  pub found_between-not_udp : (due : Due) (datagram : Datagram) (found : List Found) → found_between transports.Tcp source target (over_udp due datagram found) ≡ []
  found_between-not_udp due datagram [] = refl
  found_between-not_udp due datagram (x ∷ xs) = found_between-not_udp due datagram xs

module _ (P : Flow → Type 0) where
  all_split : (xs ys : List Flow) → AllByRecursion P (xs ++ ys) → AllByRecursion P xs × AllByRecursion P ys
  all_split [] ys a = (tt, a)
  all_split (x ∷ xs) ys a = let rest = all_split xs ys a.1 in ((a.0, rest.0), rest.1)

flows_in-append : (profile : Profile) (port : ℕ) (xs ys : List Contents) → flows_in profile port (xs ++ ys) ≡ flows_in profile port xs ++ flows_in profile port ys
flows_in-append profile port xs ys =
    ap (λ l. map (λ segment. flow_between segment.source segment.target) (filter (λ segment. is_some (service_of profile port segment.source segment.target)) l)) (segments_in-append xs ys)
    ∙ ap (map (λ segment. flow_between segment.source segment.target)) (filter-append (λ segment. is_some (service_of profile port segment.source segment.target)) (segments_in xs) (segments_in ys))
    ∙ map-append (λ segment. flow_between segment.source segment.target) (filter (λ segment. is_some (service_of profile port segment.source segment.target)) (segments_in xs)) (filter (λ segment. is_some (service_of profile port segment.source segment.target)) (segments_in ys))

-- ---- some segments of a direction
module _ (limit : ℕ) where
  abbrev pub steps_found : Sent → List Bool → List Segment → List Found
  steps_found own kept [] = []
  steps_found own kept (segment ∷ segments) = found_if limit own (still kept) segment ++ steps_found (after_segment own segment) (drop 1 kept) segments

  abbrev pub steps_after : Sent → List Segment → Sent
  steps_after own [] = own
  steps_after own (segment ∷ segments) = steps_after (after_segment own segment) segments

  pub direction_found-append : (own : Sent) (kept more : List Bool) (xs ys : List Segment) → length kept ≡ length xs → direction_found limit own (kept ++ more) (xs ++ ys) ≡ steps_found own kept xs ++ direction_found limit (steps_after own xs) more ys
  direction_found-append own [] more [] ys e = refl
  direction_found-append own (k ∷ kept) more [] ys e = absurd (omega arith)
  direction_found-append own [] more (x ∷ xs) ys e = absurd (omega arith)
  direction_found-append own (k ∷ kept) more (x ∷ xs) ys e =
      ap (λ l. found_if limit own k x ++ l) (direction_found-append (after_segment own x) kept more xs ys (omega arith))
      ∙ sym (append_assoc (found_if limit own k x) (steps_found (after_segment own x) kept xs) (direction_found limit (steps_after (after_segment own x) xs) more ys))

-- ---- over TCP
module _ (settings : Settings) (source target : Endpoint) (service : Service) (different : List Flow) (few : length different ≤ 65536) (serves : service_of settings.profile settings.port source target ≡ Some service) where
  abbrev flow : Flow
  flow = flow_between source target

  -- the table holds a direction with these segments, after packets up to one
  pub record Holds (bound : ℕ) (table : Table) (own : Sent) : Type 0 where
    pub sound : Sound bound table
    pub known : (f : Flow) (n : ℕ) → number_of f table ≡ Some n → IsOneOf f different
    pub flow_is : own.flow ≡ flow_between source target
    pub service_is : own.service ≡ service
    pub keeps : Keeps (flow_between source target) table own

  later-holds : (bound packet : ℕ) (table : Table) (own : Sent) → Holds bound table own → bound < packet → Holds packet table own
  later-holds bound packet table own h later = record { sound = later-sound bound packet table h.sound later; known = h.known; flow_is = h.flow_is; service_is = h.service_is; keeps = h.keeps }

  -- what is found with some segments, and what is kept then
  pub record Takes (packet : ℕ) (own : Sent) (segments : List Segment) (found : List Finding) (table : Table) : Type 0 where
    pub kept : List Bool
    pub as_many : length kept ≡ length segments
    pub found_is : found_between transports.Tcp source target found ≡ steps_found settings.limit own kept segments
    pub holds : Holds packet table (steps_after settings.limit own segments)

  -- of nothing
  takes_none : (bound packet : ℕ) (own : Sent) (found : List Finding) (table : Table) → Holds bound table own → bound < packet → found_between transports.Tcp source target found ≡ [] → Takes packet own [] found table
  takes_none bound packet own found table h later none = record { kept = []; as_many = refl; found_is = none; holds = later-holds bound packet table own h later }

  module _ (bound : ℕ) (progress : Progress) (own : Sent) (later : bound < progress.last.packet) (h : Holds bound progress.table own) where
    -- a segment of a flow of Kerberos
    module _ (segment : Segment) (other : Service) (one : IsOneOf (flow_of segment) different) where
      abbrev gone : Followed
      gone = followed settings.limit progress.last.packet other segment progress.table

      went : Went settings.limit progress.last.packet other segment progress.table gone
      went = followed-went settings.limit progress.last.packet other segment bound progress.table h.sound later (has_room bound progress.table different (flow_of segment) h.sound few h.known one)

      known_then : (f : Flow) (n : ℕ) → number_of f gone.table ≡ Some n → IsOneOf f different
      known_then f n e = by (went-known settings.limit progress.last.packet other segment bound progress.table h.sound later gone went f n e)
        where
          by : (f ≡ flow_of segment) ⊎ (number_of f progress.table ≡ Some n) → IsOneOf f different
          by (inl is) = subst (λ x. IsOneOf x different) (sym is) one
          by (inr was) = h.known f n was

      sound_then : Sound progress.last.packet gone.table
      sound_then = went-sound settings.limit progress.last.packet other segment bound progress.table h.sound later gone went

      takes_own : flow_of segment ≡ flow_between source target → other ≡ service → Takes progress.last.packet own (segment ∷ []) (over_tcp progress.last gone.found) gone.table
      takes_own same serves_too =
          let goes = went-own settings.limit progress.last.packet other segment bound progress.table h.sound later gone went own (h.flow_is ∙ sym same) (h.service_is ∙ sym serves_too) (subst (λ f. Keeps f progress.table own) (sym same) h.keeps) in
          record {
            kept = goes.still_there ∷ [];
            as_many = refl;
            found_is =
                found_between-tcp source target progress.last gone.found
                ∙ ap (of_flow (between source target)) goes.found
                ∙ of_flow-same (between source target) (flow_of segment) (found_if settings.limit own goes.still_there segment) (ap (λ (f : Flow). between source target f) same ∙ are_ends-itself source target)
                ∙ sym (append-nil (found_if settings.limit own goes.still_there segment));
            holds = record {
              sound = sound_then;
              known = known_then;
              flow_is = h.flow_is;
              service_is = h.service_is;
              keeps = subst (λ f. Keeps f gone.table (after_segment own segment)) same goes.keeps;
            };
          }

      takes_other : are_ends source target segment.source segment.target ≡ false → Takes progress.last.packet own [] (over_tcp progress.last gone.found) gone.table
      takes_other apart =
          let all = went-found settings.limit progress.last.packet other segment bound progress.table h.sound later gone went in
          record {
            kept = [];
            as_many = refl;
            found_is =
                found_between-tcp source target progress.last gone.found
                ∙ ap (of_flow (between source target)) all.is
                ∙ of_flow-other (between source target) (flow_of segment) all.all apart;
            holds = record {
              sound = sound_then;
              known = known_then;
              flow_is = h.flow_is;
              service_is = h.service_is;
              keeps = went-other settings.limit progress.last.packet other segment bound progress.table h.sound later gone went (flow_between source target) own (apart-from_ends source target segment.source segment.target apart) h.keeps;
            };
          }

    -- any segment
    segment-takes : (segment : Segment) → AllByRecursion (λ f. IsOneOf f different) (flows_in settings.profile settings.port (contents.Segment segment ∷ [])) → Takes progress.last.packet own (segments_between source target (contents.Segment segment ∷ [])) (whole_taken settings (contents.Segment segment) progress).found (whole_taken settings (contents.Segment segment) progress).progress.table
    segment-takes segment ones = by (service_of settings.profile settings.port segment.source segment.target) refl ones (are_ends source target segment.source segment.target) refl
      where
        by : (o : Option Service) → service_of settings.profile settings.port segment.source segment.target ≡ o → AllByRecursion (λ f. IsOneOf f different) (map (λ segment. flow_between segment.source segment.target) (cond (is_some o) (segment ∷ []) [])) → (b : Bool) → are_ends source target segment.source segment.target ≡ b → Takes progress.last.packet own (cond b (segment ∷ []) []) (segment_taken settings.limit o segment progress).found (segment_taken settings.limit o segment progress).progress.table
        by None e ones true b =
            let ends = ends-from_are source target segment.source segment.target b in
            absurd (none-some service (sym e ∙ ap₂ (λ (x y : Endpoint). service_of settings.profile settings.port x y) ends.source_is ends.target_is ∙ serves))
        by None e ones false b = takes_none bound progress.last.packet own [] progress.table h later refl
        by (Some other) e ones true b =
            let ends = ends-from_are source target segment.source segment.target b in
            takes_own segment other ones.0 (ap₂ flow_between ends.source_is ends.target_is) (same_Some other service (sym e ∙ ap₂ (λ (x y : Endpoint). service_of settings.profile settings.port x y) ends.source_is ends.target_is ∙ serves))
        by (Some other) e ones false b = takes_other segment other ones.0 b

    -- whatever is all there
    whole-takes : (whole : Contents) → AllByRecursion (λ f. IsOneOf f different) (flows_in settings.profile settings.port (whole ∷ [])) → Takes progress.last.packet own (segments_between source target (whole ∷ [])) (whole_taken settings whole progress).found (whole_taken settings whole progress).progress.table
    whole-takes (contents.Segment segment) ones = segment-takes segment ones
    whole-takes (contents.Datagram datagram) ones = by (service_of settings.profile settings.port datagram.source datagram.target)
      where
        by : (o : Option Service) → Takes progress.last.packet own [] (datagram_taken o datagram progress).found (datagram_taken o datagram progress).progress.table
        by None = takes_none bound progress.last.packet own [] progress.table h later refl
        by (Some other) = takes_none bound progress.last.packet own (over_udp progress.last datagram (all_found other datagram)) progress.table h later (found_between-not_udp source target progress.last datagram (all_found other datagram))
    whole-takes (contents.Fragment fragment) ones = takes_none bound progress.last.packet own [] progress.table h later refl
    whole-takes (contents.Error error) ones = takes_none bound progress.last.packet own [] progress.table h later refl
    whole-takes contents.Other ones = takes_none bound progress.last.packet own [] progress.table h later refl
    whole-takes (contents.UnreadBetween ends) ones = by (service_of settings.profile settings.port ends.source ends.target)
      where
        by : (o : Option Service) → Takes progress.last.packet own [] (unread_taken o progress).found (unread_taken o progress).progress.table
        by None = takes_none bound progress.last.packet own [] progress.table h later refl
        by (Some other) = takes_none bound progress.last.packet own [] progress.table h later refl
    whole-takes contents.Unread ones = takes_none bound progress.last.packet own [] progress.table h later refl

  -- what a packet carries
  module _ (bound : ℕ) (own : Sent) where
    completed-takes : (o : Option Reassembled) (progress : Progress) → bound < progress.last.packet → Holds bound progress.table own → AllByRecursion (λ f. IsOneOf f different) (flows_in settings.profile settings.port (completed_contents settings.port o)) → Takes progress.last.packet own (segments_between source target (completed_contents settings.port o)) (completed settings o progress).found (completed settings o progress).progress.table
    completed-takes None progress later h ones = takes_none bound progress.last.packet own [] progress.table h later refl
    completed-takes (Some whole) progress later h ones = whole-takes bound progress own later h (contents_of_whole settings.port whole) ones

    contents-takes : (read : Contents) (progress : Progress) → bound < progress.last.packet → Holds bound progress.table own → AllByRecursion (λ f. IsOneOf f different) (flows_in settings.profile settings.port (contents_after settings.port progress.fragments read).0) → Takes progress.last.packet own (segments_between source target (contents_after settings.port progress.fragments read).0) (contents_taken settings read progress).found (contents_taken settings read progress).progress.table
    contents-takes (contents.Fragment fragment) progress later h ones =
        let stepped = nested_step settings.port progress.fragments fragment in
        completed-takes stepped.0 (record progress { fragments = stepped.1 }) later h ones
    contents-takes (contents.Segment segment) progress later h ones = whole-takes bound progress own later h (contents.Segment segment) ones
    contents-takes (contents.Datagram datagram) progress later h ones = whole-takes bound progress own later h (contents.Datagram datagram) ones
    contents-takes (contents.Error error) progress later h ones = whole-takes bound progress own later h (contents.Error error) ones
    contents-takes contents.Other progress later h ones = whole-takes bound progress own later h contents.Other ones
    contents-takes (contents.UnreadBetween ends) progress later h ones = whole-takes bound progress own later h (contents.UnreadBetween ends) ones
    contents-takes contents.Unread progress later h ones = whole-takes bound progress own later h contents.Unread ones

-- the fragments that are kept
whole-fragments : (settings : Settings) (whole : Contents) (progress : Progress) → (whole_taken settings whole progress).progress.fragments ≡ progress.fragments
whole-fragments settings (contents.Segment segment) progress = by (service_of settings.profile settings.port segment.source segment.target)
  where
    by : (o : Option Service) → (segment_taken settings.limit o segment progress).progress.fragments ≡ progress.fragments
    by None = refl
    by (Some service) = refl
whole-fragments settings (contents.Datagram datagram) progress = by (service_of settings.profile settings.port datagram.source datagram.target)
  where
    by : (o : Option Service) → (datagram_taken o datagram progress).progress.fragments ≡ progress.fragments
    by None = refl
    by (Some service) = refl
whole-fragments settings (contents.Fragment fragment) progress = refl
whole-fragments settings (contents.Error error) progress = refl
whole-fragments settings contents.Other progress = refl
whole-fragments settings (contents.UnreadBetween ends) progress = by (service_of settings.profile settings.port ends.source ends.target)
  where
    by : (o : Option Service) → (unread_taken o progress).progress.fragments ≡ progress.fragments
    by None = refl
    by (Some service) = refl
whole-fragments settings contents.Unread progress = refl

contents-fragments : (settings : Settings) (read : Contents) (progress : Progress) → (contents_taken settings read progress).progress.fragments ≡ (contents_after settings.port progress.fragments read).1
contents-fragments settings (contents.Fragment fragment) progress = by (nested_step settings.port progress.fragments fragment).0 (record progress { fragments = (nested_step settings.port progress.fragments fragment).1 })
  where
    by : (o : Option Reassembled) (after : Progress) → (completed settings o after).progress.fragments ≡ after.fragments
    by None after = refl
    by (Some whole) after = whole-fragments settings (contents_of_whole settings.port whole) after
contents-fragments settings (contents.Segment segment) progress = whole-fragments settings (contents.Segment segment) progress
contents-fragments settings (contents.Datagram datagram) progress = whole-fragments settings (contents.Datagram datagram) progress
contents-fragments settings (contents.Error error) progress = refl
contents-fragments settings contents.Other progress = refl
contents-fragments settings (contents.UnreadBetween ends) progress = whole-fragments settings (contents.UnreadBetween ends) progress
contents-fragments settings contents.Unread progress = refl

pub packet-fragments : (settings : Settings) (packet : Packet) (progress : Progress) → (packet_taken settings packet progress).progress.fragments ≡ (contents_after settings.port progress.fragments (contents_in settings.port packet)).1
unfolding packet_taken
packet-fragments settings packet progress = contents-fragments settings (contents_in settings.port packet) (with_packet packet progress)

module _ (settings : Settings) (source target : Endpoint) (service : Service) (different : List Flow) (few : length different ≤ 65536) (serves : service_of settings.profile settings.port source target ≡ Some service) where
  packet-takes : (bound : ℕ) (own : Sent) (packet : Packet) (progress : Progress) → bound < packet.number → Holds settings source target service different few serves bound progress.table own → AllByRecursion (λ f. IsOneOf f different) (flows_in settings.profile settings.port (contents_after settings.port progress.fragments (contents_in settings.port packet)).0) → Takes settings source target service different few serves packet.number own (segments_between source target (contents_after settings.port progress.fragments (contents_in settings.port packet)).0) (packet_taken settings packet progress).found (packet_taken settings packet progress).progress.table
  unfolding packet_taken
  packet-takes bound own packet progress later h ones = contents-takes settings source target service different few serves bound own (contents_in settings.port packet) (with_packet packet progress) later h ones

  -- the flow at the end
  only : (f : Flow) → IsBetween f → between source target f ≡ true → f ≡ flow_between source target
  only f is b = let ends = ends-from_are source target f.source f.target b in is ∙ ap₂ flow_between ends.source_is ends.target_is

  packets-found : (packets : List Packet) (bound : ℕ) (own : Sent) (progress : Progress) → AreNumbered bound packets → Holds settings source target service different few serves bound progress.table own → AllByRecursion (λ f. IsOneOf f different) (flows_in settings.profile settings.port (carried_after settings.port progress.fragments packets)) → IsOfDirection settings.limit own (segments_between source target (carried_after settings.port progress.fragments packets)) (found_between transports.Tcp source target (found_after settings progress packets))
  packets-found [] bound own progress numbered h ones = record {
    kept = [];
    is =
        found_between-tcp source target progress.last (last_of settings.limit progress.table.active)
        ∙ last-own settings.limit (between source target) (flow_between source target) (are_ends-itself source target) only bound progress.table h.sound own h.keeps;
  }
  packets-found (packet ∷ packets) bound own progress numbered h ones =
      let read = contents_after settings.port progress.fragments (contents_in settings.port packet) in
      let taken = packet_taken settings packet progress in
      let own_segments = segments_between source target read.0 in
      let split = all_split (λ f. IsOneOf f different) (flows_in settings.profile settings.port read.0) (flows_in settings.profile settings.port (carried_after settings.port read.1 packets)) (subst (AllByRecursion (λ f. IsOneOf f different)) (flows_in-append settings.profile settings.port read.0 (carried_after settings.port read.1 packets)) ones) in
      let takes = packet-takes bound own packet progress numbered.0 h split.0 in
      let fragments : taken.progress.fragments ≡ read.1 = packet-fragments settings packet progress in
      let later = packets-found packets packet.number (steps_after settings.limit own own_segments) taken.progress numbered.1 takes.holds (subst (λ t. AllByRecursion (λ f. IsOneOf f different) (flows_in settings.profile settings.port (carried_after settings.port t packets))) (sym fragments) split.1) in
      record {
        kept = takes.kept ++ later.kept;
        is =
            found_between-append transports.Tcp source target taken.found (found_after settings taken.progress packets)
            ∙ ap₂ (λ (x y : List Found). x ++ y) takes.found_is
            (later.is
            ∙ ap (λ t. direction_found settings.limit (steps_after settings.limit own own_segments) later.kept (segments_between source target (carried_after settings.port t packets))) fragments)
            ∙ sym (direction_found-append settings.limit own takes.kept later.kept own_segments (segments_between source target (carried_after settings.port read.1 packets)) takes.as_many)
            ∙ ap (direction_found settings.limit own (takes.kept ++ later.kept)) (sym (segments_between-append source target read.0 (carried_after settings.port read.1 packets)));
      }

  -- of no packets yet
  none_held : Holds settings source target service different few serves 0 no_directions (nothing_sent (flow_between source target) service)
  none_held = record {
    sound = record {
      numbers_ascend = tt;
      active_ascend = tt;
      within = λ f n e. absurd (none-some n e);
      none_later = λ n l. refl;
      apart = λ f g n e h. absurd (none-some n e);
      owned = λ n sent e. absurd (none-some sent e);
      between = λ n sent e. absurd (none-some sent e);
    };
    known = λ f n e. absurd (none-some n e);
    flow_is = refl;
    service_is = refl;
    keeps = refl;
  }

pub directions_are_apart : DirectionsAreApart
directions_are_apart settings packets different source target service numbered few all serves =
    let ones = all_one_of different (flows_in settings.profile settings.port (carried settings.port packets)) (recursion_from_All (Contains different) (flows_in settings.profile settings.port (carried settings.port packets)) all) in
    packets-found settings source target service different few serves packets 0 (nothing_sent (flow_between source target) service) at_first numbered (none_held settings source target service different few serves) ones

pub captures_list_streams : CapturesListStreams
captures_list_streams settings packets different source target service stream how pieces numbered few all serves are stream_all =
    let apart = directions_are_apart settings packets different source target service numbered few all serves in
    ap but_unread (apart.is ∙ ap (direction_found settings.limit (nothing_sent (flow_between source target) service) apart.kept) are)
    ∙ records_are_of_the_stream settings.limit (flow_between source target) service stream how pieces apart.kept stream_all
