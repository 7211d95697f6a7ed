-- What is found from one end to another over UDP in a whole capture.
use Rattle.std.proofs.Common.{◌≡◌, Bool, true, false, List, [], ◌∷◌, ◌++◌, map, Option, Some, None, cond, refl, sym, ◌∙◌, ap, ap₂, append-nil}
use Rattle.std.specs.List.{filter, flat_map}
use Rattle.std.proofs.lemmas.List.Concat.{flat_map-append}
use Rattle.std.proofs.lemmas.List.Elements.{filter-append}
use Rattle.std.proofs.lemmas.Option.{none-some, same_Some}
use Rattle.krb_packet.specs.Fragments.{contents_of_whole, nested_step}
use Rattle.krb_packet.specs.declared.contents.Contents.{Contents}
use Rattle.krb_packet.specs.declared.contents.Contents.TheVariants as contents
use Rattle.krb_packet.specs.declared.contents.Datagram.{Datagram}
use Rattle.krb_source.specs.declared.endpoint.Endpoint.{Endpoint}
use Rattle.krb_packet.specs.declared.fragments.Reassembled.{Reassembled}
use Rattle.krb_packet.specs.declared.packet.Packet.{Packet}
use Rattle.krb_record.specs.declared.flow.Transport.TheVariants as transports
use Rattle.krb_capture.specs.Captures.{Progress, Settings, at_first, completed, contents_in, contents_taken, datagram_taken, over_tcp, over_udp, packet_taken, segment_taken, unread_taken, whole_taken, with_packet}
use Rattle.krb_capture.specs.Datagrams.{all_found}
use Rattle.krb_capture.specs.Directions.{followed, last_of}
use Rattle.krb_capture.specs.Flows.{origin_of, service_of}
use Rattle.krb_capture.specs.Found.{Found}
use Rattle.krb_capture.specs.WholeCaptures.{DatagramsAreApart, are_ends, carried_after, completed_contents, contents_after, datagrams_between, datagrams_in, found_after, found_between, is_from}
use Rattle.krb_capture.specs.declared.flow.Due.{Due}
use Rattle.krb_capture.specs.declared.flow.Flow.{Flow}
use Rattle.krb_capture.specs.declared.flow.Service.{Service}
use Rattle.krb_capture_laws.proofs.Flows.{ends-from_are}
use Rattle.krb_capture_laws.proofs.WholeCaptures.{found_between-append, packet-fragments}

datagrams_in-append : (xs ys : List Contents) → datagrams_in (xs ++ ys) ≡ datagrams_in xs ++ datagrams_in ys
datagrams_in-append [] ys = refl
datagrams_in-append (contents.Datagram datagram ∷ xs) ys = ap (λ l. datagram ∷ l) (datagrams_in-append xs ys)
datagrams_in-append (contents.Segment segment ∷ xs) ys = datagrams_in-append xs ys
datagrams_in-append (contents.Fragment fragment ∷ xs) ys = datagrams_in-append xs ys
datagrams_in-append (contents.Error error ∷ xs) ys = datagrams_in-append xs ys
datagrams_in-append (contents.Other ∷ xs) ys = datagrams_in-append xs ys
datagrams_in-append (contents.UnreadBetween ends ∷ xs) ys = datagrams_in-append xs ys
datagrams_in-append (contents.Unread ∷ xs) ys = datagrams_in-append xs ys

module _ (source target : Endpoint) where
  datagrams_between-append : (xs ys : List Contents) → datagrams_between source target (xs ++ ys) ≡ datagrams_between source target xs ++ datagrams_between source target ys
  datagrams_between-append xs ys =
      ap (filter (λ datagram. are_ends source target datagram.source datagram.target)) (datagrams_in-append xs ys)
      ∙ filter-append (λ datagram. are_ends source target datagram.source datagram.target) (datagrams_in xs) (datagrams_in ys)

  found_between-not_tcp : (due : Due) (found : List (Flow × Found)) → found_between transports.Udp source target (over_tcp due found) ≡ []
  found_between-not_tcp due [] = refl
  found_between-not_tcp due (x ∷ xs) = found_between-not_tcp due xs

  found_between-udp : (due : Due) (datagram : Datagram) (found : List Found) → are_ends source target datagram.source datagram.target ≡ true → found_between transports.Udp source target (over_udp due datagram found) ≡ found
  found_between-udp due datagram [] e = refl
  found_between-udp due datagram (x ∷ xs) e =
      ap (λ b. map (λ one. one.1) (cond b ((origin_of due transports.Udp datagram.source datagram.target, x) ∷ filter (λ one. is_from transports.Udp source target one.0) (over_udp due datagram xs)) (filter (λ one. is_from transports.Udp source target one.0) (over_udp due datagram xs)))) e
      ∙ ap (λ l. x ∷ l) (found_between-udp due datagram xs e)

  found_between-other_udp : (due : Due) (datagram : Datagram) (found : List Found) → are_ends source target datagram.source datagram.target ≡ false → found_between transports.Udp source target (over_udp due datagram found) ≡ []
  found_between-other_udp due datagram [] e = refl
  found_between-other_udp due datagram (x ∷ xs) e =
      ap (λ b. map (λ one. one.1) (cond b ((origin_of due transports.Udp datagram.source datagram.target, x) ∷ filter (λ one. is_from transports.Udp source target one.0) (over_udp due datagram xs)) (filter (λ one. is_from transports.Udp source target one.0) (over_udp due datagram xs)))) e
      ∙ found_between-other_udp due datagram xs e

  module _ (settings : Settings) (service : Service) (serves : service_of settings.profile settings.port source target ≡ Some service) where
    abbrev found_in : List Datagram → List Found
    found_in datagrams = flat_map (all_found service) datagrams

    datagram-found : (datagram : Datagram) (progress : Progress) → found_between transports.Udp source target (whole_taken settings (contents.Datagram datagram) progress).found ≡ found_in (datagrams_between source target (contents.Datagram datagram ∷ []))
    datagram-found datagram progress = by (service_of settings.profile settings.port datagram.source datagram.target) refl (are_ends source target datagram.source datagram.target) refl
      where
        serves_too : are_ends source target datagram.source datagram.target ≡ true → service_of settings.profile settings.port datagram.source datagram.target ≡ Some service
        serves_too b = let ends = ends-from_are source target datagram.source datagram.target b in ap₂ (λ (x y : Endpoint). service_of settings.profile settings.port x y) ends.source_is ends.target_is ∙ serves

        by : (o : Option Service) → service_of settings.profile settings.port datagram.source datagram.target ≡ o → (b : Bool) → are_ends source target datagram.source datagram.target ≡ b → found_between transports.Udp source target (datagram_taken o datagram progress).found ≡ found_in (cond b (datagram ∷ []) [])
        by None e true b = absurd (none-some service (sym e ∙ serves_too b))
        by None e false b = refl
        by (Some other) e true b =
            found_between-udp progress.last datagram (all_found other datagram) b
            ∙ ap (λ s. all_found s datagram) (same_Some other service (sym e ∙ serves_too b))
            ∙ sym (append-nil (all_found service datagram))
        by (Some other) e false b = found_between-other_udp progress.last datagram (all_found other datagram) b

    whole-found : (whole : Contents) (progress : Progress) → found_between transports.Udp source target (whole_taken settings whole progress).found ≡ found_in (datagrams_between source target (whole ∷ []))
    whole-found (contents.Datagram datagram) progress = datagram-found datagram progress
    whole-found (contents.Segment segment) progress = by (service_of settings.profile settings.port segment.source segment.target)
      where
        by : (o : Option Service) → found_between transports.Udp source target (segment_taken settings.limit o segment progress).found ≡ []
        by None = refl
        by (Some other) = found_between-not_tcp progress.last (followed settings.limit progress.last.packet other segment progress.table).found
    whole-found (contents.Fragment fragment) progress = refl
    whole-found (contents.Error error) progress = refl
    whole-found contents.Other progress = refl
    whole-found (contents.UnreadBetween ends) progress = by (service_of settings.profile settings.port ends.source ends.target)
      where
        by : (o : Option Service) → found_between transports.Udp source target (unread_taken o progress).found ≡ []
        by None = refl
        by (Some other) = refl
    whole-found contents.Unread progress = refl

    contents-found : (read : Contents) (progress : Progress) → found_between transports.Udp source target (contents_taken settings read progress).found ≡ found_in (datagrams_between source target (contents_after settings.port progress.fragments read).0)
    contents-found (contents.Fragment fragment) progress = by (nested_step settings.port progress.fragments fragment).0 (record progress { fragments = (nested_step settings.port progress.fragments fragment).1 })
      where
        by : (o : Option Reassembled) (after : Progress) → found_between transports.Udp source target (completed settings o after).found ≡ found_in (datagrams_between source target (completed_contents settings.port o))
        by None after = refl
        by (Some whole) after = whole-found (contents_of_whole settings.port whole) after
    contents-found (contents.Datagram datagram) progress = whole-found (contents.Datagram datagram) progress
    contents-found (contents.Segment segment) progress = whole-found (contents.Segment segment) progress
    contents-found (contents.Error error) progress = refl
    contents-found contents.Other progress = refl
    contents-found (contents.UnreadBetween ends) progress = whole-found (contents.UnreadBetween ends) progress
    contents-found contents.Unread progress = refl

    packet-found : (packet : Packet) (progress : Progress) → found_between transports.Udp source target (packet_taken settings packet progress).found ≡ found_in (datagrams_between source target (contents_after settings.port progress.fragments (contents_in settings.port packet)).0)
    unfolding packet_taken
    packet-found packet progress = contents-found (contents_in settings.port packet) (with_packet packet progress)

    packets-found : (packets : List Packet) (progress : Progress) → found_between transports.Udp source target (found_after settings progress packets) ≡ found_in (datagrams_between source target (carried_after settings.port progress.fragments packets))
    packets-found [] progress = found_between-not_tcp progress.last (last_of settings.limit progress.table.active)
    packets-found (packet ∷ packets) progress =
        let read = contents_after settings.port progress.fragments (contents_in settings.port packet) in
        let taken = packet_taken settings packet progress in
        found_between-append transports.Udp source target taken.found (found_after settings taken.progress packets)
        ∙ ap₂ (λ (x y : List Found). x ++ y) (packet-found packet progress)
        (packets-found packets taken.progress ∙ ap (λ t. found_in (datagrams_between source target (carried_after settings.port t packets))) (packet-fragments settings packet progress))
        ∙ sym (flat_map-append (all_found service) (datagrams_between source target read.0) (datagrams_between source target (carried_after settings.port read.1 packets)))
        ∙ ap (λ l. found_in l) (sym (datagrams_between-append read.0 (carried_after settings.port read.1 packets)))

pub datagrams_are_apart : DatagramsAreApart
datagrams_are_apart settings packets source target service serves = packets-found source target settings service serves packets at_first
