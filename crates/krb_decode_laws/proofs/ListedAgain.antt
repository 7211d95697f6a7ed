-- A stream of messages is listed as these.
use Rattle.std.proofs.Common.{◌≡◌, ℕ, ◌+◌, List, [], ◌∷◌, ◌++◌, length, map, refl, sym, ◌∙◌, ap, ap₂, subst, arith}
use Rattle.std.specs.List.{AllByRecursion, filter, flat_map}
use Rattle.krb_der.specs.declared.profile.Profile.{Profile}
use Rattle.krb_der.specs.declared.profile.Profile.TheVariants.{Lenient}
use Rattle.krb_frame.specs.Frame.{framed}
use Rattle.krb_frame.specs.GoingOn.{Contents, entries, entry_size}
use Rattle.krb_frame.proofs.GoingOn.{entries-frame}
use Rattle.krb_json.specs.Laws.{IsSpelled}
use Rattle.krb_msg.specs.Grammar.{messages}
use Rattle.krb_msg.specs.Laws.{DerIsPrefixFree}
use Rattle.krb_msg.specs.Stream.{Boundary, Frames, frames, with_first}
use Rattle.krb_msg.specs.Views.{message_der}
use Rattle.krb_msg.specs.declared.message.Message.{Message}
use Rattle.krb_msg.proofs.Streams.{frames-frame}
use Rattle.krb_packet.specs.Captures.{packets}
use Rattle.krb_record.specs.Labels.{Label}
use Rattle.krb_tool.specs.GoingOn.{IsCountedListing, Whole, counted_end_line, entry_of, lines_after, messages_in, refused_in}
use Rattle.krb_tool.specs.Listing.{IsListing, end_line, end_of, message_line}
use Rattle.krb_tool.specs.Paths.{end_extent, end_path}
use Rattle.krb_tool_laws.proofs.EncodedMessages.{is_message}
use Rattle.krb_capture_run.specs.Laws.{capture_told}
use Rattle.krb_decode_laws.specs.Captures.{CapturesAreListedAgain, sealed_in}
use Rattle.krb_decode_laws.specs.Messages.{AreListedAs, frames_of, is_sealed}
use Rattle.krb_decode_laws.specs.Streams.{StreamsAreListedAgain, whole_in}
use Rattle.krb_decode_laws.proofs.AlikeStreams.{same-all, same-message}
use Rattle.krb_decode_laws.proofs.BackAgain.{Texts, captures_come_back, sealed-spelled, sealed-whole, streams_come_back}
use Rattle.krb_decode_laws.proofs.DecodedCaptures.{Premises as CapturePremises}
use Rattle.krb_decode_laws.proofs.StreamLines.{Premises as StreamPremises}

module _ (prefix_free : DerIsPrefixFree) where
  same-messages : (one other : List Message) → map message_der one ≡ map message_der other → one ≡ other
  same-messages [] [] e = refl
  same-messages [] (n ∷ other) e = absurd cc
  same-messages (m ∷ one) [] e = absurd cc
  same-messages (m ∷ one) (n ∷ other) e =
      let parts : (message_der m ≡ message_der n) × (map message_der one ≡ map message_der other) = (cc, cc) in
      ap₂ (λ x l. x ∷ l) (same-message prefix_free m n parts.0) (same-messages one other parts.1)

module _ (profile : Profile) (limit : ℕ) where
  frames-are : (all : List Message) → AllByRecursion (IsSpelled profile limit) all → frames (messages profile) limit (frames_of all) ≡ record { contents = map message_der all; end = Boundary }
  unfolding frames
  frames-are [] each = refl
  frames-are (m ∷ others) each = frames-frame (messages profile) limit (message_der m) (frames_of others) (is_message profile limit m each.0) ∙ ap (with_first (message_der m)) (frames-are others each.1)

  entries-are : (all : List Message) → AllByRecursion (IsSpelled profile limit) all → entries (messages profile) limit (frames_of all) ≡ map entry_of (map Whole all)
  unfolding entries
  entries-are [] each = refl
  entries-are (m ∷ others) each =
      entries-frame (messages profile) limit (framed (message_der m)) (message_der m) (frames_of others) (omega arith) (frames-frame (messages profile) limit (message_der m) (frames_of others) (is_message profile limit m each.0))
      ∙ ap (λ l. Contents (message_der m) ∷ l) (entries-are others each.1)

  -- ---- their lines
  lines-are : (label : Label) (before offset : ℕ) (all : List Message) → lines_after label profile before offset (map Whole all) ≡ flat_map (message_line label) all
  lines-are label before offset [] = refl
  lines-are label before offset (m ∷ others) = ap (λ l. message_line label m ++ l) (lines-are label (before + 1) (offset + entry_size (entry_of (Whole m))) others)

  count-is : (all : List Message) → messages_in (map Whole all) ≡ length all
  count-is [] = refl
  count-is (m ∷ others) = omega (arith, count-is others)

  none-refused : (all : List Message) → refused_in (map Whole all) ≡ 0
  none-refused [] = refl
  none-refused (m ∷ others) = none-refused others

  module _ (prefix_free : DerIsPrefixFree) (all : List Message) (each : AllByRecursion (IsSpelled profile limit) all) where
    ends : end_of profile limit (frames_of all) ≡ Boundary
    ends = ap (λ (f : Frames). f.end) (frames-are all each)

    text-is : (label : Label) (text : List ℕ) (listing : IsListing label profile limit (frames_of all) text) → text ≡ flat_map (message_line label) all ++ end_line label (length all) Boundary (end_path profile limit (frames_of all)) (end_extent profile limit (frames_of all))
    text-is label text listing =
        listing.lines
        ∙ ap₂ (λ found end. flat_map (message_line label) found ++ end_line label (length found) end (end_path profile limit (frames_of all)) (end_extent profile limit (frames_of all)))
        (same-messages prefix_free listing.found all (listing.in_frames ∙ ap (λ (f : Frames). f.contents) (frames-are all each))) ends

    found-is : (label : Label) (text : List ℕ) (listing : IsCountedListing label profile limit (frames_of all) text) → listing.found ≡ map Whole all
    found-is label text listing = same-all prefix_free listing.found (map Whole all) (listing.in_frames ∙ entries-are all each)

    pub are-listed : AreListedAs profile limit all (frames_of all)
    are-listed = record {
      end = ends;
      listed = λ label text listing. text-is label text listing;
      goes_on = λ label text listing. (
        listing.lines
            ∙ ap (λ found. lines_after label profile 0 0 found ++ counted_end_line label (messages_in found) (refused_in found)) (found-is label text listing)
            ∙ ap₂ (λ lines line. lines ++ line) (lines-are label 0 0 all) (ap₂ (counted_end_line label) (count-is all) (none-refused all)),
        ap refused_in (found-is label text listing) ∙ none-refused all,
      );
    }

pub captures_are_listed_again : CapturePremises → Texts → DerIsPrefixFree → CapturesAreListedAgain
captures_are_listed_again p texts prefix_free settings file limit are few =
    let all : List Message = sealed_in (capture_told settings (packets file).items) in
    subst (AreListedAs Lenient limit all) (sym (ap (λ made. made.text) (captures_come_back p texts settings file limit are few))) (are-listed Lenient limit prefix_free all (sealed-spelled p settings file limit are few))

pub streams_are_listed_again : StreamPremises → Texts → StreamsAreListedAgain
streams_are_listed_again p texts profile limit stream text are decoding =
    let all : List Message = filter is_sealed (whole_in decoding.found) in
    subst (AreListedAs profile limit all) (sym (ap (λ made. made.text) (streams_come_back p texts profile limit stream text are decoding))) (are-listed profile limit p.prefix_free all (sealed-whole p profile limit stream text are decoding))
