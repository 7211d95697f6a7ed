-- The lines of messages are encoded to the messages.
use Rattle.std.proofs.Common.{◌≡◌, ℕ, ◌+◌, ◌≤◌, ◌==◌, Bool, true, false, cond, List, [], ◌∷◌, ◌++◌, length, map, None, refl, ◌∙◌, ap, subst, arith, append_assoc, ne_eqb}
use Rattle.std.specs.Prelude.{Ok}
use Rattle.std.specs.List.{All, AllByRecursion, filter, flat_map}
use Rattle.std.proofs.lemmas.List.Elements.{All-nil, All-cons}
use Rattle.std.proofs.lemmas.List.Splits.{slice_split_at}
use Rattle.json.specs.Print.{print_from}
use Rattle.krb_convert.specs.Encoding as encoding
use Rattle.krb_convert.specs.Encoding.{encoded, encoded_lines, line_spelled, most_of_line}
use Rattle.krb_convert.proofs.EncodedLines.{message-step, read-step}
use Rattle.krb_der.specs.declared.profile.Profile.{Profile}
use Rattle.krb_der.specs.declared.profile.Profile.TheVariants.{Lenient}
use Rattle.krb_frame.specs.Frame.{framed}
use Rattle.krb_json.specs.Laws.{IsSpelled, TextsAreJson, TextsAreShort, TextsComeBack}
use Rattle.krb_json.specs.Lines.{line_of, message_text}
use Rattle.krb_json.specs.Tickets.{as_octets}
use Rattle.krb_msg.specs.Views.{IsInProfile, message_der}
use Rattle.krb_msg.specs.declared.message.Message.{Message}
use Rattle.krb_packet.specs.Captures.{packets}
use Rattle.krb_record.specs.Text.{IsPrintable}
use Rattle.krb_run.specs.Conversions.{after_text}
use Rattle.krb_run.specs.TextLines.{is_blank_line, parts, without_empty_last}
use Rattle.krb_run.proofs.SourceLineParts.{lines-empty}
use Rattle.krb_tool.specs.GoingOn.{Faulty, Listed, Whole}
use Rattle.krb_tool_laws.specs.Listings.{AreRead}
use Rattle.krb_tool_laws.proofs.CaptureFindings.{AreFindings}
use Rattle.krb_capture.specs.Captures.{Finding, Settings}
use Rattle.krb_capture.specs.Found.{Begun, Failed, Faulty as FaultyMessage, Joined, Missing, Password, Sent, Unread, Whole as WholeMessage}
use Rattle.krb_capture_run.specs.Laws.{capture_told}
use Rattle.krb_decode.specs.Streams.{IsDecoded}
use Rattle.krb_decode_laws.specs.Captures.{CapturesComeBack, messages_in, sealed_in}
use Rattle.krb_decode_laws.specs.Messages.{frames_of, is_sealed}
use Rattle.krb_decode_laws.specs.Streams.{StreamsComeBack, whole_in}
use Rattle.krb_decode_laws.proofs.DecodedCaptures.{Premises as CapturePremises, good-of}
use Rattle.krb_decode_laws.proofs.ListedMessages.{decoded_is_the_listing as captures_listed, found-is}
use Rattle.krb_decode_laws.proofs.StreamLines.{AreGood, Premises as StreamPremises, decoded_is_the_listing as streams_listed, good, in-profile}

pub no-feed : (text : List ℕ) → IsPrintable text → All (λ octet. (octet == 10) ≡ false) text
no-feed [] p = All-nil (λ octet. (octet == 10) ≡ false)
no-feed (octet ∷ text) p = All-cons (λ o. (o == 10) ≡ false) octet text (ne_eqb octet 10 (omega (arith, p.0.0))) (no-feed text p.1)

-- a text is an object, which begins with a brace
not-blank : (m : Message) → is_blank_line (message_text m) ≡ false
unfolding print_from
not-blank m = refl

pub record Texts : Type 0 where
  pub json : TextsAreJson
  pub short : TextsAreShort
  pub back : TextsComeBack

module _ (p : Texts) (profile : Profile) (limit : ℕ) where
  parts-are : (all : List Message) → AllByRecursion (IsSpelled profile limit) all → parts (flat_map line_of all) ≡ map message_text all ++ [] ∷ []
  parts-are [] each = refl
  parts-are (m ∷ others) each =
      ap parts (append_assoc (message_text m) (10 ∷ []) (flat_map line_of others))
      ∙ slice_split_at (λ octet. octet == 10) (message_text m) 10 (flat_map line_of others) (no-feed (message_text m) (p.json profile m each.0.in_profile).printable) refl
      ∙ ap (λ lines. message_text m ∷ lines) (parts-are others each.1)

  its-octets : (m : Message) → IsSpelled profile limit m → line_spelled true profile limit (message_text m) ≡ Ok (message_der m)
  its-octets m spelled = ap as_octets (p.back profile limit m spelled.in_profile spelled.short)

  first-back : (number : ℕ) (came : Bool) (m : Message) (lines : List (List ℕ)) → IsSpelled profile limit m → encoded_lines true profile limit number came (message_text m ∷ lines) ≡ after_text (framed (message_der m)) (encoded_lines true profile limit (number + 1) true lines)
  first-back number came m lines spelled =
      read-step (record { is_framed = true; profile = profile; limit = limit }) number came (message_text m) lines (omega (arith, p.short profile m spelled.in_profile, spelled.short)) (not-blank m) refl
      ∙ message-step true number (line_spelled true profile limit (message_text m)) (message_der m) (encoded_lines true profile limit (number + 1) true lines) (its-octets m spelled)

  lines-back : (number : ℕ) (came : Bool) (all : List Message) → AllByRecursion (IsSpelled profile limit) all → encoded_lines true profile limit number came (map message_text all) ≡ record { text = frames_of all; end = encoding.All }
  lines-back number came [] each = refl
  lines-back number came (m ∷ others) each = first-back number came m (map message_text others) each.0 ∙ ap (after_text (framed (message_der m))) (lines-back (number + 1) true others each.1)

  pub text-back : (all : List Message) → AllByRecursion (IsSpelled profile limit) all → encoded true profile limit (flat_map line_of all) ≡ record { text = frames_of all; end = encoding.All }
  unfolding encoded
  text-back all each = ap (encoded_lines true profile limit 1 false) (ap without_empty_last (parts-are all each) ∙ lines-empty (map message_text all)) ∙ lines-back 1 false all each

-- ---- those that are sealed
pub kept : (P : Message → Type 0) (all : List Message) → AllByRecursion P all → AllByRecursion P (filter is_sealed all)
kept P [] each = tt
kept P (m ∷ others) each = by (is_sealed m) (kept P others each.1)
  where
    by : (sealed : Bool) → AllByRecursion P (filter is_sealed others) → AllByRecursion P (cond sealed (m ∷ filter is_sealed others) (filter is_sealed others))
    by true rest = (each.0, rest)
    by false rest = rest

-- ---- captures
pub lenient-messages : (all : List Finding) → AreFindings all → AllByRecursion (IsInProfile Lenient) (messages_in all)
lenient-messages [] each = tt
lenient-messages ((origin, WholeMessage octets) ∷ others) each = (each.0.1, lenient-messages others each.1)
lenient-messages ((origin, FaultyMessage refusal path extent) ∷ others) each = lenient-messages others each.1
lenient-messages ((origin, Begun) ∷ others) each = lenient-messages others each.1
lenient-messages ((origin, Joined) ∷ others) each = lenient-messages others each.1
lenient-messages ((origin, Missing place octets path) ∷ others) each = lenient-messages others each.1
lenient-messages ((origin, Password octets version size rest) ∷ others) each = lenient-messages others each.1
lenient-messages ((origin, Unread place octets reason) ∷ others) each = lenient-messages others each.1
lenient-messages ((origin, Sent header) ∷ others) each = lenient-messages others each.1
lenient-messages ((origin, Failed error) ∷ others) each = lenient-messages others each.1

both-of : (limit : ℕ) (all : List Message) → AllByRecursion (IsInProfile Lenient) all → AllByRecursion (λ (m : Message). length (message_der m) ≤ limit) all → AllByRecursion (IsSpelled Lenient limit) all
both-of limit [] each few = tt
both-of limit (m ∷ others) each few = (record { in_profile = each.0; short = few.0 }, both-of limit others each.1 few.1)

pub sealed-spelled : (p : CapturePremises) (settings : Settings) (file : List ℕ) (limit : ℕ) → AreRead file → AllByRecursion (λ (m : Message). length (message_der m) ≤ limit) (sealed_in (capture_told settings (packets file).items)) → AllByRecursion (IsSpelled Lenient limit) (sealed_in (capture_told settings (packets file).items))
sealed-spelled p settings file limit are few =
    let all : List Finding = capture_told settings (packets file).items in
    let each : AreFindings all = subst AreFindings (found-is p settings file) (good-of p settings.profile settings.limit settings.port None file are) in
    both-of limit (sealed_in all) (kept (IsInProfile Lenient) (messages_in all) (lenient-messages all each)) few

pub captures_come_back : CapturePremises → Texts → CapturesComeBack
captures_come_back p texts settings file limit are few =
    ap (encoded true Lenient limit) (captures_listed p settings file are).messages
    ∙ text-back texts Lenient limit (sealed_in (capture_told settings (packets file).items)) (sealed-spelled p settings file limit are few)

-- ---- streams
pub spelled-messages : (p : StreamPremises) (profile : Profile) (limit : ℕ) (all : List Listed) → AreGood p profile limit all → AllByRecursion (IsSpelled profile limit) (whole_in all)
spelled-messages p profile limit [] each = tt
spelled-messages p profile limit (Whole m ∷ others) each = (record { in_profile = in-profile p profile limit m each.0; short = each.0.1.within }, spelled-messages p profile limit others each.1)
spelled-messages p profile limit (Faulty place reason prefix ∷ others) each = spelled-messages p profile limit others each.1

pub sealed-whole : (p : StreamPremises) (profile : Profile) (limit : ℕ) (stream text : List ℕ) → AreRead stream → (decoding : IsDecoded profile limit stream text) → AllByRecursion (IsSpelled profile limit) (filter is_sealed (whole_in decoding.found))
sealed-whole p profile limit stream text are decoding =
    kept (IsSpelled profile limit) (whole_in decoding.found) (spelled-messages p profile limit decoding.found (good p profile limit stream text are decoding))

pub streams_come_back : StreamPremises → Texts → StreamsComeBack
streams_come_back p texts profile limit stream text are decoding =
    ap (encoded true profile limit) (streams_listed p profile limit stream text are decoding).messages
    ∙ text-back texts profile limit (filter is_sealed (whole_in decoding.found)) (sealed-whole p profile limit stream text are decoding)
