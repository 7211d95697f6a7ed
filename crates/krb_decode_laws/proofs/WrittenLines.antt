-- What is decoded is lines, and what is written of it lines of JSON.
use Rattle.std.proofs.Common.{ℕ, Bool, true, false, cond, List, [], ◌∷◌, map, Option}
use Rattle.std.specs.List.{AllByRecursion, filter}
use Rattle.krb_capture.specs.Captures.{Finding}
use Rattle.krb_der.specs.declared.profile.Profile.{Profile}
use Rattle.krb_der.specs.declared.profile.Profile.TheVariants.{Lenient}
use Rattle.krb_json.specs.Laws.{IsSpelled, IsText, TextsAreJson}
use Rattle.krb_json.specs.Lines.{message_text}
use Rattle.krb_msg.specs.Views.{IsInProfile}
use Rattle.krb_msg.specs.declared.message.Message.{Message}
use Rattle.krb_run.specs.Records.{text_of}
use Rattle.krb_tool_laws.proofs.CaptureFindings.{AreFindings}
use Rattle.krb_decode_laws.specs.Captures as captures
use Rattle.krb_decode_laws.specs.Captures.{decoded_by, messages_in, sealed_in}
use Rattle.krb_decode_laws.specs.Messages.{is_sealed}
use Rattle.krb_decode_laws.specs.Streams as streams
use Rattle.krb_decode_laws.specs.Streams.{whole_in}
use Rattle.krb_decode_laws.proofs.BackAgain.{kept, lenient-messages, spelled-messages}
use Rattle.krb_decode_laws.proofs.DecodedCaptures.{Premises as CapturePremises, good-of}
use Rattle.krb_decode_laws.proofs.FoundLines.{texts, wanted}
use Rattle.krb_decode_laws.proofs.ListedMessages.{found, messages-are, sorted}
use Rattle.krb_decode_laws.proofs.SortedTexts.{sorted-printed}
use Rattle.krb_decode_laws.proofs.StreamLines.{Premises as StreamPremises, good, its-lines, its-messages}

its-texts : TextsAreJson → (profile : Profile) (all : List Message) → AllByRecursion (IsInProfile profile) all → AllByRecursion IsText all
its-texts json profile [] each = tt
its-texts json profile (m ∷ others) each = (json profile m each.0, its-texts json profile others each.1)

chosen : (packet : Option ℕ) (all : List Finding) → AreFindings all → AreFindings (filter (wanted packet) all)
chosen packet [] each = tt
chosen packet (one ∷ others) each = by (wanted packet one) (chosen packet others each.1)
  where
    by : (is : Bool) → AreFindings (filter (wanted packet) others) → AreFindings (cond is (one ∷ filter (wanted packet) others) (filter (wanted packet) others))
    by true rest = (each.0, rest)
    by false rest = rest

pub captures_are_lines : CapturePremises → captures.DecodedIsLines
captures_are_lines p settings packet file are =
    let all : List Finding = filter (wanted packet) (found p settings packet file) in
    let each : AreFindings all = chosen packet (found p settings packet file) (good-of p settings.profile settings.limit settings.port packet file are) in
    record {
      printed = sorted-printed (text_of (decoded_by settings packet file)) (texts packet (found p settings packet file)) (sorted p settings packet file are);
      written = record {
        those = sealed_in all;
        each = its-texts p.lines.json Lenient (sealed_in all) (kept (IsInProfile Lenient) (messages_in all) (lenient-messages all each));
        form = messages-are p settings packet file are;
      };
    }

whole-texts : (p : StreamPremises) (profile : Profile) (limit : ℕ) (all : List Message) → AllByRecursion (IsSpelled profile limit) all → AllByRecursion IsText all
whole-texts p profile limit [] each = tt
whole-texts p profile limit (m ∷ others) each = (p.json profile m each.0.in_profile, whole-texts p profile limit others each.1)

pub streams_are_lines : StreamPremises → streams.DecodedIsLines
streams_are_lines p profile limit stream text are decoding = record {
  printed = sorted-printed text (map message_text (filter is_sealed (whole_in decoding.found))) (its-lines p profile limit stream text are decoding);
  written = record {
    those = filter is_sealed (whole_in decoding.found);
    each = whole-texts p profile limit (filter is_sealed (whole_in decoding.found)) (kept (IsSpelled profile limit) (whole_in decoding.found) (spelled-messages p profile limit decoding.found (good p profile limit stream text are decoding)));
    form = its-messages p profile limit stream text are decoding;
  };
}
