-- The law of the listing of a capture, which `captures_are_listed` of `krb_tool_laws` proves.
use Rattle.std.specs.Prelude.{ℕ, ◌≡◌, List, [], ◌∷◌, ◌++◌, Option, Some, None}
use Rattle.krb_file.specs.Fields.{Fault}
use Rattle.krb_packet.specs.Captures.{packets}
use Rattle.krb_capture.specs.Captures.{Finding, Progress, Settings, all_counts, at_first, end_taken, happened_each, lines_of, packet_told}
use Rattle.krb_capture.specs.Flows.{moment_due}
use Rattle.krb_capture.specs.Found.{found_line}
use Rattle.krb_capture.specs.Happened.{end_counts, end_lines, no_counts_told, told_at_first}
use Rattle.krb_capture.specs.declared.happened.Happened.{Happened}
use Rattle.krb_capture.specs.Decoded.{end_line, refusal_line}
use Rattle.krb_capture.specs.Labels.{Label}
use Rattle.krb_record.specs.declared.form.Form.TheVariants.{Lines}
use Rattle.krb_packet.specs.declared.packet.Packet.{Packet}
use Rattle.krb_run.specs.Extents.{extent_of}
use Rattle.krb_run.specs.Records.{text_of}
use Rattle.krb_run.specs.Paths.{field_path}
use Rattle.krb_capture_run.specs.Captures.{after_packets, capture_listing}

-- what is found with each packet, in order, after the segment or the error that it carries, and at the end
abbrev pub told_after : Settings → Progress → List Packet → List Finding
told_after settings progress [] = (end_taken settings progress).found
told_after settings progress (packet ∷ packets) = let taken = packet_told settings packet progress in taken.found ++ told_after settings taken.progress packets

abbrev pub capture_told : Settings → List Packet → List Finding
capture_told settings packets = told_after settings at_first packets

-- what nothing answered, and the totals, or the refusal of the file with them
abbrev pub last_line : Settings → Option Fault → Option Happened → Progress → List ℕ
last_line settings None happened progress =
    end_lines settings.label (moment_due progress.last) happened ++ end_line settings.label (all_counts (end_taken settings progress).progress) (end_counts happened)
last_line settings (Some fault) happened progress =
    end_lines settings.label (moment_due progress.last) happened
    ++ refusal_line settings.label (all_counts (end_taken settings progress).progress) (end_counts happened) fault.place fault.why (field_path fault.field) (extent_of fault)

-- The listing of a capture is the records of what is found in its packets, in order, with what is told of that, and then the last line.
abbrev pub CapturesAreListed : Type 0
CapturesAreListed = (settings : Settings) (file : List ℕ) →
    let found = capture_told settings (packets file).items in
    let first = told_at_first settings.label.form in
    text_of (capture_listing settings file) ≡ lines_of settings.label first found ++ last_line settings (packets file).end (happened_each found first) (after_packets settings (packets file).items at_first)

-- lines of what is found, of which nothing is told
abbrev pub untold_lines : Label → List Finding → List ℕ
untold_lines label [] = []
untold_lines label (first ∷ others) = found_line label first.0 first.1 ++ untold_lines label others

abbrev pub untold_last_line : Settings → Option Fault → Progress → List ℕ
untold_last_line settings None progress = end_line settings.label (all_counts (end_taken settings progress).progress) no_counts_told
untold_last_line settings (Some fault) progress = refusal_line settings.label (all_counts (end_taken settings progress).progress) no_counts_told fault.place fault.why (field_path fault.field) (extent_of fault)

-- Without names nothing is told: no line depends on what happened.
abbrev pub PlainCapturesAreUntold : Type 0
PlainCapturesAreUntold = (settings : Settings) (file : List ℕ) → settings.label.form ≡ Lines → text_of (capture_listing settings file) ≡ untold_lines settings.label (capture_told settings (packets file).items) ++ untold_last_line settings (packets file).end (after_packets settings (packets file).items at_first)
