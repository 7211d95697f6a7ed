-- The listing of a capture.
use Rattle.std.specs.Prelude.{ℕ, ◌≡◌, Bool, true, false, List, [], ◌∷◌, ◌++◌, drop, Option, Some, None}
use Rattle.krb_file.specs.Fields.{Fault}
use Rattle.krb_packet.specs.Captures.{packets}
use Rattle.krb_packet.specs.declared.packet.Packet.{Packet}
use Rattle.krb_capture.specs.Captures.{Finding, Progress, Settings, all_counts, at_first, end_taken, end_text, happened_each, has_no_packet, is_clean, lines_of, packet_told, refusal_text}
use Rattle.krb_capture.specs.Happened.{told_at_first}
use Rattle.krb_capture.specs.declared.happened.Happened.{Happened}
use Rattle.krb_run.specs.Extents.{extent_of}
use Rattle.krb_run.specs.Records.{RecordListing, after_line}
use Rattle.krb_run.specs.Paths.{field_path}
use Rattle.krb_run.specs.declared.run.RunEnd.{RunEnd}
use Rattle.krb_run.specs.declared.run.RunEnd.TheVariants as run

-- the records of packets, from the progress that earlier ones left, and what happened in these, if it is told
abbrev pub lines_from : Settings → List Packet → Option Happened → Progress → List ℕ
lines_from settings [] happened progress = []
lines_from settings (first ∷ others) happened progress =
    let taken = packet_told settings first progress in
    lines_of settings.label happened taken.found ++ lines_from settings others (happened_each taken.found happened) taken.progress

-- the progress after packets, and what happened
abbrev pub after_packets : Settings → List Packet → Progress → Progress
after_packets settings [] progress = progress
after_packets settings (first ∷ others) progress = after_packets settings others (packet_told settings first progress).progress

abbrev pub happened_after : Settings → List Packet → Option Happened → Progress → Option Happened
happened_after settings [] happened progress = happened
happened_after settings (first ∷ others) happened progress =
    let taken = packet_told settings first progress in happened_after settings others (happened_each taken.found happened) taken.progress

-- the records of the end, or those of the refusal of the file
abbrev pub last_records : Settings → Option Fault → Option Happened → Progress → List ℕ
last_records settings None happened progress = end_text settings happened progress
last_records settings (Some fault) happened progress = refusal_text settings happened progress fault.place fault.why (field_path fault.field) (extent_of fault)

abbrev pub run_end : Bool → RunEnd
run_end true = run.Clean
run_end false = run.Refused

-- how a run ends whose file is refused: at once, if no packet came before
abbrev pub refused_end : (at_once : Bool) → RunEnd
refused_end true = run.RefusedAtOnce
refused_end false = run.Refused

-- a run is clean if the file was read to its end, and nothing is refused, lost or unread
abbrev pub capture_run_end : Settings → Option Fault → Progress → RunEnd
capture_run_end settings None progress = run_end (is_clean (all_counts (end_taken settings progress).progress))
capture_run_end settings (Some refusal) progress = refused_end (has_no_packet progress.counts)

-- of packets, and the refusal of the file after them
abbrev pub listing_from : Settings → List Packet → Option Fault → Option Happened → Progress → RecordListing
listing_from settings left refusal happened progress =
    let last = after_packets settings left progress in
    record { lines = lines_from settings left happened progress; last = last_records settings refusal (happened_after settings left happened progress) last; end = capture_run_end settings refusal last }

unfoldable pub capture_listing : Settings → List ℕ → RecordListing
capture_listing settings file = listing_from settings (packets file).items (packets file).end (told_at_first settings.label.form) at_first

-- What is left of it after packets, and after some of what is found with the last of them: the records of the rest of that, and then what is left after the packets.
pub record IsCaptureRest (settings : Settings) (file : List ℕ) (left : RecordListing) : Type 0 where
  pub count : ℕ
  pub progress : Progress
  pub happened : Option Happened
  pub found : List Finding
  pub is : left ≡ after_line (lines_of settings.label happened found) (listing_from settings (drop count (packets file).items) (packets file).end (happened_each found happened) progress)
