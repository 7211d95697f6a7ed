-- What the parts of a run on a capture promise each other.
use Rattle.std.specs.Prelude.{ℕ, ◌≡◌, List, ◌++◌, drop, Option, Some, None, Box}
use Rattle.std.specs.declared.alloc.Global.{Global}
use Rattle.krb_file.specs.declared.fault.FileFault.{FileFault}
use Rattle.krb_file.specs.declared.fault.FileFault.TheVariants as faults
use Rattle.krb_file.specs.declared.progress.Progress.TheVariants as states
use Rattle.krb_packet.specs.Captures.{packets}
use Rattle.krb_packet.specs.Streaming.{PacketsModel, Reads}
use Rattle.krb_record.specs.Labels.{Label}
use Rattle.krb_capture.specs.Captures.{Finding, HasFollowed, Progress, Settings, end_text, happened_each, happened_in, has_no_packet, lines_of, refusal_text}
use Rattle.krb_capture.specs.Rests.{HasFollowedBut}
use Rattle.krb_capture.specs.declared.capture.Capture.{Capture}
use Rattle.krb_capture.specs.declared.directions.Rest.{Rest}
use Rattle.krb_capture_run.specs.Captures.{capture_run_end, listing_from, refused_end}
use Rattle.krb_run.specs.Extents.{extent_of}
use Rattle.krb_run.specs.Records.{RecordListing, after_line}
use Rattle.krb_run.specs.Paths.{field_path}
use Rattle.krb_run.specs.declared.run.RunEnd.{RunEnd}

-- a capture, and how it is listed
pub record CaptureSource : Type 0 where
  pub settings : Settings
  pub file : List ℕ

-- A reader returned the first packets of a file, they were followed, but for findings of the last one, and this is left of its listing.
pub record IsCaptureLeft (model : PacketsModel) (capture : Capture) (rest : Option (Box Rest Global)) (label : Label) (source : CaptureSource) (left : RecordListing) : Type 0 where
  pub count : ℕ
  pub progress : Progress
  pub found : List Finding
  pub reads : Reads model source.file count
  pub followed : HasFollowedBut capture source.settings progress rest found
  pub label_is : label.form ≡ source.settings.label.form
  pub is : left ≡ after_line (lines_of source.settings.label (happened_in capture.happened) found) (listing_from source.settings (drop count (packets source.file).items) (packets source.file).end (happened_each found (happened_in capture.happened)) progress)

-- A read failed after the packets that were followed: the reader is at that fault, nothing was left of the last packet, and no other was followed.
pub record FailsInPacket (model : PacketsModel) (was now : Capture) (rest : Option (Box Rest Global)) : Type 0 where
  pub failed : model.state ≡ states.Failed faults.Read
  pub none_left : rest ≡ None
  pub same : now ≡ was

-- the records of the end were added
abbrev pub AddsCaptureEnd : Capture → List ℕ → List ℕ → Option RunEnd → Type 0
AddsCaptureEnd capture old new ended =
    (settings : Settings) (progress : Progress) → HasFollowed capture settings progress → (ended ≡ Some (capture_run_end settings None progress)) × (new ≡ old ++ end_text settings (happened_in capture.happened) progress)

-- the record of a refused file was added; other faults have none
abbrev pub AddsFileRefusal : FileFault → Capture → Label → List ℕ → List ℕ → Option RunEnd → Type 0
AddsFileRefusal (faults.Refused fault) capture label old new ended =
    (settings : Settings) (progress : Progress) → HasFollowed capture settings progress → label.form ≡ settings.label.form → (ended ≡ Some (refused_end (has_no_packet capture.listing.counts))) × (new ≡ old ++ refusal_text settings (happened_in capture.happened) progress fault.place fault.why (field_path fault.field) (extent_of fault))
AddsFileRefusal faults.Read capture label old new ended = ⊥
AddsFileRefusal faults.Memory capture label old new ended = ⊥
