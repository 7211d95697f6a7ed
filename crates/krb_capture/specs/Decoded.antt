-- What is decoded of a message, and what is said at the end, in place of records.
use Rattle.std.specs.Prelude.{◌≡◌, ℕ, List, [], ◌++◌, codes, Option, Some, None, if◌then◌else◌}
use Rattle.krb_der.specs.declared.profile.Profile.TheVariants.{Lenient}
use Rattle.krb_json.specs.Lines.{line_of as json_line}
use Rattle.krb_json.specs.Unencrypted.{unencrypted_in}
use Rattle.krb_msg.specs.Views.{IsInProfile, message_der, message_of_der}
use Rattle.krb_msg.specs.declared.message.Message.{Message}
use Rattle.krb_record.specs.Captures.{capture_end_record, capture_refused_record, count_fields, origin_fields}
use Rattle.krb_record.specs.Forms.{heading, record_line}
use Rattle.krb_record.specs.Labels.{no_label}
use Rattle.krb_record.specs.Labels as records
use Rattle.krb_record.specs.Refusals.{refused_file}
use Rattle.krb_record.specs.Values.{printed}
use Rattle.krb_record.specs.declared.capture.CaptureCounts.{CaptureCounts}
use Rattle.krb_record.specs.declared.capture_origin.CaptureOrigin.{CaptureOrigin}
use Rattle.krb_record.specs.declared.extent.Extent.{Extent}
use Rattle.krb_record.specs.declared.form.Form.{Form}
use Rattle.krb_record.specs.declared.form.Form.TheVariants.{Lines}
use Rattle.krb_record.specs.declared.told.ToldCounts.{ToldCounts}
use Rattle.krb_source.specs.declared.file_why.FileWhy.{FileWhy}
use Rattle.krb_capture.specs.Counts.{is_clean}
use Rattle.krb_capture.specs.Labels.{Label, line_of}
use Rattle.krb_capture.specs.declared.style.Decoding.{Decoding}

-- octets are the DER of a message
pub record IsOfMessage (octets : List ℕ) : Type 0 where
  pub in_profile : IsInProfile Lenient (message_of_der octets)
  pub form : message_der (message_of_der octets) ≡ octets

-- ---- a message: its line, or, if the path of the first EncryptedData that is not encrypted is there, that it has one
abbrev pub not_encrypted : Form → CaptureOrigin → (path : List ℕ) → List ℕ
not_encrypted form origin path = heading form (origin_fields form origin) [] ++ path ++ codes ": not encrypted, and so not printed\n"

abbrev pub decoded_by : (unencrypted : Option (List ℕ)) → Form → CaptureOrigin → Message → List ℕ
decoded_by None form origin m = json_line m
decoded_by (Some path) form origin m = not_encrypted form origin path

abbrev pub decoded_message : Form → CaptureOrigin → Message → List ℕ
decoded_message form origin m = decoded_by (unencrypted_in m) form origin m

-- ---- the end: of all packets, what was counted, if anything was refused, lost or not read
abbrev pub decoded_end : (packet : Option ℕ) → CaptureCounts → ToldCounts → List ℕ
decoded_end None counts told = if is_clean counts then [] else records.line_of (no_label Lines) (capture_end_record Lines counts told)
decoded_end (Some packet) counts told = []

abbrev pub written_end : Option Decoding → Label → CaptureCounts → ToldCounts → List ℕ
written_end None label counts told = line_of label (capture_end_record label.form counts told)
written_end (Some decoding) label counts told = decoded_end decoding.packet counts told

abbrev pub end_line : Label → CaptureCounts → ToldCounts → List ℕ
end_line label counts told = written_end label.decoding label counts told

-- the refusal of the file, with what was counted before it
abbrev pub decoded_refusal : Form → CaptureCounts → ℕ → FileWhy → Option (List ℕ) → Extent → List ℕ
decoded_refusal form counts place why path extent = record_line form (printed (codes "refused") (count_fields counts ++ (refused_file form place why path extent).fields))

abbrev pub written_refusal : Option Decoding → Label → CaptureCounts → ToldCounts → ℕ → FileWhy → Option (List ℕ) → Extent → List ℕ
written_refusal None label counts told place why path extent = line_of label (capture_refused_record label.form counts told place why path extent)
written_refusal (Some decoding) label counts told place why path extent = decoded_refusal label.form counts place why path extent

abbrev pub refusal_line : Label → CaptureCounts → ToldCounts → ℕ → FileWhy → Option (List ℕ) → Extent → List ℕ
refusal_line label counts told place why path extent = written_refusal label.decoding label counts told place why path extent
