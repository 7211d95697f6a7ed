-- How what is found in a capture is written.
use Rattle.std.specs.Prelude.{ℕ, ◌==◌, Bool, true, List, Option, Some, None}
use Rattle.krb_record.specs.declared.form.Form.{Form}
use Rattle.krb_record.specs.declared.capture_origin.CaptureOrigin.{CaptureOrigin}
use Rattle.krb_record.specs.Labels as records
use Rattle.krb_record.specs.Values.{Printed}
use Rattle.krb_capture.specs.declared.style.Decoding.{Decoding}
use Rattle.krb_capture.specs.declared.style.Style.{Style}

-- In which form records are written, and the name of their file, if each of them has it; and, if messages are decoded in place of their records, of which packets.
pub record Label : Type 0 where
  pub form : Form
  pub file : Option (List ℕ)
  pub decoding : Option Decoding

-- a label of records alone
abbrev pub of_records : records.Label → Label
of_records label = record { form = label.form; file = label.file; decoding = None }

abbrev pub of_decoding : records.Label → Decoding → Label
of_decoding label decoding = record { form = label.form; file = label.file; decoding = Some decoding }

abbrev pub record_label : Label → records.Label
record_label label = record { form = label.form; file = label.file }

abbrev pub label_in : Style → Label
label_in style = record { form = style.label.now.form; file = style.label.now.file; decoding = style.decoding }

-- the line or the object of a record with its label
abbrev pub line_of : Label → Printed → List ℕ
line_of label r = records.line_of (record_label label) r

-- whether what has an origin is decoded: that of all packets, or of one
abbrev pub is_wanted : (packet : Option ℕ) → (number : ℕ) → Bool
is_wanted None number = true
is_wanted (Some packet) number = number == packet

abbrev pub is_decoded : Decoding → CaptureOrigin → Bool
is_decoded decoding origin = is_wanted decoding.packet origin.packet

abbrev pub writes : Option Decoding → CaptureOrigin → Bool
writes None origin = true
writes (Some decoding) origin = is_decoded decoding origin
