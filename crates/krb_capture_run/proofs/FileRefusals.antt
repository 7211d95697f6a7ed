-- The records of a refused file have of the path of its field what their form shows.
use Rattle.std.proofs.Common.{◌≡◌, ℕ, List, ◌++◌, Option, Some, None, ap, refl}
use Rattle.std.specs.Prelude.{codes}
use Rattle.krb_file.specs.Fields.{Fault}
use Rattle.krb_record.specs.Captures.{count_fields, refused_capture}
use Rattle.krb_record.specs.Forms.{record_line}
use Rattle.krb_record.specs.Labels.{line_of}
use Rattle.krb_record.specs.Refusals.{extent_in, fault_record, known_path, path_in}
use Rattle.krb_record.specs.Values.{Field, printed}
use Rattle.krb_record.specs.declared.capture.CaptureCounts.{CaptureCounts}
use Rattle.krb_record.specs.declared.form.Form.{Form}
use Rattle.krb_record.specs.declared.form.Form.TheVariants as forms
use Rattle.krb_record.specs.declared.told.ToldCounts.{ToldCounts}
use Rattle.krb_source.specs.FileReasons.{file_reason_name, file_reason_number}
use Rattle.krb_run.specs.Extents.{extent_of}
use Rattle.krb_capture.specs.Captures.{Progress, Settings, all_counts, end_taken, last_counts, last_lines, refusal_text}
use Rattle.krb_capture.specs.Decoded.{written_refusal}
use Rattle.krb_capture.specs.Labels.{Label, record_label}
use Rattle.krb_capture.specs.declared.happened.Happened.{Happened}
use Rattle.krb_capture.specs.declared.style.Decoding.{Decoding}

-- a path is shown where it is known
same_shown : (form : Form) (path other : Option (List ℕ)) → known_path form path ≡ known_path form other → path_in form path ≡ path_in form other
same_shown forms.Lines path other e = refl
same_shown forms.NamedLines path other e = ap (path_in forms.NamedLines) e
same_shown forms.Json path other e = ap (path_in forms.Json) e
same_shown forms.KeptLines path other e = refl
same_shown forms.KeptNamedLines path other e = ap (path_in forms.KeptNamedLines) e
same_shown forms.KeptJson path other e = ap (path_in forms.KeptJson) e
same_shown (forms.Rows wanted) path other e = ap (path_in (forms.Rows wanted)) e

same_written : (decoding : Option Decoding) (label : Label) (counts : CaptureCounts) (told : ToldCounts) (fault : Fault) (path other : Option (List ℕ)) → known_path label.form path ≡ known_path label.form other → written_refusal decoding label counts told fault.place fault.why path (extent_of fault) ≡ written_refusal decoding label counts told fault.place fault.why other (extent_of fault)
same_written None label counts told fault path other e =
    ap (λ known. line_of (record_label label) (refused_capture label.form counts told fault.place fault.why known (extent_of fault))) e
same_written (Some decoding) label counts told fault path other e =
    ap (λ (shown : List Field). record_line label.form (printed (codes "refused") (count_fields counts ++ (fault_record fault.place (file_reason_number fault.why) (file_reason_name fault.why) (shown ++ extent_in label.form (extent_of fault))).fields))) (same_shown label.form path other e)

pub same_refusal : (settings : Settings) → (happened : Option Happened) → (progress : Progress) → (fault : Fault) → (path other : Option (List ℕ)) → known_path settings.label.form path ≡ known_path settings.label.form other → refusal_text settings happened progress fault.place fault.why path (extent_of fault) ≡ refusal_text settings happened progress fault.place fault.why other (extent_of fault)
unfolding refusal_text
same_refusal settings happened progress fault path other e =
    ap (λ line. last_lines settings happened progress ++ line)
    (same_written settings.label.decoding settings.label (all_counts (end_taken settings progress).progress) (last_counts settings happened progress) fault path other e)
