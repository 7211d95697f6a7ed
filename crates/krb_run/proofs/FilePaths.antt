-- The line of a refused file, by the path that its form shows.
use Rattle.std.proofs.Common.{◌≡◌, List, ℕ, ◌++◌, Option, ◌∙◌, ap}
use Rattle.krb_file.specs.Fields.{Fault}
use Rattle.krb_file.specs.declared.field_path.FileItem.{FileItem}
use Rattle.krb_record.specs.Labels.{Label, line_of}
use Rattle.krb_record.specs.Refusals.{file_refused, known_path}
use Rattle.krb_run.specs.Extents.{extent_of, fault_line}
use Rattle.krb_run.specs.Paths.{file_path}

same_line : (label : Label) (fault : Fault) (p q : Option (List ℕ)) → known_path label.form p ≡ known_path label.form q → fault_line label fault p ≡ fault_line label fault q
same_line label fault p q same = ap (λ (path : Option (List ℕ)). line_of label (file_refused label.form fault.place fault.why path (extent_of fault))) same

pub refusal_shown : (item : FileItem) (label : Label) (fault : Fault) (shown : Option (List ℕ)) (old new : List ℕ) → known_path label.form shown ≡ known_path label.form (file_path item fault.field) → new ≡ old ++ fault_line label fault shown → new ≡ old ++ fault_line label fault (file_path item fault.field)
refusal_shown item label fault shown old new same added = added ∙ ap (λ (line : List ℕ). old ++ line) (same_line label fault shown (file_path item fault.field) same)
