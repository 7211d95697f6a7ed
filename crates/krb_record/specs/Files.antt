-- What precedes the listing of each of several files.
use Rattle.std.specs.Prelude.{ℕ, List, [], ◌∷◌, Option, None, Some, codes}
use Rattle.krb_record.specs.declared.form.Base.{Base}
use Rattle.krb_record.specs.declared.form.Form.{Form}
use Rattle.krb_record.specs.Forms.{base_of, record_line}
use Rattle.krb_record.specs.Values.{FileName, Field, Printed, the, printed, with_origin}

abbrev pub file_record : List ℕ → Printed
file_record name = printed (codes "file") (the (codes "name") (FileName name) ∷ [])

-- a row has the name as that of its file, too
abbrev pub unless_some : Option Base → List Field → List Field
unless_some (Some base) fields = []
unless_some None fields = fields

abbrev pub file_origin : Form → List ℕ → List Field
file_origin form name = unless_some (base_of form) (the (codes "file") (FileName name) ∷ [])

abbrev pub file_line : Form → List ℕ → List ℕ
file_line form name = record_line form (with_origin (file_origin form name) (file_record name))
