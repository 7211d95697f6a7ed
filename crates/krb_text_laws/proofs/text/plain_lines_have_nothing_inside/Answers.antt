use Rattle.std.proofs.Common.{◌≡◌, Option, Some, None, List, refl}
use Rattle.krb_record.specs.declared.form.Form.TheVariants as form
use Rattle.krb_record.specs.Forms.{inside_text, record_line, record_text}
use Rattle.krb_record.specs.Values.{Part, Printed}
use Rattle.krb_text_laws.proofs.text.plain_lines_have_nothing_inside.Goals as goal

-- a line without names
nothing_inside : (r : Printed) → record_line form.Lines r ≡ record_line form.Lines (record r { inside = None })
unfolding record_text inside_text
nothing_inside r = by r.inside
  where
    by : (inside : Option (List Part)) → record_line form.Lines (record r { inside = inside }) ≡ record_line form.Lines (record r { inside = None })
    by None = refl
    by (Some parts) = refl

pub returns : goal.returns
returns c = nothing_inside
