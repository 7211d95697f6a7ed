use Rattle.std.proofs.Common.{◌≡◌, List, [], ◌∷◌, refl}
use Rattle.krb_record.specs.declared.form.Form.TheVariants as form
use Rattle.krb_record.specs.Forms.{record_line, record_text}
use Rattle.krb_record.specs.Values.{Field, Printed}
use Rattle.krb_text_laws.proofs.text.lines_have_nothing_last.Goals as goal

plain : (r : Printed) → record_line form.Lines r ≡ record_line form.Lines (record r { last = [] })
unfolding record_text
plain r = by r.last
  where
    by : (last : List Field) → record_line form.Lines (record r { last = last }) ≡ record_line form.Lines (record r { last = [] })
    by [] = refl
    by (first ∷ others) = refl

named : (r : Printed) → record_line form.NamedLines r ≡ record_line form.NamedLines (record r { last = [] })
unfolding record_text
named r = by r.last
  where
    by : (last : List Field) → record_line form.NamedLines (record r { last = last }) ≡ record_line form.NamedLines (record r { last = [] })
    by [] = refl
    by (first ∷ others) = refl

pub returns : goal.returns
returns c = record { plain = plain; named = named }
