-- The text of the fields of a record, one after another.
use Rattle.std.proofs.Common.{◌≡◌, List, [], ◌∷◌, ◌++◌, refl, ap, sym, ◌∙◌, append_assoc}
use Rattle.krb_record.specs.declared.form.Form.{Form}
use Rattle.krb_record.specs.Forms.{field, fields_text}
use Rattle.krb_record.specs.Values.{Field}

pub fields_text_append : (form : Form) (front rest : List Field) → fields_text form (front ++ rest) ≡ fields_text form front ++ fields_text form rest
fields_text_append form [] rest = refl
fields_text_append form (first ∷ others) rest =
    ap (λ text. field form first.name first.value ++ text) (fields_text_append form others rest)
    ∙ sym (append_assoc (field form first.name first.value) (fields_text form others) (fields_text form rest))
