-- What the label of records adds to them.
use Rattle.std.proofs.Common.{◌≡◌, ℕ, List, [], ◌∷◌, ◌++◌, codes, Option, Some, None, refl, sym, ap, ◌∙◌, append_assoc}
use Rattle.krb_record.specs.Forms.{closing, last_text, opening, record_line, record_text}
use Rattle.krb_record.specs.Text.{line_feed}
use Rattle.krb_record.specs.Labels.{Label, line_of, with_file_if}
use Rattle.krb_record.specs.Values.{printed}
use Rattle.krb_record.specs.declared.form.Form.{Form}
use Rattle.krb_record.specs.declared.form.Form.TheVariants as forms
use Rattle.krb_items.specs.Reached.{last_members}

abbrev last_by : Form → Option (List ℕ) → List ℕ
last_by form file = last_text form (with_file_if form file (printed [] [])).last

-- a record of no kind and no fields
bare-line : (form : Form) → record_line form (printed [] []) ≡ opening form [] ++ closing form ++ line_feed
unfolding record_text
bare-line form = simp append_assoc

-- what is written of it
pub bare-text : (form form-1 form-2 : Form) (begin empty before opened closed : List ℕ) →
    empty ≡ [] → before ≡ empty ++ begin → opened ≡ before ++ opening form-1 [] → closed ≡ opened ++ closing form-2 ++ line_feed → form-1 ≡ form → form-2 ≡ form → closed ≡ ([] ++ begin) ++ record_line form (printed [] [])
bare-text form form-1 form-2 begin empty before opened closed empty-is before-is opened-is closed-is same-1 same-2 =
    let step : opened ++ closing form-2 ++ line_feed ≡ begin ++ (opening form [] ++ closing form ++ line_feed) = rw (opened-is, before-is, empty-is, same-1, same-2) (simp append_assoc) in
    closed-is ∙ step ∙ ap (λ (line : List ℕ). begin ++ line) (sym (bare-line form))

-- the object of it
json-line : (file : Option (List ℕ)) → record_line forms.Json (with_file_if forms.Json file (printed [] [])) ≡ codes "{\"kind\":\"\"" ++ last_by forms.Json file ++ codes "}\n"
unfolding record_text opening closing
json-line None = refl
json-line (Some name) = simp append_assoc

kept-line : (file : Option (List ℕ)) → record_line forms.KeptJson (with_file_if forms.KeptJson file (printed [] [])) ≡ (1 ∷ 6 ∷ codes "{\"kind\":\"\"") ++ last_by forms.KeptJson file ++ codes "}\n"
unfolding record_text opening closing
kept-line None = refl
kept-line (Some name) = simp append_assoc

of-form : (form : Form) (label : Label) (begin : List ℕ) → label.form ≡ form → record_line form (with_file_if form label.file (printed [] [])) ≡ begin ++ last_by form label.file ++ codes "}\n" → line_of label (printed [] []) ≡ begin ++ last_members label ++ codes "}\n"
of-form form label begin is line =
    ap (λ f. record_line f (with_file_if f label.file (printed [] []))) is ∙ line ∙ ap (λ f. begin ++ last_by f label.file ++ codes "}\n") (sym is)

pub empty-object : (label : Label) → label.form ≡ forms.Json → line_of label (printed [] []) ≡ codes "{\"kind\":\"\"" ++ last_members label ++ codes "}\n"
empty-object label is = of-form forms.Json label (codes "{\"kind\":\"\"") is (json-line label.file)

pub empty-kept-object : (label : Label) → label.form ≡ forms.KeptJson → line_of label (printed [] []) ≡ (1 ∷ 6 ∷ codes "{\"kind\":\"\"") ++ last_members label ++ codes "}\n"
empty-kept-object label is = of-form forms.KeptJson label (1 ∷ 6 ∷ codes "{\"kind\":\"\"") is (kept-line label.file)
