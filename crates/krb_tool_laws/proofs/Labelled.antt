-- A record that names its file is one line, if it is one without.
use Rattle.std.proofs.Common.{◌≡◌, ℕ, List, [], ◌∷◌, ◌++◌, length, take, Option, Some, None, IfSome, codes, refl, sym, ◌∙◌, ap, subst, append_assoc, length-append, take_at, arith}
use Rattle.krb_der.specs.Octets.{AreOctets}
use Rattle.krb_record.specs.Forms.{aside_text, closing, fields_text, form_of, heading, labelled, last_text, parts_text, record_line, record_text}
use Rattle.krb_record.specs.Labels.{AddsMembers, Label, label_text, line_of, with_file, with_file_if}
use Rattle.krb_record.specs.Laws.{IsOneLine}
use Rattle.krb_record.specs.Text.{IsPrintable, line_feed}
use Rattle.krb_record.specs.Values.{FileName, Printed}
use Rattle.krb_record.specs.declared.form.Base.{Base}
use Rattle.krb_record.specs.declared.form.Base.TheVariants as bases
use Rattle.krb_record.specs.declared.form.Form.{Form}
use Rattle.krb_record.specs.declared.form.Form.TheVariants as forms
use Rattle.krb_record.proofs.Labels.{ends-named, ends-object, ends-plain}
use Rattle.krb_record.proofs.Printable.{Prints, join, word}
use Rattle.krb_text_laws.proofs.EachForm.{labelled_field}
use Rattle.krb_tool_laws.specs.Listings.{IsNamed}
use Rattle.krb_tool_laws.proofs.InForms.{base_in, is_base}

-- texts that one text follows are the same
pub before : (end text other : List ℕ) → text ++ end ≡ other ++ end → text ≡ other
before end text other e =
    let long : length other ≡ length text = omega (arith, ap length e, length-append text end, length-append other end) in
    sym (take_at text end (length text) refl) ∙ ap (take (length text)) e ∙ take_at other end (length text) long

front_prints : (text end : List ℕ) → IsPrintable (text ++ end) → Prints text
front_prints [] end h = word [] refl
front_prints (c ∷ text) end h = record { all = (h.0, (front_prints text end h.1).all) }

-- ---- the text of a label
its_name : (base : Base) (name : List ℕ) → AreOctets name → Prints (labelled (form_of base) (codes "file=") (codes ",\"file") (FileName name))
its_name base name are = labelled_field base (codes "file=") (codes ",\"file") (FileName name) (word _ refl) (word _ refl) are

label_prints : (base : Base) (name : List ℕ) → AreOctets name → Prints (label_text (form_of base) name)
unfolding label_text
label_prints bases.Lines name are = join (its_name bases.Lines name are) (word _ refl)
label_prints bases.NamedLines name are = join (its_name bases.NamedLines name are) (word _ refl)
label_prints bases.Json name are = join (its_name bases.Json name are) (word _ refl)

-- ---- lines
after_name : (name line labelled : List ℕ) → Prints name → IsOneLine line → name ++ line ≡ labelled → IsOneLine labelled
after_name name line labelled prints one is =
    (name ++ one.0, (join prints (record { all = one.1 })).all, sym is ∙ ap (λ l. name ++ l) one.2 ∙ sym (append_assoc name one.0 line_feed))

-- ---- objects
-- one without what ends it
object_of : Printed → List ℕ
object_of r = ((heading forms.Json r.origin r.kind ++ fields_text forms.Json r.fields) ++ aside_text forms.Json r.aside) ++ (parts_text forms.Json r.inside ++ last_text forms.Json r.last)

ends_so : (a b c d e : List ℕ) → (a ++ (b ++ (c ++ d))) ++ e ≡ (a ++ (b ++ c)) ++ (d ++ e)
ends_so a b c d e = simp append_assoc refl

object_is : (r : Printed) → record_line forms.Json r ≡ object_of r ++ codes "}\n"
unfolding record_text closing object_of
object_is r = ends_so ((heading forms.Json r.origin r.kind ++ fields_text forms.Json r.fields) ++ aside_text forms.Json r.aside) (parts_text forms.Json r.inside) (last_text forms.Json r.last) (codes "}") line_feed

members_added : (members old object : List ℕ) → old ≡ object ++ codes "}\n" → AddsMembers members old (object ++ members ++ codes "}\n")
members_added members old object is other e = ap (λ l. l ++ members ++ codes "}\n") (before (codes "}\n") object other (sym is ∙ e))

labelled_object : (name : List ℕ) (r : Printed) → object_of r ++ label_text forms.Json name ++ codes "}\n" ≡ record_line forms.Json (with_file forms.Json name r)
labelled_object name r =
    ends-object name (label_text forms.Json name) (record_line forms.Json r) (object_of r ++ label_text forms.Json name ++ codes "}\n") refl (members_added (label_text forms.Json name) (record_line forms.Json r) (object_of r) (object_is r)) [] r refl

with_members : (object members line labelled : List ℕ) → Prints members → IsOneLine line → line ≡ object ++ codes "}\n" → object ++ members ++ codes "}\n" ≡ labelled → IsOneLine labelled
with_members object members line labelled prints one ends is =
    let text : one.0 ≡ object ++ codes "}" = before line_feed one.0 (object ++ codes "}") (sym one.2 ∙ ends ∙ sym (append_assoc object (codes "}") line_feed)) in
    let parts = front_prints object (codes "}") (subst IsPrintable text one.1) in (
      (object ++ members) ++ codes "}",
      (join (join parts prints) (word (codes "}") refl)).all,
      sym is ∙ sym (append_assoc (object ++ members) (codes "}") line_feed),
    )

-- ---- records
named_line : (base : Base) (name : List ℕ) (r : Printed) → AreOctets name → IsOneLine (record_line (form_of base) r) → IsOneLine (record_line (form_of base) (with_file (form_of base) name r))
named_line bases.Lines name r are one = after_name (label_text forms.Lines name) (record_line forms.Lines r) _ (label_prints bases.Lines name are) one (ends-plain name (label_text forms.Lines name ++ record_line forms.Lines r) [] r refl)
named_line bases.NamedLines name r are one = after_name (label_text forms.NamedLines name) (record_line forms.NamedLines r) _ (label_prints bases.NamedLines name are) one (ends-named name (label_text forms.NamedLines name ++ record_line forms.NamedLines r) [] r refl)
named_line bases.Json name r are one = with_members (object_of r) (label_text forms.Json name) (record_line forms.Json r) _ (label_prints bases.Json name are) one (object_is r) (labelled_object name r)

line_with : (base : Base) (file : Option (List ℕ)) (r : Printed) → IfSome file AreOctets → IsOneLine (record_line (form_of base) r) → IsOneLine (record_line (form_of base) (with_file_if (form_of base) file r))
line_with base None r are one = one
line_with base (Some name) r are one = named_line base name r are one

pub labelled_line : (label : Label) (r : Printed) → IsNamed label → IsOneLine (record_line label.form r) → IsOneLine (line_of label r)
labelled_line label r named one =
    let same = is_base label.form named.0 in
    subst (λ (f : Form). IsOneLine (record_line f (with_file_if f label.file r))) same (line_with (base_in label.form) label.file r named.1 (subst (λ (f : Form). IsOneLine (record_line f r)) (sym same) one))
