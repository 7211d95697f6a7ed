-- Texts that are lines in a form, put together.
use Rattle.std.proofs.Common.{◌≡◌, ℕ, List, [], ◌∷◌, ◌++◌, Option, refl, sym, ◌∙◌, ap₂, subst, append-nil}
use Rattle.std.proofs.lemmas.Grind.{flat_map-append}
use Rattle.std.specs.List.{AllByRecursion, flat_map}
use Rattle.krb_laws.specs.Json.{json_of}
use Rattle.krb_laws.specs.JsonLaws.{IsJson, PrintsJson}
use Rattle.krb_laws.proofs.JsonStrings.{all-append}
use Rattle.krb_record.specs.Forms.{record_line, record_text}
use Rattle.krb_record.specs.Labels.{Label, line_of, with_file_if, with_label}
use Rattle.krb_record.specs.Laws.{IsOneLine}
use Rattle.krb_record.specs.Text.{IsPrintable, line_feed}
use Rattle.krb_record.specs.Values.{Printed}
use Rattle.krb_record.specs.declared.form.Form.{Form}
use Rattle.krb_record.specs.declared.form.Form.TheVariants as forms
use Rattle.krb_tool_laws.specs.Listings.{AreLinesOf, IsLineOf, IsNamed}
use Rattle.krb_tool_laws.proofs.Labelled.{before, labelled_line}

object_in : (form : Form) → form ≡ forms.Json → (file : Option (List ℕ)) (r : Printed) → PrintsJson r → IsJson (record_text form (with_file_if form file r)) (json_of (with_file_if form file r))
object_in forms.Lines e file r json = absurd cc
object_in forms.NamedLines e file r json = absurd cc
object_in forms.Json e file r json = json file
object_in forms.KeptLines e file r json = absurd cc
object_in forms.KeptNamedLines e file r json = absurd cc
object_in forms.KeptJson e file r json = absurd cc
object_in (forms.Rows wanted) e file r json = absurd cc

module _ (form : Form) where
  pub no_lines : AreLinesOf form []
  no_lines = ([], tt, refl)

  pub and_lines : (one other : List ℕ) → AreLinesOf form one → AreLinesOf form other → AreLinesOf form (one ++ other)
  and_lines one other a b = (
    a.0 ++ b.0,
    all-append (IsLineOf form) a.0 b.0 a.1 b.1,
    ap₂ (λ x y. x ++ y) a.2 b.2 ∙ sym (flat_map-append (λ (line : List ℕ). line ++ line_feed) a.0 b.0),
  )

  pub each_line : {A : Type 0} (P : A → Type 0) (line : A → List ℕ) → ((a : A) → P a → AreLinesOf form (line a)) → (values : List A) → AllByRecursion P values → AreLinesOf form (flat_map line values)
  each_line P line one [] are = no_lines
  each_line P line one (a ∷ values) are = and_lines (line a) (flat_map line values) (one a are.0) (each_line P line one values are.1)

pub a_line : (label : Label) → IsNamed label → (r : Printed) → IsOneLine (record_line label.form r) → (label.form ≡ forms.Json → PrintsJson r) → AreLinesOf label.form (line_of label r)
a_line label named r alone json =
    let its : Printed = with_label label r in
    let one : IsOneLine (record_line label.form its) = labelled_line label r named alone in (
      record_text label.form its ∷ [],
      (
        record {
          printable = subst IsPrintable (sym (before line_feed (record_text label.form its) one.0 one.2)) one.1;
          json = λ is. (json_of its, object_in label.form is label.file r (json is));
        },
        tt,
      ),
      sym (append-nil (record_text label.form its ++ line_feed)),
    )
