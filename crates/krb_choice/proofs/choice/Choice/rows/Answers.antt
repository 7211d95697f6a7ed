use Rattle.std.proofs.Common.{◌∙◌, ap, ap₂, false, map}
use Rattle.krb_record.specs.declared.form.Form.TheVariants as forms
use Rattle.krb_choice.specs.Wanted.{choice_form, wanted_by}
use Rattle.krb_choice.proofs.choice.Choice.rows.Goals as goal

pub invariant_of-result : goal.invariant_of-result
unfolding choice_form
invariant_of-result c =
    ap forms.Rows (c.wanted_of.ensures ∙ ap₂ (λ kinds columns. wanted_by false (map (λ kind. kind.now) kinds) columns) c.as_slice.ensures.value c.as_slice-2.ensures.value)
