-- The form of a choice that keeps records whole.
use Rattle.std.proofs.Common.{◌≡◌, ◌∙◌, ℕ, List, ap, refl, sym, true}
use Rattle.krb_record.specs.declared.form.Base.{Base}
use Rattle.krb_record.specs.declared.form.Base.TheVariants.{Json, Lines, NamedLines}
use Rattle.krb_record.specs.declared.form.Form.{Form}
use Rattle.krb_record.specs.Forms.{kept_form}
use Rattle.krb_choice.specs.Choices.{Column}
use Rattle.krb_choice.specs.Shown.{print_of}
use Rattle.krb_choice.specs.Wanted.{choice_form, print_form}

by_base : (base : Base) → (kinds : List (List ℕ)) → (columns : List Column) → kept_form base ≡ print_form true kinds (print_of (kept_form base) columns)
by_base Lines kinds columns = refl
by_base NamedLines kinds columns = refl
by_base Json kinds columns = refl

pub kept_is : (form : Form) → (base : Base) → (kinds : List (List ℕ)) → (columns : List Column) → form ≡ kept_form base
    → form ≡ choice_form (record { by_kind = true; kinds = kinds; print = print_of form columns })
unfolding choice_form
kept_is form base kinds columns is = is ∙ by_base base kinds columns ∙ ap (λ f. print_form true kinds (print_of f columns)) (sym is)
