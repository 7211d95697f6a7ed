-- Numbers of registries as lists have them.
use Rattle.std.specs.Prelude.{ℕ, ℤ, true, List}
use Rattle.std.specs.Fmt.{signed_decimal}
use Rattle.krb_record.specs.declared.item.NumberForm.{NumberForm}
use Rattle.krb_record.specs.declared.item.NumberForm.TheVariants as form
use Rattle.krb_record.specs.Forms.{name_or_dash, name_string, number_text}

abbrev pub number_item : NumberForm → ℤ → List ℕ
number_item form.Line number = signed_decimal number
number_item (form.Named registry) number = number_text true registry number
number_item (form.Name registry) number = name_string registry number
number_item (form.NameInCell registry) number = name_or_dash registry number
