-- What a column shows, as the code has it.
use Rattle.std.specs.Prelude.{List, map}
use Rattle.krb_record.specs.declared.form.Base.TheVariants as bases
use Rattle.krb_record.specs.declared.form.Form.{Form}
use Rattle.krb_record.specs.declared.form.Form.TheVariants as forms
use Rattle.krb_choice.specs.declared.column.Shows.{Shows as ShowsByCode}
use Rattle.krb_choice.specs.declared.column.Shows.TheVariants as by_code
use Rattle.krb_choice.specs.Choices.{Column, Inside, Kind, Member, Print, Rows, Shows, Whole}

abbrev pub shows_of : ShowsByCode → Shows
shows_of by_code.Kind = Kind
shows_of by_code.Inside = Inside
shows_of (by_code.Field name path) = Member name.now path

abbrev pub print_of : Form → List Column → Print
print_of forms.Lines columns = Whole bases.Lines
print_of forms.NamedLines columns = Whole bases.NamedLines
print_of forms.Json columns = Whole bases.Json
print_of forms.KeptLines columns = Whole bases.Lines
print_of forms.KeptNamedLines columns = Whole bases.NamedLines
print_of forms.KeptJson columns = Whole bases.Json
print_of (forms.Rows wanted) columns = Rows columns
