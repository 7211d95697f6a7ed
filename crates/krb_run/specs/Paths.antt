-- The field at fault of a file, if there is one, by the item that it is in; before the items and in a capture it is in none.
use Rattle.std.specs.Prelude.{ℕ, List, Option}
use Rattle.std.specs.Option.{option_map}
use Rattle.krb_file.specs.Names.{path_text}
use Rattle.krb_file.specs.declared.field_name.FileField.{FileField}
use Rattle.krb_file.specs.declared.field_path.FileItem.{FileItem}
use Rattle.krb_file.specs.declared.field_path.FileItem.TheVariants as items

unfoldable pub file_path : FileItem → Option FileField → Option (List ℕ)
file_path item field = option_map (λ found. path_text (record { item = item; field = found })) field

abbrev pub field_path : Option FileField → Option (List ℕ)
field_path field = file_path items.File field
