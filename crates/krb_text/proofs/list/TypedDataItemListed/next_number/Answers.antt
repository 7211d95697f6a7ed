use Rattle.std.proofs.Common.{w64, FitsSigned, rules}
use Rattle.std.proofs.lemmas.Int.{to_z-of_z}
use Rattle.krb_padata.specs.Types.{typed_data_item_view_value}
use Rattle.krb_text.proofs.list.TypedDataItemListed.next_number.Goals as goal

pub returns-in-Some : goal.returns-in-Some
returns-in-Some c =
    let fits : FitsSigned w64 c.in-Some.item.data_type = search rules in
    record { value = typed_data_item_view_value c.in-Some.item; first = c.in-Some.ensures.0; same = to_z-of_z w64 c.in-Some.item.data_type fits }
