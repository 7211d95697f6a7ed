use Rattle.std.proofs.Common.{◌∙◌, w64, FitsSigned, rules}
use Rattle.std.proofs.lemmas.Int.{to_z-of_z}
use Rattle.krb_der.specs.inner.Numbers.{AreOctets-slice}
use Rattle.krb_msg.proofs.FieldViews.{one_octet_number}
use Rattle.krb_msg.proofs.view.number.short_number.Goals as goal

pub returns-in-len1 : goal.returns-in-len1
returns-in-len1 c =
    let fits : FitsSigned w64 c.from.result = search rules in
    one_octet_number c.args.contents.now _ (AreOctets-slice c.args.contents.now c.type_inv.contents) c.in-len1.len_at_least c.in-len1.len_below c.if-octet-lt128.true (to_z-of_z w64 c.from.result fits ∙ c.from.ensures)
