use Rattle.std.proofs.lemmas.Result.{on_ok_weaker}
use Rattle.krb_record.proofs.Appended.{two_fields}
use Rattle.krb_list.proofs.credential.put_counts.Goals as goal

pub returns : goal.returns
returns c =
    let first = rw c.address_count.ensures at c.in_ok-put_field.ensures in
    on_ok_weaker c.put_field-2.result (λ e. two_fields _ _ _ first (rw c.authdata_count.ensures at e)) c.put_field-2.ensures
