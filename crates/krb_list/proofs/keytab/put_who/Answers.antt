use Rattle.std.proofs.lemmas.Result.{on_ok_weaker}
use Rattle.krb_record.proofs.Appended.{two_fields}
use Rattle.krb_list.proofs.keytab.put_who.Goals as goal

pub returns : goal.returns
returns c =
    let first = rw (c.principal_of.ensures.name_type, c.principal_of.ensures.components, c.principal_of.ensures.realm) at c.in_ok-put_field.ensures in
    on_ok_weaker c.put_field-2.result (λ e. two_fields _ _ _ first (rw (c.name_type_of.ensures.registry, c.name_type_of.ensures.number) at e)) c.put_field-2.ensures
