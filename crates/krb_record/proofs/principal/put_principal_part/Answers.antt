use Rattle.std.proofs.Common.{◌≡◌, ◌++◌, OnOk, subst, sym}
use Rattle.krb_record.proofs.JsonStrings.{principal_part}
use Rattle.krb_record.proofs.principal.put_principal_part.Goals as goal

pub returns : goal.returns
returns g c =
    subst
    (λ text. OnOk c.put_text_parts.result (c.put_text_parts.new.object ≡ c.args.object.now ++ text))
    (sym (principal_part (g.C.Components.components c.args.components.now) c.args.realm.now))
    c.put_text_parts.ensures
