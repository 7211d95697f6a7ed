use Rattle.std.proofs.Common.{OnOk, subst, ◌≡◌, codes, map, string_bytes}
use Rattle.krb_fields.specs.Fields.{field_of}
use Rattle.krb_fields.specs.Names.{field_names, within_text}
use Rattle.krb_fields.proofs.Once.{with_three}
use Rattle.krb_fields.proofs.all.put_shape.Goals as goal

pub returns : goal.returns
returns c =
    subst (λ texts. OnOk c.put_members-2.result (map string_bytes c.put_members-2.new.names.items ≡ texts))
    (with_three (map string_bytes c.args.names.now.items) (map string_bytes c.put_name.new.names.items) (map string_bytes c.put_members.new.names.items) (within_text c.args.within) (codes "kind")
    (field_names (map field_of c.args.shape.now.fields.now)) (field_names (map field_of c.args.shape.now.told.now)) c.in_ok-put_name.ensures c.in_ok-put_members.ensures)
    c.put_members-2.ensures
