use Rattle.std.proofs.Common.{ap, sym, w64, ◌∙◌}
use Rattle.std.proofs.lemmas.Int.{to_z-of_z}
use Rattle.std.specs.Option.{option_copied}
use Rattle.krb_record.proofs.Names.{name_in_json}
use Rattle.krb_record.proofs.item.put_name_string.Goals as goal

pub put_plain_string-requires : goal.put_plain_string-requires
put_plain_string-requires c =
    let found = rw (to_z-of_z w64 c.args.number c.ranges.number) at c.name_of.ensures in
    name_in_json c.args.registry c.args.number c.in-Some.name.now (sym found ∙ ap option_copied c.in-Some.is)
