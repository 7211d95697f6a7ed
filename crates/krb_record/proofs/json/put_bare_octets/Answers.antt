use Rattle.std.proofs.Common.{◌∙◌, append_assoc}
use Rattle.krb_record.specs.declared.json.Escape.TheVariants as escapes
use Rattle.krb_record.proofs.JsonStrings.{quoted_object, quoted_plain}
use Rattle.krb_record.proofs.json.put_bare_octets.Goals as goal

pub returns : goal.returns
returns c = rw (quoted_object c.args.octets.now ∙ quoted_plain escapes.Object c.args.octets.now c.requires) (simp append_assoc at c.push_between.ensures)
