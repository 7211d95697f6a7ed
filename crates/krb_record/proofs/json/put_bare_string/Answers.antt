use Rattle.std.proofs.Common.{◌∙◌, append_assoc}
use Rattle.krb_record.proofs.JsonStrings.{ascii_bare, quoted_bare, quoted_object}
use Rattle.krb_record.proofs.json.put_bare_string.Goals as goal

pub push_between-requires : goal.push_between-requires
push_between-requires c = ascii_bare c.args.octets.now c.requires

pub returns : goal.returns
returns c = rw (quoted_object c.args.octets.now ∙ quoted_bare c.args.octets.now c.requires) (simp append_assoc at c.push_between.ensures)
