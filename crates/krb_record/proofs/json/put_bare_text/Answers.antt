use Rattle.std.proofs.Common.{append_assoc}
use Rattle.krb_record.proofs.JsonStrings.{characters_plain}
use Rattle.krb_record.proofs.json.put_bare_text.Goals as goal

pub returns : goal.returns
returns c = rw (characters_plain c.args.text.now c.requires.plain) (simp append_assoc at c.push_between.ensures)
