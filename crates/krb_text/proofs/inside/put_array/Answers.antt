use Rattle.std.proofs.lemmas.Result.{on_ok_weaker}
use Rattle.krb_text.proofs.Parts.{object_inside}
use Rattle.krb_text.proofs.inside.put_array.Goals as goal

pub returns : goal.returns
returns g c = on_ok_weaker c.push_str-2.result (object_inside c.args.form _ (g.M.HasParts.parts c.args.message.now) c.requires.commas c.in_ok-push_str.ensures c.in_ok-put_parts.ensures) c.push_str-2.ensures
