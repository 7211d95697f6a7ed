use Rattle.krb_text.proofs.Parts.{kinds_inside}
use Rattle.krb_text.proofs.inside.put_kinds.Goals as goal

pub returns : goal.returns
returns g c = kinds_inside c.args.text.now (g.M.HasParts.parts c.args.message.now) c.in_ok-put_parts.ensures
