use Rattle.std.proofs.lemmas.Result.{on_ok_weaker}
use Rattle.krb_text.proofs.Parts.{before_parts, named_inside}
use Rattle.krb_text.proofs.inside.put_counted.Goals as goal

pub insert_number-requires : goal.insert_number-requires
insert_number-requires g c =
    let at = before_parts _ _ c.size-place.ensures.many c.size-place.ensures.text c.in_ok-count.ensures in
    record { place = at.0; before = at.1 }

pub returns : goal.returns
returns g c = on_ok_weaker c.insert_number.result (named_inside c.args.form _ (g.M.HasParts.parts c.args.message.now) c.requires.blanks c.in_ok-push_str.ensures c.size-place.ensures.many c.in_ok-count.ensures) c.insert_number.ensures
