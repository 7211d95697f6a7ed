use Rattle.std.proofs.Common.{arith, sym}
use Rattle.krb_msg.proofs.FieldViews.{match_map}
use Rattle.krb_judge.proofs.Slices.{no_item_refused, der_not_refused}
use Rattle.krb_judge.proofs.reading.viewed_item.Goals as goal

pub returns : goal.returns
returns g c =
    let term = g.T.View.term in
    let octets = c.args.octets.now in
    match_map c.view_whole.result _ _ _ _ (no_item_refused term octets)
    (λ seen v. (v.0, v.1, der_not_refused term octets c.requires.unambiguous (record { value = g.T.View.value seen; fits = v.0.fits; form = sym v.0.form }) (omega (arith, c.if-octets-gt-MOST.false))))
    c.view_whole.ensures
