use Rattle.std.proofs.Common.{sym, ◌∙◌, arith}
use Rattle.krb_judge.proofs.Slices.{der_not_refused, no_item_refused}
use Rattle.krb_judge.specs.Parses.{refusal_by}
use Rattle.krb_msg.proofs.FieldViews.{match_map}
use Rattle.krb_msg.specs.Judgement.{term_judgement}
use Rattle.krb_items.proofs.Helds.{some-none}
use Rattle.krb_items.proofs.held.is_all_of.Goals as goal

pub returns : goal.returns
returns g c =
    let term = g.T.View.term in
    let octets = c.args.octets.now in
    c.is_some.ensures
    ∙ some-none c.view_whole.result (refusal_by (term_judgement term) octets)
    (match_map c.view_whole.result _ _ _ _ (no_item_refused term octets)
    (λ seen v. der_not_refused term octets c.requires.unambiguous (record { value = g.T.View.value seen; fits = v.0.fits; form = sym v.0.form }) (omega (arith, c.if-octets-gt-MOST.false)))
    c.view_whole.ensures)
