use Rattle.krb_text.proofs.Judged.{judged_view, match_as, not_judged}
use Rattle.krb_text.proofs.part.view_judged.Goals as goal

pub returns : goal.returns
returns g c =
    match_as c.view_whole.result
    (λ none. not_judged g.T.View.term c.args.octets.now none)
    (λ seen is. (judged_view g.T.View.term c.args.octets.now _ c.requires.tags c.requires.short is.0, is.1))
    c.view_whole.ensures
