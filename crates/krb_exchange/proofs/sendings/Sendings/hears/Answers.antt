use Rattle.std.proofs.Common.{◌≡◌, None, sym, ◌∙◌, subst}
use Rattle.krb_exchange.specs.Happened.{segment_taken, told_of_syn}
use Rattle.krb_exchange.proofs.Syns.{not-heard, not-positive}
use Rattle.krb_exchange.proofs.sendings.Sendings.hears.Goals as goal

pub returns : goal.returns
returns c = λ none flow sent.
    let xs = c.self.inside.window.sendings.items in
    subst (λ window. segment_taken c.args.header flow sent window ≡ record { told = told_of_syn None None; window = window }) c.self.view_is
    (not-heard c.args.header flow sent xs (sym c.is_asking.ensures ∙ c.if-is_asking.false) (not-positive xs c.has_open_syn.result (c.has_open_syn.ensures c.self.invariant) none))
