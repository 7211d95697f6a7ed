use Rattle.std.proofs.Common.{sym, ◌∙◌, ap}
use Rattle.std.specs.Ordering.{is_gt}
use Rattle.krb_exchange.proofs.Keys.{not_le-gt, past-high}
use Rattle.krb_exchange.proofs.open.Open.has_between.Goals as goal

pub returns-in-Some : goal.returns-in-Some
returns-in-Some c = λ none. past-high c.args.self.now c.args.low c.args.high c.in-Some.first c.in-Some.ensures (ap is_gt (sym c.cmp.ensures) ∙ not_le-gt c.cmp.result (sym c.is_le.ensures ∙ none))
