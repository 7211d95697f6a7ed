use Rattle.std.proofs.Common.{◌≡◌, length, sym, ap, ◌∙◌}
use Rattle.krb_flow.specs.Copies.{summary}
use Rattle.krb_flow.specs.Waiting.{Waiting}
use Rattle.krb_flow.proofs.Founds.{differing_nothing}
use Rattle.krb_flow.proofs.waiting.Runs.differing.Goals as goal

pub returns-then-self-eq0-clause-differing : goal.returns-then-self-eq0-clause-differing
returns-then-self-eq0-clause-differing c =
    let none : length c.args.self.now ≡ 0 = sym (ap (λ (w : Waiting). length w) c.self.view_is) ∙ sym c.self.invariant.1 ∙ c.if-self-eq0.true in
    c.none.ensures ∙ ap summary (sym (differing_nothing c.args.self.now c.args.place c.args.octets.now none))
