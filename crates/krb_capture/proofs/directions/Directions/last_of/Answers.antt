use Rattle.std.proofs.Common.{◌≡◌, true, Some, IfSome, sym, ◌∙◌, subst}
use Rattle.std.specs.Ordering.{eq_by_cmp}
use Rattle.krb_capture.specs.Directions.{flow_cmp}
use Rattle.krb_capture.specs.contracts.flow.FlowOrd.TheImpl.Laws as flow_laws
use Rattle.krb_capture.proofs.directions.Directions.last_of.Goals as goal

pub returns-in-Some-clause-last : goal.returns-in-Some-clause-last
returns-in-Some-clause-last c =
    subst (λ o. IfSome o (λ last. (c.args.self.now.last ≡ Some last) × (eq_by_cmp flow_cmp last.flow c.args.flow.now ≡ true))) (sym (c.take.ensures.value ∙ c.in-Some.is))
    (c.in-Some.is, sym (flow_laws.matches_eq-law c.in-Some.last.flow c.args.flow.now) ∙ sym c.eq.ensures ∙ c.if-eq.true)
