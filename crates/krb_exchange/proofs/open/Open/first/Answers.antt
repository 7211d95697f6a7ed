use Rattle.std.proofs.Common.{None, Some, sym, ◌∙◌, ap, subst}
use Rattle.std.specs.Ordering.{is_gt}
use Rattle.krb_record.specs.declared.told.Request.TheVariants as requests
use Rattle.krb_exchange.specs.inner.Numbers.{IsFirst, IsFirstFrom, has_any, key_cmp, key_of}
use Rattle.krb_exchange.proofs.Keys.{first-of_one, le-not_gt, no-flow, none-of_any, not_le-gt, past-flow}
use Rattle.krb_exchange.proofs.open.Open.first.Goals as goal

pub returns-in_err-first : goal.returns-in_err-first
returns-in_err-first c =
    let kept = c.args.self.now in
    let first : IsFirstFrom (key_of c.args.flow requests.AsReq 0) kept None = subst (λ low. IsFirstFrom low kept None) c.new.ensures c.in_err-first.ensures in
    subst (λ number. IsFirst (has_any kept c.args.flow) number) (sym c.from_residual.ensures) (none-of_any kept c.args.flow (λ kind n l. no-flow kept c.args.flow first kind n))

pub returns-then-not-is_le : goal.returns-then-not-is_le
returns-then-not-is_le c =
    let kept = c.args.self.now in
    let first : IsFirstFrom (key_of c.args.flow requests.AsReq 0) kept (Some c.in_ok-first.first) = subst (λ low. IsFirstFrom low kept (Some c.in_ok-first.first)) c.new.ensures c.in_ok-first.ensures in
    none-of_any kept c.args.flow (past-flow kept c.args.flow c.in_ok-first.first first (ap (λ high. is_gt (key_cmp c.in_ok-first.first high)) (sym c.new-high.ensures) ∙ ap is_gt (sym c.cmp.ensures) ∙ not_le-gt c.cmp.result (sym c.is_le.ensures ∙ c.if-not-is_le.true)))

pub returns-then-not-has_between : goal.returns-then-not-has_between
returns-then-not-has_between c =
    let kept = c.args.self.now in
    let first : IsFirstFrom (key_of c.args.flow requests.AsReq 0) kept (Some c.in_ok-first.first) = subst (λ low. IsFirstFrom low kept (Some c.in_ok-first.first)) c.new.ensures c.in_ok-first.ensures in
    first-of_one kept c.args.flow c.in_ok-first.first first
    (ap (λ last. is_gt (key_cmp c.in_ok-first.first last)) (sym c.new-last.ensures) ∙ ap is_gt (sym c.cmp-2.ensures) ∙ le-not_gt c.cmp-2.result (sym c.is_le-2.ensures ∙ c.if-is_le.true))
    (λ key l h. c.has_between.ensures c.if-not-has_between.true key (ap (λ last. is_gt (key_cmp last key)) c.new-last.ensures ∙ l) (ap (λ high. is_gt (key_cmp key high)) c.new-high.ensures ∙ h))
