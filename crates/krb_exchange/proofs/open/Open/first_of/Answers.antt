use Rattle.std.proofs.Common.{None, Some, sym, ◌∙◌, ap, subst}
use Rattle.std.specs.Ordering.{is_gt}
use Rattle.krb_exchange.specs.inner.Numbers.{IsFirst, IsFirstFrom, has, key_cmp, key_of}
use Rattle.krb_exchange.proofs.Keys.{first-none, first-past, first-some, le-not_gt, not_le-gt}
use Rattle.krb_exchange.proofs.open.Open.first_of.Goals as goal

pub returns-in_err-first : goal.returns-in_err-first
returns-in_err-first c =
    let kept = c.args.self.now in
    let first : IsFirstFrom (key_of c.args.flow c.args.request 0) kept None = subst (λ low. IsFirstFrom low kept None) c.new.ensures c.in_err-first.ensures in
    subst (λ number. IsFirst (has kept c.args.flow c.args.request) number) (sym c.from_residual.ensures) (first-none kept c.args.flow c.args.request first)

pub returns-then-is_le : goal.returns-then-is_le
returns-then-is_le c =
    let kept = c.args.self.now in
    let first : IsFirstFrom (key_of c.args.flow c.args.request 0) kept (Some c.in_ok-first.first) = subst (λ low. IsFirstFrom low kept (Some c.in_ok-first.first)) c.new.ensures c.in_ok-first.ensures in
    first-some kept c.args.flow c.args.request c.in_ok-first.first first (ap (λ high. is_gt (key_cmp c.in_ok-first.first high)) (sym c.new-high.ensures) ∙ ap is_gt (sym c.cmp.ensures) ∙ le-not_gt c.cmp.result (sym c.is_le.ensures ∙ c.if-is_le.true))

pub returns-else-is_le : goal.returns-else-is_le
returns-else-is_le c =
    let kept = c.args.self.now in
    let first : IsFirstFrom (key_of c.args.flow c.args.request 0) kept (Some c.in_ok-first.first) = subst (λ low. IsFirstFrom low kept (Some c.in_ok-first.first)) c.new.ensures c.in_ok-first.ensures in
    first-past kept c.args.flow c.args.request c.in_ok-first.first first (ap (λ high. is_gt (key_cmp c.in_ok-first.first high)) (sym c.new-high.ensures) ∙ ap is_gt (sym c.cmp.ensures) ∙ not_le-gt c.cmp.result (sym c.is_le.ensures ∙ c.if-is_le.false))
