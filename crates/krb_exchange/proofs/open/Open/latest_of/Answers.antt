use Rattle.std.proofs.Common.{◌-◌, ◌^◌, None, Some, sym, ◌∙◌, ap, subst}
use Rattle.std.specs.Ordering.{is_gt}
use Rattle.krb_exchange.specs.inner.Numbers.{IsLastUpTo, IsLatest, has, key_cmp, key_of}
use Rattle.krb_exchange.proofs.Keys.{latest-none, latest-past, latest-some, le-not_gt, not_le-gt}
use Rattle.krb_exchange.proofs.open.Open.latest_of.Goals as goal

pub returns-in_err-last : goal.returns-in_err-last
returns-in_err-last c =
    let kept = c.args.self.now in
    let last : IsLastUpTo (key_of c.args.flow c.args.request (2 ^ 64 - 1)) kept None = subst (λ high. IsLastUpTo high kept None) c.new.ensures c.in_err-last.ensures in
    subst (λ number. IsLatest (has kept c.args.flow c.args.request) number) (sym c.from_residual.ensures) (latest-none kept c.args.flow c.args.request last)

pub returns-then-is_le : goal.returns-then-is_le
returns-then-is_le c =
    let kept = c.args.self.now in
    let last : IsLastUpTo (key_of c.args.flow c.args.request (2 ^ 64 - 1)) kept (Some c.in_ok-last.last) = subst (λ high. IsLastUpTo high kept (Some c.in_ok-last.last)) c.new.ensures c.in_ok-last.ensures in
    latest-some kept c.args.flow c.args.request c.in_ok-last.last last (ap (λ low. is_gt (key_cmp low c.in_ok-last.last)) (sym c.new-low.ensures) ∙ ap is_gt (sym c.cmp.ensures) ∙ le-not_gt c.cmp.result (sym c.is_le.ensures ∙ c.if-is_le.true))

pub returns-else-is_le : goal.returns-else-is_le
returns-else-is_le c =
    let kept = c.args.self.now in
    let last : IsLastUpTo (key_of c.args.flow c.args.request (2 ^ 64 - 1)) kept (Some c.in_ok-last.last) = subst (λ high. IsLastUpTo high kept (Some c.in_ok-last.last)) c.new.ensures c.in_ok-last.ensures in
    latest-past kept c.args.flow c.args.request c.in_ok-last.last last (ap (λ low. is_gt (key_cmp low c.in_ok-last.last)) (sym c.new-low.ensures) ∙ ap is_gt (sym c.cmp.ensures) ∙ not_le-gt c.cmp.result (sym c.is_le.ensures ∙ c.if-is_le.false))
