use Rattle.std.proofs.Common.{◌≡◌, refl, suc, ◌-◌, sym, ◌∙◌, subst, arith}
use Rattle.krb_scan.proofs.Containers.{Passes, none_passed, stays_at, missing_at, more_passed, whole_at, known_expected}
use Rattle.krb_scan.proofs.closing.closing.Goals as goal

pub closing-init : goal.closing-init
closing-init c = none_passed c.args.inner c.args.outer.now _ c.args.place c.requires refl

pub requires_item-requires : goal.requires_item-requires
requires_item-requires c = known_expected c.closing.inner _ c.closing.invariant.some

pub returns-then-requires_item : goal.returns-then-requires_item
returns-then-requires_item c = λ stack marks containers.
    missing_at c.args.inner c.args.outer.now c.closing.inner c.closing.left c.args.place stack marks c.closing.invariant c.closing-test.true (sym c.requires_item.ensures ∙ c.if-requires_item.true) containers

pub returns-then-left-eq0 : goal.returns-then-left-eq0
returns-then-left-eq0 c = λ stack marks containers.
    whole_at c.args.inner c.args.outer.now c.closing.inner c.closing.left c.args.place stack marks c.closing.invariant c.closing-test.true (sym c.requires_item.ensures ∙ c.if-requires_item.false) c.if-left-eq0.true containers

pub closing-preserved : goal.closing-preserved
closing-preserved c =
    let next : suc (c.closing.left - 1) ≡ c.closing.left = omega (arith, c.if-left-eq0.false) in
    more_passed c.args.inner c.args.outer.now c.closing.inner (c.closing.left - 1) c.args.place _ (subst (λ left. Passes c.args.inner c.args.outer.now c.closing.inner left c.args.place) (sym next) c.closing.invariant) c.closing-test.true (sym c.requires_item.ensures ∙ c.if-requires_item.false)

pub returns : goal.returns
returns c = λ stack marks containers.
    stays_at c.args.inner c.args.outer.now c.closing.inner c.closing.left c.args.place stack marks c.closing.invariant (omega (arith, c.closing-test.false)) containers
