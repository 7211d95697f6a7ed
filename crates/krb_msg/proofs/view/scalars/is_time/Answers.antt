use Rattle.std.proofs.Common.{◌≡◌, length, sym, ap, ◌∙◌, subst, arith, rules, length-drop}
use Rattle.std.proofs.lemmas.List.{take_all}
use Rattle.krb_der.specs.Scalars.{IsTimeFrom}
use Rattle.krb_msg.proofs.view.scalars.is_time.Goals as goal

pub returns : goal.returns
returns c =
    let none : length c.in-Some.rest.now ≡ 0 = search rules in
    let all : c.in-Some.time.now ≡ c.args.octets.now = c.in-Some.ensures.cases.0 ∙ take_all 15 c.args.octets.now (omega (arith, none, ap length c.in-Some.ensures.cases.1, length-drop 15 c.args.octets.now)) in (
      λ e. subst (IsTimeFrom 14) all (c.new.ensures.shape.0 (sym c.is_some.ensures ∙ e)),
      λ t. c.is_some.ensures ∙ c.new.ensures.shape.1 (subst (IsTimeFrom 14) (sym all) t),
    )
