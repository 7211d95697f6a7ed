use Rattle.std.proofs.Common.{◌+◌, ◌≤◌, take, length, refl, sym, ap, subst, ◌∙◌, arith, add-one}
use Rattle.krb_flow.specs.Copies.{summary}
use Rattle.krb_flow.specs.inner.Unequal.{unequal}
use Rattle.krb_flow.proofs.Differences.{unequal_more, unequal_same}
use Rattle.krb_flow.proofs.copies.compare.Goals as goal

pub returns-then-eq-clause-places : goal.returns-then-eq-clause-places
returns-then-eq-clause-places c = c.none-differing.ensures ∙ ap summary (sym (unequal_same c.args.place c.args.octets.now c.args.others.now (sym c.eq.ensures ∙ c.if-eq.true)))

pub loop-i-preserved : goal.loop-i-preserved
loop-i-preserved c =
    let at = c.loop-i in
    rw add-one (record {
      places = c.with-differing.ensures.places (unequal c.args.place (take at.i c.args.octets.now) (take at.i c.args.others.now)) at.invariant.places ∙ ap summary (sym (unequal_more c.args.place at.i c.args.octets.now c.args.others.now (omega arith) (omega arith)));
      few = omega (arith, c.with-differing.ensures.few, at.invariant.few);
    })
