use Rattle.std.proofs.Common.{◌≡◌, ℕ, ◌+◌, ◌≤◌, List, [], drop, length, refl, sym, ap, subst, ◌∙◌, arith, length-drop}
use Rattle.std.proofs.lemmas.Bool.Decides.{nat_tests}
use Rattle.std.proofs.lemmas.List.{nil_from_length, take_rest}
use Rattle.krb_flow.specs.Copies.{differing, differs_waiting}
use Rattle.krb_flow.specs.declared.copies.Differing.{Differing}
use Rattle.krb_flow.specs.inner.Runs.{waiting_in}
use Rattle.krb_flow.proofs.Differences.{DiffersSoFar, differs_all, differs_more}
use Rattle.krb_flow.proofs.waiting.differing_in.Goals as goal

pub loop-octets-init : goal.loop-octets-init
loop-octets-init c = record {
  places = record { done = []; is = c.none-all.ensures; parts = refl };
  whole = refl;
  few = omega (arith, ap (λ (d : Differing). d.count) c.none-all.ensures);
}

pub loop-octets-preserved : goal.loop-octets-preserved
loop-octets-preserved c =
    let at = c.loop-octets in
    let first = c.differing_first-first in
    let seen = first.result.seen in
    rw (take_rest at.octets.now seen) (record {
      places = differs_more (differs_waiting (waiting_in c.args.runs.now.entries)) at.place seen at.octets.now _ at.all first.result.differing c.and-all.result first.ensures.within at.invariant.places first.ensures.differing c.and-all.ensures.places;
      whole = omega (arith, at.invariant.whole, first.ensures.within, length-drop seen at.octets.now);
      few = omega (arith, at.invariant.few, first.ensures.few, first.ensures.within, c.and-all.ensures.count, length-drop seen at.octets.now);
    })

pub returns-clause-differing : goal.returns-clause-differing
returns-clause-differing c =
    let at = c.loop-octets in
    let few : length at.octets.now ≡ 0 = grind (arith, nat_tests, c.is_empty.ensures) in
    let none : at.octets.now ≡ [] = nil_from_length at.octets.now few in
    differs_all at.all _ (subst (λ (l : List ℕ). DiffersSoFar at.all (differing (differs_waiting (waiting_in c.args.runs.now.entries)) c.args.place c.args.octets.now) (differing (differs_waiting (waiting_in c.args.runs.now.entries)) at.place l)) none at.invariant.places)
