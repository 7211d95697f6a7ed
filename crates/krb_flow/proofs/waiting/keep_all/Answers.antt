use Rattle.std.proofs.Common.{◌+◌, drop, ap, ◌∙◌, arith, length-drop}
use Rattle.std.proofs.lemmas.List.{take_rest}
use Rattle.krb_flow.specs.Waiting.{keep}
use Rattle.krb_flow.specs.inner.Runs.{waiting_in}
use Rattle.krb_flow.proofs.Runs.{kept_in_two}
use Rattle.krb_flow.proofs.waiting.keep_all.Goals as goal

pub loop-octets-preserved : goal.loop-octets-preserved
loop-octets-preserved c =
    let at = c.loop-octets in
    let seen = c.in_ok-first.first.seen in
    let some = c.in_ok-first.ensures in
    rw (take_rest at.octets.now seen) (record {
      kept = ap (keep (at.place + seen) (drop seen at.octets.now)) some.kept ∙ kept_in_two at.place seen at.octets.now (waiting_in at.runs.entries) ∙ at.invariant.kept;
      all = omega (arith, at.invariant.all, some.within, length-drop seen at.octets.now);
      few = omega (arith, at.invariant.few, some.few);
      counted = omega (arith, at.invariant.counted, some.count);
      apart = some.apart;
    })
