use Rattle.std.proofs.Common.{◌≡◌, ◌≤◌, take}
use Rattle.krb_flow.specs.Copies.{summary}
use Rattle.krb_flow.specs.inner.Unequal.{unequal}
use Rattle.krb_flow.proofs.copies.compare.Given as goal

abbrev pub invariant-loop-i : goal.invariant-loop-i
invariant-loop-i l = record {
  places : l.differing ≡ summary (unequal l.fn.place (take l.i l.fn.octets) (take l.i l.fn.others));
  few : l.differing.count ≤ l.i;
}
