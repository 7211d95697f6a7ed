use Rattle.std.proofs.Common.{◌≡◌, ◌+◌, ◌≤◌, length}
use Rattle.krb_flow.specs.Copies.{differing, differs_waiting}
use Rattle.krb_flow.specs.inner.Runs.{waiting_in}
use Rattle.krb_flow.proofs.Differences.{DiffersSoFar}
use Rattle.krb_flow.proofs.waiting.differing_in.Given as goal

abbrev pub invariant-loop-octets : goal.invariant-loop-octets
invariant-loop-octets l = record {
  places : DiffersSoFar l.all (differing (differs_waiting (waiting_in l.fn.runs.entries)) l.fn.place l.fn.octets) (differing (differs_waiting (waiting_in l.fn.runs.entries)) l.place l.octets);
  whole : l.place + length l.octets ≡ l.fn.place + length l.fn.octets;
  few : l.all.count + length l.octets ≤ length l.fn.octets;
}

abbrev pub decreases-loop-octets : goal.decreases-loop-octets
decreases-loop-octets l = length l.octets
