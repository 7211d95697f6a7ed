use Rattle.std.proofs.Common.{◌≡◌, ◌-◌, length, drop, map}
use Rattle.krb_msg.specs.Nodes.{term_at}
use Rattle.krb_scan.specs.Scan.{OneOf}
use Rattle.krb_scan.specs.inner.Machine.{pick}
use Rattle.krb_scan.proofs.expected.pick_one_of.Given as goal

-- the terms passed so far have other tags
abbrev pub invariant-nodes : goal.invariant-nodes
invariant-nodes l = pick l.octet (OneOf (map term_at l.chosen)) ≡ pick l.octet (OneOf (map term_at (drop l.at l.chosen)))

abbrev pub decreases-nodes : goal.decreases-nodes
decreases-nodes l = length l.chosen - l.at
