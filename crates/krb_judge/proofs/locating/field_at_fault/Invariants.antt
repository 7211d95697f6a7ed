use Rattle.std.proofs.Common.{◌≡◌, ℕ, ◌≤◌, List, drop}
use Rattle.krb_msg.specs.Shape.{depth_of_fields}
use Rattle.krb_msg.specs.Nodes.{nodes}
use Rattle.krb_msg.specs.Table.{fields_from}
use Rattle.krb_judge.specs.Paths.{fields_path}
use Rattle.krb_judge.specs.inner.Descent.{IsPresent}
use Rattle.krb_judge.specs.declared.locating.names.Names.{Names}
use Rattle.krb_judge.proofs.locating.field_at_fault.Given as goal

-- the fields that are left
abbrev pub invariant-loop-index : goal.invariant-loop-index
invariant-loop-index l =
    IsPresent l.rest
    × (depth_of_fields (fields_from nodes (drop l.index l.slots)) ≤ depth_of_fields (fields_from nodes l.slots))
    × ((names : Names) (path : List ℕ) → fields_path (fields_from nodes l.slots) names path 0 l.contents.room l.contents.octets.now ≡ fields_path (fields_from nodes (drop l.index l.slots)) names path l.index l.rest.room l.rest.octets.now)
