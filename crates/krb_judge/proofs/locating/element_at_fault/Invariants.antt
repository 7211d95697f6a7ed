use Rattle.std.proofs.Common.{◌≡◌, ℕ, ◌+◌, ◌-◌, ◌≤◌, List, length}
use Rattle.krb_msg.specs.Nodes.{term_at}
use Rattle.krb_judge.specs.Paths.{elements_path}
use Rattle.krb_judge.specs.inner.Descent.{IsPresent}
use Rattle.krb_judge.proofs.locating.element_at_fault.Given as goal

-- the items that are left
abbrev pub invariant-loop-rest : goal.invariant-loop-rest
invariant-loop-rest l =
    IsPresent l.rest
    × (l.index + length l.rest.octets.now ≤ length l.contents.octets.now)
    × ((path : List ℕ) (inside : List ℕ → ℕ → List ℕ → List ℕ) →
    elements_path inside (term_at l.node) path (length l.contents.octets.now) 0 l.contents.room l.contents.octets.now
    ≡ elements_path inside (term_at l.node) path (length l.contents.octets.now - l.index) l.index l.rest.room l.rest.octets.now)

abbrev pub decreases-loop-rest : goal.decreases-loop-rest
decreases-loop-rest l = length l.rest.octets.now
