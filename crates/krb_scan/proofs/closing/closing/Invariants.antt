use Rattle.krb_scan.proofs.Containers.{Passes}
use Rattle.krb_scan.proofs.closing.closing.Given as goal

-- the containers passed so far are full
abbrev pub invariant-closing : goal.invariant-closing
invariant-closing l = Passes l.fn.inner l.fn.outer l.inner l.left l.place

abbrev pub decreases-closing : goal.decreases-closing
decreases-closing l = l.left
