use Rattle.std.proofs.Common.{◌≡◌, ◌++◌, length}
use Rattle.krb_record.specs.Forms.{cells_from}
use Rattle.krb_record.proofs.field.put_cells_of.Given as goal

-- the text so far, and the cells of the paths that are left
abbrev pub invariant-paths : goal.invariant-paths
invariant-paths g l = l.text ++ cells_from l.bits l.others (g.T.Shown.shown l.value) ≡ l.initial.text ++ cells_from l.initial.bits l.initial.others (g.T.Shown.shown l.value)

abbrev pub decreases-paths : goal.decreases-paths
decreases-paths g l = length l.others
