use Rattle.std.proofs.Common.{rules}
use Rattle.krb_record.proofs.Cells.{no_cells}
use Rattle.krb_record.proofs.field.put_cells_of.Goals as goal

pub returns-then-bits-eq0 : goal.returns-then-bits-eq0
returns-then-bits-eq0 g c =
    let none = no_cells c.paths.others.now (g.T.Shown.shown c.args.value.now) in
    let held = c.paths.invariant in
    grind (c.if-bits-eq0.true, none, held, rules)
