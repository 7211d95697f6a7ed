use Rattle.std.proofs.Common.{ap, w64, ◌∙◌}
use Rattle.std.proofs.lemmas.Int.{to_z-of_z}
use Rattle.std.specs.Option.{option_copied}
use Rattle.krb_registry.specs.Rows.{name_of}
use Rattle.krb_registry.proofs.Lookups.{name_found}
use Rattle.krb_registry.proofs.Orders.{listed_in_order}
use Rattle.krb_registry.proofs.lookup.name_of.Goals as goal

pub row_of-requires : goal.row_of-requires
row_of-requires c = listed_in_order c.args.registry c.rows.result.now c.rows.ensures

pub returns : goal.returns
unfolding name_of
returns c = name_found c.rows.result.now c.args.number c.in_ok-row.was c.rows.ensures (rw (to_z-of_z w64 c.args.number c.ranges.number) at c.row_of.ensures)

pub returns-in_err-row : goal.returns-in_err-row
unfolding name_of
returns-in_err-row c =
    ap option_copied c.from_residual.ensures
    ∙ name_found c.rows.result.now c.args.number c.in_err-row.was c.rows.ensures (rw (to_z-of_z w64 c.args.number c.ranges.number) at c.row_of.ensures)
