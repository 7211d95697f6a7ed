use Rattle.std.proofs.Common.{◌-◌, ◌≤◌}
use Rattle.std.specs.List.{flat_map}
use Rattle.krb_choice.specs.Choices.{below}
use Rattle.krb_choice.specs.Columns.{row_found}
use Rattle.krb_choice.specs.Read.{all_in}
use Rattle.krb_choosing.specs.inner.Chooser.{Moves}
use Rattle.krb_choosing.proofs.choosing.put_rows.Given as goal

-- the rows so far
abbrev pub invariant-rows : goal.invariant-rows
invariant-rows g l = record {
  few : l.row ≤ l.count;
  moved : Moves (g.W.Write.contents l.initial.writer) (g.W.Write.contents l.writer) l.initial.out.items l.out.items (flat_map (λ row. row_found row (all_in l.«record».found.items)) (below l.row));
}

abbrev pub decreases-rows : goal.decreases-rows
decreases-rows g l = l.count - l.row
