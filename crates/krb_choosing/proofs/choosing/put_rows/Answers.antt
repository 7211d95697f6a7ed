use Rattle.std.proofs.Common.{◌≡◌, ℕ, List, ◌++◌, subst, arith}
use Rattle.std.specs.List.{flat_map}
use Rattle.krb_choice.specs.Choices.{below}
use Rattle.krb_choice.specs.Columns.{row_found}
use Rattle.krb_choice.specs.Read.{all_in}
use Rattle.krb_choosing.specs.inner.Chooser.{Begins, Moves}
use Rattle.krb_choosing.proofs.Listings.{rows-failed, rows-next}
use Rattle.krb_choosing.proofs.Writes.{on-err}
use Rattle.krb_choosing.proofs.choosing.put_rows.Goals as goal

pub returns-in_err-put_row-clause-first : goal.returns-in_err-put_row-clause-first
returns-in_err-put_row-clause-first g c =
    let f : ℕ → List ℕ = λ row. row_found row (all_in c.args.«record».now.found.items) in
    let b = g.W.Write.contents c.args.writer.now in let a = g.W.Write.contents c.put_row.new.writer in
    on-err c.from_residual.result
    (subst (λ (n : ℕ). Begins b a (c.args.out.now.items ++ flat_map f (below n))) c.count_rows-count.ensures
    (rows-failed f b (g.W.Write.contents c.rows.writer) a c.args.out.now.items c.rows.out.items c.rows.row c.count_rows-count.result c.rows-test.true c.rows.invariant.moved c.in_err-put_row.ensures.first))

pub rows-preserved : goal.rows-preserved
rows-preserved g c = record {
  few = omega (arith, c.rows-test.true);
  moved = rows-next (λ row. row_found row (all_in c.args.«record».now.found.items)) (g.W.Write.contents c.args.writer.now) (g.W.Write.contents c.rows.writer) (g.W.Write.contents c.put_row.new.writer) c.args.out.now.items c.rows.out.items c.put_row.new.out.items c.rows.row c.rows.invariant.moved c.in_ok-put_row.ensures.moved;
}

pub returns-clause-moved : goal.returns-clause-moved
returns-clause-moved g c =
    let f : ℕ → List ℕ = λ row. row_found row (all_in c.args.«record».now.found.items) in
    let M : ℕ → Type 0 = λ n. Moves (g.W.Write.contents c.args.writer.now) (g.W.Write.contents c.rows.writer) c.args.out.now.items c.rows.out.items (flat_map f (below n)) in
    let same : c.rows.row ≡ c.count_rows-count.result = omega (arith, c.rows.invariant.few, c.rows-test.false) in
    subst M c.count_rows-count.ensures (subst M same c.rows.invariant.moved)
