use Rattle.std.proofs.Common.{◌≡◌, List, ℕ, take, drop, ◌∙◌, ap, arith, length-take}
use Rattle.krb_run.proofs.PieceReads.{given-first}
use Rattle.krb_run.proofs.piece.Piece.give.Goals as goal

pub returns-clause-given : goal.returns-clause-given
returns-clause-given c =
    let old = c.args.self.now in
    let copied : c.copy_from_slice.new.self ≡ take c.min-count.result (drop old.given (take old.filled old.room.items)) =
    c.copy_from_slice.ensures.after ∙ ap (λ n. take n (drop old.given (take old.filled c.deref.result.now))) (omega arith) ∙ ap (λ (l : List ℕ). take c.min-count.result (drop old.given (take old.filled l))) c.deref.ensures.value in
    given-first (take old.filled old.room.items) c.args.buffer.now c.copy_from_slice.new.self old.given c.min-count.result copied (omega (arith, c.copy_from_slice.ensures.len, length-take c.min-count.result c.args.buffer.now))
