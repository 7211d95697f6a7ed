use Rattle.std.proofs.Common.{◌≡◌, ◌≤◌, ◌-◌, ℕ, List, length, take, drop, sym, ◌∙◌, ap, subst, arith}
use Rattle.std.specs.Io.KnownBytes.{Consumes}
use Rattle.std.proofs.KnownBytes.{Consumes-trans}
use Rattle.std.proofs.lemmas.List.{with_items_is}
use Rattle.krb_run.proofs.PieceReads.{filled-length, reads-after}
use Rattle.krb_run.proofs.piece.Piece.read_more.Goals as goal

pub returns-clause-read : goal.returns-clause-read
returns-clause-read g c = λ had before.
    let old = c.args.self.now in
    let count = c.in_ok-count.count in
    let room = c.as_mut_slice.result.now in
    let inside : old.filled ≤ length room = omega (arith, old.inside, c.as_mut_slice.ensures.len) in
    let size : length c.read.new.buf ≡ length room - old.filled = omega arith in
    let all = with_items_is old.room _ (filled-length room c.read.new.buf old.filled inside size ∙ c.as_mut_slice.ensures.len) in
    let none : old.given ≡ 0 = c.requires in
    let was : drop old.given (take old.filled old.room.items) ≡ take old.filled room = ap (λ n. drop n (take old.filled old.room.items)) none ∙ ap (λ (l : List ℕ). take old.filled l) (sym c.as_mut_slice.ensures.value) in
    subst (Consumes had (g.R.Read.remaining c.read.new.self)) (sym (reads-after _ room c.read.new.buf old.given old.filled count none all inside (omega arith)))
    (Consumes-trans had _ _ (take old.filled room) (take count c.read.new.buf) (subst (Consumes had (g.R.Read.remaining c.args.reader.now)) was before) c.in_ok-count.ensures.bytes.0)
