use Rattle.std.proofs.Common.{◌≡◌, ◌≤◌, [], length, take, sym, ◌∙◌, subst, arith, length-take, length-drop}
use Rattle.std.specs.Io.KnownBytes.{Consumes, prepend_known}
use Rattle.std.proofs.KnownBytes.{Consumes-nil}
use Rattle.std.proofs.lemmas.List.{drop_all}
use Rattle.std.proofs.lemmas.Result.{err_from_is_err_and}
use Rattle.krb_run.specs.Begun.{octets_of}
use Rattle.krb_run.specs.declared.piece.Piece.{Piece}
use Rattle.krb_run.proofs.PieceReads.{empty-read, ends-at, none-left, nothing-before, reads-front}
use Rattle.krb_run.proofs.piece.Piece.read.Goals as goal

-- all were given
all-given : (piece : Piece) → piece.filled ≤ piece.given → octets_of piece ≡ []
all-given piece all = drop_all piece.given (take piece.filled piece.room.items) (omega (arith, all, length-take piece.filled piece.room.items))

pub returns-then-buffer-ge-PIECE_OCTETS-clause-bytes : goal.returns-then-buffer-ge-PIECE_OCTETS-clause-bytes
returns-then-buffer-ge-PIECE_OCTETS-clause-bytes g c =
    let none = all-given c.args.self.now (omega (arith, c.if-self.false)) in
    empty-read _ _ _ _ c.read.result c.read.new.buf none none c.read.ensures.bytes

pub returns-in_err-read_more-clause-bytes : goal.returns-in_err-read_more-clause-bytes
returns-in_err-read_more-clause-bytes g c =
    let none = all-given c.args.self.now (omega (arith, c.if-self.false)) in
    let p = err_from_is_err_and c.from_residual.result c.from_residual.ensures.1 in
    empty-read _ _ _ _ c.from_residual.result c.args.buffer.now none (c.in_err-read_more.ensures.same ∙ c.clear.ensures.none) (rw p.1 c.in_err-read_more.ensures.kept)

pub returns-clause-bytes : goal.returns-clause-bytes
returns-clause-bytes g c =
    let none = all-given c.args.self.now (omega (arith, c.if-self.false)) in
    let old = g.R.Read.remaining c.args.reader.now in
    let came : Consumes old (g.R.Read.remaining c.read_more.new.reader) (octets_of c.read_more.new.self) = c.in_ok-read_more.ensures.read old (subst (Consumes old old) (sym c.clear.ensures.none) (Consumes-nil old)) in
    let rest = octets_of c.give-2.new.self in
    let left = g.R.Read.remaining c.read_more.new.reader in
    let piece = c.read_more.new.self in (
      subst (λ had. Consumes had (prepend_known rest left) (take c.give-2.result c.give-2.new.buffer)) (sym (nothing-before (octets_of c.args.self.now) old none)) (reads-front old left (octets_of piece) (take c.give-2.result c.give-2.new.buffer) rest came c.give-2.ensures.given),
      λ zero room.
          let few : length (octets_of piece) ≡ 0 = omega (arith, zero, room, c.give-2.ensures.count) in
          let count : c.in_ok-read_more.field-0 ≡ 0 = omega (arith, few, length-drop piece.given (take piece.filled piece.room.items), length-take piece.filled piece.room.items, piece.inside, piece.room.ok.0, c.in_ok-read_more.ensures.given, c.in_ok-read_more.ensures.count, c.clear.ensures.filled) in
          ends-at rest left (none-left (octets_of piece) (take c.give-2.result c.give-2.new.buffer) rest c.give-2.ensures.given few)
          (c.in_ok-read_more.ensures.end count (omega (arith, c.clear.ensures.filled, c.clear.new.self.some_room))),
    )
