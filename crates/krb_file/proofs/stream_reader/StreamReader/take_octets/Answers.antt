use Rattle.std.proofs.Common.{◌<◌, [], length, ap, ◌∙◌, arith, length-append}
use Rattle.std.proofs.lemmas.Result.{err_from_is_err_and}
use Rattle.krb_file.specs.FieldReaders.{Cursor}
use Rattle.krb_file.proofs.FieldReaders.{Stays-then}
use Rattle.krb_file.proofs.Taken.{Takes-none, Takes-then, octets-fails, octets-read}
use Rattle.krb_file.proofs.stream_reader.StreamReader.take_octets.Goals as goal

pub pieces-preserved : goal.pieces-preserved
pieces-preserved g c =
    let now = rw c.as_slice.ensures.value at c.in_ok-extend_from_slice.ensures.items in
    let more = ap length now ∙ length-append c.pieces.octets.items c.take_piece-in-pieces.new.piece.items in
    let some : 0 < length c.pieces.octets.items = c.pieces.invariant.some (omega (arith, c.pieces-test.true, c.len.ensures)) in
    record {
      few = omega (arith, more, c.in_ok-take_piece-2.ensures.size);
      some = λ less. omega (arith, more, some);
      taken = rw now (Takes-then c.args.self.now c.pieces.self c.take_piece-in-pieces.new.self c.pieces.octets.items c.take_piece-in-pieces.new.piece.items c.pieces.invariant.taken c.in_ok-take_piece-2.ensures.taken);
      stays = Stays-then c.pieces.invariant.stays c.take_piece-in-pieces.ensures.stays;
    }

pub returns-in_err-take_piece-clause-read : goal.returns-in_err-take_piece-clause-read
returns-in_err-take_piece-clause-read g c =
    let p = err_from_is_err_and c.from_residual.result c.from_residual.ensures.1 in
    let e = c.in_err-take_piece.field-0.0 in
    let begins = ap (λ (h : Cursor). h.place) c.self.view_is in
    rw (p.1, p.2)
    (octets-fails e c.args.size _ _ [] c.args.self.now c.args.self.now c.take_piece.new.self begins c.requires.inside c.requires.under (Takes-none c.args.self.now) (omega arith) c.in_err-take_piece.ensures.fault)

pub returns-in_err-take_piece-2-clause-read : goal.returns-in_err-take_piece-2-clause-read
returns-in_err-take_piece-2-clause-read g c =
    let p = err_from_is_err_and c.from_residual-in_err-take_piece-2.result c.from_residual-in_err-take_piece-2.ensures.1 in
    let e = c.in_err-take_piece-2.field-0.0 in
    let begins = ap (λ (h : Cursor). h.place) c.self.view_is in
    rw (p.1, p.2)
    (octets-fails e c.args.size _ _ c.pieces.octets.items c.args.self.now c.pieces.self c.take_piece-in-pieces.new.self begins c.requires.inside c.requires.under c.pieces.invariant.taken (omega arith) c.in_err-take_piece-2.ensures.fault)

pub returns-clause-read : goal.returns-clause-read
returns-clause-read g c =
    octets-read c.args.size c.pieces.octets.items c.args.self.now c.pieces.self c.requires.inside c.requires.under c.pieces.invariant.taken (omega arith)
