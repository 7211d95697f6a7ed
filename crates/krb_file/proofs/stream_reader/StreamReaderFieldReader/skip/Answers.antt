use Rattle.std.proofs.Common.{ap, arith, length-take}
use Rattle.std.proofs.lemmas.Result.{err_from_is_err_and}
use Rattle.krb_file.specs.FieldReaders.{Cursor}
use Rattle.krb_file.proofs.FieldReaders.{Stays-then}
use Rattle.krb_file.proofs.Taken.{Passes-more, skip-read, skip-refused, skip-fails}
use Rattle.krb_file.proofs.stream_reader.StreamReaderFieldReader.skip.Goals as goal

pub pieces-preserved : goal.pieces-preserved
pieces-preserved g c = record {
  passes = Passes-more c.args.self.now c.pieces.self c.take_all.new.self c.pieces.zeros c.are_zero-more.result c.pieces.left c.min-count.result c.args.size c.take_all.new.octets c.pieces.invariant.passes c.in_ok-take_all.ensures.taken (omega (arith, c.take_all.auto.octets, c.min-count.ensures, length-take c.min-count.result c.pieces.buffer, c.min-count.array_long)) (omega (arith, c.min-count.ensures)) c.are_zero-more.ensures;
  stays = Stays-then c.pieces.invariant.stays c.take_all.ensures.stays;
}

pub returns-clause-read : goal.returns-clause-read
returns-clause-read g c =
    skip-read c.args.size c.pieces.left c.pieces.zeros c.args.self.now c.pieces.self c.in_ok-check.ensures.inside c.pieces.invariant.passes (omega arith)

pub returns-in_err-check-clause-read : goal.returns-in_err-check-clause-read
returns-in_err-check-clause-read g c =
    let p = err_from_is_err_and c.from_residual.result c.from_residual.ensures.1 in
    rw (p.1, p.2) (skip-refused c.in_err-check.field-0.0 c.args.size c.args.self.now c.in_err-check.ensures.fault)

pub returns-in_err-take_all-clause-read : goal.returns-in_err-take_all-clause-read
returns-in_err-take_all-clause-read g c =
    let p = err_from_is_err_and c.from_residual-in_err-take_all.result c.from_residual-in_err-take_all.ensures.1 in
    let begins = ap (λ (h : Cursor). h.place) c.self.view_is in
    rw (p.1, p.2)
    (skip-fails c.in_err-take_all.field-0.0 c.args.size _ _ c.pieces.left c.pieces.zeros c.args.self.now c.pieces.self c.take_all.new.self begins c.in_ok-check.ensures.inside c.pieces.invariant.passes (omega (arith, c.min-count.ensures, length-take c.min-count.result c.pieces.buffer, c.min-count.array_long)) c.in_err-take_all.ensures.fault)
