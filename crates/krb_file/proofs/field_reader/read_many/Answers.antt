use Rattle.std.proofs.lemmas.Result.{err_from_is_err_and}
use Rattle.krb_file.proofs.FieldReaders.{Keeps-then, one_more, one_fails}
use Rattle.krb_file.proofs.field_reader.read_many.Goals as goal

pub returns-in_err-read-clause-read : goal.returns-in_err-read-clause-read
returns-in_err-read-clause-read g c =
    let p = err_from_is_err_and c.from_residual.result c.from_residual.ensures.1 in
    rw (p.1, p.2) (one_fails g.K.Field.reads c.items.index c.args.count (g.F.FieldReader.cursor c.args.reader.now) (g.F.FieldReader.cursor c.items.reader) c.items.values.items c.in_err-read.field-0.0 g.F.FieldReader.MayFail c.items-test.true c.items.invariant.read c.in_err-read.ensures.read)

pub items-preserved : goal.items-preserved
items-preserved g c = record {
  read = rw c.in_ok-push.ensures.items (one_more g.K.Field.reads c.items.index (g.F.FieldReader.cursor c.args.reader.now) (g.F.FieldReader.cursor c.items.reader) (g.F.FieldReader.cursor c.read.new.reader) c.items.values.items c.in_ok-read.field-0 c.items.invariant.read c.in_ok-read.ensures.read);
  keeps = Keeps-then c.items.invariant.keeps c.read.ensures.keeps;
}
