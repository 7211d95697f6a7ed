use Rattle.krb_file.specs.Fields.{times}
use Rattle.krb_file.specs.FieldReaders.{HasRead, Keeps}
use Rattle.krb_file.proofs.field_reader.read_many.Given as goal

abbrev pub invariant-items : goal.invariant-items
invariant-items g l = record {
  read : HasRead (times l.index g.K.Field.reads) l.values.items (g.F.FieldReader.cursor l.fn.reader) (g.F.FieldReader.cursor l.reader);
  keeps : Keeps (g.F.FieldReader.cursor l.fn.reader) (g.F.FieldReader.cursor l.reader);
}
