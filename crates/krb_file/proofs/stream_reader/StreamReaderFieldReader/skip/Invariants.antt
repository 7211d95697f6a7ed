use Rattle.krb_file.specs.FieldReaders.{Stays}
use Rattle.krb_file.proofs.Taken.{Passes}
use Rattle.krb_file.proofs.stream_reader.StreamReaderFieldReader.skip.Given as goal

abbrev pub invariant-pieces : goal.invariant-pieces
invariant-pieces g l = record {
  passes : Passes l.fn.self l.self l.zeros l.left l.size;
  stays : Stays l.fn.self l.self;
}

abbrev pub decreases-pieces : goal.decreases-pieces
decreases-pieces g l = l.left
