use Rattle.std.proofs.Common.{length, ◌-◌}
use Rattle.krb_file.specs.FieldReaders.{Stays}
use Rattle.krb_file.proofs.Taken.{Fills}
use Rattle.krb_file.proofs.stream_reader.StreamReader.take_all.Given as goal

abbrev pub invariant-pieces : goal.invariant-pieces
invariant-pieces g l = record {
  fills : Fills l.fn.self l.self l.octets l.filled;
  stays : Stays l.fn.self l.self;
}

abbrev pub decreases-pieces : goal.decreases-pieces
decreases-pieces g l = length l.initial.octets - l.filled
