use Rattle.std.proofs.Common.{length, ◌-◌, ◌≤◌, ◌<◌}
use Rattle.krb_file.specs.FieldReaders.{Stays}
use Rattle.krb_file.specs.inner.Takes.{Takes}
use Rattle.krb_file.proofs.stream_reader.StreamReader.take_octets.Given as goal

abbrev pub invariant-pieces : goal.invariant-pieces
invariant-pieces g l = record {
  few : length l.octets.items ≤ l.size;
  some : length l.octets.items < l.size → 0 < length l.octets.items;
  taken : Takes l.fn.self l.self l.octets.items;
  stays : Stays l.fn.self l.self;
}

abbrev pub decreases-pieces : goal.decreases-pieces
decreases-pieces g l = l.size - length l.octets.items
