use Rattle.std.proofs.Common.{ℕ, List, ◌≤◌, ◌-◌, ◌^◌}
use Rattle.krb_file.specs.FieldReaders.{Stays}
use Rattle.krb_packet.specs.Captures.{blocks_of}
use Rattle.krb_packet.specs.Streaming.{Reads}
use Rattle.krb_packet.proofs.Streams.{opening}
use Rattle.krb_packet.proofs.packets.Packets.read_next.Given as goal

abbrev pub invariant-steps : goal.invariant-steps
invariant-steps g l = record {
  reads : (file : List ℕ) (given : ℕ) → Reads (opening l.initial.self-inside.reader l.initial.format l.initial.self-inside.count) file given → Reads (opening l.self-inside.reader l.format l.self-inside.count) file given;
  stays : Stays l.initial.self-inside.reader l.self-inside.reader;
  given : l.self-inside.count ≤ l.self-inside.reader.place;
  read : blocks_of l.format ≤ l.self-inside.reader.place;
}

abbrev pub decreases-steps : goal.decreases-steps
decreases-steps g l = 2 ^ 63 - l.self-inside.reader.place
