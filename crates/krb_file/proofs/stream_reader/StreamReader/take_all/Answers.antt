use Rattle.std.proofs.Common.{arith, length, length-drop}
use Rattle.krb_file.proofs.FieldReaders.{Stays-then}
use Rattle.krb_file.proofs.Taken.{Fills-more, falls_short}
use Rattle.krb_file.proofs.stream_reader.StreamReader.take_all.Goals as goal

pub pieces-preserved : goal.pieces-preserved
pieces-preserved g c = record {
  fills = Fills-more c.args.self.now c.pieces.self c.take.new.self c.pieces.octets c.take.new.octets c.pieces.filled c.in_ok-count.count c.pieces.invariant.fills (omega (arith, c.take.auto.octets, length-drop c.pieces.filled c.pieces.octets, c.pieces.invariant.fills.within)) c.in_ok-count.ensures.count c.in_ok-count.ensures.taken;
  stays = Stays-then c.pieces.invariant.stays c.take.ensures.stays;
}

pub returns-then-count-eq0-clause-fault : goal.returns-then-count-eq0-clause-fault
returns-then-count-eq0-clause-fault g c =
    rw c.refused.ensures
    (falls_short c.args.start c.pieces.filled c.in_ok-count.count (length c.args.octets.now) c.pieces.octets c.take.new.octets c.args.self.now c.pieces.self c.take.new.self c.pieces.invariant.fills (omega (arith, c.pieces-test.true, c.pieces.auto.octets)) c.in_ok-count.ensures.taken c.if-count-eq0.true c.in_ok-count.ensures.end)
