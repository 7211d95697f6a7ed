use Rattle.std.proofs.Common.{sym, refl, arith}
use Rattle.krb_file.proofs.FieldReaders.{Stays-same, Stays-then}
use Rattle.krb_packet.specs.declared.format.Next.TheVariants as nexts
use Rattle.krb_packet.proofs.Steps.{step_goes}
use Rattle.krb_packet.proofs.Streams.{passed_read, packet_given, end_given, fault_given}
use Rattle.krb_packet.proofs.packets.Packets.read_next.Goals as goal

pub steps-init : goal.steps-init
steps-init g c = record {
  reads = λ file given reads. reads;
  stays = Stays-same refl;
  given = c.self.invariant.0;
  read = rw (sym c.self.view_is) at c.requires;
}

pub steps-smaller : goal.steps-smaller
steps-smaller g c =
    let s = c.steps.self-inside in
    let goes = step_goes c.steps.format s.count (nexts.NoPacket c.in-Ok-NoPacket.passed) s.reader c.next_step.new.reader (rw c.in-Ok-NoPacket.field-0-is at c.in-Ok-NoPacket.ensures.read) in
    omega (arith, goes.2.on, c.next_step.ensures.few)

pub steps-preserved : goal.steps-preserved
steps-preserved g c =
    let s = c.steps.self-inside in
    let read = rw c.in-Ok-NoPacket.field-0-is at c.in-Ok-NoPacket.ensures.read in
    let goes = step_goes c.steps.format s.count (nexts.NoPacket c.in-Ok-NoPacket.passed) s.reader c.next_step.new.reader read in
    record {
      reads = λ file given reads. passed_read file given s.count c.steps.format s.reader (c.steps.invariant.reads file given reads) c.in-Ok-NoPacket.passed c.next_step.new.reader read;
      stays = Stays-then c.steps.invariant.stays c.in-Ok-NoPacket.ensures.stays;
      given = omega (arith, c.steps.invariant.given, goes.2.on);
      read = omega (arith, c.steps.invariant.read, goes.2.on, goes.2.blocks);
    }

pub overflow_add-self : goal.overflow_add-self
overflow_add-self g c = omega (arith, c.steps.invariant.given, c.next_step.ensures.few)

pub invariant_of-self : goal.invariant_of-self
invariant_of-self g c =
    let s = c.steps.self-inside in
    let goes = step_goes c.steps.format s.count (nexts.Packet c.in-Ok-Packet.packet c.in-Ok-Packet.after) s.reader c.next_step.new.reader (rw c.in-Ok-Packet.field-0-is at c.in-Ok-Packet.ensures.read) in
    (omega (arith, c.steps.invariant.given, goes.2.on), omega (arith, c.steps.invariant.read, goes.2.on, goes.2.blocks))

pub returns-in-Ok-Packet-clause-next : goal.returns-in-Ok-Packet-clause-next
returns-in-Ok-Packet-clause-next g c =
    let s = c.steps.self-inside in
    rw (sym c.self.view_is)
    (λ file given reads. packet_given file given s.count c.steps.format s.reader (c.steps.invariant.reads file given reads) c.in-Ok-Packet.after c.in-Ok-Packet.packet c.next_step.new.reader
    (rw c.in-Ok-Packet.field-0-is at c.in-Ok-Packet.ensures.read))

pub returns-in-Ok-Packet-clause-stays : goal.returns-in-Ok-Packet-clause-stays
returns-in-Ok-Packet-clause-stays g c = rw (sym c.self.view_is) (Stays-then c.steps.invariant.stays c.in-Ok-Packet.ensures.stays)

pub invariant_of-self-in-Ok-End : goal.invariant_of-self-in-Ok-End
invariant_of-self-in-Ok-End g c = (omega (arith, c.steps.invariant.given, c.next_step.ensures.on), omega arith)

pub returns-in-Ok-End-clause-next : goal.returns-in-Ok-End-clause-next
returns-in-Ok-End-clause-next g c =
    let s = c.steps.self-inside in
    rw (sym c.self.view_is)
    (λ file given reads. end_given file given s.count c.steps.format s.reader (c.steps.invariant.reads file given reads) c.next_step.new.reader (rw c.in-Ok-End.field-0-is at c.in-Ok-End.ensures.read))

pub returns-in-Ok-End-clause-stays : goal.returns-in-Ok-End-clause-stays
returns-in-Ok-End-clause-stays g c = rw (sym c.self.view_is) (Stays-then c.steps.invariant.stays c.in-Ok-End.ensures.stays)

pub invariant_of-self-in-Err : goal.invariant_of-self-in-Err
invariant_of-self-in-Err g c = (omega (arith, c.steps.invariant.given, c.next_step.ensures.on), omega arith)

pub returns-in-Err-clause-next : goal.returns-in-Err-clause-next
returns-in-Err-clause-next g c =
    let s = c.steps.self-inside in
    rw (sym c.self.view_is)
    (λ file given reads. fault_given file given s.count c.steps.format s.reader (c.steps.invariant.reads file given reads) c.in-Err.fault _ c.in-Err.ensures.read)

pub next_step-requires-clause-packets : goal.next_step-requires-clause-packets
next_step-requires-clause-packets g c = c.steps.invariant.given

pub next_step-requires-clause-blocks : goal.next_step-requires-clause-blocks
next_step-requires-clause-blocks g c = c.steps.invariant.read
