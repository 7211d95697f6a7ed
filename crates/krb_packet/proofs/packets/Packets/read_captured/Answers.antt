use Rattle.std.proofs.Common.{◌≡◌, ◌+◌, Some, None, refl, sym, arith}
use Rattle.krb_packet.specs.declared.format.Format.TheVariants as formats
use Rattle.krb_file.specs.declared.progress.Progress.TheVariants as states
use Rattle.krb_file.specs.Fields.{succeed}
use Rattle.krb_packet.specs.Captures.{packet_in, after_packet}
use Rattle.krb_packet.proofs.Options.{then_fails}
use Rattle.krb_packet.specs.declared.format.Next.TheVariants as nexts
use Rattle.krb_packet.proofs.Steps.{step_goes}
use Rattle.krb_packet.proofs.Streams.{pcap_step, pcap_reads, pcap_given, end_given, fault_given}
use Rattle.krb_packet.proofs.packets.Packets.read_captured.Goals as goal

pub invariant_of-self : goal.invariant_of-self
invariant_of-self g c =
    let s = c.self.inside in
    let format = formats.Pcap c.args.header in
    let begun : s.state ≡ states.Open format = rw (sym c.self.view_is) at c.requires in
    let is : c.in-Ok-Some.field-0 ≡ Some c.in-Ok-Some.field-0-0 = rw c.in-Ok-Some.is at c.in-Ok-Some.field-0-is in
    let read = rw (c.in-Ok-Some.is, is) at c.packet-read.ensures.read in
    let goes = step_goes format s.count (nexts.Packet c.in-Ok-Some.field-0-0 format) s.reader c.packet-read.new.reader (pcap_step c.args.header s.count (Some c.in-Ok-Some.field-0-0) s.reader c.packet-read.new.reader read) in
    (omega (arith, c.self.invariant.0, goes.2.on), rw begun (omega arith))

pub returns-in-Ok-Some-clause-next : goal.returns-in-Ok-Some-clause-next
returns-in-Ok-Some-clause-next g c =
    let s = c.self.inside in
    let begun : s.state ≡ states.Open (formats.Pcap c.args.header) = rw (sym c.self.view_is) at c.requires in
    let is : c.in-Ok-Some.field-0 ≡ Some c.in-Ok-Some.field-0-0 = rw c.in-Ok-Some.is at c.in-Ok-Some.field-0-is in
    let read = rw (c.in-Ok-Some.is, is) at c.packet-read.ensures.read in
    rw (sym c.self.view_is, c.in-Ok-Some.is, is)
    (λ file given reads. pcap_given file given c.args.header (record { cursor = s.reader; state = s.state; count = s.count }) (record { cursor = c.packet-read.new.reader; state = s.state; count = s.count + 1 }) c.in-Ok-Some.field-0-0 begun refl refl reads read)

pub returns-in-Ok-None-clause-next : goal.returns-in-Ok-None-clause-next
returns-in-Ok-None-clause-next g c =
    let s = c.self.inside in
    let begun : s.state ≡ states.Open (formats.Pcap c.args.header) = rw (sym c.self.view_is) at c.requires in
    let is : c.in-Ok-None.field-0 ≡ None = rw c.in-Ok-None.is at c.in-Ok-None.field-0-is in
    let read = rw (c.in-Ok-None.is, is) at c.packet-read.ensures.read in
    rw (sym c.self.view_is, c.in-Ok-None.is, is)
    (λ file given reads. end_given file given s.count (formats.Pcap c.args.header) s.reader (pcap_reads file given c.args.header (record { cursor = s.reader; state = s.state; count = s.count }) begun reads) c.packet-read.new.reader (pcap_step c.args.header s.count None s.reader c.packet-read.new.reader read))

pub returns-in-Err-clause-next : goal.returns-in-Err-clause-next
returns-in-Err-clause-next g c =
    let s = c.self.inside in
    let begun : s.state ≡ states.Open (formats.Pcap c.args.header) = rw (sym c.self.view_is) at c.requires in
    let fails = rw c.in-Err.is at c.packet-read.ensures.read in
    rw (sym c.self.view_is, c.in-Err.is)
    (λ file given reads. fault_given file given s.count (formats.Pcap c.args.header) s.reader (pcap_reads file given c.args.header (record { cursor = s.reader; state = s.state; count = s.count }) begun reads) c.in-Err.fault (Unit {0})
    (then_fails (packet_in c.args.header s.count) (λ packet. succeed (after_packet c.args.header packet)) c.in-Err.fault (Unit {0}) s.reader fails))
