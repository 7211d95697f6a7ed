use Rattle.std.proofs.Common.{arith}
use Rattle.krb_file.proofs.Reaching.{end_stays, item_stays}
use Rattle.krb_packet.specs.Pcaps.{packet_at}
use Rattle.krb_packet.proofs.Reaching.{read_goes}
use Rattle.krb_packet.proofs.Steps.{Passes-packet}
use Rattle.krb_packet.proofs.pcap.next_captured.Goals as goal

pub returns-then-branch-clause-stays : goal.returns-then-branch-clause-stays
returns-then-branch-clause-stays g c =
    end_stays 16 c.in_ok-is_empty.field-0 (g.F.FieldReader.cursor c.args.reader.now) (g.F.FieldReader.cursor c.look_ahead.new.self) (g.F.FieldReader.cursor c.is_empty.new.self)
    c.if-branch.true c.in_ok-look_ahead.ensures.looks c.in_ok-is_empty.ensures.looks c.in_ok-is_empty.ensures.read

pub returns-clause-stays : goal.returns-clause-stays
returns-clause-stays g c =
    item_stays 16 (g.F.FieldReader.cursor c.args.reader.now) (g.F.FieldReader.cursor c.look_ahead.new.self) (g.F.FieldReader.cursor c.is_empty.new.self) (g.F.FieldReader.cursor c.packet.new.reader)
    (omega arith) c.in_ok-look_ahead.ensures.looks c.in_ok-is_empty.ensures.looks c.packet.ensures.keeps.stays
    (read_goes 16 (packet_at c.args.header c.args.count) c.in_ok-packet.field-0 (g.F.FieldReader.cursor c.is_empty.new.self) (g.F.FieldReader.cursor c.packet.new.reader) (Passes-packet c.args.header c.args.count) c.in_ok-packet.ensures.read)
