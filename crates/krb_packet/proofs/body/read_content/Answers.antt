use Rattle.krb_packet.specs.declared.body.Content.TheVariants as contents
use Rattle.krb_packet.specs.Bodies.{old_packet_at, simple_packet_at, enhanced_packet_at}
use Rattle.krb_packet.proofs.InTurn.{follows_made}
use Rattle.krb_packet.proofs.body.read_content.Goals as goal

pub returns-in-OldPacket-clause-read : goal.returns-in-OldPacket-clause-read
returns-in-OldPacket-clause-read g c =
    rw (c.in-OldPacket.is, c.packet_content.ensures)
    (follows_made (old_packet_at c.args.order c.args.count c.args.interfaces.now) contents.Packet c.old_packet.result g.F.FieldReader.MayFail (g.F.FieldReader.cursor c.args.reader.now) (g.F.FieldReader.cursor c.old_packet.new.reader) c.old_packet.ensures.read)

pub returns-in-SimplePacket-clause-read : goal.returns-in-SimplePacket-clause-read
returns-in-SimplePacket-clause-read g c =
    rw (c.in-SimplePacket.is, c.packet_content-in-SimplePacket.ensures)
    (follows_made (simple_packet_at c.args.order c.args.count c.args.interfaces.now) contents.Packet c.simple_packet.result g.F.FieldReader.MayFail (g.F.FieldReader.cursor c.args.reader.now) (g.F.FieldReader.cursor c.simple_packet.new.reader) c.simple_packet.ensures.read)

pub returns-in-EnhancedPacket-clause-read : goal.returns-in-EnhancedPacket-clause-read
returns-in-EnhancedPacket-clause-read g c =
    rw (c.in-EnhancedPacket.is, c.packet_content-in-EnhancedPacket.ensures)
    (follows_made (enhanced_packet_at c.args.order c.args.count c.args.interfaces.now) contents.Packet c.enhanced_packet.result g.F.FieldReader.MayFail (g.F.FieldReader.cursor c.args.reader.now) (g.F.FieldReader.cursor c.enhanced_packet.new.reader) c.enhanced_packet.ensures.read)
