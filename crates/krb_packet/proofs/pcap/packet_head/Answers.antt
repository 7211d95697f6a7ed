use Rattle.std.proofs.Common.{◌+◌, refl, ◌∙◌, ap}
use Rattle.krb_file.specs.declared.field_name.FieldName.TheVariants as fields
use Rattle.krb_packet.specs.Numbers.{checked}
use Rattle.krb_packet.proofs.PacketHeads.{head_follows}
use Rattle.krb_packet.proofs.pcap.packet_head.Goals as goal

pub returns-then-fill_near-clause-read : goal.returns-then-fill_near-clause-read
returns-then-fill_near-clause-read g c =
    head_follows c.args.order c.fill_near.new.octets g.F.FieldReader.MayFail (g.F.FieldReader.cursor c.args.reader.now) (g.F.FieldReader.cursor c.fill_near.new.self) (c.if-fill_near.ensures.read refl) c.place-place.result c.checked.result
    c.place-place.ensures.value (c.checked.ensures ∙ ap (checked fields.CapturedLength (c.place-place.result + 8)) c.packet_head_of.ensures)

pub returns-else-fill_near-clause-read : goal.returns-else-fill_near-clause-read
returns-else-fill_near-clause-read g c = rw (c.if-fill_near.ensures.same refl) at c.packet_numbers.ensures.read
