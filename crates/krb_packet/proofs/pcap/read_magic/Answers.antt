use Rattle.std.proofs.Common.{◌∙◌, ap}
use Rattle.std.specs.Int.{w32}
use Rattle.krb_file.specs.declared.field_name.FieldName.TheVariants as fields
use Rattle.krb_packet.specs.Numbers.{checked}
use Rattle.krb_packet.specs.declared.order.ByteOrder.TheVariants as orders
use Rattle.krb_packet.specs.Pcaps.{magic_of}
use Rattle.krb_packet.proofs.Checking.{telling_follows}
use Rattle.krb_packet.proofs.pcap.read_magic.Goals as goal

pub returns-clause-read : goal.returns-clause-read
returns-clause-read g c =
    telling_follows fields.Magic w32 orders.BigEndian magic_of g.F.FieldReader.MayFail c.in_ok-number.number (g.F.FieldReader.cursor c.args.reader.now) (g.F.FieldReader.cursor c.field32.new.reader) c.in_ok-number.ensures.read
    c.place-place.result c.checked.result c.place-place.ensures.value (c.checked.ensures ∙ ap (checked fields.Magic c.place-place.result) c.magic_of.ensures)
