use Rattle.std.proofs.Common.{◌∙◌, ap}
use Rattle.std.specs.Int.{w32}
use Rattle.krb_file.specs.declared.field_name.FieldName.TheVariants as fields
use Rattle.krb_packet.specs.Numbers.{checked}
use Rattle.krb_packet.specs.Bodies.{announced}
use Rattle.krb_packet.proofs.Checking.{telling_follows}
use Rattle.krb_packet.proofs.body.interface32.Goals as goal

pub returns-clause-read : goal.returns-clause-read
returns-clause-read g c =
    telling_follows fields.Interface w32 c.args.order (announced c.args.interfaces.now) g.F.FieldReader.MayFail c.in_ok-number.number (g.F.FieldReader.cursor c.args.reader.now) (g.F.FieldReader.cursor c.field32.new.reader) c.in_ok-number.ensures.read
    c.place-place.result c.checked.result c.place-place.ensures.value (c.checked.ensures ∙ ap (checked fields.Interface c.place-place.result) c.announced.ensures)
