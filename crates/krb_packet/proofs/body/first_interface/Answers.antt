use Rattle.std.proofs.Common.{◌∙◌, ap}
use Rattle.krb_file.specs.declared.field_name.FieldName.TheVariants as fields
use Rattle.krb_packet.specs.Numbers.{checked}
use Rattle.krb_packet.specs.Bodies.{announced}
use Rattle.krb_packet.proofs.Checking.{checked_follows}
use Rattle.krb_packet.proofs.body.first_interface.Goals as goal

pub returns : goal.returns
returns g c =
    checked_follows fields.Interface (announced c.args.interfaces.now 0) g.F.FieldReader.MayFail (g.F.FieldReader.cursor c.args.reader.now)
    c.place.result c.checked.result c.place.ensures.value (c.checked.ensures ∙ ap (checked fields.Interface c.place.result) c.announced.ensures)
