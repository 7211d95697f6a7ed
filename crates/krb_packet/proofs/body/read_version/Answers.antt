use Rattle.std.proofs.Common.{◌∙◌, ap}
use Rattle.std.specs.Int.{w16}
use Rattle.krb_file.specs.declared.field_name.FieldName.TheVariants as fields
use Rattle.krb_packet.specs.Numbers.{checked}
use Rattle.krb_packet.specs.Bodies.{section_version}
use Rattle.krb_packet.proofs.Checking.{telling_follows}
use Rattle.krb_packet.proofs.body.read_version.Goals as goal

pub returns-clause-read : goal.returns-clause-read
returns-clause-read g c =
    telling_follows fields.Version w16 c.args.order section_version g.F.FieldReader.MayFail c.in_ok-number.number (g.F.FieldReader.cursor c.args.reader.now) (g.F.FieldReader.cursor c.field16.new.reader) c.in_ok-number.ensures.read
    c.place-place.result c.checked.result c.place-place.ensures.value (c.checked.ensures ∙ ap (checked fields.Version c.place-place.result) c.section_version.ensures)
