use Rattle.krb_file.specs.declared.field_name.FieldName.TheVariants as fields
use Rattle.krb_packet.specs.Interfaces.{setting_at}
use Rattle.krb_file.specs.Fields.{with_name}
use Rattle.krb_file.proofs.FieldReaders.{follows_so}
use Rattle.krb_packet.proofs.interface.setting_field.Goals as goal

pub returns-clause-read : goal.returns-clause-read
returns-clause-read g c = rw c.called.ensures (follows_so (with_name fields.Options) (setting_at c.args.order) (λ x. x) c.next_setting.result g.F.FieldReader.MayFail (g.F.FieldReader.cursor c.args.reader.now) (g.F.FieldReader.cursor c.next_setting.new.reader) c.next_setting.ensures.read)
