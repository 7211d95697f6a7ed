use Rattle.krb_file.specs.Fields.{with_name, octets_at}
use Rattle.krb_file.proofs.FieldReaders.{follows_so}
use Rattle.krb_file.proofs.field_reader.FieldReader.octets_field.Goals as goal

pub returns-clause-read : goal.returns-clause-read
returns-clause-read g c = rw c.called.ensures (follows_so (with_name c.args.name) (octets_at c.args.size) (λ _. c.octets.new.octets.items) c.octets.result g.Self.FieldReader.MayFail (g.Self.FieldReader.cursor c.args.self.now) (g.Self.FieldReader.cursor c.octets.new.self) c.octets.ensures.read)
