use Rattle.krb_file.specs.Fields.{with_name}
use Rattle.krb_file.specs.FieldReaders.{skipped_at}
use Rattle.krb_file.proofs.FieldReaders.{follows_so}
use Rattle.krb_file.proofs.field_reader.FieldReader.skip_field.Goals as goal

pub returns-clause-read : goal.returns-clause-read
returns-clause-read g c = rw c.called.ensures (follows_so (with_name c.args.name) (skipped_at c.args.size) (λ x. x) c.skip.result g.Self.FieldReader.MayFail (g.Self.FieldReader.cursor c.args.self.now) (g.Self.FieldReader.cursor c.skip.new.self) c.skip.ensures.read)
