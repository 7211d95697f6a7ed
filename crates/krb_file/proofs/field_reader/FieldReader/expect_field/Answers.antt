use Rattle.krb_file.specs.Fields.{with_name, expect}
use Rattle.krb_file.proofs.FieldReaders.{follows_so}
use Rattle.krb_file.proofs.field_reader.FieldReader.expect_field.Goals as goal

pub returns-clause-read : goal.returns-clause-read
returns-clause-read g c = rw c.called.ensures (follows_so (with_name c.args.name) (expect c.args.wanted.now c.args.why) (λ x. x) c.expect.result g.Self.FieldReader.MayFail (g.Self.FieldReader.cursor c.args.self.now) (g.Self.FieldReader.cursor c.expect.new.self) c.expect.ensures.read)
