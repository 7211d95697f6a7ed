use Rattle.std.specs.Int.{w32}
use Rattle.krb_file.specs.Fields.{with_name, signed_at}
use Rattle.krb_file.proofs.FieldReaders.{follows_so}
use Rattle.krb_file.proofs.field_reader.FieldReader.signed_field32.Goals as goal

pub returns-clause-read : goal.returns-clause-read
returns-clause-read g c = rw c.called.ensures (follows_so (with_name c.args.name) (signed_at w32) (λ x. x) c.signed32.result g.Self.FieldReader.MayFail (g.Self.FieldReader.cursor c.args.self.now) (g.Self.FieldReader.cursor c.signed32.new.self) c.signed32.ensures.read)
