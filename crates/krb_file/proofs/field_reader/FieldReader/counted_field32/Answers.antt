use Rattle.std.specs.Int.{w32}
use Rattle.krb_file.specs.Fields.{with_name, counted_at}
use Rattle.krb_file.proofs.FieldReaders.{follows_so}
use Rattle.krb_file.proofs.field_reader.FieldReader.counted_field32.Goals as goal

pub returns-clause-read : goal.returns-clause-read
returns-clause-read g c = rw c.called.ensures (follows_so (with_name c.args.name) (counted_at w32) (λ _. c.counted32.new.octets.items) c.counted32.result g.Self.FieldReader.MayFail (g.Self.FieldReader.cursor c.args.self.now) (g.Self.FieldReader.cursor c.counted32.new.self) c.counted32.ensures.read)
