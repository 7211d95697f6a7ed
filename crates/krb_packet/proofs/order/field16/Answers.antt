use Rattle.std.specs.Int.{w16}
use Rattle.krb_packet.specs.Numbers.{number_in}
use Rattle.krb_file.specs.Fields.{with_name}
use Rattle.krb_file.proofs.FieldReaders.{follows_so}
use Rattle.krb_packet.proofs.order.field16.Goals as goal

pub returns-clause-read : goal.returns-clause-read
returns-clause-read g c = rw c.called.ensures (follows_so (with_name c.args.name) (number_in w16 c.args.order) (λ x. x) c.number16.result g.F.FieldReader.MayFail (g.F.FieldReader.cursor c.args.reader.now) (g.F.FieldReader.cursor c.number16.new.reader) c.number16.ensures.read)
