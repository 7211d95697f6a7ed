use Rattle.std.proofs.Common.{None}
use Rattle.krb_file.specs.Fields.{next_octets_at}
use Rattle.krb_file.specs.declared.field_name.FieldName.TheVariants as fields
use Rattle.krb_file.specs.Fields.{with_name}
use Rattle.krb_file.proofs.FieldReaders.{follows_so}
use Rattle.krb_packet.proofs.block.length_octets.Goals as goal

pub returns-clause-read : goal.returns-clause-read
returns-clause-read g c = rw c.called.ensures (follows_so (with_name fields.Length) (next_octets_at None 4) (λ octets. octets) c.four_octets.result g.F.FieldReader.MayFail (g.F.FieldReader.cursor c.args.reader.now) (g.F.FieldReader.cursor c.four_octets.new.reader) c.four_octets.ensures.read)
