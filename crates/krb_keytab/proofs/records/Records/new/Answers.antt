use Rattle.std.proofs.Common.{Some}
use Rattle.krb_keytab.proofs.Streams.{starts}
use Rattle.krb_keytab.proofs.records.Records.new.Goals as goal

pub returns-clause-begins : goal.returns-clause-begins
returns-clause-begins g c = λ file known. rw c.new-reader.ensures (starts (Some c.args.limit) file (g.R.Read.remaining c.args.reader) known)
