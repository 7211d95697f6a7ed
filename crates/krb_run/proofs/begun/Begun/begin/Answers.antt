use Rattle.krb_run.specs.Begun.{octets_of}
use Rattle.krb_run.proofs.BegunReaders.{begins-with}
use Rattle.krb_run.proofs.begun.Begun.begin.Goals as goal

pub returns-in-Ok-eq0-clause-begins : goal.returns-in-Ok-eq0-clause-begins
returns-in-Ok-eq0-clause-begins g c = begins-with (octets_of c.begun_reader.result.piece) _

pub returns-in-Err-clause-begins : goal.returns-in-Err-clause-begins
returns-in-Err-clause-begins g c = begins-with (octets_of c.begun_reader-in-Err.result.piece) _

pub returns-clause-begins : goal.returns-clause-begins
returns-clause-begins g c = begins-with (octets_of c.begun_reader-2.result.piece) _
