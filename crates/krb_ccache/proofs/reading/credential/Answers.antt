use Rattle.krb_file.proofs.FieldReaders.{part_read}
use Rattle.krb_ccache.specs.Reading.{credential_fields_at}
use Rattle.krb_file.proofs.FieldReaders.{fails_part}
use Rattle.krb_ccache.proofs.reading.credential.Goals as goal

pub returns-in-Ok-clause-read : goal.returns-in-Ok-clause-read
returns-in-Ok-clause-read g c = part_read (credential_fields_at g.K.Kept.kept c.args.version) c.in-Ok.ensures.read

pub returns-in-Err-clause-read : goal.returns-in-Err-clause-read
returns-in-Err-clause-read g c =
    fails_part (credential_fields_at g.K.Kept.kept c.args.version) c.in-Err.fault c.begun_at.result c.place-begin.result g.F.FieldReader.MayFail (g.F.FieldReader.cursor c.args.reader.now)
    c.place-begin.ensures.value c.begun_at.ensures c.in-Err.ensures.read
