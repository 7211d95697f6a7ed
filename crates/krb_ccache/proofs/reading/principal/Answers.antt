use Rattle.krb_ccache.specs.Reading.{principal_at}
use Rattle.krb_ccache.proofs.Followed.{follows_part}
use Rattle.krb_ccache.proofs.reading.principal.Goals as goal

pub returns-clause-read : goal.returns-clause-read
returns-clause-read g c =
    follows_part c.args.part principal_at _ c.principal_fields.result c.in_part.result c.place-begin.result g.F.FieldReader.MayFail (g.F.FieldReader.cursor c.args.reader.now) (g.F.FieldReader.cursor c.principal_fields.new.reader)
    c.place-begin.ensures.value c.in_part.ensures c.principal_fields.ensures.read
