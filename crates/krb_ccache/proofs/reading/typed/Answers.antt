use Rattle.krb_ccache.specs.Reading.{typed_at}
use Rattle.krb_ccache.proofs.Followed.{follows_part}
use Rattle.krb_ccache.proofs.reading.typed.Goals as goal

pub returns-clause-read : goal.returns-clause-read
returns-clause-read g c =
    follows_part c.args.part typed_at _ c.typed_fields.result c.in_part.result c.place-begin.result g.F.FieldReader.MayFail (g.F.FieldReader.cursor c.args.reader.now) (g.F.FieldReader.cursor c.typed_fields.new.reader)
    c.place-begin.ensures.value c.in_part.ensures c.typed_fields.ensures.read
