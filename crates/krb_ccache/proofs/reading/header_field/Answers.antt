use Rattle.krb_file.specs.declared.field_name.FilePart.TheVariants as parts
use Rattle.krb_ccache.specs.Reading.{header_field_at}
use Rattle.krb_ccache.proofs.Followed.{follows_part}
use Rattle.krb_ccache.proofs.reading.header_field.Goals as goal

pub returns-clause-read : goal.returns-clause-read
returns-clause-read g c =
    follows_part (parts.Header c.args.index) header_field_at _ c.header_field_fields.result c.in_part.result c.place-begin.result g.F.FieldReader.MayFail (g.F.FieldReader.cursor c.args.reader.now) (g.F.FieldReader.cursor c.header_field_fields.new.reader)
    c.place-begin.ensures.value c.in_part.ensures c.header_field_fields.ensures.read
