use Rattle.std.proofs.lemmas.Result.{err_from_is_err_and}
use Rattle.std.specs.Int.{w32}
use Rattle.krb_file.specs.Fields.{called, in_part, number_at, times}
use Rattle.krb_file.specs.declared.field_name.FieldName.TheVariants as field
use Rattle.krb_file.specs.declared.field_name.FilePart.TheVariants as parts
use Rattle.krb_ccache.specs.Reading.{typed_at}
use Rattle.krb_ccache.proofs.Followed.{then-fails}
use Rattle.krb_ccache.proofs.reading.addresses.Goals as goal

pub returns-in_err-read_many-clause-read : goal.returns-in_err-read_many-clause-read
returns-in_err-read_many-clause-read g c =
    let p = err_from_is_err_and c.from_residual-in_err-read_many.result c.from_residual-in_err-read_many.ensures.1 in
    rw (p.1, p.2) (then-fails (called field.AddressCount (number_at w32)) (λ count. times count (λ index. in_part (parts.Address index) typed_at)) c.in_ok-count.count (g.F.FieldReader.cursor c.args.reader.now) (g.F.FieldReader.cursor c.field32.new.self) c.in_err-read_many.field-0.0 g.F.FieldReader.MayFail c.in_ok-count.ensures.read c.in_err-read_many.ensures.read)
