use Rattle.std.proofs.lemmas.Result.{err_from_is_err_and}
use Rattle.std.specs.Int.{w32}
use Rattle.krb_file.specs.declared.field_name.FieldName.TheVariants as fields
use Rattle.krb_file.proofs.FieldReaders.{Keeps-same, Keeps-then}
use Rattle.krb_packet.specs.Numbers.{field_in}
use Rattle.krb_packet.specs.Bodies.{timestamp_at}
use Rattle.krb_packet.proofs.Options.{then_fails, fails_after}
use Rattle.krb_packet.proofs.body.timed_packet.Goals as goal

pub returns-in_err-original-clause-read : goal.returns-in_err-original-clause-read
returns-in_err-original-clause-read g c =
    let p = err_from_is_err_and c.from_residual-in_err-original.result c.from_residual-in_err-original.ensures.1 in
    let one = g.F.FieldReader.cursor c.timestamp.new.reader in
    let two = g.F.FieldReader.cursor c.field32.new.reader in
    rw (p.1, p.2)
    (fails_after (timestamp_at c.args.order) _ c.in_ok-units.units c.in_err-original.field-0.0 g.F.FieldReader.MayFail (g.F.FieldReader.cursor c.args.reader.now) one c.in_ok-units.ensures.read
    (fails_after (field_in fields.CapturedLength w32 c.args.order) _ c.in_ok-captured.captured c.in_err-original.field-0.0 g.F.FieldReader.MayFail one two c.in_ok-captured.ensures.read
    (then_fails (field_in fields.OriginalLength w32 c.args.order) _ c.in_err-original.field-0.0 g.F.FieldReader.MayFail two c.in_err-original.ensures.read)))

pub returns-in_err-original-clause-keeps : goal.returns-in_err-original-clause-keeps
returns-in_err-original-clause-keeps g c = Keeps-then c.timestamp.ensures.keeps (Keeps-then c.field32.ensures.keeps c.field32-2.ensures.keeps)

pub returns-in_err-octets_field-clause-keeps : goal.returns-in_err-octets_field-clause-keeps
returns-in_err-octets_field-clause-keeps g c =
    Keeps-then c.timestamp.ensures.keeps (Keeps-then c.field32.ensures.keeps (Keeps-then c.field32-2.ensures.keeps (Keeps-then (Keeps-same c.spare_octets-octets.ensures.same) c.octets_field.ensures.keeps)))

pub returns-clause-keeps : goal.returns-clause-keeps
returns-clause-keeps g c =
    Keeps-then c.timestamp.ensures.keeps (Keeps-then c.field32.ensures.keeps (Keeps-then c.field32-2.ensures.keeps (Keeps-then (Keeps-same c.spare_octets-octets.ensures.same) c.octets_field.ensures.keeps)))
