use Rattle.std.proofs.lemmas.Result.{err_from_is_err_and}
use Rattle.std.specs.Int.{w32}
use Rattle.krb_file.specs.declared.field_name.FieldName.TheVariants as fields
use Rattle.krb_file.proofs.FieldReaders.{Keeps-then}
use Rattle.krb_packet.specs.Numbers.{field_in, checked_number}
use Rattle.krb_packet.specs.Pcaps.{captured}
use Rattle.krb_packet.proofs.Options.{then_fails, fails_after}
use Rattle.krb_packet.proofs.pcap.packet_numbers.Goals as goal

pub returns-in_err-fraction-clause-read : goal.returns-in_err-fraction-clause-read
returns-in_err-fraction-clause-read g c =
    let p = err_from_is_err_and c.from_residual-in_err-fraction.result c.from_residual-in_err-fraction.ensures.1 in
    let old = g.F.FieldReader.cursor c.args.reader.now in
    rw (p.1, p.2)
    (fails_after (field_in fields.Seconds w32 c.args.order) _ c.in_ok-seconds.seconds c.in_err-fraction.field-0.0 g.F.FieldReader.MayFail old (g.F.FieldReader.cursor c.field32.new.reader) c.in_ok-seconds.ensures.read
    (then_fails (field_in fields.Fraction w32 c.args.order) _ c.in_err-fraction.field-0.0 g.F.FieldReader.MayFail (g.F.FieldReader.cursor c.field32.new.reader) c.in_err-fraction.ensures.read))

pub returns-in_err-captured-clause-read : goal.returns-in_err-captured-clause-read
returns-in_err-captured-clause-read g c =
    let p = err_from_is_err_and c.from_residual-in_err-captured.result c.from_residual-in_err-captured.ensures.1 in
    let old = g.F.FieldReader.cursor c.args.reader.now in
    let one = g.F.FieldReader.cursor c.field32.new.reader in
    let two = g.F.FieldReader.cursor c.field32-2.new.reader in
    rw (p.1, p.2)
    (fails_after (field_in fields.Seconds w32 c.args.order) _ c.in_ok-seconds.seconds c.in_err-captured.field-0.0 g.F.FieldReader.MayFail old one c.in_ok-seconds.ensures.read
    (fails_after (field_in fields.Fraction w32 c.args.order) _ c.in_ok-fraction.fraction c.in_err-captured.field-0.0 g.F.FieldReader.MayFail one two c.in_ok-fraction.ensures.read
    (then_fails (checked_number fields.CapturedLength w32 c.args.order captured) _ c.in_err-captured.field-0.0 g.F.FieldReader.MayFail two c.in_err-captured.ensures.read)))

pub returns-in_err-captured-clause-keeps : goal.returns-in_err-captured-clause-keeps
returns-in_err-captured-clause-keeps g c = Keeps-then c.field32.ensures.keeps (Keeps-then c.field32-2.ensures.keeps c.captured_length.ensures.keeps)

pub returns-in_err-original-clause-read : goal.returns-in_err-original-clause-read
returns-in_err-original-clause-read g c =
    let p = err_from_is_err_and c.from_residual-in_err-original.result c.from_residual-in_err-original.ensures.1 in
    let old = g.F.FieldReader.cursor c.args.reader.now in
    let one = g.F.FieldReader.cursor c.field32.new.reader in
    let two = g.F.FieldReader.cursor c.field32-2.new.reader in
    let three = g.F.FieldReader.cursor c.captured_length.new.reader in
    rw (p.1, p.2)
    (fails_after (field_in fields.Seconds w32 c.args.order) _ c.in_ok-seconds.seconds c.in_err-original.field-0.0 g.F.FieldReader.MayFail old one c.in_ok-seconds.ensures.read
    (fails_after (field_in fields.Fraction w32 c.args.order) _ c.in_ok-fraction.fraction c.in_err-original.field-0.0 g.F.FieldReader.MayFail one two c.in_ok-fraction.ensures.read
    (fails_after (checked_number fields.CapturedLength w32 c.args.order captured) _ c.in_ok-captured.captured c.in_err-original.field-0.0 g.F.FieldReader.MayFail two three c.in_ok-captured.ensures.read
    (then_fails (field_in fields.OriginalLength w32 c.args.order) _ c.in_err-original.field-0.0 g.F.FieldReader.MayFail three c.in_err-original.ensures.read))))

pub returns-in_err-original-clause-keeps : goal.returns-in_err-original-clause-keeps
returns-in_err-original-clause-keeps g c =
    Keeps-then c.field32.ensures.keeps (Keeps-then c.field32-2.ensures.keeps (Keeps-then c.captured_length.ensures.keeps c.field32-3.ensures.keeps))
