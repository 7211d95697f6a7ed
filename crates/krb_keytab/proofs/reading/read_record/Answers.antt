use Rattle.std.proofs.Common.{rules}
use Rattle.std.proofs.lemmas.Int.{to_z-of_z}
use Rattle.std.proofs.lemmas.Result.{on_ok_weaker}
use Rattle.std.specs.Int.{w32}
use Rattle.std.specs.Int.RustNames.{FitsSigned}
use Rattle.krb_file.specs.Fields.{with_name, signed_at}
use Rattle.krb_file.specs.declared.field_name.FieldName.TheVariants as fields
use Rattle.krb_file.proofs.FieldReaders.{is_read}
use Rattle.krb_file.proofs.Reaching.{end_stays}
use Rattle.krb_keytab.proofs.Reaching.{record_stays, on_err, look_keeps, asked_keeps, length_keeps, content_keeps}
use Rattle.krb_keytab.proofs.reading.read_record.Goals as goal

pub returns-then-branch-clause-stays : goal.returns-then-branch-clause-stays
returns-then-branch-clause-stays g c =
    end_stays 4 c.in_ok-is_empty.field-0 (g.F.FieldReader.cursor c.args.reader.now) (g.F.FieldReader.cursor c.look_ahead.new.self) (g.F.FieldReader.cursor c.is_empty.new.self)
    c.if-branch.true c.in_ok-look_ahead.ensures.looks c.in_ok-is_empty.ensures.looks c.in_ok-is_empty.ensures.read

pub returns-clause-stays : goal.returns-clause-stays
returns-clause-stays g c =
    on_ok_weaker c.record_after.result
    (record_stays c.in_ok-length.length (g.F.FieldReader.cursor c.args.reader.now) (g.F.FieldReader.cursor c.look_ahead.new.self) (g.F.FieldReader.cursor c.is_empty.new.self) (g.F.FieldReader.cursor c.signed_field32.new.self) (g.F.FieldReader.cursor c.record_after.new.reader)
    c.in_ok-look_ahead.ensures.looks c.in_ok-is_empty.ensures.looks (is_read (with_name fields.Length) (signed_at w32) c.in_ok-length.ensures.read) c.signed_field32.ensures.keeps.stays)
    c.record_after.ensures.stays

pub returns-in_err-look_ahead-clause-keeps : goal.returns-in_err-look_ahead-clause-keeps
returns-in_err-look_ahead-clause-keeps g c = on_err c.from_residual.result (look_keeps (g.F.FieldReader.cursor c.args.reader.now) (g.F.FieldReader.cursor c.look_ahead.new.self) c.look_ahead.ensures.looks)

pub returns-in_err-is_empty-clause-keeps : goal.returns-in_err-is_empty-clause-keeps
returns-in_err-is_empty-clause-keeps g c =
    on_err c.from_residual-in_err-is_empty.result (asked_keeps (g.F.FieldReader.cursor c.args.reader.now) (g.F.FieldReader.cursor c.look_ahead.new.self) (g.F.FieldReader.cursor c.is_empty.new.self) c.look_ahead.ensures.looks c.is_empty.ensures.looks)

pub returns-in_err-length-clause-keeps : goal.returns-in_err-length-clause-keeps
returns-in_err-length-clause-keeps g c =
    on_err c.from_residual-in_err-length.result (length_keeps (g.F.FieldReader.cursor c.args.reader.now) (g.F.FieldReader.cursor c.look_ahead.new.self) (g.F.FieldReader.cursor c.is_empty.new.self) (g.F.FieldReader.cursor c.signed_field32.new.self)
    c.look_ahead.ensures.looks c.is_empty.ensures.looks c.signed_field32.ensures.within)

pub returns-clause-keeps : goal.returns-clause-keeps
returns-clause-keeps g c =
    let fits : FitsSigned w32 c.in_ok-length.length = search rules in
    let within = rw (to_z-of_z w32 c.in_ok-length.length fits) at c.record_after.ensures.within in
    on_err c.record_after.result (content_keeps c.in_ok-length.length c.in_ok-is_empty.field-0 (g.F.FieldReader.cursor c.args.reader.now) (g.F.FieldReader.cursor c.look_ahead.new.self) (g.F.FieldReader.cursor c.is_empty.new.self) (g.F.FieldReader.cursor c.signed_field32.new.self) (g.F.FieldReader.cursor c.record_after.new.reader)
    c.look_ahead.ensures.looks c.in_ok-look_ahead.ensures.read c.is_empty.ensures.looks c.in_ok-is_empty.ensures.read (is_read (with_name fields.Length) (signed_at w32) c.in_ok-length.ensures.read) c.signed_field32.ensures.keeps.stays within)
