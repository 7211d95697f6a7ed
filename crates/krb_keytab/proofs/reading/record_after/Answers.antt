use Rattle.std.proofs.Common.{◌≡◌, refl, arith}
use Rattle.krb_file.specs.Fields.{with_name}
use Rattle.krb_file.specs.FieldReaders.{skipped_at}
use Rattle.krb_file.specs.declared.field_name.FieldName.TheVariants as fields
use Rattle.krb_file.proofs.FieldReaders.{is_read}
use Rattle.krb_keytab.specs.Reading.{content_size}
use Rattle.krb_keytab.proofs.HoleRead.{hole_read}
use Rattle.krb_keytab.proofs.Reaching.{entry_stays, entry_fetches, size_of_content}
use Rattle.krb_keytab.proofs.reading.record_after.Goals as goal

pub returns-in_ok-clean-clause-read : goal.returns-in_ok-clean-clause-read
returns-in_ok-clean-clause-read g c =
    hole_read c.args.length c.unsigned_abs-size.result c.from-else-length-gt0.result c.of.result c.in_ok-clean.clean (g.F.FieldReader.cursor c.args.reader.now) (g.F.FieldReader.cursor c.skip_field.new.self)
    c.ranges.length c.if-length-eq0.false c.if-length-gt0.false c.unsigned_abs-size.ensures.value c.from-else-length-gt0.ensures c.of.ensures (is_read (with_name fields.Hole) (skipped_at c.from-else-length-gt0.result) c.in_ok-clean.ensures.read)

pub returns-in_ok-entry-clause-stays : goal.returns-in_ok-entry-clause-stays
returns-in_ok-entry-clause-stays g c =
    entry_stays c.unsigned_abs-size.result c.from.result c.in_ok-entry.entry (g.F.FieldReader.cursor c.args.reader.now) (g.F.FieldReader.cursor c.look_ahead.new.self) (g.F.FieldReader.cursor c.entry_within.new.reader)
    c.from.ensures c.in_ok-look_ahead.ensures.looks c.in_ok-entry.ensures.read c.in_ok-entry.ensures.stays

pub returns-in_err-look_ahead-clause-within : goal.returns-in_err-look_ahead-clause-within
returns-in_err-look_ahead-clause-within g c =
    let size : c.from.result ≡ content_size c.args.length = size_of_content c.args.length c.unsigned_abs-size.result c.from.result c.ranges.length c.unsigned_abs-size.ensures.value c.from.ensures in
    let looks = c.look_ahead.ensures.looks in
    λ far. looks.within (omega (arith, size, looks.same, far))

pub returns-in_err-entry-clause-within : goal.returns-in_err-entry-clause-within
returns-in_err-entry-clause-within g c =
    let size = size_of_content c.args.length c.unsigned_abs-size.result c.unsigned_abs-size.result c.ranges.length c.unsigned_abs-size.ensures.value refl in
    entry_fetches (content_size c.args.length) c.unsigned_abs-size.result c.from.result (g.F.FieldReader.cursor c.args.reader.now) (g.F.FieldReader.cursor c.look_ahead.new.self) (g.F.FieldReader.cursor c.entry_within.new.reader) size c.from.ensures c.look_ahead.ensures.looks c.entry_within.ensures.within

pub returns-in_ok-entry-clause-within : goal.returns-in_ok-entry-clause-within
returns-in_ok-entry-clause-within g c =
    let size = size_of_content c.args.length c.unsigned_abs-size.result c.unsigned_abs-size.result c.ranges.length c.unsigned_abs-size.ensures.value refl in
    entry_fetches (content_size c.args.length) c.unsigned_abs-size.result c.from.result (g.F.FieldReader.cursor c.args.reader.now) (g.F.FieldReader.cursor c.look_ahead.new.self) (g.F.FieldReader.cursor c.entry_within.new.reader) size c.from.ensures c.look_ahead.ensures.looks c.entry_within.ensures.within

pub returns-in_err-clean-clause-within : goal.returns-in_err-clean-clause-within
returns-in_err-clean-clause-within g c =
    let size = size_of_content c.args.length c.unsigned_abs-size.result c.from-else-length-gt0.result c.ranges.length c.unsigned_abs-size.ensures.value c.from-else-length-gt0.ensures in
    λ far. c.skip_field.ensures.within (omega (arith, size, far))

pub returns-in_ok-clean-clause-within : goal.returns-in_ok-clean-clause-within
returns-in_ok-clean-clause-within g c =
    let size = size_of_content c.args.length c.unsigned_abs-size.result c.from-else-length-gt0.result c.ranges.length c.unsigned_abs-size.ensures.value c.from-else-length-gt0.ensures in
    λ far. c.skip_field.ensures.within (omega (arith, size, far))
