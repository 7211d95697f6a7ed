use Rattle.std.proofs.Common.{◌+◌, ◌<◌, length, arith, subst}
use Rattle.krb_keytab.specs.Reading.{record_at}
use Rattle.krb_c.specs.FileSpans.{is_record, keytab_spans}
use Rattle.krb_c.specs.inner.Items.{AddsItem}
use Rattle.krb_c.proofs.Items.{last-added, next-added, over-added}
use Rattle.krb_c.proofs.Files.{first-records, refused-keytab}
use Rattle.krb_c.proofs.file_spans.put_keytab.Goals as goal

pub returns-in-Err : goal.returns-in-Err
returns-in-Err c = refused-keytab c.args.file.now c.new-reader.result c.new-reader.ensures c.in-Err.fault (Unit {0}) c.in-Err.ensures.read c.put_fault.result c.args.spans.now c.put_fault.new.spans c.put_fault.ensures

pub records-init : goal.records-init
records-init c = first-records c.args.file.now c.new-reader.result c.new-reader.ensures c.version.new.self c.in_default.field-0 c.in_default.ensures.read c.args.spans.now

pub returns-then-not-branch : goal.returns-then-not-branch
returns-then-not-branch c =
    let file = c.args.file.now in
    let more : c.records._index < length file + 1 = omega (arith, c.records-test.true) in
    last-added record_at is_record 4 (length file) (keytab_spans file) c.records._index c.records.reader c.put_record.new.reader c.args.spans.now c.records.spans c.put_record.new.spans more c.records.invariant
    (subst (AddsItem record_at is_record 4 (length file) c.records.reader c.put_record.new.reader c.records.spans c.put_record.new.spans) c.if-not-branch.true c.in_ok-put_record.ensures)

pub records-preserved : goal.records-preserved
records-preserved c =
    let file = c.args.file.now in
    let more : c.records._index < length file + 1 = omega (arith, c.records-test.true) in
    next-added record_at is_record 4 (length file) (keytab_spans file) c.records._index c.records.reader c.put_record.new.reader c.args.spans.now c.records.spans c.put_record.new.spans more c.records.invariant
    (subst (AddsItem record_at is_record 4 (length file) c.records.reader c.put_record.new.reader c.records.spans c.put_record.new.spans) c.if-not-branch.false c.in_ok-put_record.ensures)

pub returns : goal.returns
returns c =
    let file = c.args.file.now in
    over-added record_at is_record 4 (length file) (keytab_spans file) c.records._index c.records.reader c.args.spans.now c.records.spans (λ more. absurd (omega (arith, more, c.records-test.false))) c.records.invariant
