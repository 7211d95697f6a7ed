use Rattle.std.proofs.Common.{◌≡◌, Ok, refl}
use Rattle.krb_file.specs.declared.field_path.FileItem.TheVariants as items
use Rattle.krb_keytab.specs.Reading.{items as keytab_records}
use Rattle.krb_file_run.specs.Files.{field_limit, keytab_last}
use Rattle.krb_file_run.specs.Lines.{record_line}
use Rattle.krb_file_run.specs.inner.RecordRuns.{ReturnedRecords}
use Rattle.krb_file_run.proofs.Records.{item_added, end_added, refusal_added}
use Rattle.krb_file_run.proofs.file_run.KeytabLinesRecordLines.put_next.Goals as goal

pub returns-in_ok-put-in-Ok-Item-clause-line : goal.returns-in_ok-put-in-Ok-Item-clause-line
returns-in_ok-put-in-Ok-Item-clause-line g c = λ source left is_left.
    let lines = c.args.self.now in
    let new = c.next_record.new.self in
    rw (c.give_back.ensures.same_reader, c.give_back.ensures.same_state)
    (item_added (lines.label.now ≡ source.label) (λ r. record_line lines.label.now r) (keytab_last lines.label.now) items.Record (keytab_records field_limit) (ReturnedRecords lines.records.reader lines.records.state) c.args.count source.file left is_left c.args.text.now c.put_record-put.new.text
    (ReturnedRecords new.reader new.state) c.in-Ok-Item.record
    (λ file returned.
    let next = (rw c.in-Ok-Item.field-0-is at c.in-Ok-Item.ensures.next) file 16777216 c.args.count returned.0 in
    (next.0, (next.1, c.in-Ok-Item.ensures.fetched returned.1)))
    (rw c.in-Ok-Item.field-0-is at c.in_ok-put-in-Ok-Item.ensures))

pub returns-in_ok-put_keytab_end-in-Ok-Done-clause-line : goal.returns-in_ok-put_keytab_end-in-Ok-Done-clause-line
returns-in_ok-put_keytab_end-in-Ok-Done-clause-line g c = λ source left is_left.
    let lines = c.args.self.now in
    let new = c.next_record.new.self in
    end_added (lines.label.now ≡ source.label) (λ r. record_line lines.label.now r) (keytab_last lines.label.now) items.Record (keytab_records field_limit) (ReturnedRecords lines.records.reader lines.records.state) c.args.count source.file left is_left c.args.text.now c.put_keytab_end.new.text
    (Ok (c.in-Ok-Done.stop, new.reader.place)) (λ file returned. (rw c.in-Ok-Done.field-0-is at c.in-Ok-Done.ensures.next) file 16777216 c.args.count returned.0) (rw c.in-Ok-Done.field-0-is at c.in_ok-put_keytab_end-in-Ok-Done.ensures)

pub returns-in_ok-ended-in-Err-clause-line : goal.returns-in_ok-ended-in-Err-clause-line
returns-in_ok-ended-in-Err-clause-line g c = λ source left is_left.
    let lines = c.args.self.now in
    refusal_added (lines.label.now ≡ source.label) (λ r. record_line lines.label.now r) (keytab_last lines.label.now) items.Record (keytab_records field_limit) (ReturnedRecords lines.records.reader lines.records.state) c.args.count source.file left is_left c.args.text.now c.put_fault.new.text
    lines.label.now (λ f. refl) c.in-Err.fault (λ file returned. c.in-Err.ensures.next file 16777216 c.args.count returned.0) c.in_ok-ended-in-Err.ended c.in_ok-ended-in-Err.ensures.refused
