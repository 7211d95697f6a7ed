use Rattle.std.proofs.Common.{None, Ok, Err, ap, refl}
use Rattle.krb_file.specs.Fields.{ended}
use Rattle.krb_file.specs.FieldReaders.{of_slice, source_at}
use Rattle.krb_file.proofs.FieldReaders.{known, part_read, fails_part}
use Rattle.krb_file.proofs.Items.{gave_none, item_read, end_read, loop_fails}
use Rattle.krb_keytab.specs.Reading.{next_record_at, record_at, items_after, keytab_of_items}
use Rattle.krb_keytab.specs.declared.reading.Next.TheVariants as nexts
use Rattle.krb_keytab.proofs.Stepwise.{record-shorter, after_read, after-step}
use Rattle.krb_files.proofs.keytab.reading.keytab.Goals as goal

pub loop-record-init : goal.loop-record-init
loop-record-init c = rw c.new-records.ensures.items (gave_none (items_after None) None c.args.reader.now.octets (of_slice c.args.reader.now) (ap ended c.requires) (λ octets there. there))

pub loop-record-smaller : goal.loop-record-smaller
loop-record-smaller c =
    let s = c.loop-record.reader in
    let t = c.read_record.new.reader in
    record-shorter (ended s.end) s.place s.octets c.in-Ok-Item.record (source_at t.place t.octets) (known record_at (nexts.Item c.in-Ok-Item.record) s t (part_read next_record_at (rw c.in-Ok-Item.field-0-is at c.in-Ok-Item.ensures.read)))

pub loop-record-preserved : goal.loop-record-preserved
loop-record-preserved c =
    rw c.in_ok-push-in-Ok-Item.ensures.items
    (item_read record_at None (items_after None) (after_read None) (after-step None) _ (of_slice c.loop-record.reader) c.loop-record.records.items c.loop-record.invariant (nexts.Item c.in-Ok-Item.record) c.in-Ok-Item.record (of_slice c.read_record.new.reader) (items_after None)
    (part_read next_record_at (rw c.in-Ok-Item.field-0-is at c.in-Ok-Item.ensures.read)) (λ t. refl))

pub returns-in-Ok-Done : goal.returns-in-Ok-Done
returns-in-Ok-Done c =
    rw (c.new-records-in-Ok-Done.ensures, c.place.ensures.value)
    (ap keytab_of_items (end_read record_at None (items_after None) (after_read None) (after-step None) _ (of_slice c.loop-record.reader) c.loop-record.records.items c.loop-record.invariant (nexts.Done c.in-Ok-Done.stop) (λ place. Ok (c.in-Ok-Done.stop, place)) (of_slice c.read_record.new.reader)
    (part_read next_record_at (rw c.in-Ok-Done.field-0-is at c.in-Ok-Done.ensures.read)) (λ t. refl)))

pub returns-in-Err : goal.returns-in-Err
returns-in-Err c =
    loop_fails record_at None (items_after None) (after_read None) (after-step None) _ (of_slice c.loop-record.reader) c.loop-record.records.items c.loop-record.invariant (λ f. Err f) keytab_of_items c.begun_at.result
    (fails_part next_record_at c.in-Err.fault c.begun_at.result c.place-begin.result ⊥ (of_slice c.loop-record.reader) c.place-begin.ensures.value c.begun_at.ensures c.in-Err.ensures.read) (λ f. refl) (λ f. refl)
