use Rattle.std.proofs.Common.{◌≡◌, ◌∙◌, ◌+◌, ℕ, ap, arith, subst}
use Rattle.krb_file.specs.Fields.{fault_begun}
use Rattle.krb_file.specs.declared.fault.FileFault.{FileFault}
use Rattle.krb_keytab.specs.Reading.{next_record_at, record_at}
use Rattle.krb_c.specs.FileSpans.{is_record}
use Rattle.krb_c.specs.inner.Items.{AddsFault}
use Rattle.krb_c.proofs.Items.{at-places, end-added, fault-added, item-added, part-fails, part-read}
use Rattle.krb_c.proofs.file_spans.put_record.Goals as goal

pub returns-in_ok-put-in-Ok-Item : goal.returns-in_ok-put-in-Ok-Item
returns-in_ok-put-in-Ok-Item c =
    let old = c.args.reader.now in let new = c.read_record.new.reader in let value = c.in-Ok-Item.field-0 in
    item-added record_at is_record 4 c.args.all old new c.args.spans.now c.put.new.self value (part-read next_record_at old new value c.in-Ok-Item.ensures.read) (ap is_record c.in-Ok-Item.field-0-is)
    (at-places _ (old.place + 4) _ new.place _ _ (omega (arith, c.place-begin.ensures.value)) c.place-end.ensures.value c.in_ok-put-in-Ok-Item.ensures)

pub returns-in_ok-put-in-Ok-Done : goal.returns-in_ok-put-in-Ok-Done
returns-in_ok-put-in-Ok-Done c =
    let old = c.args.reader.now in let new = c.read_record.new.reader in let value = c.in-Ok-Done.field-0 in
    end-added record_at is_record 4 c.args.all old new c.args.spans.now c.put-in-Ok-Done.new.self value (part-read next_record_at old new value c.in-Ok-Done.ensures.read) (ap is_record c.in-Ok-Done.field-0-is)
    (at-places _ new.place _ new.place _ _ c.place-end-in-Ok-Done.ensures.value c.place-end-in-Ok-Done.ensures.value c.in_ok-put-in-Ok-Done.ensures)

pub returns-in_ok-put_fault-in-Err : goal.returns-in_ok-put_fault-in-Err
returns-in_ok-put_fault-in-Err c =
    let old = c.args.reader.now in let new = c.read_record.new.reader in let fault = c.in-Err.fault in
    let same : c.begun_at.result ≡ fault_begun old.place fault = c.begun_at.ensures ∙ ap (λ (b : ℕ). fault_begun b fault) c.place-begin.ensures.value in
    fault-added record_at is_record 4 c.args.all old new c.args.spans.now c.put_fault.new.spans (Unit {0}) (fault_begun old.place fault) (part-fails next_record_at old new (Unit {0}) fault c.in-Err.ensures.read)
    (subst (λ (f : FileFault). AddsFault f c.args.all c.args.spans.now c.put_fault.new.spans) same c.in_ok-put_fault-in-Err.ensures)
