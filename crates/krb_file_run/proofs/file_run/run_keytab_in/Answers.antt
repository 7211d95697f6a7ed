use Rattle.std.proofs.Common.{ℕ, Bool, List, refl, ap, ◌∙◌}
use Rattle.krb_run.specs.Records.{RecordListing, after_line}
use Rattle.krb_file_run.proofs.Records.{less_said}
use Rattle.krb_file.specs.declared.field_path.FileItem.TheVariants as items
use Rattle.krb_keytab.specs.Reading.{items as keytab_records}
use Rattle.krb_file_run.specs.Files.{IsKeytabRest, field_limit, items_left, keytab_last, keytab_listing}
use Rattle.krb_file_run.specs.Lines.{record_line}
use Rattle.krb_file.specs.FieldReaders.{Cursor}
use Rattle.krb_file.specs.declared.progress.Progress.{Progress}
use Rattle.krb_keytab.specs.declared.value.Stop.{Stop}
use Rattle.krb_record.specs.Labels.{Label}
use Rattle.krb_file_run.specs.inner.RecordRuns.{AreRecordsLeft, KeytabSource, ReturnedRecords}
use Rattle.krb_file_run.proofs.file_run.run_keytab_in.Goals as goal

-- before the first record
all_left : (label : Label) (file : List ℕ) (cursor : Cursor) (state : Progress Bool Stop) → ReturnedRecords cursor state file 0 → AreRecordsLeft label cursor state 0 (record { label = label; file = file }) (keytab_listing label file)
unfolding keytab_listing
all_left label file cursor state returned = record { same = refl; reads = returned; is = refl }

-- after any
is_rest : (label other : Label) (file : List ℕ) (cursor : Cursor) (state : Progress Bool Stop) (count : ℕ) (left : RecordListing) → AreRecordsLeft other cursor state count (record { label = label; file = file }) left → IsKeytabRest label file left
is_rest label other file cursor state count left l = (count, l.is ∙ ap (λ (x : Label). items_left (λ r. record_line x r) (keytab_last x) items.Record (keytab_records field_limit file) count) l.same)

pub returns : goal.returns
returns g c = record {
  listed = λ file known.
      let label : Label = c.args.label.now in
      let source : KeytabSource = record { label = label; file = file } in
      let left : AreRecordsLeft label c.new-records.result.reader c.new-records.result.state 0 source (keytab_listing label file) = all_left label file c.new-records.result.reader c.new-records.result.state (c.new-records.ensures.begins file (c.in_ok-reader.ensures.same file known), c.new-records.ensures.fetched) in
      less_said _ (keytab_listing label file) (ap (λ (text : List ℕ). after_line text (keytab_listing label file)) c.new-text.ensures) (IsKeytabRest label file) _ _ c.list_records.result
      (c.list_records.ensures.listed source (keytab_listing label file) left)
      (λ rest was. is_rest label was.lines.label.now file was.lines.records.reader was.lines.records.state was.count rest was.is_left);
  written = c.list_records.ensures.written;
}
