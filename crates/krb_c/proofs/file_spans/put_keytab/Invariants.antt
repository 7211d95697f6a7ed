use Rattle.krb_keytab.specs.Reading.{record_at}
use Rattle.krb_c.specs.FileSpans.{is_record, keytab_spans}
use Rattle.krb_c.proofs.Items.{AreAdded}
use Rattle.krb_c.proofs.file_spans.put_keytab.Given as goal

-- the records so far
abbrev pub invariant-records : goal.invariant-records
invariant-records l = AreAdded record_at is_record 4 l.all (keytab_spans l.file) l._index l.reader l.initial.spans l.spans
