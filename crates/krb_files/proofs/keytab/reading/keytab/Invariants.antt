use Rattle.std.proofs.Common.{None, length}
use Rattle.krb_file.specs.FieldReaders.{of_slice, source_at}
use Rattle.krb_file.specs.Items.{Gave}
use Rattle.krb_keytab.specs.Reading.{items_after}
use Rattle.krb_files.proofs.keytab.reading.keytab.Given as goal

abbrev pub invariant-loop-record : goal.invariant-loop-record
invariant-loop-record l = Gave (items_after None) (items_after None (source_at l.fn.reader.place l.fn.reader.octets)) None (of_slice l.reader) l.records.items

abbrev pub decreases-loop-record : goal.decreases-loop-record
decreases-loop-record l = length l.reader.octets
