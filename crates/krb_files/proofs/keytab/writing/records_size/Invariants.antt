use Rattle.std.proofs.Common.{◌≡◌, ◌+◌, None, length, take, min}
use Rattle.std.specs.List.{flat_map, AllByRecursion}
use Rattle.krb_files.specs.Parts.{greatest}
use Rattle.krb_files.specs.KeytabWriting.{records_fault, written_record, CanWrite}
use Rattle.krb_files.proofs.keytab.writing.records_size.Given as goal

abbrev pub invariant-loop-record : goal.invariant-loop-record
invariant-loop-record l = record {
  fault : records_fault (take l.record-index l.records) ≡ None;
  size : l.size ≡ min (length (flat_map written_record (take l.record-index l.records))) (greatest + 1);
  can : AllByRecursion CanWrite (take l.record-index l.records);
}
