use Rattle.std.proofs.Common.{◌≡◌, ◌+◌, ◌++◌, length, take}
use Rattle.std.specs.List.{flat_map}
use Rattle.std.specs.Vec.{vec_len, vec_capacity}
use Rattle.krb_files.specs.KeytabWriting.{written_record}
use Rattle.krb_files.proofs.keytab.writing.put_records.Given as goal

abbrev pub invariant-loop-record : goal.invariant-loop-record
invariant-loop-record l = record {
  items : l.out.items ≡ l.initial.out.items ++ flat_map written_record (take l.record-index l.records);
  len : vec_len l.out ≡ vec_len l.initial.out + length (flat_map written_record (take l.record-index l.records));
  capacity : vec_capacity l.out ≡ vec_capacity l.initial.out;
}
