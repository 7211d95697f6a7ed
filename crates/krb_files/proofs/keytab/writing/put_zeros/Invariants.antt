use Rattle.std.proofs.Common.{◌≡◌, ◌+◌, ◌++◌}
use Rattle.std.specs.Vec.{vec_len, vec_capacity}
use Rattle.krb_file.specs.Fields.{zeros}
use Rattle.krb_files.proofs.keytab.writing.put_zeros.Given as goal

abbrev pub invariant-loop : goal.invariant-loop
invariant-loop l = record {
  items : l.out.items ≡ l.initial.out.items ++ zeros l.counter;
  len : vec_len l.out ≡ vec_len l.initial.out + l.counter;
  capacity : vec_capacity l.out ≡ vec_capacity l.initial.out;
}
