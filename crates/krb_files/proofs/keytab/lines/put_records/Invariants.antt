use Rattle.std.proofs.Common.{◌≡◌, ◌++◌, take}
use Rattle.std.specs.List.{flat_map}
use Rattle.krb_record.specs.Forms.{record_line}
use Rattle.krb_list.specs.Keytabs.{printed_record}
use Rattle.krb_files.proofs.keytab.lines.put_records.Given as goal

-- the lines of the records so far
abbrev pub invariant-loop-record : goal.invariant-loop-record
invariant-loop-record l = l.text ≡ l.initial.text ++ flat_map (λ r. record_line l.form (printed_record r)) (take l.record-index l.records)
