use Rattle.std.proofs.Common.{length, ap, arith}
use Rattle.std.proofs.lemmas.Grind.{common_steps}
use Rattle.std.proofs.lemmas.List.Folds.{length-flat_map-take}
use Rattle.krb_files.specs.KeytabWriting.{written_record}
use Rattle.krb_files.proofs.KeytabSizes.{fault-none, size-more}
use Rattle.krb_files.proofs.keytab.writing.put_records.Goals as goal

pub put_record-requires-clause-fault : goal.put_record-requires-clause-fault
put_record-requires-clause-fault c = fault-none c.args.records.now c.loop-record.record-index c.record-item.result c.loop-record-test.true c.record-item.is c.requires.fault

pub put_record-requires-clause-spare_capacity : goal.put_record-requires-clause-spare_capacity
put_record-requires-clause-spare_capacity c =
    omega (
      arith,
      length-flat_map-take written_record c.args.records.now c.loop-record.record-index c.record-item.result (omega arith),
      ap (λ r. length (written_record r)) c.record-item.is,
    )

pub loop-record-preserved : goal.loop-record-preserved
loop-record-preserved c = record {
  items = grind (arith, common_steps);
  len = omega (arith, size-more c.args.records.now c.loop-record.record-index c.record-item.result c.loop-record-test.true c.record-item.is, c.put_record.ensures.len);
  capacity = omega (arith, c.put_record.ensures.capacity);
}
