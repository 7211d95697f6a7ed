use Rattle.std.proofs.Common.{arith}
use Rattle.std.proofs.lemmas.Grind.{common_steps}
use Rattle.std.proofs.lemmas.Result.{err_from_is_err_and}
use Rattle.krb_files.proofs.KeytabSizes.{fault-more, fault-at, size-more}
use Rattle.krb_files.proofs.keytab.writing.records_size.Goals as goal

pub returns-in_err-record_size-clause-fault : goal.returns-in_err-record_size-clause-fault
returns-in_err-record_size-clause-fault c =
    let p = err_from_is_err_and c.from_residual.result c.from_residual.ensures.1 in
    rw (p.1, p.2) (fault-at c.args.records.now c.loop-record.record-index c.record-item.result c.in_err-record_size.field-0.0 c.loop-record-test.true c.record-item.is c.loop-record.invariant.fault c.in_err-record_size.ensures.fault)

pub loop-record-preserved : goal.loop-record-preserved
loop-record-preserved c = record {
  fault = fault-more c.args.records.now c.loop-record.record-index c.record-item.result c.loop-record-test.true c.record-item.is c.loop-record.invariant.fault c.in_ok-record_size.ensures.fault;
  size = omega (arith, size-more c.args.records.now c.loop-record.record-index c.record-item.result c.loop-record-test.true c.record-item.is, c.in_ok-record_size.ensures.size);
  can = grind (arith, common_steps);
}
