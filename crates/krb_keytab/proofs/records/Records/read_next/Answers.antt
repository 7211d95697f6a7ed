use Rattle.std.proofs.Common.{Some}
use Rattle.krb_file.proofs.FieldReaders.{part_read, fails_part}
use Rattle.krb_keytab.specs.Reading.{next_record_at}
use Rattle.krb_keytab.proofs.Streams.{record_given, stop_given, record_refused}
use Rattle.krb_keytab.proofs.records.Records.read_next.Goals as goal

pub returns-in-Ok-Item-clause-next : goal.returns-in-Ok-Item-clause-next
returns-in-Ok-Item-clause-next g c = λ file limit count reads.
    record_given (Some limit) file count c.args.self.now.reader reads c.in-Ok-Item.item c.read_record.new.reader (part_read next_record_at (rw c.in-Ok-Item.field-0-is at c.in-Ok-Item.ensures.read))

pub returns-in-Ok-Done-clause-next : goal.returns-in-Ok-Done-clause-next
returns-in-Ok-Done-clause-next g c = λ file limit count reads.
    stop_given (Some limit) file count c.args.self.now.reader reads c.in-Ok-Done.stop c.read_record.new.reader (part_read next_record_at (rw c.in-Ok-Done.field-0-is at c.in-Ok-Done.ensures.read))

pub returns-in-Err-clause-next : goal.returns-in-Err-clause-next
returns-in-Err-clause-next g c = λ file limit count reads.
    record_refused (Some limit) file count c.args.self.now.reader reads c.begun_at-fault.result (Unit {0})
    (fails_part next_record_at c.in-Err.fault c.begun_at-fault.result c.place-begin.result (Unit {0}) c.args.self.now.reader c.place-begin.ensures.value c.begun_at-fault.ensures c.in-Err.ensures.read)

pub returns-in-Ok-Item-clause-stays : goal.returns-in-Ok-Item-clause-stays
returns-in-Ok-Item-clause-stays g c = c.in-Ok-Item.ensures.stays

pub returns-in-Ok-Done-clause-stays : goal.returns-in-Ok-Done-clause-stays
returns-in-Ok-Done-clause-stays g c = c.in-Ok-Done.ensures.stays

pub returns-in-Err-clause-announced : goal.returns-in-Err-clause-announced
returns-in-Err-clause-announced g c = c.in-Err.ensures.keeps
