use Rattle.krb_file.specs.FieldReaders.{of_slice}
use Rattle.krb_file.proofs.FieldReaders.{skipped}
use Rattle.krb_file.proofs.slice_reader.SliceReaderFieldReader.skip.Goals as goal

pub returns-clause-read : goal.returns-clause-read
returns-clause-read c = skipped c.args.size c.in_ok-taken.taken.now c.are_zero.result (of_slice c.args.self.now) (of_slice c.take.new.self) c.are_zero.ensures c.in_ok-taken.ensures.read
