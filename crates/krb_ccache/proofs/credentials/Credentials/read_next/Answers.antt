use Rattle.std.proofs.Common.{Some, Err}
use Rattle.krb_file.specs.declared.progress.Progress.TheVariants as states
use Rattle.krb_ccache.proofs.Streams.{credential_given, end_given, fault_given, refusal_in_file}
use Rattle.krb_ccache.proofs.credentials.Credentials.read_next.Goals as goal

pub returns-in-Ok-Some-clause-next : goal.returns-in-Ok-Some-clause-next
returns-in-Ok-Some-clause-next g c =
    λ file limit given reads. credential_given (Some limit) file given c.args.self.now.start c.args.self.now.state c.args.self.now.reader c.read_credential.new.reader reads c.in-Ok-Some.credential (rw c.in-Ok-Some.field-0-is at c.in-Ok-Some.ensures.read)

pub returns-in-Ok-None-clause-next : goal.returns-in-Ok-None-clause-next
returns-in-Ok-None-clause-next g c =
    λ file limit given reads. end_given (Some limit) file given c.args.self.now.start c.args.self.now.state c.args.self.now.reader c.read_credential.new.reader reads (rw c.in-Ok-None.field-0-is at c.in-Ok-None.ensures.read)

pub returns-in-Err-clause-next : goal.returns-in-Err-clause-next
returns-in-Err-clause-next g c =
    λ file limit given reads. fault_given (Some limit) file given c.args.self.now.start c.args.self.now.state c.args.self.now.reader c.read_credential.new.reader reads c.in-Err.fault (Unit {0}) c.in-Err.ensures.read

pub returns-in-Err-clause-refused : goal.returns-in-Err-clause-refused
returns-in-Err-clause-refused g c =
    λ file limit given reads. refusal_in_file (Some limit) file given (Err c.in-Err.fault) c.read_credential.new.reader c.args.self.now.start (states.Failed c.in-Err.fault) (fault_given (Some limit) file given c.args.self.now.start c.args.self.now.state c.args.self.now.reader c.read_credential.new.reader reads c.in-Err.fault (Unit {0}) c.in-Err.ensures.read)
