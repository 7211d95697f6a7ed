use Rattle.std.proofs.Common.{Bool, Some, Err, subst}
use Rattle.krb_file.specs.declared.progress.Progress.{Progress}
use Rattle.krb_file.specs.declared.progress.Progress.TheVariants as states
use Rattle.krb_keytab.specs.declared.value.Stop.{Stop}
use Rattle.krb_keytab.proofs.Streams.{opens, version_refused, refusal_in_file}
use Rattle.krb_keytab.specs.Streaming.{Reads, announced_in}
use Rattle.krb_keytab.proofs.Reaching.{version_keeps, same_keeps, opened_keeps, on_ok_so, on_err_so}
use Rattle.krb_file.proofs.FieldReaders.{Stays-then}
use Rattle.krb_file.proofs.Reaching.{none_ahead}
use Rattle.krb_keytab.proofs.records.Records.next_record.Goals as goal

pub returns-in-Open-clause-next : goal.returns-in-Open-clause-next
returns-in-Open-clause-next g c = λ file limit count reads.
    c.read_next.ensures.next file limit count (subst (λ (s : Progress Bool Stop). Reads (Some limit) c.args.self.now.reader s file count) (rw c.if-has_begun.true at c.in-Open.is) reads)

pub returns-in-Ok-clause-next : goal.returns-in-Ok-clause-next
returns-in-Ok-clause-next g c = λ file limit count reads.
    c.read_next-in-Ok.ensures.next file limit count (opens (Some limit) file count c.args.self.now.reader c.version.new.self c.in-Ok.field-0 (subst (λ (s : Progress Bool Stop). Reads (Some limit) c.args.self.now.reader s file count) (rw c.if-has_begun.false at c.in-Open.is) reads) c.in-Ok.ensures.read)

pub returns-in-Err-clause-next : goal.returns-in-Err-clause-next
returns-in-Err-clause-next g c = λ file limit count reads.
    version_refused (Some limit) file count c.args.self.now.reader c.in-Err.fault (Unit {0}) (subst (λ (s : Progress Bool Stop). Reads (Some limit) c.args.self.now.reader s file count) (rw c.if-has_begun.false at c.in-Open.is) reads) c.in-Err.ensures.read

pub returns-in-Done-clause-next : goal.returns-in-Done-clause-next
returns-in-Done-clause-next g c = λ file limit count reads.
    absurd (subst (λ (s : Progress Bool Stop). Reads (Some limit) c.args.self.now.reader s file count) c.in-Done.is reads)

pub returns-in-Failed-clause-next : goal.returns-in-Failed-clause-next
returns-in-Failed-clause-next g c = λ file limit count reads.
    absurd (subst (λ (s : Progress Bool Stop). Reads (Some limit) c.args.self.now.reader s file count) c.in-Failed.is reads)

pub returns-in-Open-clause-refused : goal.returns-in-Open-clause-refused
returns-in-Open-clause-refused g c = λ file limit count reads.
    refusal_in_file (Some limit) file count c.read_next.result c.read_next.new.self.reader c.read_next.new.self.state (returns-in-Open-clause-next g c file limit count reads)

pub returns-in-Ok-clause-refused : goal.returns-in-Ok-clause-refused
returns-in-Ok-clause-refused g c = λ file limit count reads.
    refusal_in_file (Some limit) file count c.read_next-in-Ok.result c.read_next-in-Ok.new.self.reader c.read_next-in-Ok.new.self.state (returns-in-Ok-clause-next g c file limit count reads)

pub returns-in-Err-clause-refused : goal.returns-in-Err-clause-refused
returns-in-Err-clause-refused g c = λ file limit count reads.
    refusal_in_file (Some limit) file count (Err c.in-Err.fault) c.version.new.self (states.Failed c.in-Err.fault) (returns-in-Err-clause-next g c file limit count reads)

pub returns-in-Failed-clause-refused : goal.returns-in-Failed-clause-refused
returns-in-Failed-clause-refused g c = λ file limit count reads.
    absurd (subst (λ (s : Progress Bool Stop). Reads (Some limit) c.args.self.now.reader s file count) c.in-Failed.is reads)

pub returns-in-Err-clause-announced : goal.returns-in-Err-clause-announced
returns-in-Err-clause-announced g c = rw (c.in-Open.is, c.if-has_begun.false) (version_keeps c.args.self.now.reader c.version.new.self c.version.ensures.within)

pub returns-in-Failed-clause-announced : goal.returns-in-Failed-clause-announced
returns-in-Failed-clause-announced g c = same_keeps (announced_in c.args.self.now.state) c.args.self.now.reader

pub returns-in-Open-clause-announced : goal.returns-in-Open-clause-announced
returns-in-Open-clause-announced g c = rw (c.in-Open.is, c.if-has_begun.true) c.read_next.ensures.announced

pub returns-in-Ok-clause-announced : goal.returns-in-Ok-clause-announced
returns-in-Ok-clause-announced g c =
    rw (c.in-Open.is, c.if-has_begun.false)
    (on_err_so c.read_next-in-Ok.result (opened_keeps c.in-Ok.field-0 c.args.self.now.reader c.version.new.self c.read_next-in-Ok.new.self.reader c.in-Ok.ensures.read c.version.ensures.keeps.stays) c.read_next-in-Ok.ensures.announced)

pub returns-in-Open-clause-fetched : goal.returns-in-Open-clause-fetched
returns-in-Open-clause-fetched g c =
    on_ok_so c.read_next.result (none_ahead c.args.self.now.reader c.read_next.new.self.reader) c.read_next.ensures.stays

pub returns-in-Ok-clause-fetched : goal.returns-in-Ok-clause-fetched
returns-in-Ok-clause-fetched g c =
    on_ok_so c.read_next-in-Ok.result (λ stays. none_ahead c.args.self.now.reader c.read_next-in-Ok.new.self.reader (Stays-then c.version.ensures.keeps.stays stays)) c.read_next-in-Ok.ensures.stays
