use Rattle.std.proofs.lemmas.Result.{err_from_is_err_and}
use Rattle.krb_file.proofs.FieldReaders.{Keeps-then}
use Rattle.krb_packet.proofs.Options.{option_ends, option_read, option_fails}
use Rattle.krb_packet.proofs.interface.next_setting.Goals as goal

pub returns-then-code-eq-END_OF_OPTIONS-clause-read : goal.returns-then-code-eq-END_OF_OPTIONS-clause-read
returns-then-code-eq-END_OF_OPTIONS-clause-read g c =
    option_ends c.args.order c.in_ok-code.code c.in_ok-size.size (g.F.FieldReader.cursor c.args.reader.now) (g.F.FieldReader.cursor c.number16.new.reader) (g.F.FieldReader.cursor c.number16-2.new.reader) c.in_ok-code.ensures.read c.in_ok-size.ensures.read
    c.if-code-eq-END_OF_OPTIONS.true

pub returns-in_err-value-clause-read : goal.returns-in_err-value-clause-read
returns-in_err-value-clause-read g c =
    let p = err_from_is_err_and c.from_residual-in_err-value.result c.from_residual-in_err-value.ensures.1 in
    rw (p.1, p.2)
    (option_fails c.args.order c.in_ok-code.code c.in_ok-size.size (g.F.FieldReader.cursor c.args.reader.now) (g.F.FieldReader.cursor c.number16.new.reader) (g.F.FieldReader.cursor c.number16-2.new.reader) c.in_ok-code.ensures.read c.in_ok-size.ensures.read
    c.if-code-eq-END_OF_OPTIONS.false c.in_err-value.field-0.0 g.F.FieldReader.MayFail c.in_err-value.ensures.read)

pub returns-clause-read : goal.returns-clause-read
returns-clause-read g c =
    option_read c.args.order c.in_ok-code.code c.in_ok-size.size (g.F.FieldReader.cursor c.args.reader.now) (g.F.FieldReader.cursor c.number16.new.reader) (g.F.FieldReader.cursor c.number16-2.new.reader) c.in_ok-code.ensures.read c.in_ok-size.ensures.read
    c.if-code-eq-END_OF_OPTIONS.false c.in_ok-value.field-0 (g.F.FieldReader.cursor c.value.new.reader) c.in_ok-value.ensures.read

pub returns-in_err-value-clause-keeps : goal.returns-in_err-value-clause-keeps
returns-in_err-value-clause-keeps g c = Keeps-then c.number16.ensures.keeps (Keeps-then c.number16-2.ensures.keeps c.value.ensures.keeps)

pub returns-clause-keeps : goal.returns-clause-keeps
returns-clause-keeps g c = Keeps-then c.number16.ensures.keeps (Keeps-then c.number16-2.ensures.keeps c.value.ensures.keeps)
