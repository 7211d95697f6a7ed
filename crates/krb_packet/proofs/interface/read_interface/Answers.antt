use Rattle.std.proofs.lemmas.Result.{err_from_is_err_and}
use Rattle.krb_file.specs.Fields.{octets_to_end}
use Rattle.krb_file.proofs.FieldReaders.{Keeps-then, made_of}
use Rattle.krb_packet.specs.Interfaces.{no_options, options_within}
use Rattle.krb_packet.proofs.Options.{then_fails}
use Rattle.krb_file.proofs.Chains.{read_then}
use Rattle.krb_packet.proofs.InTurn.{reads_here, fails_on, fails_here}
use Rattle.krb_packet.proofs.interface.read_interface.Goals as goal

pub returns-in_err-field16-clause-read : goal.returns-in_err-field16-clause-read
returns-in_err-field16-clause-read g c =
    let p = err_from_is_err_and c.from_residual-in_err-field16.result c.from_residual-in_err-field16.ensures.1 in
    let e = c.in_err-field16.field-0.0 in
    rw (p.1, p.2) (fails_on _ e g.F.FieldReader.MayFail c.in_ok-link.ensures.read (then_fails _ _ e g.F.FieldReader.MayFail (g.F.FieldReader.cursor c.field16.new.reader) c.in_err-field16.ensures.read))

pub returns-in_err-snaplen-clause-read : goal.returns-in_err-snaplen-clause-read
returns-in_err-snaplen-clause-read g c =
    let p = err_from_is_err_and c.from_residual-in_err-snaplen.result c.from_residual-in_err-snaplen.ensures.1 in
    let e = c.in_err-snaplen.field-0.0 in
    rw (p.1, p.2)
    (fails_on _ e g.F.FieldReader.MayFail c.in_ok-link.ensures.read (fails_on _ e g.F.FieldReader.MayFail c.in_ok-field16.ensures.read
    (then_fails _ _ e g.F.FieldReader.MayFail (g.F.FieldReader.cursor c.field16-2.new.reader) c.in_err-snaplen.ensures.read)))

pub returns-in_err-snaplen-clause-keeps : goal.returns-in_err-snaplen-clause-keeps
returns-in_err-snaplen-clause-keeps g c = Keeps-then c.field16.ensures.keeps (Keeps-then c.field16-2.ensures.keeps c.field32.ensures.keeps)

pub returns-in_err-options-clause-read : goal.returns-in_err-options-clause-read
returns-in_err-options-clause-read g c =
    let p = err_from_is_err_and c.from_residual-in_err-options.result c.from_residual-in_err-options.ensures.1 in
    let e = c.in_err-options.field-0.0 in
    let three = g.F.FieldReader.cursor c.field32.new.reader in
    rw (p.1, p.2)
    (fails_on _ e g.F.FieldReader.MayFail c.in_ok-link.ensures.read (fails_on _ e g.F.FieldReader.MayFail c.in_ok-field16.ensures.read (fails_on _ e g.F.FieldReader.MayFail c.in_ok-snaplen.ensures.read
    (then_fails _ _ e g.F.FieldReader.MayFail three
    (fails_here (λ bounds place. options_within (octets_to_end bounds.end place) c.args.order no_options) e g.F.FieldReader.MayFail three (rw c.octets_to_end.ensures at c.in_err-options.ensures.read))))))

pub returns-in_err-options-clause-keeps : goal.returns-in_err-options-clause-keeps
returns-in_err-options-clause-keeps g c = Keeps-then c.field16.ensures.keeps (Keeps-then c.field16-2.ensures.keeps (Keeps-then c.field32.ensures.keeps c.read_options.ensures.keeps))

pub returns-clause-read : goal.returns-clause-read
returns-clause-read g c =
    let read = rw c.octets_to_end.ensures at c.in_ok-options.ensures.read in
    rw (c.of.ensures, c.from.ensures, c.clock.ensures)
    (read_then _ _ c.in_ok-link.ensures.read (read_then _ _ c.in_ok-field16.ensures.read (read_then _ _ c.in_ok-snaplen.ensures.read (made_of _ _ _ _ _
    (reads_here (λ bounds place. options_within (octets_to_end bounds.end place) c.args.order no_options) read)))))

pub returns-clause-keeps : goal.returns-clause-keeps
returns-clause-keeps g c = Keeps-then c.field16.ensures.keeps (Keeps-then c.field16-2.ensures.keeps (Keeps-then c.field32.ensures.keeps c.read_options.ensures.keeps))
