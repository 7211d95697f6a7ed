use Rattle.std.proofs.lemmas.Result.{err_from_is_err_and}
use Rattle.std.specs.Int.{w32}
use Rattle.krb_file.specs.Fields.{called, number_at}
use Rattle.krb_file.specs.declared.field_name.FieldName.TheVariants as fields
use Rattle.krb_file.proofs.FieldReaders.{Keeps-then, made_of}
use Rattle.krb_packet.specs.Numbers.{field_in}
use Rattle.krb_packet.proofs.Options.{then_fails}
use Rattle.krb_file.proofs.Chains.{read_then}
use Rattle.krb_packet.proofs.InTurn.{fails_on}
use Rattle.krb_packet.proofs.pcap.read_header.Goals as goal

pub returns-in_err-field32-3-clause-read : goal.returns-in_err-field32-3-clause-read
returns-in_err-field32-3-clause-read g c =
    let p = err_from_is_err_and c.from_residual-in_err-field32-3.result c.from_residual-in_err-field32-3.ensures.1 in
    rw (p.1, p.2)
    (fails_on _ c.in_err-field32-3.field-0.0 g.F.FieldReader.MayFail c.in_ok-read_version.ensures.read (fails_on _ c.in_err-field32-3.field-0.0 g.F.FieldReader.MayFail c.in_ok-field32.ensures.read (fails_on _ c.in_err-field32-3.field-0.0 g.F.FieldReader.MayFail c.in_ok-field32-2.ensures.read
    (then_fails (called fields.SnapLen (number_at w32)) _ c.in_err-field32-3.field-0.0 g.F.FieldReader.MayFail (g.F.FieldReader.cursor c.field32-2.new.self) c.in_err-field32-3.ensures.read))))

pub returns-in_err-field32-3-clause-keeps : goal.returns-in_err-field32-3-clause-keeps
returns-in_err-field32-3-clause-keeps g c = Keeps-then c.read_version.ensures.keeps (Keeps-then c.field32.ensures.keeps (Keeps-then c.field32-2.ensures.keeps c.field32-3.ensures.keeps))

pub returns-in_err-link-clause-read : goal.returns-in_err-link-clause-read
returns-in_err-link-clause-read g c =
    let p = err_from_is_err_and c.from_residual-in_err-link.result c.from_residual-in_err-link.ensures.1 in
    rw (p.1, p.2)
    (fails_on _ c.in_err-link.field-0.0 g.F.FieldReader.MayFail c.in_ok-read_version.ensures.read (fails_on _ c.in_err-link.field-0.0 g.F.FieldReader.MayFail c.in_ok-field32.ensures.read (fails_on _ c.in_err-link.field-0.0 g.F.FieldReader.MayFail c.in_ok-field32-2.ensures.read (fails_on _ c.in_err-link.field-0.0 g.F.FieldReader.MayFail c.in_ok-field32-3.ensures.read
    (then_fails (field_in fields.LinkType w32 c.args.form.order) _ c.in_err-link.field-0.0 g.F.FieldReader.MayFail (g.F.FieldReader.cursor c.field32-3.new.self) c.in_err-link.ensures.read)))))

pub returns-in_err-link-clause-keeps : goal.returns-in_err-link-clause-keeps
returns-in_err-link-clause-keeps g c =
    Keeps-then c.read_version.ensures.keeps (Keeps-then c.field32.ensures.keeps (Keeps-then c.field32-2.ensures.keeps (Keeps-then c.field32-3.ensures.keeps c.field32-4.ensures.keeps)))

pub returns-clause-read : goal.returns-clause-read
returns-clause-read g c =
    rw c.of.ensures
    (read_then _ _ c.in_ok-read_version.ensures.read (read_then _ _ c.in_ok-field32.ensures.read (read_then _ _ c.in_ok-field32-2.ensures.read (read_then _ _ c.in_ok-field32-3.ensures.read (made_of _ _ _ _ _ c.in_ok-link.ensures.read)))))

pub returns-clause-keeps : goal.returns-clause-keeps
returns-clause-keeps g c =
    Keeps-then c.read_version.ensures.keeps (Keeps-then c.field32.ensures.keeps (Keeps-then c.field32-2.ensures.keeps (Keeps-then c.field32-3.ensures.keeps c.field32-4.ensures.keeps)))

pub returns-in_err-field32-2-clause-keeps : goal.returns-in_err-field32-2-clause-keeps
returns-in_err-field32-2-clause-keeps g c = Keeps-then c.read_version.ensures.keeps (Keeps-then c.field32.ensures.keeps c.field32-2.ensures.keeps)
