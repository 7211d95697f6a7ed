use Rattle.std.proofs.lemmas.Result.{err_from_is_err_and}
use Rattle.krb_file.proofs.FieldReaders.{made_of}
use Rattle.krb_packet.proofs.Options.{then_fails}
use Rattle.krb_file.proofs.Chains.{read_then}
use Rattle.krb_packet.proofs.InTurn.{fails_on}
use Rattle.krb_packet.proofs.body.timestamp.Goals as goal

pub returns-in_err-low-clause-read : goal.returns-in_err-low-clause-read
returns-in_err-low-clause-read g c =
    let p = err_from_is_err_and c.from_residual-in_err-low.result c.from_residual-in_err-low.ensures.1 in
    let e = c.in_err-low.field-0.0 in
    rw (p.1, p.2) (fails_on _ e g.F.FieldReader.MayFail c.in_ok-high.ensures.read (then_fails _ _ e g.F.FieldReader.MayFail (g.F.FieldReader.cursor c.field32.new.reader) c.in_err-low.ensures.read))

pub returns-clause-read : goal.returns-clause-read
returns-clause-read g c = rw (c.from.ensures, c.from-2.ensures) (read_then _ _ c.in_ok-high.ensures.read (made_of _ _ _ _ _ c.in_ok-low.ensures.read))
