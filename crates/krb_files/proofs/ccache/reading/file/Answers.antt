use Rattle.std.proofs.Common.{[], ◌∷◌}
use Rattle.std.proofs.lemmas.Result.{err_from_is_err_and}
use Rattle.krb_file.specs.FieldReaders.{source_at}
use Rattle.krb_file.proofs.FieldReaders.{known}
use Rattle.krb_ccache.specs.Reading.{start_at}
use Rattle.krb_files.proofs.CcacheWhole.{whole-is, whole-fails}
use Rattle.krb_files.proofs.ccache.reading.file.Goals as goal

pub returns : goal.returns
returns g c =
    let t = c.read_start.new.reader in
    let begins = rw c.new-reader.ensures at (known (start_at (c.args.version ∷ [])) c.in_ok-start.start c.new-reader.result t c.in_ok-start.ensures.read) in
    whole-is g.K.Kept.kept c.args.version c.args.octets.now c.in_ok-start.start (source_at t.place t.octets) c.in_ok-credentials.credentials begins c.in_ok-credentials.ensures

pub returns-in_err-credentials : goal.returns-in_err-credentials
returns-in_err-credentials g c =
    let t = c.read_start.new.reader in
    let begins = rw c.new-reader.ensures at (known (start_at (c.args.version ∷ [])) c.in_ok-start.start c.new-reader.result t c.in_ok-start.ensures.read) in
    let p = err_from_is_err_and c.from_residual-in_err-credentials.result c.from_residual-in_err-credentials.ensures.1 in
    rw (p.1, p.2) (whole-fails g.K.Kept.kept c.args.version c.in_err-credentials.field-0.0 c.args.octets.now c.in_ok-start.start (source_at t.place t.octets) begins c.in_err-credentials.ensures)
