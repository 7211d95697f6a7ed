use Rattle.std.proofs.Common.{Some}
use Rattle.std.proofs.lemmas.Result.{err_from_is_err_and}
use Rattle.krb_ccache.proofs.Streams.{starts, start_refusal_in_file}
use Rattle.krb_ccache.proofs.credentials.Credentials.start.Goals as goal

pub returns-clause-begins : goal.returns-clause-begins
returns-clause-begins g c =
    λ file known. starts (Some c.args.limit) file (g.R.Read.remaining c.args.reader) c.in_ok-start.start c.read_start.new.reader known (rw c.new-reader.ensures at c.in_ok-start.ensures.read)

pub returns-in_err-start-clause-refused : goal.returns-in_err-start-clause-refused
returns-in_err-start-clause-refused g c =
    let p = err_from_is_err_and c.from_residual.result c.from_residual.ensures.1 in
    rw (p.1, p.2) (λ file known. start_refusal_in_file (Some c.args.limit) file (g.R.Read.remaining c.args.reader) c.in_err-start.field-0.0 known (rw c.new-reader.ensures at c.in_err-start.ensures.read))
