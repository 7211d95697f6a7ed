use Rattle.std.proofs.Common.{inl, inr}
use Rattle.std.proofs.lemmas.Result.{err_from_is_err_and}
use Rattle.krbls.proofs.lister.Lister.run_decode.Goals as goal

pub returns-in_err-end-clause-fault : goal.returns-in_err-end-clause-fault
returns-in_err-end-clause-fault g c =
    let p = err_from_is_err_and c.from_residual.result c.from_residual.ensures.1 in
    rw (p.1, p.2) (inl c.in_err-end.ensures.fault)

pub returns-in_err-put_decode_end-clause-fault : goal.returns-in_err-put_decode_end-clause-fault
returns-in_err-put_decode_end-clause-fault g c =
    let p = err_from_is_err_and c.from_residual-in_err-put_decode_end.result c.from_residual-in_err-put_decode_end.ensures.1 in
    rw p.1 (inr (p.2, c.in_ok-end.end, c.in_ok-end.ensures.decoded))
