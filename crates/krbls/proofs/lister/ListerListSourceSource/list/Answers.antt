use Rattle.std.proofs.lemmas.Result.{err_from_is_err_and}
use Rattle.krbls.proofs.Chosen.{after-name, unnamed}
use Rattle.krbls.proofs.lister.ListerListSourceSource.list.Goals as goal

pub returns-in_err-write_name : goal.returns-in_err-write_name
returns-in_err-write_name g c =
    let p = err_from_is_err_and c.from_residual.result c.from_residual.ensures.1 in
    rw (p.1, p.2) (unnamed _ _ _ _ _ c.in_err-write_name.ensures)

pub returns : goal.returns
returns g c = after-name _ _ _ _ _ _ _ c.in_ok-write_name.ensures c.list_opened.ensures
