use Rattle.std.proofs.Common.{subst}
use Rattle.krb_run.specs.Sources.{ListsEach, ListsOne, Named, Reports}
use Rattle.krb_run.proofs.sources.run_sources.Goals as goal

pub returns : goal.returns
returns g c =
    subst (λ (how : Named). ListsEach (λ source. Reports (g.L.ListSource.IsReported c.args.lister.now source) (ListsOne c.args.form how (g.L.ListSource.called source) (g.L.ListSource.Lists c.args.lister.now source))) c.args.sources.now (g.W.Write.contents c.args.writer) (g.W.Write.contents c.run_each.result.0) c.run_each.result.1)
    c.names_of-how.ensures c.run_each.ensures
