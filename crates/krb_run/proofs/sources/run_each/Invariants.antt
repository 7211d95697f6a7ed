use Rattle.std.proofs.Common.{length}
use Rattle.krb_run.specs.Sources.{ListsOne, Reports, named_of}
use Rattle.krb_run.proofs.SourceRuns.{Goes}
use Rattle.krb_run.proofs.sources.run_each.Given as goal

-- what is left makes the whole
abbrev pub invariant-sources : goal.invariant-sources
invariant-sources g l = Goes (λ source. Reports (g.L.ListSource.IsReported l.lister source) (ListsOne l.form (named_of l.how) (g.L.ListSource.called source) (g.L.ListSource.Lists l.lister source))) l.sources l.rest (g.W.Write.contents l.initial.writer) (g.W.Write.contents l.writer) l.greatest

abbrev pub decreases-sources : goal.decreases-sources
decreases-sources g l = length l.rest
