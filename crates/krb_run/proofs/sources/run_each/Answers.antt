use Rattle.std.proofs.Common.{◌∙◌, ap, sym}
use Rattle.std.specs.Ordering.{ord_max, nat_cmp}
use Rattle.std.proofs.lemmas.List.{nil_from_length}
use Rattle.krb_run.proofs.SourceRuns.{Goes-end, Goes-stops, Goes-on}
use Rattle.krb_run.proofs.sources.run_each.Goals as goal

pub returns-then-ends_run : goal.returns-then-ends_run
returns-then-ends_run g c =
    Goes-stops _ _ _ _ _ _ _ _ _ _ c.sources.invariant c.in-Some.ensures.cases.0 c.list_one-outcome.ensures _
    (c.max-greatest.ensures ∙ ap (ord_max nat_cmp c.sources.greatest) c.status.ensures)
    (sym c.ends_run.ensures ∙ c.if-ends_run.true)

pub sources-preserved : goal.sources-preserved
sources-preserved g c =
    Goes-on _ _ _ _ _ _ _ _ _ _ c.sources.invariant c.in-Some.ensures.cases.0 c.list_one-outcome.ensures _
    (c.max-greatest.ensures ∙ ap (ord_max nat_cmp c.sources.greatest) c.status.ensures)
    (sym c.ends_run.ensures ∙ c.if-ends_run.false)

pub returns : goal.returns
returns g c = Goes-end _ _ _ _ _ _ c.sources.invariant (nil_from_length _ c.in_default.ensures.cases)
