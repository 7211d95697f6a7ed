use Rattle.std.proofs.Common.{subst, rules, FitsSigned, w64}
use Rattle.std.proofs.lemmas.Int.{to_z-of_z}
use Rattle.krb_scan.specs.inner.Paths.{Changes}
use Rattle.krb_scan.proofs.Marks.{numbered}
use Rattle.krb_scan.proofs.scanner.change.Goals as goal

pub returns-in-Some-clause-ok : goal.returns-in-Some-clause-ok
returns-in-Some-clause-ok c = λ before after are changes.
    let fits : FitsSigned w64 c.in-Number.value = search rules in
    numbered c.args.marks.now.items before after _ c.in-Some.last.now c.in-Number.value _ c.args.marks.now.ok.0 (to_z-of_z w64 c.in-Number.value fits) are (subst (λ e. Changes e before after) c.in-Number.is changes) c.in-Some.ensures.value
