use Rattle.std.proofs.Common.{sym, ap, ◌∙◌}
use Rattle.krb_scan.specs.Scan.{is_sole, sole_in}
use Rattle.krb_scan.proofs.Containers.{innermost}
use Rattle.krb_scan.proofs.path.Path.is_sole.Goals as goal

pub returns : goal.returns
returns c = λ stack h.
    let i = innermost c.args.self.now.inner c.args.self.now.outer.items stack h in
    c.is_sole.ensures ∙ ap is_sole i.is.expected ∙ ap sole_in (sym i.same)
