use Rattle.std.proofs.Common.{◌+◌, sym, subst, arith}
use Rattle.krb_scan.specs.Scan.{with_mark}
use Rattle.krb_scan.specs.inner.Paths.{IsStep}
use Rattle.krb_msg.specs.Nodes.{term_at}
use Rattle.krb_scan.proofs.Entering.{enter_empty_leaf, leaf_taken}
use Rattle.krb_scan.proofs.path.Path.enter_leaf.Goals as goal

pub returns-then-len-eq0-clause-step : goal.returns-then-len-eq0-clause-step
returns-then-len-eq0-clause-step c = λ stack marks containers.
    subst (IsStep c.args.self.now c.close.new.self c.close.result)
    (sym (enter_empty_leaf (term_at c.args.node) c.args.len (c.args.self.now.looked + 1) stack marks c.requires.leaf c.requires.fits c.if-len-eq0.true))
    (c.close.ensures.step stack (with_mark marks (term_at c.args.node) (c.args.self.now.looked + 1) 0) containers)

pub returns-clause-step : goal.returns-clause-step
returns-clause-step c = λ stack marks containers.
    leaf_taken c.args.self.now c.args.node c.args.len stack marks c.requires.known c.requires.leaf (omega arith) containers
