use Rattle.std.proofs.Common.{◌+◌, sym, ◌∙◌, subst, refl, arith}
use Rattle.krb_scan.specs.Scan.{with_mark}
use Rattle.krb_scan.specs.inner.Paths.{IsStep}
use Rattle.krb_msg.specs.Nodes.{term_at}
use Rattle.krb_scan.specs.Expectations.{expected_of}
use Rattle.krb_scan.proofs.Entering.{enter_empty, items_taken}
use Rattle.krb_scan.proofs.path.Path.enter_items.Goals as goal

pub returns-then-len-eq0-clause-step : goal.returns-then-len-eq0-clause-step
returns-then-len-eq0-clause-step c = λ stack marks containers.
    subst (IsStep c.args.self.now c.close.new.self c.close.result)
    (sym (enter_empty (term_at c.args.node) c.args.len (c.args.self.now.looked + 1) (expected_of c.args.first) stack marks c.requires.items c.if-len-eq0.true (sym c.requires_item.ensures ∙ c.if-requires_item.false)))
    (c.close.ensures.step stack (with_mark marks (term_at c.args.node) (c.args.self.now.looked + 1) 0) containers)

pub returns-clause-step : goal.returns-clause-step
returns-clause-step c = λ stack marks containers.
    items_taken c.args.self.now _ c.args.node c.args.len c.args.first stack marks c.requires.listed c.requires.items (omega arith) containers refl refl c.push.ensures.items
