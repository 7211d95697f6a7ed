use Rattle.std.proofs.Common.{sym, ◌∙◌, arith}
use Rattle.std.proofs.Props.{props}
use Rattle.krb_der.specs.inner.Numbers.{AreOctets-slice, AreOctets-take}
use Rattle.krb_scan.proofs.PathSteps.{if_leaf}
use Rattle.krb_scan.proofs.Running.{run_goes, leaf_some}
use Rattle.krb_scan.proofs.path.Path.run.Goals as goal

pub is_string-requires : goal.is_string-requires
is_string-requires c = if_leaf (hlevel props) c.requires c.in-Leaf.is (λ terms octets leaf. leaf.known)

pub overflow_sub-end : goal.overflow_sub-end
overflow_sub-end c = if_leaf (hlevel props) c.requires c.in-Leaf.is (λ terms octets leaf. omega (arith, leaf_some leaf))

pub overflow_sub-end-in-Leaf : goal.overflow_sub-end-in-Leaf
overflow_sub-end-in-Leaf c = if_leaf (hlevel props) c.requires c.in-Leaf.is (λ terms octets leaf. omega (arith, leaf_some leaf))

pub returns-in-Leaf-clause-goes : goal.returns-in-Leaf-clause-goes
returns-in-Leaf-clause-goes c = λ terms before s.
    run_goes c.args.self.now before c.in-Leaf.node c.in-Leaf.start c.in-Leaf.end c.in-Leaf.value c.in-Leaf.unused c.shorter-count.result c.args.octets.now s c.in-Leaf.is (sym c.is_string.ensures ∙ c.if-is_string.true) c.shorter-count.ensures
    (AreOctets-take c.shorter-count.result c.args.octets.now (AreOctets-slice c.args.octets.now c.type_inv.octets))
