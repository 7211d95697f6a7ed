use Rattle.std.proofs.Common.{refl, sym, ap, ◌∙◌, arith}
use Rattle.krb_scan.specs.Scan.{OneOf}
use Rattle.krb_scan.specs.inner.Machine.{pick}
use Rattle.krb_scan.proofs.Choices.{picks_node, passes_node, nodes_end, node_known}
use Rattle.krb_scan.proofs.expected.pick_one_of.Goals as goal

pub nodes-init : goal.nodes-init
nodes-init c = refl

pub tag_of-requires : goal.tag_of-requires
tag_of-requires c = node_known c.args.chosen.now c.nodes.at _ c.requires c.nodes-test.true

pub returns-then-tag_of-octet : goal.returns-then-tag_of-octet
returns-then-tag_of-octet c = record {
  known = node_known c.args.chosen.now c.nodes.at _ c.requires c.nodes-test.true;
  leads = tt;
  is = c.nodes.invariant ∙ picks_node c.args.octet c.args.chosen.now c.nodes.at _ c.nodes-test.true (sym c.tag_of.ensures ∙ c.if-tag_of-octet.true);
}

pub nodes-preserved : goal.nodes-preserved
nodes-preserved c = c.nodes.invariant ∙ passes_node c.args.octet c.args.chosen.now c.nodes.at _ c.nodes-test.true (λ e. c.if-tag_of-octet.false (c.tag_of.ensures ∙ e))

pub returns : goal.returns
returns c = c.nodes.invariant ∙ ap (λ terms. pick c.args.octet (OneOf terms)) (nodes_end c.args.chosen.now c.nodes.at (omega (arith, c.nodes-test.false)))
