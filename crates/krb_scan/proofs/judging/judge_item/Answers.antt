use Rattle.std.proofs.Common.{[], ◌∷◌, refl, ◌∙◌}
use Rattle.krb_der.specs.inner.Numbers.{AreOctets-slice}
use Rattle.krb_der.specs.declared.verdict.Verdict.TheVariants as verdict
use Rattle.krb_msg.specs.Nodes.{term_at}
use Rattle.krb_scan.proofs.Decided.{all_decided, one_term}
use Rattle.krb_scan.proofs.Levels.{node_shallow}
use Rattle.krb_scan.proofs.ScannerSteps.{is_path_of}
use Rattle.krb_scan.proofs.judging.judge_item.Goals as goal

pub scan-decided-requires : goal.scan-decided-requires
scan-decided-requires c = ∣ ([], term_at c.args.node ∷ [], is_path_of c.new-path.result verdict.Open c.args.n [] (c.new-path.ensures (term_at c.args.node ∷ []) (node_shallow c.args.node) refl) refl) ∣₁

pub returns : goal.returns
returns c =
    let terms = term_at c.args.node ∷ [] in
    let at = c.scan-decided.ensures.at terms c.args.n [] (c.new-path.ensures terms (node_shallow c.args.node) refl) in
    all_decided terms c.args.n c.args.octets.now c.scan-decided.result.0 c.scan-decided.result.1 (AreOctets-slice c.args.octets.now c.type_inv.octets) c.requires.present c.scan-decided.ensures.all at.decides ∙ one_term (term_at c.args.node) c.args.n c.args.octets.now
