use Rattle.std.proofs.Common.{ℕ, List, string_bytes, ◌∙◌}
use Rattle.std.proofs.lemmas.Result.{IfOk-weaker}
use Rattle.krb_msg.specs.Nodes.{term_at}
use Rattle.krb_judge.specs.Paths.{contents_path}
use Rattle.krb_judge.proofs.Descent.{elements_of}
use Rattle.krb_judge.proofs.locating.put_inside.Goals as goal

pub returns-in-Items-clause-path : goal.returns-in-Items-clause-path
returns-in-Items-clause-path c =
    let path : List ℕ = string_bytes c.args.text.now in
    let contents = contents_path (term_at c.args.item.node) c.args.item.names path in
    IfOk-weaker c.put_element.result _ _
    (λ inside e.
    c.in-Some.ensures.contents contents path
    ∙ elements_of c.in-Items.node c.in-Items.empty (term_at c.args.item.node) c.in-Items.ensures c.args.item.names path c.in-Some.contents.room c.in-Some.contents.octets.now
    ∙ e)
    c.put_element.ensures.path
