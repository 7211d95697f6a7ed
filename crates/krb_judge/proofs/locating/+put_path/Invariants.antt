use Rattle.krb_msg.specs.Nodes.{term_at}
use Rattle.krb_msg.specs.Shape.{depth}
use Rattle.krb_judge.proofs.locating.+put_path.Given as goal

-- how deep items may still be nested
abbrev pub decreases-put_path : goal.decreases-put_path
decreases-put_path l = depth (term_at l.item.node)
