use Rattle.krb_msg.specs.Nodes.{term_at}
use Rattle.krb_json.specs.inner.Sizes.{size}
use Rattle.krb_json.proofs.encryption.+is_zero.Given as goal

abbrev pub decreases-is_zero : goal.decreases-is_zero
decreases-is_zero l = size (term_at l.node)
