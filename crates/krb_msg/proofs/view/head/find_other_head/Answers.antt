use Rattle.krb_msg.proofs.Lengths.{is_item_head}
use Rattle.krb_msg.proofs.view.head.find_other_head.Goals as goal

pub returns-in-Some-clause-some : goal.returns-in-Some-clause-some
returns-in-Some-clause-some c = λ some. is_item_head c.args.tag c.args.octets.now c.in-Some.contents.now c.in-Some.rest.now c.head_of.result.before c.head_of.result.size c.in-Some.ensures c.head_of.ensures.before c.head_of.ensures.size
