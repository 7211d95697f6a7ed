use Rattle.std.proofs.Common.{◌<◌, length, rules}
use Rattle.krb_msg.proofs.Lengths.{only_none, not_only}
use Rattle.krb_msg.proofs.FieldViews.{match_none}
use Rattle.krb_msg.proofs.view.head.only_item.Goals as goal

pub returns-in_err-contents : goal.returns-in_err-contents
returns-in_err-contents c = match_none _ _ _ c.from_residual.ensures (only_none c.args.tag c.args.octets.now c.in_err-contents.ensures)

pub returns-else-is_empty : goal.returns-else-is_empty
returns-else-is_empty c =
    let some : 0 < length c.in_ok-contents.rest.now = search rules in
    not_only c.args.tag c.args.octets.now c.in_ok-contents.contents.now c.in_ok-contents.rest.now c.in_ok-contents.ensures some
