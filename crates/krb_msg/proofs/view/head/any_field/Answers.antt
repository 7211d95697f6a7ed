use Rattle.std.proofs.Common.{◌<◌, length, rules}
use Rattle.krb_msg.proofs.Lengths.{no_field, no_item_in, only_none, not_only}
use Rattle.krb_msg.proofs.FieldViews.{match_none}
use Rattle.krb_msg.proofs.view.head.any_field.Goals as goal

pub returns-in_err-inner : goal.returns-in_err-inner
returns-in_err-inner c = match_none _ _ _ c.from_residual.ensures (no_field c.args.outer c.args.tag c.args.octets.now c.in_err-inner.ensures)

pub returns-in_err-contents : goal.returns-in_err-contents
returns-in_err-contents c =
    match_none _ _ _ c.from_residual-in_err-contents.ensures
    (no_item_in c.args.outer c.args.tag c.args.octets.now c.in_ok-inner.inner.now c.in_ok-inner.rest.now c.in_ok-inner.ensures (only_none c.args.tag c.in_ok-inner.inner.now c.in_err-contents.ensures))

pub returns-else-is_empty : goal.returns-else-is_empty
returns-else-is_empty c =
    let some : 0 < length c.in_ok-contents.others.now = search rules in
    no_item_in c.args.outer c.args.tag c.args.octets.now c.in_ok-inner.inner.now c.in_ok-inner.rest.now c.in_ok-inner.ensures
    (not_only c.args.tag c.in_ok-inner.inner.now c.in_ok-contents.contents.now c.in_ok-contents.others.now c.in_ok-contents.ensures some)
