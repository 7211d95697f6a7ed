use Rattle.std.proofs.Common.{◌≡◌, rules}
use Rattle.krb_codec.proofs.Copies.{one_copied}
use Rattle.krb_codec.proofs.copying.copy_items.Goals as goal

pub items-preserved : goal.items-preserved
items-preserved g c =
    let copy : c.in_ok-value.value ≡ g.T.FromView.copied c.in-Some.seen = search (rules, c.in_ok-value.ensures) in (
      search rules,
      one_copied g.T.View.value g.T.FromView.copied _ _ _ _ _ c.in-Some.seen _ c.items.invariant.1 (search rules) copy c.in_ok-push.ensures.items,
    )
