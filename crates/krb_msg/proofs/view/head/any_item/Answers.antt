use Rattle.std.proofs.Common.{◌≡◌, get_or, take, drop, length, ◌-◌, rules, Bor, List, ℕ}
use Rattle.krb_msg.proofs.Lengths.{two_first, long_not, long_is}
use Rattle.krb_msg.proofs.FieldViews.{match_map}
use Rattle.krb_msg.proofs.view.head.any_item.Goals as goal

pub returns-in-Some : goal.returns-in-Some
returns-in-Some c =
    let tag : get_or c.args.octets.now 0 0 ≡ c.args.tag = search rules in
    let all = two_first c.args.octets.now c.in-len2-up.len_at_least in
    match_map _ _ _ _ _
    (long_not c.args.tag (get_or c.args.octets.now 0 0) (get_or c.args.octets.now 1 0) c.args.octets.now (take (length c.args.octets.now - 2) (drop 2 c.args.octets.now)) c.in-Some.contents.now c.in-Some.size all c.in-Some.ensures)
    (λ (x : Bor (List ℕ) × Bor (List ℕ)) p. long_is c.args.tag (get_or c.args.octets.now 0 0) (get_or c.args.octets.now 1 0) c.args.octets.now (take (length c.args.octets.now - 2) (drop 2 c.args.octets.now)) c.in-Some.contents.now c.in-Some.size all tag c.in-Some.ensures x.0.now x.1.now p.0 p.1)
    c.split.ensures
