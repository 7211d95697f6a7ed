use Rattle.std.proofs.Common.{◌≡◌, ◌+◌, ◌≤◌, length}
use Rattle.krb_msg.specs.Viewed.{AreViewed, items_of}
use Rattle.krb_text.proofs.list.count_items.Given as goal

-- the items so far, and those that are left
abbrev pub invariant-others : goal.invariant-others
invariant-others g l =
    AreViewed g.T.View.term l.others.octets.now
    × (l.count + length (items_of g.T.View.term l.others.octets.now) ≡ length (items_of g.T.View.term l.initial.others.octets.now))
    × (l.count + length l.others.octets.now ≤ length l.initial.others.octets.now)

abbrev pub decreases-others : goal.decreases-others
decreases-others g l = length l.others.octets.now
