use Rattle.std.proofs.Common.{length}
use Rattle.krb_msg.specs.Viewed.{AreViewed, items_of}
use Rattle.krb_codec.proofs.Copies.{AreCopiesSoFar}
use Rattle.krb_codec.proofs.copying.copy_items.Given as goal

-- the items so far are copied, and those that are left were viewed
abbrev pub invariant-items : goal.invariant-items
invariant-items g l =
    AreViewed g.T.View.term l.rest.octets.now
    × AreCopiesSoFar g.T.View.value g.T.FromView.copied (items_of g.T.View.term l.initial.rest.octets.now) (items_of g.T.View.term l.rest.octets.now) l.values.items

abbrev pub decreases-items : goal.decreases-items
decreases-items g l = length l.rest.octets.now
