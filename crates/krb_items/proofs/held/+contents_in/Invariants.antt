use Rattle.std.proofs.Common.{length}
use Rattle.krb_items.proofs.held.+contents_in.Given as goal

-- the tags that are left
abbrev pub decreases-contents_in : goal.decreases-contents_in
decreases-contents_in l = length l.tags.now
