use Rattle.std.proofs.Common.{length}
use Rattle.krb_items.proofs.fronts.Front.+enter_all.Given as goal

-- the tags that are left
abbrev pub decreases-enter_all : goal.decreases-enter_all
decreases-enter_all l = length l.tags.now
