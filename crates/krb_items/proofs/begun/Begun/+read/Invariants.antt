use Rattle.std.proofs.Common.{length}
use Rattle.krb_items.proofs.begun.Begun.+read.Given as goal

-- the tags that are left
abbrev pub decreases-read : goal.decreases-read
decreases-read l = length l.tags.now
