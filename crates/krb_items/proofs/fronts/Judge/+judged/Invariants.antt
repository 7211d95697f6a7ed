use Rattle.std.proofs.Common.{◌+◌, ◌*◌, length}
use Rattle.krb_items.proofs.fronts.Judge.+judged.Given as goal

-- how deep SEQUENCEs may still nest, and how many fields are left; a SEQUENCE has thirteen at most
abbrev pub decreases-sequence : goal.decreases-sequence
decreases-sequence l = 32 * l.levels + 1

abbrev pub decreases-contents : goal.decreases-contents
decreases-contents l = 32 * l.levels + 2

abbrev pub decreases-fields : goal.decreases-fields
decreases-fields l = 32 * l.levels + 2 + length l.fields.now
