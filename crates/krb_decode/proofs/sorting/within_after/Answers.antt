use Rattle.std.proofs.Common.{sym}
use Rattle.krb_decode.proofs.Sorted.{within-last}
use Rattle.krb_decode.proofs.sorting.within_after.Goals as goal

pub returns-in-Some : goal.returns-in-Some
returns-in-Some c = sym (within-last c.args.is_within c.args.octets.now c.in-Some.last.now c.in-Some.ensures.value)
