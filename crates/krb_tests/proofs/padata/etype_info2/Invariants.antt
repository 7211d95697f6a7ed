use Rattle.std.proofs.Common.{length}
use Rattle.krb_msg.specs.Viewed.{AreViewed}
use Rattle.krb_padata.specs.Grammar.{etype_info2_entry}
use Rattle.krb_tests.proofs.padata.etype_info2.Given as goal

-- the entries that are left were viewed
abbrev pub invariant-others : goal.invariant-others
invariant-others l = AreViewed etype_info2_entry l.others.octets.now

abbrev pub decreases-others : goal.decreases-others
decreases-others l = length l.others.octets.now
