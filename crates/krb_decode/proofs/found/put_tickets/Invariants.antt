use Rattle.std.proofs.Common.{length}
use Rattle.krb_decode.proofs.Findings.{AreAdded}
use Rattle.krb_decode.proofs.found.put_tickets.Given as goal

-- the tickets so far are added
abbrev pub invariant-items : goal.invariant-items
invariant-items l = AreAdded l.origin l.initial.items.octets.now l.items.octets.now l.index l.initial.parts l.parts

abbrev pub decreases-items : goal.decreases-items
decreases-items l = length l.items.octets.now
