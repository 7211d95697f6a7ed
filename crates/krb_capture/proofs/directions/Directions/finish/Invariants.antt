use Rattle.std.proofs.Common.{length}
use Rattle.krb_capture.proofs.Tables.{EndsSome}
use Rattle.krb_capture.proofs.directions.Directions.finish.Given as goal

abbrev pub invariant-loop-sending : goal.invariant-loop-sending
invariant-loop-sending l = EndsSome l.initial.self l.due l.initial.listing l.self l.listing

abbrev pub decreases-loop-sending : goal.decreases-loop-sending
decreases-loop-sending l = length l.self.active.entries
