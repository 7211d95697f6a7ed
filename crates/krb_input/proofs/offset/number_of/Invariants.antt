use Rattle.std.proofs.Common.{◌≡◌, ◌<◌, ◌≤◌, ◌-◌, length}
use Rattle.krb_input.specs.Dumps.{number_from}
use Rattle.krb_input.proofs.Rooms.{room}
use Rattle.krb_input.proofs.offset.number_of.Given as goal

abbrev pub invariant-loop-rest : goal.invariant-loop-rest
invariant-loop-rest l = record { reads : number_from l.fn.base 0 l.fn.digits ≡ number_from l.fn.base l.number l.rest; small : l.number < room (16 - length l.rest); within : length l.rest ≤ 16 }

abbrev pub decreases-loop-rest : goal.decreases-loop-rest
decreases-loop-rest l = length l.rest
