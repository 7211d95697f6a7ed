use Rattle.std.proofs.Common.{◌≡◌, ◌-◌, length}
use Rattle.krb_items.specs.Fronts.{identifiers_front}
use Rattle.krb_items.specs.Seen.{IsInRoom, front_of}
use Rattle.krb_items.proofs.fronts.Front.identifiers.Given as goal

-- the identifiers that are left
abbrev pub invariant-loop : goal.invariant-loop
invariant-loop l = IsInRoom l.rest × (identifiers_front (length l.self.octets.now) (front_of l.self) ≡ identifiers_front (length l.self.octets.now - l.counter) (front_of l.rest))
