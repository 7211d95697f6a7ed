use Rattle.std.proofs.Common.{◌≡◌, ◌+◌, true, drop}
use Rattle.krb_items.specs.Fronts.{identifier_outcome}
use Rattle.krb_items.proofs.fronts.Front.identifier_contents.Given as goal

-- the octets that are left
abbrev pub invariant-loop-octet : goal.invariant-loop-octet
invariant-loop-octet l =
    (l.place ≡ l.self.place + l.octet-index)
    × (identifier_outcome true 0 l.self.room l.self.octets.now ≡ identifier_outcome l.begins l.octet-index l.self.room (drop l.octet-index l.self.octets.now))
