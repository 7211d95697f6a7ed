use Rattle.std.proofs.Common.{◌≡◌, ◌+◌, ◌-◌, ◌≤◌, length}
use Rattle.krb_token.specs.Items.{simple_items}
use Rattle.krb_token.specs.Seen.{IsShort, part_of}
use Rattle.krb_token.proofs.spnego.read_items.Given as goal

-- the items that are left
abbrev pub invariant-items : goal.invariant-items
invariant-items l =
    IsShort l.rest
    × (l.index + length l.rest.octets.now ≤ length l.part.octets.now)
    × (simple_items l.simple l.path (length l.part.octets.now) 0 (part_of l.part) l.part.octets.now ≡ simple_items l.simple l.path (length l.part.octets.now - l.index) l.index (part_of l.rest) l.rest.octets.now)

-- the octets that are left
abbrev pub decreases-items : goal.decreases-items
decreases-items l = length l.rest.octets.now
